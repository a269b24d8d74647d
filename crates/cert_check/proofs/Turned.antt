-- Oriented faces of tetrahedra in a list: which stand there, and which is the first.
use Rattle.std.proofs.Common.{◌≡◌, ℕ, ◌+◌, ◌-◌, ◌<◌, ◌≤◌, true, false, List, [], ◌∷◌, ◌++◌, length, take, drop, cond, ap, refl, sym, subst, ◌∙◌, inl, inr, All, arith}
use Rattle.std.specs.Prelude.{count_by}
use Rattle.std.proofs.lemmas.Bool.{cases_lt}
use Rattle.std.proofs.lemmas.List.{take_more, take_all}
use Rattle.std.proofs.lemmas.List.Elements.{All-append, All-cons, All-nil}
use Rattle.std.proofs.Math.Seq.{take-add}
use Rattle.mesh_types.proofs.ForCallers.{rotation_still}
use Rattle.grid.specs.Simplices.{all_faces, faces, is_rotation}
use Rattle.face_table.specs.Occurrences.{occurrences}
use Rattle.face_table.specs.Pairing.{NoneTwice, LooseHave, IsFirstRepeat, IsFirstLooseWithout, face_at}
use Rattle.face_table.proofs.RotationLemmas.{occurrences-append, occurrences-push}

-- ---- faces of tetrahedra are triples
-- a face that is a rotation of itself: one of three corners
abbrev IsTurn : List ℕ → Type 0
IsTurn f = is_rotation f f ≡ true

-- the list has such faces only
abbrev pub AreTurns : List (List ℕ) → Type 0
AreTurns fs = (p : ℕ) → p < length fs → is_rotation (face_at fs p) (face_at fs p) ≡ true

faces-turn : (x : List ℕ) → All IsTurn (faces x)
faces-turn [] = All-nil IsTurn
faces-turn (a ∷ []) = All-nil IsTurn
faces-turn (a ∷ b ∷ []) = All-nil IsTurn
faces-turn (a ∷ b ∷ c ∷ []) = All-nil IsTurn
faces-turn (a ∷ b ∷ c ∷ d ∷ []) =
    let f = a ∷ c ∷ b ∷ [] in
    let g = a ∷ b ∷ d ∷ [] in
    let h = a ∷ d ∷ c ∷ [] in
    let k = b ∷ c ∷ d ∷ [] in
    All-cons IsTurn f (g ∷ h ∷ k ∷ []) (rotation_still a c b) (All-cons IsTurn g (h ∷ k ∷ []) (rotation_still a b d) (All-cons IsTurn h (k ∷ []) (rotation_still a d c) (All-cons IsTurn k [] (rotation_still b c d) (All-nil IsTurn))))
faces-turn (a ∷ b ∷ c ∷ d ∷ e ∷ x) = All-nil IsTurn

all_faces-turn : (tets : List (List ℕ)) → All IsTurn (all_faces tets)
all_faces-turn [] = All-nil IsTurn
all_faces-turn (x ∷ tets) = All-append IsTurn (faces x) (all_faces tets) (faces-turn x) (all_faces-turn tets)

pub turns : (tets : List (List ℕ)) → AreTurns (all_faces tets)
turns tets p lt = all_faces-turn tets p [] lt

-- ---- what stands at a place
-- the face at a place occurs once more up to any later place
place_in : (fs : List (List ℕ)) (p n : ℕ) (f : List ℕ) → p < n → p < length fs → face_at fs p ≡ f → is_rotation f f ≡ true → occurrences f (take p fs) + 1 ≤ occurrences f (take n fs)
place_in fs p n f before lt is turn =
    let up_to : occurrences f (take (p + 1) fs) ≡ occurrences f (take p fs) + cond (is_rotation f f) 1 0 =
    ap (occurrences f) (take_more fs p [] lt ∙ ap (λ g. take p fs ++ g ∷ []) is) ∙ occurrences-push f (take p fs) f in
    let one : cond {A = ℕ} (is_rotation f f) 1 0 ≡ 1 = ap (λ b. cond {A = ℕ} b 1 0) turn in
    let sum : n ≡ (p + 1) + (n - (p + 1)) = omega (arith, before) in
    let parts : take n fs ≡ take (p + 1) fs ++ take (n - (p + 1)) (drop (p + 1) fs) = ap (λ m. take m fs) sum ∙ take-add (p + 1) (n - (p + 1)) fs in
    let whole : occurrences f (take n fs) ≡ occurrences f (take (p + 1) fs) + occurrences f (take (n - (p + 1)) (drop (p + 1) fs)) = ap (occurrences f) parts ∙ occurrences-append f (take (p + 1) fs) _ in
    omega (arith, up_to, one, whole)

turn_of : (fs : List (List ℕ)) (p : ℕ) (f : List ℕ) → AreTurns fs → p < length fs → face_at fs p ≡ f → is_rotation f f ≡ true
turn_of fs p f turn lt is = subst (λ g. is_rotation g g ≡ true) is (turn p lt)

occurs_at : (fs : List (List ℕ)) (p : ℕ) (f : List ℕ) → AreTurns fs → p < length fs → face_at fs p ≡ f → occurrences f (take p fs) + 1 ≤ occurrences f fs
occurs_at fs p f turn lt is = subst (λ gs. occurrences f (take p fs) + 1 ≤ occurrences f gs) (take_all (length fs) fs (omega arith)) (place_in fs p (length fs) f lt lt is (turn_of fs p f turn lt is))

-- ---- the first repeat
pub no_repeat : (fs : List (List ℕ)) (f : List ℕ) → AreTurns fs → NoneTwice fs → IsFirstRepeat fs f → ⊥
no_repeat fs f turn once h =
    let again = occurs_at fs h.place f turn h.within h.is in
    let some = h.repeated in
    let most = once f in
    absurd (omega arith)

repeat_later : (fs : List (List ℕ)) (f g : List ℕ) → AreTurns fs → (h : IsFirstRepeat fs f) (k : IsFirstRepeat fs g) → h.place < k.place → ⊥
repeat_later fs f g turn h k before =
    let again = place_in fs h.place k.place f before h.within h.is (turn_of fs h.place f turn h.within h.is) in
    let some = h.repeated in
    let most = k.first f in
    absurd (omega arith)

pub repeat_once : (fs : List (List ℕ)) (f g : List ℕ) → AreTurns fs → IsFirstRepeat fs f → IsFirstRepeat fs g → f ≡ g
repeat_once fs f g turn h k = elim (cases_lt h.place k.place) [
  | inl a ↦ absurd (repeat_later fs f g turn h k a)
  | inr a ↦ elim (cases_lt k.place h.place) [
    | inl b ↦ absurd (repeat_later fs g f turn k h b)
    | inr b ↦ let same : h.place ≡ k.place = omega (arith, a, b) in sym h.is ∙ ap (face_at fs) same ∙ k.is
  ]
]

-- ---- the first loose face
module _ (Has : List ℕ → Type 0) (fs : List (List ℕ)) (turn : AreTurns fs) where
  pub no_loose : (f : List ℕ) → LooseHave Has fs fs → IsFirstLooseWithout Has fs fs f → ⊥
  no_loose f have h =
      let there = occurs_at fs h.place f turn h.within h.is in
      h.apart (have f (omega (arith, there)) h.loose)

  loose_later : (f g : List ℕ) → (h : IsFirstLooseWithout Has fs fs f) (k : IsFirstLooseWithout Has fs fs g) → h.place < k.place → ⊥
  loose_later f g h k before =
      let there = place_in fs h.place k.place f before h.within h.is (turn_of fs h.place f turn h.within h.is) in
      h.apart (k.first f (omega (arith, there)) h.loose)

  pub loose_once : (f g : List ℕ) → IsFirstLooseWithout Has fs fs f → IsFirstLooseWithout Has fs fs g → f ≡ g
  loose_once f g h k = elim (cases_lt h.place k.place) [
    | inl a ↦ absurd (loose_later f g h k a)
    | inr a ↦ elim (cases_lt k.place h.place) [
      | inl b ↦ absurd (loose_later g f k h b)
      | inr b ↦ let same : h.place ≡ k.place = omega (arith, a, b) in sym h.is ∙ ap (face_at fs) same ∙ k.is
    ]
  ]

-- ---- what is no triple does not occur
count-none : (fs : List (List ℕ)) → count_by (λ (g : List ℕ). false) fs ≡ 0
count-none [] = refl
count-none (f ∷ fs) = count-none fs

-- what holds of triples holds of all that occur
pub triples_suffice : (P : List ℕ → Type 0) (fs : List (List ℕ)) → ((a b c : ℕ) → P (a ∷ b ∷ c ∷ [])) → (f : List ℕ) → (occurrences f fs ≡ 0 → P f) → P f
triples_suffice P fs h [] none = none (count-none fs)
triples_suffice P fs h (a ∷ []) none = none (count-none fs)
triples_suffice P fs h (a ∷ b ∷ []) none = none (count-none fs)
triples_suffice P fs h (a ∷ b ∷ c ∷ []) none = h a b c
triples_suffice P fs h (a ∷ b ∷ c ∷ d ∷ f) none = none (count-none fs)
