-- Slots that are killed by their numbers.
use Rattle.std.proofs.Common.{◌≡◌, ℕ, suc, ◌<◌, Bool, true, false, ◌&&◌, not, cond, List, [], ◌∷◌, ◌++◌, map, filter, length, set, take, refl, sym, ◌∙◌, ap, subst, inl, inr, arith, append_assoc, length-append}
use Rattle.std.proofs.lemmas.Bool.{cases_Bool, and_parts, cases_eq}
use Rattle.std.proofs.lemmas.List.{get_or_at, set_at, get_or-set_same, get_or-set_other, length_push, get_or_append_left, take_all}
use Rattle.tet_slots.specs.declared.slot.Slot.{Slot}
use Rattle.tet_slots.specs.Slots.{slot_at, with_live, no_slot}
use Rattle.tet_slots.specs.Searches.{numbers_of}
use Rattle.tet_slots.proofs.ForCallers.{killed-dead, killed-length}
use Rattle.mesh_store.specs.Parts.{Parts, live_slot, live_tets}
use Rattle.mesh_store.specs.Changes.{HasSameSlots, IsGrown, face_put, face_of, killed_if}
use Rattle.mesh_store.specs.Exchanges.{all_killed, CanKill, all_taken, exchanged}
use Rattle.mesh_store.proofs.MeshLemmas.{all_put-same}

pub all_killed-length : (is : List ℕ) (slots : List Slot) → length (all_killed is slots) ≡ length slots
all_killed-length [] slots = refl
all_killed-length (i ∷ is) slots = all_killed-length is (with_live false i slots) ∙ killed-length slots false i

pub all_taken-same : (ts : List (List ℕ)) (m : Parts) → HasSameSlots m (all_taken ts m)
all_taken-same [] m = record { points = refl; slots = refl }
all_taken-same (t ∷ ts) m = let rest = all_taken-same ts (face_put (face_of t) false m) in record { points = rest.points; slots = rest.slots }

-- ---- tetrahedra stay, and what is dead
pub stays-at : (slots : List Slot) (i j : ℕ) → i < length slots → (slot_at (with_live false j slots) i).tet ≡ (slot_at slots i).tet
stays-at slots i j l = elim (cases_eq i j) [
  | inl e ↦ subst (λ k. (slot_at (with_live false k slots) i).tet ≡ (slot_at slots i).tet) e (ap (λ (s : Slot). s.tet) (get_or-set_same slots i (record { tet = (slot_at slots i).tet; live = false }) no_slot l))
  | inr n ↦ ap (λ (s : Slot). s.tet) (get_or-set_other slots j i (record { tet = (slot_at slots j).tet; live = false }) no_slot n)
]

pub dead-at : (slots : List Slot) (i j : ℕ) → i < length slots → (slot_at slots i).live ≡ false → (slot_at (with_live false j slots) i).live ≡ false
dead-at slots i j l d = elim (cases_eq i j) [
  | inl e ↦ subst (λ k. (slot_at (with_live false k slots) i).live ≡ false) e (killed-dead slots i l)
  | inr n ↦ ap (λ (s : Slot). s.live) (get_or-set_other slots j i (record { tet = (slot_at slots j).tet; live = false }) no_slot n) ∙ d
]

tets-stay : (is : List ℕ) (slots : List Slot) (i : ℕ) → i < length slots → (slot_at (all_killed is slots) i).tet ≡ (slot_at slots i).tet
tets-stay [] slots i l = refl
tets-stay (j ∷ is) slots i l = tets-stay is (with_live false j slots) i (rw (killed-length slots false j) l) ∙ stays-at slots i j l

dead-stay : (is : List ℕ) (slots : List Slot) (i : ℕ) → i < length slots → (slot_at slots i).live ≡ false → (slot_at (all_killed is slots) i).live ≡ false
dead-stay [] slots i l d = d
dead-stay (j ∷ is) slots i l d = dead-stay is (with_live false j slots) i (rw (killed-length slots false j) l) (dead-at slots i j l d)

pub exchanged-slots : (gone : List ℕ) (fresh out into : List (List ℕ)) (m : Parts) → (exchanged gone fresh out into m).slots ≡ all_killed gone m.slots ++ map live_slot fresh
exchanged-slots gone fresh out into m =
    (all_put-same into (all_taken out (record { points = m.points; slots = all_killed gone m.slots ++ map live_slot fresh; keys = m.keys }))).slots
    ∙ (all_taken-same out (record { points = m.points; slots = all_killed gone m.slots ++ map live_slot fresh; keys = m.keys })).slots

pub exchanged-points : (gone : List ℕ) (fresh out into : List (List ℕ)) (m : Parts) → (exchanged gone fresh out into m).points ≡ m.points
exchanged-points gone fresh out into m =
    (all_put-same into (all_taken out (record { points = m.points; slots = all_killed gone m.slots ++ map live_slot fresh; keys = m.keys }))).points
    ∙ (all_taken-same out (record { points = m.points; slots = all_killed gone m.slots ++ map live_slot fresh; keys = m.keys })).points

-- the step only kills, and adds after the last
pub grown-exchanged : (gone : List ℕ) (fresh out into : List (List ℕ)) (m : Parts) → IsGrown m (exchanged gone fresh out into m)
grown-exchanged gone fresh out into m =
    let n = all_killed-length gone m.slots in
    let is = exchanged-slots gone fresh out into m in
    let at : (i : ℕ) → i < length m.slots → slot_at (exchanged gone fresh out into m).slots i ≡ slot_at (all_killed gone m.slots) i =
    λ i l. ap (λ (ss : List Slot). slot_at ss i) is ∙ get_or_append_left (all_killed gone m.slots) (map live_slot fresh) no_slot i (omega (arith, l, n)) in
    record {
      points = ap (take (length m.points)) (exchanged-points gone fresh out into m) ∙ take_all (length m.points) m.points (omega arith);
      longer = omega (arith, ap length is, length-append (all_killed gone m.slots) (map live_slot fresh), n);
      tets = λ i l. ap (λ (s : Slot). s.tet) (at i l) ∙ tets-stay gone m.slots i l;
      killed = λ i l d. ap (λ (s : Slot). s.live) (at i l) ∙ dead-stay gone m.slots i l d;
    }

-- ---- the live slots whose tetrahedra pass a test
regroup : (a b : List Slot) (s : Slot) → (a ++ s ∷ []) ++ b ≡ a ++ s ∷ b
regroup a b s = simp append_assoc

module _ (passes : Slot → Bool) (p : List ℕ → Bool) (is : (s : Slot) → passes s ≡ (s.live && p s.tet.0)) where
  abbrev dead : Slot → Slot
  dead s = record { tet = s.tet; live = false }

  here : (before after : List Slot) (s : Slot) → slot_at (before ++ s ∷ after) (length before) ≡ s
  here before after s = get_or_at before s after no_slot (length before) refl

  killed-here : (before after : List Slot) (s : Slot) → with_live false (length before) (before ++ s ∷ after) ≡ (before ++ dead s ∷ []) ++ after
  killed-here before after s =
      ap (λ (x : Slot). set (before ++ s ∷ after) (length before) (dead x)) (here before after s)
      ∙ (set_at before s after (dead s) (length before) refl ∙ sym (regroup before after (dead s)))

  one-more : (before : List Slot) (s : Slot) → length (before ++ s ∷ []) ≡ suc (length before)
  one-more before s = omega (arith, length_push before s)

  within : (before after : List Slot) (s : Slot) → length before < length (before ++ s ∷ after)
  within before after s = omega (arith, length-append before (s ∷ after))

  pub CanKill-numbers : (before after : List Slot) → CanKill (numbers_of passes (length before) after) (before ++ after)
  CanKill-numbers before [] = tt
  CanKill-numbers before (s ∷ after) = elim (cases_Bool (passes s)) [
    | inl e ↦ rw e (
      within before after s,
      ap (λ (x : Slot). x.live) (here before after s) ∙ (and_parts s.live (p s.tet.0) (sym (is s) ∙ e)).0,
      subst (CanKill (numbers_of passes (suc (length before)) after)) (sym (killed-here before after s))
          (subst (λ n. CanKill (numbers_of passes n after) ((before ++ dead s ∷ []) ++ after)) (one-more before (dead s)) (CanKill-numbers (before ++ dead s ∷ []) after)),
    )
    | inr e ↦ rw e (subst (CanKill (numbers_of passes (suc (length before)) after)) (regroup before after s)
        (subst (λ n. CanKill (numbers_of passes n after) ((before ++ s ∷ []) ++ after)) (one-more before s) (CanKill-numbers (before ++ s ∷ []) after)))
  ]

  dead-is : (s : Slot) (l t : Bool) → s.live ≡ l → p s.tet.0 ≡ t → (l && t) ≡ true → killed_if p s ≡ dead s
  dead-is s true true e f g = rw f (ap (λ (b : Bool). record { tet = s.tet; live = b && false }) e)
  dead-is s true false e f g = cc
  dead-is s false t e f g = cc

  whole-is : (s : Slot) (l t : Bool) → s.live ≡ l → p s.tet.0 ≡ t → (l && t) ≡ false → killed_if p s ≡ s
  whole-is s true true e f g = cc
  whole-is s true false e f g = rw f (ap (λ (b : Bool). record { tet = s.tet; live = b }) (and_true s.live))
    where
      and_true : (b : Bool) → (b && true) ≡ b
      and_true true = refl
      and_true false = refl
  whole-is s false t e f g = ap (λ (b : Bool). record { tet = s.tet; live = b && not (p s.tet.0) }) e ∙ ap (λ (b : Bool). record { tet = s.tet; live = b }) (sym e)

  pub all_killed-numbers : (before after : List Slot) → all_killed (numbers_of passes (length before) after) (before ++ after) ≡ before ++ map (killed_if p) after
  all_killed-numbers before [] = refl
  all_killed-numbers before (s ∷ after) = elim (cases_Bool (passes s)) [
    | inl e ↦ rw e
        (ap (all_killed (numbers_of passes (suc (length before)) after)) (killed-here before after s)
        ∙ (ap (λ n. all_killed (numbers_of passes n after) ((before ++ dead s ∷ []) ++ after)) (sym (one-more before (dead s)))
        ∙ (all_killed-numbers (before ++ dead s ∷ []) after
        ∙ (regroup before (map (killed_if p) after) (dead s) ∙ ap (λ (x : Slot). before ++ x ∷ map (killed_if p) after) (sym (dead-is s s.live (p s.tet.0) refl refl (sym (is s) ∙ e)))))))
    | inr e ↦ rw e
        (ap (all_killed (numbers_of passes (suc (length before)) after)) (sym (regroup before after s))
        ∙ (ap (λ n. all_killed (numbers_of passes n after) ((before ++ s ∷ []) ++ after)) (sym (one-more before s))
        ∙ (all_killed-numbers (before ++ s ∷ []) after
        ∙ (regroup before (map (killed_if p) after) s ∙ ap (λ (x : Slot). before ++ x ∷ map (killed_if p) after) (sym (whole-is s s.live (p s.tet.0) refl refl (sym (is s) ∙ e)))))))
  ]

  -- their tetrahedra are the live ones that pass
  chosen : (x : List ℕ) (l t : Bool) (xs : List (List ℕ)) → p x ≡ t → (l && t) ≡ true → x ∷ filter p xs ≡ filter p (cond l (x ∷ xs) xs)
  chosen x true true xs e g = rw e refl
  chosen x true false xs e g = cc
  chosen x false t xs e g = cc

  passed : (x : List ℕ) (l t : Bool) (xs : List (List ℕ)) → p x ≡ t → (l && t) ≡ false → filter p xs ≡ filter p (cond l (x ∷ xs) xs)
  passed x true true xs e g = cc
  passed x true false xs e g = rw e refl
  passed x false t xs e g = refl

  pub tets-numbers : (before after : List Slot) → map (λ i. (slot_at (before ++ after) i).tet.0) (numbers_of passes (length before) after) ≡ filter p (live_tets after)
  tets-numbers before [] = refl
  tets-numbers before (s ∷ after) =
      let rest : map (λ i. (slot_at (before ++ s ∷ after) i).tet.0) (numbers_of passes (suc (length before)) after) ≡ filter p (live_tets after) =
      subst (λ (all : List Slot). map (λ i. (slot_at all i).tet.0) (numbers_of passes (suc (length before)) after) ≡ filter p (live_tets after)) (regroup before after s)
      (subst (λ n. map (λ i. (slot_at ((before ++ s ∷ []) ++ after) i).tet.0) (numbers_of passes n after) ≡ filter p (live_tets after)) (one-more before s) (tets-numbers (before ++ s ∷ []) after)) in
      elim (cases_Bool (passes s)) [
        | inl e ↦ rw e (ap (λ (x : Slot). x.tet.0 ∷ map (λ i. (slot_at (before ++ s ∷ after) i).tet.0) (numbers_of passes (suc (length before)) after)) (here before after s)
            ∙ (ap (λ (xs : List (List ℕ)). s.tet.0 ∷ xs) rest ∙ chosen s.tet.0 s.live (p s.tet.0) (live_tets after) refl (sym (is s) ∙ e)))
        | inr e ↦ rw e (rest ∙ passed s.tet.0 s.live (p s.tet.0) (live_tets after) refl (sym (is s) ∙ e))
      ]
