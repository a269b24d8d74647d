-- The first repeat and the first loose face of a list, from those of its parts in turn.
use Rattle.std.proofs.Common.{◌≡◌, ℕ, ◌+◌, ◌<◌, ◌≤◌, ◌↔◌, true, cond, List, [], ◌∷◌, ◌++◌, length, take, drop, get_or, flat_map, All, refl, ap, sym, ◌∙◌, subst, inl, inr, arith, append_assoc, length-append}
use Rattle.std.proofs.lemmas.Bool.{cases_Bool, cases_lt}
use Rattle.std.proofs.lemmas.List.{append-nil, get_or_append_left, get_or-append_right, take-append-le, take_more, take-append-drop}
use Rattle.std.proofs.lemmas.List.Concat.{flat_map-append}
use Rattle.std.proofs.Math.Seq.{take-append-add}
use Rattle.std.proofs.lemmas.List.Elements.{All-from_recursion, recursion_from_All, All-nil, All-cons, All-head, All-tail}
use Rattle.grid.specs.declared.shapes.Face.{Face}
use Rattle.grid.specs.Views.{triples_of}
use Rattle.grid.specs.Simplices.{faces, is_rotation, reversed}
use Rattle.face_table.specs.Occurrences.{occurrences, HaveSameFaces}
use Rattle.face_table.specs.Pairing.{face_at, NoneTwice, IsFirstRepeat, IsLoose, LooseHave, IsFirstLooseWithout, IsPairedBy}
use Rattle.face_table.specs.declared.pairs.Paired.{Paired}
use Rattle.face_table.specs.declared.pairs.Paired.TheVariants.{Good, Twice, Loose}
use Rattle.face_table.specs.Passes.{IsRepeatAfter, AreCounted}
use Rattle.face_table.proofs.RotationLemmas.{occurrences-rotation, occurrences-append, occurrences-push, reversed-both}
use Rattle.grid.proofs.ForCallers.{count_by-cons_no}

-- ---- places of a part of a list
take-part : (before part after : List (List ℕ)) (j : ℕ) → j ≤ length part → take (length before + j) (before ++ (part ++ after)) ≡ before ++ take j part
take-part before part after j l = take-append-add before (part ++ after) j ∙ ap (λ fs. before ++ fs) (take-append-le j part after l)

face_at-part : (before part after : List (List ℕ)) (j : ℕ) → j < length part → face_at (before ++ (part ++ after)) (length before + j) ≡ face_at part j
face_at-part before part after j l =
    get_or-append_right before (part ++ after) (length before) (length before + j) [] refl (omega arith)
    ∙ ap (λ k. get_or (part ++ after) k []) (omega arith)
    ∙ get_or_append_left part after [] j l

within-part : (before part after : List (List ℕ)) (j : ℕ) → j < length part → length before + j < length (before ++ (part ++ after))
within-part before part after j l = omega (arith, length-append before (part ++ after), length-append part after)

-- ---- counting
pub HaveSameFaces-append : (faces others more : List (List ℕ)) → HaveSameFaces faces others → HaveSameFaces (faces ++ more) (others ++ more)
HaveSameFaces-append faces others more h f = occurrences-append f faces more ∙ ap (λ n. n + occurrences f more) (h f) ∙ sym (occurrences-append f others more)

-- none stands twice where a face that was not there is added
pub NoneTwice-push : (faces : List (List ℕ)) (f : List ℕ) → NoneTwice faces → occurrences f faces ≡ 0 → NoneTwice (faces ++ f ∷ [])
NoneTwice-push faces f h none g = elim (cases_Bool (is_rotation g f)) [
  | inl e ↦ omega (arith, occurrences-push g faces f, ap (λ b. cond {A = ℕ} b 1 0) e, occurrences-rotation g f faces e, none)
  | inr e ↦ omega (arith, occurrences-push g faces f, ap (λ b. cond {A = ℕ} b 1 0) e, h g)
]

-- a repeat in a part of the list, where what is before it is counted
pub repeat-in : (base table before part after : List (List ℕ)) (f : List ℕ) → HaveSameFaces table (base ++ before) → IsRepeatAfter table part f → IsRepeatAfter base (before ++ (part ++ after)) f
repeat-in base table before part after f h r =
    let e = ap (λ fs. base ++ fs) (take-part before part after r.place (omega (arith, r.within))) ∙ sym (append_assoc base before (take r.place part)) in
    let same = HaveSameFaces-append table (base ++ before) (take r.place part) h in
    record {
      place = length before + r.place;
      within = within-part before part after r.place r.within;
      is = face_at-part before part after r.place r.within ∙ r.is;
      repeated = subst (λ fs. 0 < occurrences f fs) (sym e) (subst (λ n. 0 < n) (same f) r.repeated);
      first = subst NoneTwice (sym e) (λ g. subst (λ n. n ≤ 1) (same g) (r.first g));
    }

-- a face that is counted already
pub repeat-one : (table : List (List ℕ)) (f : List ℕ) → NoneTwice table → 0 < occurrences f table → IsRepeatAfter table (f ∷ []) f
repeat-one table f h some = record {
  place = 0;
  within = omega arith;
  is = refl;
  repeated = subst (λ fs. 0 < occurrences f fs) (sym (append-nil table)) some;
  first = subst NoneTwice (sym (append-nil table)) h;
}

pub repeat-first : (faces : List (List ℕ)) (f : List ℕ) → IsRepeatAfter [] faces f → IsFirstRepeat faces f
repeat-first faces f r = record { place = r.place; within = r.within; is = r.is; repeated = r.repeated; first = r.first }

-- a face that is counted for the first time
pub counted-one : (table after : List (List ℕ)) (f : List ℕ) → NoneTwice table → occurrences f table ≡ 0 → HaveSameFaces after (table ++ f ∷ []) → AreCounted after (table ++ f ∷ [])
counted-one table after f h none same = record { same = same; once = λ g. subst (λ n. n ≤ 1) (sym (same g)) (NoneTwice-push table f h none g) }

-- ---- the parts of a list in turn
module _ {X : Type 0} (g : X → List (List ℕ)) (xs : List X) (i : ℕ) (d : X) (l : i < length xs) where
  parts-more : flat_map g (take (i + 1) xs) ≡ flat_map g (take i xs) ++ g (get_or xs i d)
  parts-more =
      ap (flat_map g) (take_more xs i d l)
      ∙ flat_map-append g (take i xs) (get_or xs i d ∷ [])
      ∙ ap (λ ys. flat_map g (take i xs) ++ ys) (append-nil (g (get_or xs i d)))

  parts-all : flat_map g xs ≡ flat_map g (take i xs) ++ (g (get_or xs i d) ++ flat_map g (drop (i + 1) xs))
  parts-all =
      sym (ap (flat_map g) (take-append-drop (i + 1) xs))
      ∙ flat_map-append g (take (i + 1) xs) (drop (i + 1) xs)
      ∙ ap (λ ys. ys ++ flat_map g (drop (i + 1) xs)) parts-more
      ∙ append_assoc (flat_map g (take i xs)) (g (get_or xs i d)) (flat_map g (drop (i + 1) xs))

  pub counted-more : (base table after : List (List ℕ)) → AreCounted table (base ++ flat_map g (take i xs)) → AreCounted after (table ++ g (get_or xs i d)) → AreCounted after (base ++ flat_map g (take (i + 1) xs))
  counted-more base table after h k = record {
    same = λ f. k.same f ∙ HaveSameFaces-append table (base ++ flat_map g (take i xs)) (g (get_or xs i d)) h.same f
        ∙ ap (occurrences f) (append_assoc base (flat_map g (take i xs)) (g (get_or xs i d)) ∙ ap (λ ys. base ++ ys) (sym parts-more));
    once = k.once;
  }

  pub repeat-at : (base table : List (List ℕ)) (f : List ℕ) → AreCounted table (base ++ flat_map g (take i xs)) → IsRepeatAfter table (g (get_or xs i d)) f → IsRepeatAfter base (flat_map g xs) f
  repeat-at base table f h r =
      subst (λ fs. IsRepeatAfter base fs f) (sym parts-all)
      (repeat-in base table (flat_map g (take i xs)) (g (get_or xs i d)) (flat_map g (drop (i + 1) xs)) f h.same r)

-- ---- loose faces
module _ (Has : List ℕ → Type 0) (faces : List (List ℕ)) where
  pub LooseHave-append : (some more : List (List ℕ)) → LooseHave Has faces some → LooseHave Has faces more → LooseHave Has faces (some ++ more)
  LooseHave-append some more h k f there loose = elim (cases_lt 0 (occurrences f some)) [
    | inl a ↦ h f a loose
    | inr a ↦ k f (omega (arith, a, there, occurrences-append f some more)) loose
  ]

  pub loose-in : (before part after : List (List ℕ)) (f : List ℕ) → LooseHave Has faces before → IsFirstLooseWithout Has faces part f → IsFirstLooseWithout Has faces (before ++ (part ++ after)) f
  loose-in before part after f h r = record {
    place = length before + r.place;
    within = within-part before part after r.place r.within;
    is = face_at-part before part after r.place r.within ∙ r.is;
    loose = r.loose;
    apart = r.apart;
    first = subst (LooseHave Has faces) (sym (take-part before part after r.place (omega (arith, r.within)))) (LooseHave-append before (take r.place part) h r.first);
  }

  pub loose-none : LooseHave Has faces []
  loose-none f there loose = absurd (omega (arith, there))

  module _ {X : Type 0} (g : X → List (List ℕ)) (xs : List X) (i : ℕ) (d : X) (k : i < length xs) where
    pub loose-more : LooseHave Has faces (flat_map g (take i xs)) → LooseHave Has faces (g (get_or xs i d)) → LooseHave Has faces (flat_map g (take (i + 1) xs))
    loose-more h more = subst (LooseHave Has faces) (sym (parts-more g xs i d k)) (LooseHave-append (flat_map g (take i xs)) (g (get_or xs i d)) h more)

    pub loose-at : (f : List ℕ) → LooseHave Has faces (flat_map g (take i xs)) → IsFirstLooseWithout Has faces (g (get_or xs i d)) f → IsFirstLooseWithout Has faces (flat_map g xs) f
    loose-at f h r =
        subst (λ fs. IsFirstLooseWithout Has faces fs f) (sym (parts-all g xs i d k))
        (loose-in (flat_map g (take i xs)) (g (get_or xs i d)) (flat_map g (drop (i + 1) xs)) f h r)

  -- one face, where its rotations have the property too
  pub loose-one : (f : List ℕ) → ((g : List ℕ) → is_rotation g f ≡ true → Has f → Has g) → (IsLoose faces f → Has f) → LooseHave Has faces (f ∷ [])
  loose-one f rotates h g there loose =
      let rotated : is_rotation g f ≡ true = elim (cases_Bool (is_rotation g f)) [
        | inl e ↦ e
        | inr e ↦ absurd (omega (arith, there, count_by-cons_no (λ x. is_rotation g x) f [] e))
      ] in
      rotates g rotated (h (sym (occurrences-rotation (reversed g) (reversed f) faces (reversed-both g f rotated)) ∙ loose))

  pub loose-without : (f : List ℕ) → IsLoose faces f → (Has f → ⊥) → IsFirstLooseWithout Has faces (f ∷ []) f
  loose-without f loose without = record { place = 0; within = omega arith; is = refl; loose = loose; apart = without; first = loose-none }

-- the counts of a table are those of the faces that it counts
pub LooseHave-same : (Has : List ℕ → Type 0) (table faces some : List (List ℕ)) → HaveSameFaces table faces → LooseHave Has table some → LooseHave Has faces some
LooseHave-same Has table faces some h k f there loose = k f there (h (reversed f) ∙ loose)

pub IsFirstLooseWithout-same : (Has : List ℕ → Type 0) (table faces some : List (List ℕ)) (f : List ℕ) → HaveSameFaces table faces → IsFirstLooseWithout Has table some f → IsFirstLooseWithout Has faces some f
IsFirstLooseWithout-same Has table faces some f h r = record {
  place = r.place;
  within = r.within;
  is = r.is;
  loose = sym (h (reversed f)) ∙ r.loose;
  apart = r.apart;
  first = LooseHave-same Has table faces (take r.place some) h r.first;
}

-- the same with a property that the same faces have
pub IsPairedBy-same : (Has Have : List ℕ → Type 0) (faces : List (List ℕ)) (paired : Paired) → ((f : List ℕ) → Has f ↔ Have f) → IsPairedBy Has faces paired → IsPairedBy Have faces paired
IsPairedBy-same Has Have faces Good same h = (h.0, λ f there loose. (same f).0 (h.1 f there loose))
IsPairedBy-same Has Have faces (Twice f) same h = h
IsPairedBy-same Has Have faces (Loose f) same h = (
  h.0,
  record {
    place = h.1.place;
    within = h.1.within;
    is = h.1.is;
    loose = h.1.loose;
    apart = λ have. h.1.apart ((same f.0).1 have);
    first = λ g there loose. (same g).0 (h.1.first g there loose);
  },
)

pub NoneTwice-same : (table faces : List (List ℕ)) → AreCounted table faces → NoneTwice faces
NoneTwice-same table faces h f = subst (λ n. n ≤ 1) (h.same f) (h.once f)

-- the corners of the faces are corners of the tetrahedron
pub faces-in_range : (n : ℕ) (x : List ℕ) → All (λ c. c < n) x → All (λ f. All (λ c. c < n) f) (faces x)
faces-in_range n (a ∷ b ∷ c ∷ d ∷ []) h =
    let r = recursion_from_All (λ c. c < n) (a ∷ b ∷ c ∷ d ∷ []) h in
    let face = λ (u v w : ℕ) (p : u < n) (q : v < n) (t : w < n). All-from_recursion (λ c. c < n) (u ∷ v ∷ w ∷ []) (p, (q, (t, tt))) in
    All-from_recursion (λ f. All (λ c. c < n) f) (faces (a ∷ b ∷ c ∷ d ∷ []))
    (face a c b r.0 r.1.1.0 r.1.0, (face a b d r.0 r.1.0 r.1.1.1.0, (face a d c r.0 r.1.1.1.0 r.1.1.0, (face b c d r.1.0 r.1.1.0 r.1.1.1.0, tt))))
faces-in_range n [] h = All-nil (λ f. All (λ c. c < n) f)
faces-in_range n (a ∷ []) h = All-nil (λ f. All (λ c. c < n) f)
faces-in_range n (a ∷ b ∷ []) h = All-nil (λ f. All (λ c. c < n) f)
faces-in_range n (a ∷ b ∷ c ∷ []) h = All-nil (λ f. All (λ c. c < n) f)
faces-in_range n (a ∷ b ∷ c ∷ d ∷ e ∷ x) h = All-nil (λ f. All (λ c. c < n) f)

-- what holds of all faces by their corners
pub All-triples : (P : List ℕ → Type 0) (fs : List Face) → All P (triples_of fs) → All (λ f. P f.0) fs
All-triples P [] h = All-nil (λ (f : Face). P f.0)
All-triples P (f ∷ fs) h = All-cons (λ (f : Face). P f.0) f fs (All-head P f.0 (triples_of fs) h) (All-triples P fs (All-tail P f.0 (triples_of fs) h))
