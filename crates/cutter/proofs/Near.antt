-- A search that finds some of the live slots.
use Rattle.std.proofs.Common.{◌≡◌, ℕ, ◌+◌, ◌<◌, suc, Bool, true, false, List, [], ◌∷◌, ◌++◌, length, get_or, refl, sym, ap, ◌∙◌, subst, inl, inr, arith}
use Rattle.std.specs.List.{flat_map, AllByRecursion as Each}
use Rattle.std.proofs.lemmas.Bool.{cases_Bool}
use Rattle.std.proofs.lemmas.List.Elements.{All-from_recursion}
use Rattle.tet_slots.specs.declared.slot.Slot.{Slot}
use Rattle.tet_slots.specs.Searches.{numbers_of}
use Rattle.tet_slots.specs.Slots.{slot_at}
use Rattle.mesh_store.specs.Parts.{live_tets}
use Rattle.cutter.specs.Found.{tets_at}

-- the slots from k on are these
abbrev pub AreFrom : List Slot → ℕ → List Slot → Type 0
AreFrom slots k ss = (i : ℕ) → slot_at slots (i + k) ≡ slot_at ss i

pub rest : (slots : List Slot) (k : ℕ) (s : Slot) (ss : List Slot) → AreFrom slots k (s ∷ ss) → AreFrom slots (suc k) ss
rest slots k s ss h i = let e : i + suc k ≡ suc i + k = omega arith in ap (slot_at slots) e ∙ h (suc i)

pub first : (slots : List Slot) (k : ℕ) (s : Slot) (ss : List Slot) → AreFrom slots k (s ∷ ss) → slot_at slots k ≡ s
first slots k s ss h = let e : k ≡ 0 + k = omega arith in ap (slot_at slots) e ∙ h 0

pub all : (slots : List Slot) → AreFrom slots 0 slots
all slots i = let e : i + 0 ≡ i = omega arith in ap (slot_at slots) e

module _ {Y : Type 0} (f : List ℕ → List Y) (p : Slot → Bool) (live : (s : Slot) → p s ≡ true → s.live ≡ true) (none : (s : Slot) → s.live ≡ true → p s ≡ false → f s.tet.0 ≡ []) where
  near-from : (slots : List Slot) (k : ℕ) (ss : List Slot) → AreFrom slots k ss → flat_map f (tets_at slots (numbers_of p k ss)) ≡ flat_map f (live_tets ss)
  near-from slots k [] h = refl
  near-from slots k (s ∷ ss) h = elim (cases_Bool (p s)) [
    | inl e ↦ rw (e, live s e) (ap (λ (x : Slot). f x.tet.0 ++ flat_map f (tets_at slots (numbers_of p (suc k) ss))) (first slots k s ss h) ∙ ap (λ ys. f s.tet.0 ++ ys) (near-from slots (suc k) ss (rest slots k s ss h)))
    | inr e ↦ elim (cases_Bool s.live) [
      | inl g ↦ rw (e, g) (near-from slots (suc k) ss (rest slots k s ss h) ∙ sym (ap (λ ys. ys ++ flat_map f (live_tets ss)) (none s g e)))
      | inr g ↦ rw (e, g) (near-from slots (suc k) ss (rest slots k s ss h))
    ]
  ]

  pub near-all : (slots : List Slot) → flat_map f (tets_at slots (numbers_of p 0 slots)) ≡ flat_map f (live_tets slots)
  near-all slots = near-from slots 0 slots (all slots)

-- each number found is that of a slot that passes
abbrev pub Passes : (Slot → Bool) → List Slot → ℕ → Type 0
Passes p slots k = (k < length slots) × (p (slot_at slots k) ≡ true)

found : (p : Slot → Bool) (slots : List Slot) (k : ℕ) (ss : List Slot) → AreFrom slots k ss → k + length ss ≡ length slots → Each (Passes p slots) (numbers_of p k ss)
found p slots k [] h long = tt
found p slots k (s ∷ ss) h long = elim (cases_Bool (p s)) [
  | inl e ↦ rw e ((omega arith, ap p (first slots k s ss h) ∙ e), found p slots (suc k) ss (rest slots k s ss h) (omega arith))
  | inr e ↦ rw e (found p slots (suc k) ss (rest slots k s ss h) (omega arith))
]

-- all that are found
pub found-all : (p : Slot → Bool) (slots : List Slot) → Each (Passes p slots) (numbers_of p 0 slots)
found-all p slots = found p slots 0 slots (all slots) (omega arith)

pub passes-at : (p : Slot → Bool) (slots : List Slot) (ns : List ℕ) → ns ≡ numbers_of p 0 slots → (i d : ℕ) → i < length ns → Passes p slots (get_or ns i d)
passes-at p slots ns e i d lt = All-from_recursion (Passes p slots) ns (subst (Each (Passes p slots)) (sym e) (found-all p slots)) i d lt
