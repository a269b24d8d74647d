-- The slots that a try may kill: they were live, and their tetrahedra are positive.
use Rattle.std.proofs.Common.{◌≡◌, ℕ, suc, ◌+◌, ◌-◌, ◌<◌, ◌≤◌, Bool, true, List, [], ◌∷◌, map, length, drop, All, sym, ◌∙◌, ap, subst, inl, inr, arith, nat_abs}
use Rattle.std.specs.List.{list_all, AllByRecursion as Each}
use Rattle.std.proofs.lemmas.Bool.{cases_Bool, and_parts}
use Rattle.std.proofs.lemmas.List.{get_or-drop, length-drop}
use Rattle.std.proofs.lemmas.List.Elements.{All-from_recursion, recursion_from_All}
use Rattle.grid.specs.Determinants.{IsPositive}
use Rattle.grid.specs.Meshes.{Mesh}
use Rattle.mesh_types.specs.declared.tries.Try.{Try}
use Rattle.mesh_types.specs.Journals.{AllPositive}
use Rattle.mesh_types.proofs.ForCallers.{Each-filter, longer_result, IsLonger, positive-longer, cornered_tets}
use Rattle.tet_slots.specs.declared.slot.Slot.{Slot}
use Rattle.tet_slots.specs.Slots.{slot_at, no_slot}
use Rattle.tet_slots.specs.Searches.{numbers_of}
use Rattle.mesh_store.specs.Parts.{Parts, StoreView, live_tets, mesh_in}
use Rattle.mesh_store.proofs.ForCallers.{well_formed, live-each}
use Rattle.local_ops.specs.Attempts.{IsMade, start_of, may_go}
use Rattle.local_ops.specs.Measures.{corners_at}
use Rattle.local_ops.proofs.Aims.{near-is}
use Rattle.local_ops.proofs.Killed.{may_go-is}
use Rattle.local_ops.proofs.Replacing.{is_near}

-- likewise of those from a first slot on
pub live-from : (P : List ℕ → Type 0) (first i : ℕ) (slots : List Slot) → first ≤ i → i < length slots → (slot_at slots i).live ≡ true → All P (live_tets (drop first slots)) → P (slot_at slots i).tet.0
live-from P first i slots le lt live h =
    let here : slot_at (drop first slots) (i - first) ≡ slot_at slots i =
    get_or-drop first slots (i - first) no_slot ∙ (let e : first + (i - first) ≡ i = omega arith in ap (slot_at slots) e) in
    subst (λ (s : Slot). P s.tet.0) here
    (live-each P (drop first slots) (recursion_from_All P (live_tets (drop first slots)) h) (i - first) (let n = length-drop first slots in omega arith) (ap (λ (s : Slot). s.live) here ∙ live))

-- what holds of the slots that pass holds of their numbers
each-number : (passes : Slot → Bool) (P : ℕ → Type 0) (n : ℕ) (slots : List Slot) → ((i : ℕ) → i < length slots → passes (slot_at slots i) ≡ true → P (n + i)) → Each P (numbers_of passes n slots)
each-number passes P n [] h = tt
each-number passes P n (s ∷ slots) h =
    let rest = each-number passes P (suc n) slots (λ i l e. later i (h (suc i) (omega arith) e)) in
    elim (cases_Bool (passes s)) [
      | inl e ↦ rw e (here (h 0 (omega arith) e), rest)
      | inr e ↦ rw e rest
    ]
  where
    here : P (n + 0) → P n
    here p = let i : n + 0 ≡ n = omega arith in subst P i p

    later : (i : ℕ) → P (n + suc i) → P (suc n + i)
    later i p = let j : n + suc i ≡ suc n + i = omega arith in subst P j p

-- at most as many as there are slots, each the number of one
pub length-numbers : (passes : Slot → Bool) (n : ℕ) (slots : List Slot) → length (numbers_of passes n slots) ≤ length slots
length-numbers passes n [] = omega arith
length-numbers passes n (s ∷ slots) =
    let rest = length-numbers passes (suc n) slots in
    elim (cases_Bool (passes s)) [ inl e ↦ rw e (omega (arith, rest)) | inr e ↦ rw e (omega (arith, rest)) ]

pub numbers-there : (passes : Slot → Bool) (slots : List Slot) → All (λ i. i < length slots) (numbers_of passes 0 slots)
numbers-there passes slots = All-from_recursion (λ i. i < length slots) (numbers_of passes 0 slots) (each-number passes (λ i. i < length slots) 0 slots (λ i l e. omega arith))

module _ (t : Try) (v : StoreView) (h : IsMade t v) where
  longer : IsLonger (start_of v).points v.parts.points
  longer = subst (IsLonger (start_of v).points) (sym (ap (λ (m : Mesh). m.points) h.mesh)) (longer_result (nat_abs v.side) (mesh_in (start_of v)) t)

  old-positive : Each (IsPositive v.parts.points) (live_tets (start_of v).slots)
  old-positive = positive-longer (start_of v).points v.parts.points longer (live_tets (start_of v).slots)
      (cornered_tets (mesh_in (start_of v)) (well_formed v.side (start_of v) h.sound)) (recursion_from_All (IsPositive (start_of v).points) (live_tets (start_of v).slots) h.positive)

  pub near-there : All (λ i. i < length v.parts.slots) (numbers_of (may_go t) 0 (start_of v).slots)
  near-there = All-from_recursion (λ i. i < length v.parts.slots) (numbers_of (may_go t) 0 (start_of v).slots)
      (each-number (may_go t) (λ i. i < length v.parts.slots) 0 (start_of v).slots (λ i l e. let g = h.grown.longer in omega arith))

  pub near-positive : All (λ i. IsPositive v.parts.points (corners_at v.parts.slots i)) (numbers_of (may_go t) 0 (start_of v).slots)
  near-positive = All-from_recursion (λ i. IsPositive v.parts.points (corners_at v.parts.slots i)) (numbers_of (may_go t) 0 (start_of v).slots)
      (each-number (may_go t) (λ i. IsPositive v.parts.points (corners_at v.parts.slots i)) 0 (start_of v).slots one)
    where
      one : (i : ℕ) → i < length (start_of v).slots → may_go t (slot_at (start_of v).slots i) ≡ true → IsPositive v.parts.points (corners_at v.parts.slots (0 + i))
      one i l e =
          let live = (and_parts (slot_at (start_of v).slots i).live (is_near t (slot_at (start_of v).slots i).tet.0) (sym (may_go-is t (slot_at (start_of v).slots i)) ∙ e)).0 in
          let p = live-each (IsPositive v.parts.points) (start_of v).slots old-positive i l live in
          let z : 0 + i ≡ i = omega arith in
          rw z (subst (IsPositive v.parts.points) (sym (ap (λ t. t.0) (h.grown.tets i l))) p)

-- ---- before the try
unmapped : (P : List ℕ → Type 0) (f : ℕ → List ℕ) (xs : List ℕ) → Each P (map f xs) → Each (λ i. P (f i)) xs
unmapped P f [] h = tt
unmapped P f (x ∷ xs) h = (h.0, unmapped P f xs h.1)

passing : (q : List ℕ → Bool) (xs : List (List ℕ)) → list_all q xs ≡ true → Each (λ x. q x ≡ true) xs
passing q [] h = tt
passing q (x ∷ xs) h = let e = and_parts (q x) (list_all q xs) h in (e.0, passing q xs e.1)

-- the tetrahedra in those slots are positive
pub near-positive_before : (t : Try) (m : Parts) → AllPositive (mesh_in m) → All (λ i. IsPositive m.points (corners_at m.slots i)) (numbers_of (may_go t) 0 m.slots)
near-positive_before t m h = All-from_recursion (λ i. IsPositive m.points (corners_at m.slots i)) (numbers_of (may_go t) 0 m.slots)
    (unmapped (IsPositive m.points) (corners_at m.slots) (numbers_of (may_go t) 0 m.slots)
    (subst (Each (IsPositive m.points)) (sym (near-is t m.slots)) (Each-filter (IsPositive m.points) (is_near t) (live_tets m.slots) (recursion_from_All (IsPositive m.points) (live_tets m.slots) h))))

-- what they pass, each does
pub near-pass : (q : List ℕ → Bool) (slots : List Slot) (xs : List ℕ) → list_all q (map (corners_at slots) xs) ≡ true → All (λ i. q (corners_at slots i) ≡ true) xs
near-pass q slots xs h = All-from_recursion (λ i. q (corners_at slots i) ≡ true) xs (unmapped (λ x. q x ≡ true) (corners_at slots) xs (passing q (map (corners_at slots) xs) h))
