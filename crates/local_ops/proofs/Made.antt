-- A try that was made: its new tetrahedra are in the slots made since, and those that are gone in the slots that were killed.
use Rattle.std.proofs.Common.{◌≡◌, ℕ, suc, ◌+◌, ◌<◌, ◌≤◌, true, List, [], ◌∷◌, ◌++◌, length, take, drop, map, ℤ, nat_abs, refl, sym, ◌∙◌, ap, arith, length-append}
use Rattle.std.specs.List.{AllByRecursion as Each}
use Rattle.std.proofs.lemmas.List.{take-append-drop, length-drop, drop_at, take_at, get_or-drop}
use Rattle.int_algebra.proofs.Laws.{linear}
use Rattle.grid.specs.Meshes.{Mesh}
use Rattle.mesh_types.specs.declared.tries.Try.{Try}
use Rattle.mesh_types.specs.Results.{Result, result_of}
use Rattle.mesh_types.specs.Verdicts.{largest}
use Rattle.mesh_types.proofs.ForCallers.{total}
use Rattle.tet_slots.specs.declared.slot.Slot.{Slot}
use Rattle.tet_slots.specs.Slots.{slot_at, no_slot}
use Rattle.tet_slots.specs.Searches.{numbers_of}
use Rattle.mesh_store.specs.Parts.{StoreView, live_tets, mesh_in}
use Rattle.mesh_store.proofs.ForCallers.{live-append}
use Rattle.local_ops.specs.Attempts.{IsMade, start_of, may_go}
use Rattle.local_ops.specs.Measures.{dead_tets}
use Rattle.local_ops.proofs.Killed.{killed, follow-grown, sums-killed, dead-killed}
use Rattle.local_ops.proofs.Largest.{largest-same, each-same}
use Rattle.local_ops.proofs.Replacing.{IsReplacement, replacement, is_near}

-- ---- lists
-- lists of equal ends, where the ends are as long
same_ends : (a b x y : List (List ℕ)) → a ++ x ≡ b ++ y → length x ≡ length y → (a ≡ b) × (x ≡ y)
same_ends a b x y e l =
    let n : length a ≡ length b = omega (arith, ap length e, length-append a x, length-append b y, l) in
    (sym (take_at a x (length a) refl) ∙ (ap (take (length a)) e ∙ take_at b y (length a) (sym n)), sym (drop_at a x (length a) refl) ∙ (ap (drop (length a)) e ∙ drop_at b y (length a) (sym n)))

all-live : (slots : List Slot) → Each (λ (s : Slot). s.live ≡ true) slots → length (live_tets slots) ≡ length slots
all-live [] h = refl
all-live (s ∷ slots) h = rw h.0 (let n = all-live slots h.1 in omega (arith, n))

each-added : (slots : List Slot) → ((i : ℕ) → i < length slots → (slot_at slots i).live ≡ true) → Each (λ (s : Slot). s.live ≡ true) slots
each-added [] h = tt
each-added (s ∷ slots) h = (h 0 (omega arith), each-added slots (λ i l. h (suc i) (omega arith)))

added-live : (n : ℕ) (slots : List Slot) → ((i : ℕ) → n ≤ i → i < length slots → (slot_at slots i).live ≡ true) → Each (λ (s : Slot). s.live ≡ true) (drop n slots)
added-live n slots h = each-added (drop n slots) (λ i l. ap (λ (s : Slot). s.live) (get_or-drop n slots i no_slot) ∙ h (n + i) (omega arith) (let e = length-drop n slots in omega arith))

module _ (t : Try) (v : StoreView) (h : IsMade t v) where
  abbrev pub made_of : Result
  made_of = result_of (nat_abs v.side) (mesh_in (start_of v)) t

  abbrev slots : List Slot
  slots = v.parts.slots

  abbrev old : List Slot
  old = (start_of v).slots

  rep : IsReplacement (mesh_in (start_of v)) made_of (is_near t)
  rep = replacement (mesh_in (start_of v)) (nat_abs v.side) t

  ends : (live_tets (take (length old) slots) ≡ rep.kept) × (live_tets (drop (length old) slots) ≡ made_of.fresh)
  ends =
      let tets : live_tets slots ≡ rep.kept ++ made_of.fresh = ap (λ (m : Mesh). m.tets) h.mesh ∙ rep.tets in
      let count : length slots ≡ length old + length made_of.fresh = ap (λ (m : Mesh). m.made) h.mesh ∙ rep.made in
      let added = added-live (length old) slots h.added.live in
      let m : length (live_tets (drop (length old) slots)) ≡ length made_of.fresh = omega (arith, all-live (drop (length old) slots) added, length-drop (length old) slots, count) in
      same_ends (live_tets (take (length old) slots)) rep.kept (live_tets (drop (length old) slots)) made_of.fresh (sym (live-append (take (length old) slots) (drop (length old) slots)) ∙ (ap live_tets (take-append-drop (length old) slots) ∙ tets)) m

  pub fresh-is : live_tets (drop (length old) slots) ≡ made_of.fresh
  fresh-is = ends.1

  pub points-are : v.parts.points ≡ made_of.mesh.points
  points-are = ap (λ (m : Mesh). m.points) h.mesh

  sums-gone : (g : List ℕ → ℤ) → total g (killed old slots) ≡ total g made_of.gone
  sums-gone g =
      let a = rep.sums g in
      let b = sums-killed g old slots (follow-grown (start_of v) v.parts h.grown) in
      let c : total g (live_tets (take (length old) slots)) ≡ total g rep.kept = ap (total g) ends.0 in
      omega (arith, linear, a, b, c)

  gone-is : dead_tets slots (numbers_of (may_go t) 0 old) ≡ killed old slots
  gone-is = dead-killed t old slots (follow-grown (start_of v) v.parts h.grown) (each-same (is_near t) made_of.gone (killed old slots) (λ g. sym (sums-gone g)) rep.gone_near)

  pub largest-gone : (f : List ℕ → ℕ) → largest (map f (dead_tets slots (numbers_of (may_go t) 0 old))) ≡ largest (map f made_of.gone)
  largest-gone f = ap (λ xs. largest (map f xs)) gone-is ∙ largest-same f (killed old slots) made_of.gone sums-gone
