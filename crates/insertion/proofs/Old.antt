-- What was there before the cuts.
use Rattle.std.proofs.Common.{◌≡◌, ℕ, ◌<◌, pos, ◌<ℤ◌, true, List, [], ◌∷◌, length, take, All, refl, sym, ap, ◌∙◌, subst, inl, inr}
use Rattle.std.specs.List.{AllByRecursion as Each}
use Rattle.std.proofs.lemmas.Bool.{cases_Bool, true≢false}
use Rattle.std.proofs.lemmas.List.Elements.{recursion_from_All}
use Rattle.grid.specs.declared.shapes.Point.{Point}
use Rattle.grid.specs.Determinants.{det, det_at, IsPositive}
use Rattle.grid.specs.Simplices.{IsTet}
use Rattle.mesh_store.specs.Changes.{IsGrown}
use Rattle.mesh_store.specs.Parts.{Parts, live_tets}
use Rattle.mesh_store.proofs.ForCallers.{live-each}
use Rattle.tet_slots.specs.declared.slot.Slot.{Slot}
use Rattle.tet_slots.specs.Slots.{slot_at, no_slot}
use Rattle.cutter.proofs.ForCallers.{point-kept}

pub det-kept : (old new : List Point) (x : List ℕ) → take (length old) new ≡ old → Each (λ u. u < length old) x → det_at new x ≡ det_at old x
det-kept old new (a ∷ b ∷ c ∷ d ∷ []) e h =
    λ j. det (point-kept old new a e h.0 j) (point-kept old new b e h.1.0 j) (point-kept old new c e h.1.1.0 j) (point-kept old new d e h.1.1.1.0 j)
det-kept old new [] e h = refl
det-kept old new (a ∷ []) e h = refl
det-kept old new (a ∷ b ∷ []) e h = refl
det-kept old new (a ∷ b ∷ c ∷ []) e h = refl
det-kept old new (a ∷ b ∷ c ∷ d ∷ f ∷ x) e h = refl

-- slots that were there and live are still positive
pub old-positive : (start now : Parts) → IsGrown start now → All (λ (s : Slot). IsTet (length start.points) s.tet.0) start.slots → All (IsPositive start.points) (live_tets start.slots) → (j : ℕ) → j < length start.slots → (slot_at now.slots j).live ≡ true → IsPositive now.points (slot_at now.slots j).tet.0
old-positive start now g tets positive j lt live =
    let tet = (slot_at start.slots j).tet.0 in
    let was_live : (slot_at start.slots j).live ≡ true = elim (cases_Bool (slot_at start.slots j).live) [ inl e ↦ e | inr e ↦ absurd (true≢false (sym live ∙ g.killed j lt e)) ] in
    let before : IsPositive start.points tet = live-each (IsPositive start.points) start.slots (recursion_from_All (IsPositive start.points) (live_tets start.slots) positive) j lt was_live in
    let low : Each (λ u. u < length start.points) tet = recursion_from_All (λ u. u < length start.points) tet (tets j no_slot lt).in_range in
    let same : det_at now.points tet ≡ det_at start.points tet = det-kept start.points now.points tet g.points low in
    subst (λ (t : List ℕ). IsPositive now.points t) (sym (ap (λ t. t.0) (g.tets j lt))) (subst (λ z. pos 0 <ℤ z) (sym same) before)
