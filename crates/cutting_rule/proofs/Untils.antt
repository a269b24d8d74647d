-- Phases keep meshes well formed, and make them grow.
use Rattle.std.proofs.Common.{◌≡◌, ◌⊎◌, ℕ, zero, suc, ◌≤◌, List, length, map, subst, inl, inr, arith, length-append}
use Rattle.grid.specs.declared.shapes.Tri.{Tri}
use Rattle.grid.specs.Meshes.{Mesh, IsWellFormed, Weave, IsWithinLimits}
use Rattle.mesh_types.specs.declared.cut.Cut.{Cut}
use Rattle.mesh_types.specs.Phases.{wanted_cuts}
use Rattle.mesh_types.specs.Refines.{refine}
use Rattle.mesh_types.proofs.ForCallers.{refinement_law, refine-IsWellFormed}
use Rattle.cutting_rule.specs.Until.{until}
use Rattle.cutting_rule.proofs.PhaseCuts.{wanted_cuts-on}

-- ---- whatever the edges that were cut, a mesh stays well formed and weaves
pub until-well_formed : (m : Mesh) (t : Tri) (i : ℕ) → IsWellFormed m → IsWellFormed (until m t i)
until-well_formed m t zero w = w
until-well_formed m t (suc i) w =
    let before = until-well_formed m t i w in
    refine-IsWellFormed (until m t i) 0 (wanted_cuts (until m t i) t i) (wanted_cuts-on (until m t i) t i 0 before.tets_are) before

pub until-weaves : (m : Mesh) (t : Tri) (l i : ℕ) → IsWellFormed m → Weave m l → Weave (until m t i) l
until-weaves m t l zero w h = h
until-weaves m t l (suc i) w h =
    let before = until-well_formed m t i w in
    (refinement_law (until m t i) l (wanted_cuts (until m t i) t i) (wanted_cuts-on (until m t i) t i l before.tets_are) before (until-weaves m t l i w h)).1

-- ---- points
more-points : (m : Mesh) (es : List Cut) → length m.points ≤ length (refine m es).points
unfolding refine
more-points m es = omega (arith, length-append m.points (map (λ (e : Cut). e.at) es))

pub until-points : (m : Mesh) (t : Tri) (i : ℕ) → length m.points ≤ length (until m t i).points
until-points m t zero = omega arith
until-points m t (suc i) = omega (arith, until-points m t i, more-points (until m t i) (wanted_cuts (until m t i) t i))

-- ---- limits
within-refine : (m : Mesh) (es : List Cut) → IsWithinLimits (refine m es) → IsWithinLimits m
unfolding refine
within-refine m es h =
    let p = h.points_few in
    let q = h.made_few in
    record {
      points_few = omega (arith, p, length-append m.points (map (λ (e : Cut). e.at) es));
      made_few = omega (arith, q);
    }

pub within-until : (m : Mesh) (t : Tri) (i n : ℕ) → i ≤ n → IsWithinLimits (until m t n) → IsWithinLimits (until m t i)
within-until m t i zero le h = let e : 0 ≡ i = omega arith in subst (λ k. IsWithinLimits (until m t k)) e h
within-until m t i (suc n) le h =
    let cases : (suc n ≡ i) ⊎ (i ≤ n) = grind arith in
    elim cases [
      | inl e ↦ subst (λ k. IsWithinLimits (until m t k)) e h
      | inr below ↦ within-until m t i n below (within-refine (until m t n) (wanted_cuts (until m t n) t n) h)
    ]
