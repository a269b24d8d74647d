use Rattle.std.proofs.Common.{◌≡◌, ◌≤◌, ◌/◌, ◌*◌, ◌^◌, nat_abs, arith, ap, sym, ◌∙◌, subst, ℤ, ℕ, length, All, to_z-of_z, rules}
use Rattle.std.proofs.lemmas.List.{length-map}
use native.Mathlib.Nat.{mul-le-mul}
use Rattle.grid.specs.Boxes.{IsInBox}
use Rattle.grid.specs.Meshes.{IsWellFormed, IsWithinLimits, Tiles}
use Rattle.grid.specs.Limits.{largest_side}
use Rattle.mesh_types.specs.Lattice.{lattice, lattice_points}
use Rattle.mesh_types.specs.Views.{corners_of, triples_of}
use Rattle.background.proofs.LimitLemmas.{cells_most, step_most}
use Rattle.background.proofs.Tiling.{lattice-IsWellFormed, lattice-made, lattice-IsWithinLimits, lattice-Tiles, lattice-IsInBox}
use Rattle.int_algebra.proofs.Laws.{cubed}
use Rattle.background.proofs.subdivision.lattice.Goals as goal

pub points-requires-clause-step_in : goal.points-requires-clause-step_in
points-requires-clause-step_in c = subst (λ z. nat_abs z / c.args.cells ≤ largest_side) (sym (to_z-of_z c.ranges.side)) (step_most c.args.side c.args.cells c.requires.side_in)

pub points-requires-clause-cells_in : goal.points-requires-clause-cells_in
points-requires-clause-cells_in c = cells_most c.args.cells c.requires.cells_in

pub tets-requires : goal.tets-requires
tets-requires c = cells_most c.args.cells c.requires.cells_in

pub overflow_mul-result-3 : goal.overflow_mul-result-3
overflow_mul-result-3 c =
    let l = cells_most c.args.cells c.requires.cells_in in
    let m = mul-le-mul (mul-le-mul l l) l in
    search (rules, arith, m)

points_are : (ps : _) (side z : ℤ) (n : ℕ) → z ≡ side → ps ≡ lattice_points (nat_abs z / n) n → ps ≡ lattice_points (nat_abs side / n) n
points_are ps side z n e h = h ∙ ap (λ y. lattice_points (nat_abs y / n) n) e

pub returns-clause-is : goal.returns-clause-is
unfolding lattice
returns-clause-is c =
    let p = c.from_vec.ensures ∙ points_are c.in_ok-points.points.items c.args.side _ c.args.cells (to_z-of_z c.ranges.side) c.in_ok-points.ensures in
    let t = ap corners_of c.from_vec-2.ensures ∙ c.in_ok-tets.ensures in
    let m : 6 * (c.args.cells * c.args.cells * c.args.cells) ≡ 6 * c.args.cells ^ 3 = ap (λ x. 6 * x) (sym (cubed c.args.cells)) in
    λ i. record { points = p i; tets = t i; tracked = ap (λ fs. triples_of fs) c.new.ensures i; made = m i }

pub returns-clause-tiles : goal.returns-clause-tiles
returns-clause-tiles c = subst (λ m. Tiles m (nat_abs c.args.side)) (sym (returns-clause-is c)) (lattice-Tiles c.args.side c.args.cells c.requires.side_in c.requires.cells_in c.requires.room)

pub returns-clause-well_formed : goal.returns-clause-well_formed
returns-clause-well_formed c = subst IsWellFormed (sym (returns-clause-is c)) (lattice-IsWellFormed c.args.side c.args.cells)

pub returns-clause-in_box : goal.returns-clause-in_box
returns-clause-in_box c = subst (λ m. All (IsInBox (nat_abs c.args.side)) m.points) (sym (returns-clause-is c)) (lattice-IsInBox c.args.side c.args.cells c.requires.side_in c.requires.cells_in c.requires.room)

pub returns-clause-within_limits : goal.returns-clause-within_limits
returns-clause-within_limits c = subst IsWithinLimits (sym (returns-clause-is c)) (lattice-IsWithinLimits c.args.side c.args.cells c.requires.cells_in)

pub returns-clause-made : goal.returns-clause-made
returns-clause-made c = subst (λ m. m.made ≡ length m.tets) (sym (returns-clause-is c)) (lattice-made c.args.side c.args.cells) ∙ length-map c.from_vec-2.result (λ t. t.0)
