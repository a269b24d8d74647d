use Rattle.std.proofs.Common.{◌≡◌, ℕ, ◌+◌, ◌%◌, ◌<◌, pos, ◌<ℤ◌, ◌∙◌, subst, sym, ap, arith}
use Rattle.grid.specs.declared.shapes.Tri.{Tri}
use Rattle.grid.specs.Boxes.{corner_of}
use Rattle.grid.specs.Planes as planes
use Rattle.grid.specs.Planes.{IsDegenerate, value_of, unit_of, largest_axis, normal_of}
use Rattle.vectors.specs.declared.vector.Vector.{Vector}
use Rattle.vectors.specs.Bounded.{vector_of}
use Rattle.planes.specs.Sides.{side_of}
use Rattle.planes.proofs.SideLemmas.{side_plane-third, side_of-side_plane}
use Rattle.planes.proofs.triangle.side_plane.Goals as goal

-- the side plane of the number i, from the axis that the calls found
made : (t : Tri) (i n : ℕ) (axis normal : Vector) (m : planes.Plane) → n ≡ i → vector_of normal ≡ normal_of t → vector_of axis ≡ unit_of (largest_axis (vector_of normal))
    → m ≡ side_of (corner_of t i) (corner_of t ((i + 1) % 3)) (corner_of t ((i + 2) % 3)) (vector_of axis) → m ≡ planes.side_plane t n
made t i n axis normal m e f g h = h ∙ side_of-side_plane t i (vector_of axis) (g ∙ ap (λ v. unit_of (largest_axis v)) f) ∙ ap (planes.side_plane t) (sym e)

third : (t : Tri) (n : ℕ) (m : planes.Plane) → n < 3 → m ≡ planes.side_plane t n → (IsDegenerate t → ⊥) → pos 0 <ℤ value_of m (corner_of t ((n + 2) % 3))
third t n m h e some = subst (λ p. pos 0 <ℤ value_of p (corner_of t ((n + 2) % 3))) (sym e) (side_plane-third t n h some)

pub returns-in-0-clause-side : goal.returns-in-0-clause-side
returns-in-0-clause-side c = made c.args.tri 0 c.args.i _ _ c.side_through.result c.in-0.is c.normal_of.ensures.value c.longest_axis-axis.ensures c.side_through.ensures

pub returns-in-0-clause-third : goal.returns-in-0-clause-third
returns-in-0-clause-third c = third c.args.tri c.args.i c.side_through.result c.requires.index (returns-in-0-clause-side c)

pub returns-in-1-clause-side : goal.returns-in-1-clause-side
returns-in-1-clause-side c = made c.args.tri 1 c.args.i _ _ c.side_through-in-1.result c.in-1.is c.normal_of.ensures.value c.longest_axis-axis.ensures c.side_through-in-1.ensures

pub returns-in-1-clause-third : goal.returns-in-1-clause-third
returns-in-1-clause-third c = third c.args.tri c.args.i c.side_through-in-1.result c.requires.index (returns-in-1-clause-side c)

pub returns-in_default-clause-side : goal.returns-in_default-clause-side
returns-in_default-clause-side c =
    let two : c.args.i ≡ 2 = omega (arith, c.requires.index, c.in_default) in
    made c.args.tri 2 c.args.i _ _ c.side_through-in_default.result two c.normal_of.ensures.value c.longest_axis-axis.ensures c.side_through-in_default.ensures

pub returns-in_default-clause-third : goal.returns-in_default-clause-third
returns-in_default-clause-third c = third c.args.tri c.args.i c.side_through-in_default.result c.requires.index (returns-in_default-clause-side c)
