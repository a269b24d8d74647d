use Rattle.std.proofs.Common.{List, ℤ, subst, sym, arith, All}
use Rattle.grid.specs.Limits.{largest_side}
use Rattle.soup.specs.Placement.{placed_point, IsPointInside}
use Rattle.soup.proofs.Boxed.{point_inside, wider_point}
use Rattle.soup.proofs.placing.placed_in.Goals as goal

pub placed_triangles-requires-clause-inside : goal.placed_triangles-requires-clause-inside
placed_triangles-requires-clause-inside c =
    subst (λ (vs : List (List ℤ)). All (λ v. IsPointInside 0 largest_side (placed_point c.start_of-shift.result v)) vs) (sym c.as_slice.ensures)
    (subst (λ (moved : List ℤ). All (λ v. IsPointInside 0 largest_side (placed_point moved v)) c.args.raw.now.vertices) (sym c.start_of-shift.ensures)
    (λ k d lt. wider_point 0 c.args.side largest_side _ c.requires.side (point_inside c.args.raw.now c.args.side 0 k d (omega (arith, c.requires.fits)) lt)))
