use Rattle.std.proofs.Common.{ap, arith, length}
use Rattle.std.proofs.lemmas.List.{length-append}
use Rattle.std.proofs.lemmas.List.Elements.{All-same, All-push}
use Rattle.grid.specs.declared.shapes.Tri.{Tri}
use Rattle.grid.specs.Boxes.{IsTriInBox}
use Rattle.grid.specs.Limits.{largest_side}
use Rattle.envelope_tree.proofs.envelope.tests.small_triangles.Goals as goal

pub loop-t-preserved : goal.loop-t-preserved
loop-t-preserved c =
    let e = c.in_ok-push.ensures.items in
    let n = c.loop-t.invariant.1 in
    (All-same (IsTriInBox largest_side) _ _ e (All-push (IsTriInBox largest_side) _ _ c.loop-t.invariant.0 c.small_triangle.ensures), omega (arith, ap length e, n, length-append {A = Tri}))
