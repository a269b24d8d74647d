use Rattle.std.proofs.Common.{[], ◌∷◌, All, ap, length, length-append, subst, sym, arith}
use Rattle.std.proofs.lemmas.List.Elements.{All-append, All-cons, All-nil}
use Rattle.grid.specs.Boxes.{IsTriInBox}
use Rattle.grid.specs.Limits.{largest_side}
use Rattle.mesher.proofs.tests.open_cube.Goals as goal

pub loop-i-preserved : goal.loop-i-preserved
loop-i-preserved c = record {
  count = omega (arith, ap length c.in_ok-push.ensures.items, length-append c.loop-i.triangles.items (c.tri.result ∷ []), c.loop-i.invariant.count);
  inside =
      subst (All (IsTriInBox largest_side)) (sym c.in_ok-push.ensures.items)
      (All-append (IsTriInBox largest_side) c.loop-i.triangles.items (c.tri.result ∷ []) c.loop-i.invariant.inside
      (All-cons (IsTriInBox largest_side) c.tri.result [] c.tri.ensures (All-nil (IsTriInBox largest_side))));
}
