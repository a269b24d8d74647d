use Rattle.std.proofs.Common.{◌↔◌, All, IsTrue, sym, subst}
use Rattle.grid.specs.Boxes.{IsInBox}
use Rattle.grid.specs.Views.{triples_of}
use Rattle.grid.specs.Limits.{largest_side}
use Rattle.plain_ops.specs.Afters.{IsFine}
use Rattle.plain_ops.proofs.after.is_inside.Goals as goal

pub are_covered-requires-clause-in_box : goal.are_covered-requires-clause-in_box
are_covered-requires-clause-in_box c = subst (All (IsInBox largest_side)) (sym c.as_slice-points.ensures) c.requires.in_box

pub returns : goal.returns
returns c =
    let env = c.args.env.now in
    subst (λ (A : Type 0). A) (λ i. IsTrue c.are_covered.result ↔ All (IsFine env c.args.e (triples_of (c.as_slice.ensures i)) (c.as_slice-points.ensures i)) (triples_of (c.as_slice-faces.ensures i))) c.are_covered.ensures
