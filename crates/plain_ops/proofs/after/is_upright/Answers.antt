use Rattle.std.proofs.Common.{◌↔◌, All, IsTrue, sym, subst}
use Rattle.grid.specs.Boxes.{IsInBox}
use Rattle.grid.specs.Determinants.{IsPositive}
use Rattle.grid.specs.Views.{corners_of}
use Rattle.grid.specs.Limits.{largest_side}
use Rattle.plain_ops.proofs.after.is_upright.Goals as goal

pub are_positive-requires : goal.are_positive-requires
are_positive-requires c = record { in_box = subst (All (IsInBox largest_side)) (sym c.as_slice.ensures) c.requires.in_box }

pub returns : goal.returns
returns c =
    subst (λ (A : Type 0). A) (λ i. IsTrue c.are_positive.result ↔ All (IsPositive (c.as_slice.ensures i)) (corners_of (c.deref.ensures.value i))) c.are_positive.ensures
