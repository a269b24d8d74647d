use Rattle.std.proofs.Common.{All, sym, subst}
use Rattle.grid.specs.Boxes.{IsInBox}
use Rattle.grid.specs.Determinants.{IsPositive}
use Rattle.grid.specs.Views.{corners_of}
use Rattle.grid.specs.Limits.{largest_side}
use Rattle.plain_ops.proofs.after.is_better.Goals as goal

pub largest_energy-new-requires-clause-in_box : goal.largest_energy-new-requires-clause-in_box
largest_energy-new-requires-clause-in_box c = subst (All (IsInBox largest_side)) (sym c.as_slice-points.ensures) c.requires.in_box

pub largest_energy-new-requires-clause-positive : goal.largest_energy-new-requires-clause-positive
largest_energy-new-requires-clause-positive c =
    subst (λ (A : Type 0). A) (sym (λ i. All (IsPositive (c.as_slice-points.ensures i)) (corners_of (c.deref.ensures.value i)))) c.requires.fresh_positive

pub largest_energy-old-requires-clause-in_box : goal.largest_energy-old-requires-clause-in_box
largest_energy-old-requires-clause-in_box c = subst (All (IsInBox largest_side)) (sym c.as_slice-points.ensures) c.requires.in_box

pub largest_energy-old-requires-clause-positive : goal.largest_energy-old-requires-clause-positive
largest_energy-old-requires-clause-positive c =
    subst (λ (A : Type 0). A) (sym (λ i. All (IsPositive (c.as_slice-points.ensures i)) (corners_of (c.deref-2.ensures.value i)))) c.requires.gone_positive
