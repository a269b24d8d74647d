use Rattle.std.proofs.Common.{◌∙◌, All, sym, subst}
use Rattle.grid.specs.Boxes.{IsInBox}
use Rattle.grid.specs.Meshes.{Mesh, IsWellFormed, IsWithinLimits}
use Rattle.mesh_types.specs.Journals.{AllPositive}
use Rattle.plain_ops.proofs.OneCell.{is_split, split-well_formed, split-within, split-in_box, split-positive}
use Rattle.plain_ops.proofs.tests.verdict_in.Goals as goal

pub attempt_plain-requires-clause-well_formed : goal.attempt_plain-requires-clause-well_formed
attempt_plain-requires-clause-well_formed c = subst IsWellFormed (sym (c.requires.cell ∙ is_split)) split-well_formed

pub attempt_plain-requires-clause-within : goal.attempt_plain-requires-clause-within
attempt_plain-requires-clause-within c = subst IsWithinLimits (sym (c.requires.cell ∙ is_split)) split-within

pub attempt_plain-requires-clause-in_box : goal.attempt_plain-requires-clause-in_box
attempt_plain-requires-clause-in_box c = subst (λ (m : Mesh). All (IsInBox 16) m.points) (sym (c.requires.cell ∙ is_split)) split-in_box

pub attempt_plain-requires-clause-positive : goal.attempt_plain-requires-clause-positive
attempt_plain-requires-clause-positive c = subst AllPositive (sym (c.requires.cell ∙ is_split)) split-positive
