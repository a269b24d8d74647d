use Rattle.std.proofs.Common.{◌≡◌, All, sym, subst, true, refl}
use Rattle.grid.specs.Boxes.{IsInBox}
use Rattle.grid.specs.Meshes.{Mesh, IsWellFormed, IsWithinLimits}
use Rattle.mesh_types.specs.Journals.{AllPositive}
use Rattle.mesh_types.specs.Lattice.{lattice}
use Rattle.mesh_types.specs.declared.tries.Try.TheVariants.{Split}
use Rattle.mesh_types.specs.Tries.{is_candidate}
use Rattle.plain_ops.proofs.OneCell.{well_formed, within, in_box, positive}
use Rattle.plain_ops.proofs.tests.split_cell.Goals as goal

pub attempt_plain-requires-clause-well_formed : goal.attempt_plain-requires-clause-well_formed
attempt_plain-requires-clause-well_formed c = subst IsWellFormed (sym c.in_ok-mesh.ensures) well_formed

pub attempt_plain-requires-clause-within : goal.attempt_plain-requires-clause-within
attempt_plain-requires-clause-within c = subst IsWithinLimits (sym c.in_ok-mesh.ensures) within

pub attempt_plain-requires-clause-in_box : goal.attempt_plain-requires-clause-in_box
attempt_plain-requires-clause-in_box c = subst (λ (m : Mesh). All (IsInBox 16) m.points) (sym c.in_ok-mesh.ensures) in_box

is_split_candidate : is_candidate (lattice 16 1).tets (Split 0 7) ≡ true
unfolding lattice
is_split_candidate = refl

pub attempt_plain-requires-clause-candidate : goal.attempt_plain-requires-clause-candidate
attempt_plain-requires-clause-candidate c = subst (λ (m : Mesh). is_candidate m.tets (Split 0 7) ≡ true) (sym c.in_ok-mesh.ensures) is_split_candidate

pub attempt_plain-requires-clause-positive : goal.attempt_plain-requires-clause-positive
attempt_plain-requires-clause-positive c = subst AllPositive (sym c.in_ok-mesh.ensures) positive
