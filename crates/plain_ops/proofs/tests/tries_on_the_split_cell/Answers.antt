use Rattle.mesh_types.specs.declared.tries.Try.TheVariants.{Shift, Collapse}
use Rattle.plain_ops.proofs.OneCell.{split-candidate, moves_in, moves_out, shifts}
use Rattle.plain_ops.proofs.tests.tries_on_the_split_cell.Goals as goal

pub verdict_in-requires-clause-candidate : goal.verdict_in-requires-clause-candidate
verdict_in-requires-clause-candidate g c = split-candidate _ c.in-Some.mesh (Collapse 8 0) c.in-Some.is c.in_ok-cell.ensures moves_in

pub verdict_in-requires-in-Some-clause-candidate : goal.verdict_in-requires-in-Some-clause-candidate
verdict_in-requires-in-Some-clause-candidate g c = split-candidate _ c.in-Some.mesh (Collapse 0 8) c.in-Some.is c.in_ok-cell.ensures moves_out

pub verdict_in-requires-in-Some-2-clause-candidate : goal.verdict_in-requires-in-Some-2-clause-candidate
verdict_in-requires-in-Some-2-clause-candidate g c = split-candidate _ c.in-Some.mesh (Shift 8 0) c.in-Some.is c.in_ok-cell.ensures shifts
