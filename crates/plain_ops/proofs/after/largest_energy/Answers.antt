use Rattle.std.proofs.Common.{[], arith}
use Rattle.grid.specs.declared.shapes.Tet.{Tet}
use Rattle.grid.specs.Determinants.{IsPositive}
use Rattle.plain_ops.proofs.RimPoints.{at-place}
use Rattle.plain_ops.proofs.after.largest_energy.Goals as goal

pub energy_at-requires-clause-positive : goal.energy_at-requires-clause-positive
energy_at-requires-clause-positive c =
    at-place (λ (x : Tet). x.0) (IsPositive c.args.points.now) c.args.tets.now (record { 0 = [] }) c.loop-tet.tet-index c.requires.positive (omega arith)
