use Rattle.std.proofs.Common.{◌≡◌, drop}
use Rattle.mesh_types.specs.Refines.{is_touched}
use Rattle.pieces.proofs.splitting.is_touched.Given as goal

abbrev pub invariant-loop-cut : goal.invariant-loop-cut
invariant-loop-cut g l = is_touched (drop l.cut-index l.cuts) (g.S.Simplex.corners l.simplex) ≡ is_touched l.cuts (g.S.Simplex.corners l.simplex)
