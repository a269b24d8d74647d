use Rattle.std.proofs.Common.{◌≡◌, ◌+◌, drop, map}
use Rattle.std.specs.List.{flat_map}
use Rattle.mesh_types.specs.Refines.{sub_all}
use Rattle.pieces.proofs.splitting.split.Given as goal

abbrev pub invariant-loop-cut : goal.invariant-loop-cut
invariant-loop-cut g l = record {
  number : l.k ≡ l.first + l.cut-index;
  pieces : flat_map (sub_all l.k (drop l.cut-index l.cuts)) (map g.S.Simplex.corners l.pieces.items) ≡ sub_all l.first l.cuts (g.S.Simplex.corners l.fn.simplex);
}
