use Rattle.std.proofs.Common.{◌≡◌, take, map}
use Rattle.std.specs.List.{flat_map}
use Rattle.grid.specs.Simplices.{sub}
use Rattle.pieces.proofs.splitting.split_each.Given as goal

abbrev pub invariant-loop-piece : goal.invariant-loop-piece
invariant-loop-piece g l = map g.S.Simplex.corners l.spare.items ≡ flat_map (sub l.cut.u l.cut.v l.k) (map g.S.Simplex.corners (take l.piece-index l.piece-items))
