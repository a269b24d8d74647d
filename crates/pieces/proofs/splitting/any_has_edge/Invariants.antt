use Rattle.std.proofs.Common.{◌≡◌, ◌&&◌, drop, map}
use Rattle.std.specs.List.{list_any}
use Rattle.grid.specs.Simplices.{has}
use Rattle.pieces.proofs.splitting.any_has_edge.Given as goal

abbrev pub invariant-loop-piece : goal.invariant-loop-piece
invariant-loop-piece g l = list_any (λ x. has x l.cut.u && has x l.cut.v) (map g.S.Simplex.corners (drop l.piece-index l.pieces)) ≡ list_any (λ x. has x l.cut.u && has x l.cut.v) (map g.S.Simplex.corners l.pieces)
