use Rattle.std.proofs.Common.{◌≡◌, ◌&&◌, false, map, sym, rules}
use Rattle.std.specs.List.{list_any}
use Rattle.grid.specs.Simplices.{has}
use Rattle.pieces.proofs.SplitLemmas.{flat_map-sub-none}
use Rattle.pieces.proofs.splitting.split_each.Goals as goal

pub returns-then-not-any_has_edge : goal.returns-then-not-any_has_edge
returns-then-not-any_has_edge g c =
    let none : list_any (λ x. has x c.args.cut.now.u && has x c.args.cut.now.v) (map g.S.Simplex.corners c.args.pieces.now.items) ≡ false = search rules in
    sym (flat_map-sub-none c.args.cut.now.u c.args.cut.now.v c.args.k (map g.S.Simplex.corners c.args.pieces.now.items) none)
