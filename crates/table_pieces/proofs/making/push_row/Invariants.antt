use Rattle.std.proofs.Common.{◌≡◌, ◌++◌, map, take}
use Rattle.grid.specs.Views.{corners_of}
use Rattle.table_pieces.specs.Labels.{arranged, number_at}
use Rattle.table_pieces.proofs.making.push_row.Given as goal

abbrev pub invariant-loop-labels : goal.invariant-loop-labels
invariant-loop-labels l = corners_of l.all.items ≡ corners_of l.fn.all.items ++ map (λ y. arranged l.ranks (map (number_at l.numbers) y)) (take l.labels-index l.row)
