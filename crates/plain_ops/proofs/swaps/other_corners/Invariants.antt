use Rattle.std.proofs.Common.{◌≡◌, ◌++◌, drop, length}
use Rattle.std.specs.List.{flat_map}
use Rattle.grid.specs.Views.{corners_of}
use Rattle.plain_ops.proofs.swaps.other_corners.Given as goal

abbrev pub invariant-loop-i : goal.invariant-loop-i
invariant-loop-i l = record {
  rest : l.all.items ++ flat_map (λ y. y) (corners_of (drop l.i l.tets)) ≡ flat_map (λ y. y) (corners_of (drop 1 l.tets));
  end : l.i-end ≡ length l.tets;
}
