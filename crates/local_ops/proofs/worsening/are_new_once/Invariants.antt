use Rattle.std.proofs.Common.{◌≡◌, drop}
use Rattle.std.specs.List.{list_all}
use Rattle.grid.specs.Views.{corners_of}
use Rattle.local_ops.specs.Swaps.{are_new_once, has_new_once}
use Rattle.local_ops.proofs.worsening.are_new_once.Given as goal

abbrev pub invariant-loop-tet : goal.invariant-loop-tet
invariant-loop-tet l =
    list_all (has_new_once l.fn.x.0 l.fn.y.0 (corners_of l.new) l.far l.apex) (corners_of (drop l.tet-index l.new))
    ≡ are_new_once l.fn.x.0 l.fn.y.0 (corners_of l.new) l.far l.apex
