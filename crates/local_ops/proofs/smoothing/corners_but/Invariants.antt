use Rattle.std.proofs.Common.{◌≡◌, ◌++◌, drop}
use Rattle.std.specs.List.{flat_map}
use Rattle.local_ops.specs.Measures.{corners_at}
use Rattle.local_ops.specs.Smoothing.{corners_but}
use Rattle.local_ops.proofs.smoothing.corners_but.Given as goal

abbrev pub invariant-loop-slot : goal.invariant-loop-slot
invariant-loop-slot l = l.found.items ++ flat_map (λ i. corners_but l.u (corners_at l.slots.slots i)) (drop l.slot-index l.near) ≡ flat_map (λ i. corners_but l.u (corners_at l.slots.slots i)) l.near
