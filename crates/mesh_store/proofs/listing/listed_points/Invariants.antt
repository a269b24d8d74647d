use Rattle.std.proofs.Common.{◌≡◌, take, length}
use Rattle.mesh_store.proofs.listing.listed_points.Given as goal

abbrev pub invariant-loop-i : goal.invariant-loop-i
invariant-loop-i l = record { points : l.points.items ≡ take l.i l.slots.points; end : l.i-end ≡ length l.slots.points }
