use Rattle.std.proofs.Common.{◌≡◌, take, length}
use Rattle.grid.specs.Views.{corners_of}
use Rattle.mesh_store.specs.Parts.{live_tets}
use Rattle.mesh_store.proofs.listing.listed_tets.Given as goal

abbrev pub invariant-loop-i : goal.invariant-loop-i
invariant-loop-i l = record { tets : corners_of l.tets.items ≡ live_tets (take l.i l.slots.slots); end : l.i-end ≡ length l.slots.slots }
