use Rattle.std.proofs.Common.{◌≡◌, ◌++◌, drop, map}
use Rattle.std.specs.List.{flat_map}
use Rattle.grid.specs.Views.{corners_of}
use Rattle.mesh_types.specs.Refines.{sub_all}
use Rattle.mesh_store.specs.Exchanges.{tet_in}
use Rattle.mesh_store.proofs.splitting.tet_pieces.Given as goal

abbrev pub invariant-loop-slot : goal.invariant-loop-slot
invariant-loop-slot l = corners_of l.all.items ++ flat_map (sub_all l.first l.cuts) (map (tet_in l.slots.slots) (drop l.slot-index l.numbers)) ≡ flat_map (sub_all l.first l.cuts) (map (tet_in l.slots.slots) l.numbers)
