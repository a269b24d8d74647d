use Rattle.std.proofs.Common.{◌≡◌, take, map, [], false}
use Rattle.grid.specs.Views.{corners_of}
use Rattle.mesh_store.specs.Parts.{live_slot}
use Rattle.mesh_store.proofs.filling.fill_slots.Given as goal

abbrev pub invariant-loop-point : goal.invariant-loop-point
invariant-loop-point l = l.slots ≡ record { points = take l.point-index l.point-items; slots = []; forgotten = [] }

abbrev pub invariant-loop-tet : goal.invariant-loop-tet
invariant-loop-tet l = l.slots ≡ record { points = l.fn.mesh.points; slots = map live_slot (corners_of (take l.tet-index l.tet-items)); forgotten = map (λ _. false) (take l.tet-index l.tet-items) }
