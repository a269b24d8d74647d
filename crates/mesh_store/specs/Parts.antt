-- What a store shows, and the mesh that it stands for.
use Rattle.std.specs.Prelude.{ℕ, ℤ, true, if◌then◌else◌, Option, None, unwrap_or, List, [], ◌∷◌, length, map}
use Rattle.grid.specs.declared.shapes.Point.{Point}
use Rattle.grid.specs.Meshes.{Mesh}
use Rattle.grid.specs.Views.{corners_of, triples_of}
use Rattle.mesh_types.specs.declared.lists.Lists.{Lists}
use Rattle.mesh_types.specs.Tracking.{in_order_once}
use Rattle.tet_slots.specs.declared.slot.Slot.{Slot}
use Rattle.tet_slots.specs.Slots.{SlotLists}
use Rattle.tracked.specs.Keys.{Keys, faces_in}

-- the points, the slots with their live flags, and the keys of the tracked faces
pub record Parts : Type 0 where
  pub points : List Point
  pub slots : List Slot
  pub keys : Keys

abbrev pub parts_of : SlotLists → Keys → Parts
parts_of s keys = record { points = s.points; slots = s.slots; keys = keys }

-- the tetrahedra of the live slots, in rising order of the slots
abbrev pub live_tets : List Slot → List (List ℕ)
live_tets [] = []
live_tets (s ∷ ss) = if s.live then s.tet.0 ∷ live_tets ss else live_tets ss

-- the tracked faces in rising order: the keys that are in
abbrev pub tracked_in : Keys → List (List ℕ)
tracked_in keys = in_order_once (triples_of (faces_in keys))

-- the mesh: its tetrahedra are the live ones, and each slot was made
abbrev pub mesh_in : Parts → Mesh
mesh_in m = record { points = m.points; tets = live_tets m.slots; tracked = tracked_in m.keys; made = length m.slots }

-- the parts, and while a transaction is open those at its begin; and the side of the box
pub record StoreView : Type 0 where
  pub parts : Parts
  pub at_begin : Option Parts
  pub side : ℤ

-- a live slot of these corners
abbrev pub live_slot : List ℕ → Slot
live_slot x = record { tet = record { 0 = x }; live = true }

-- the parts of a mesh whose tetrahedra are in slots of their own, in order
abbrev pub parts_from : Lists → Parts
parts_from m = record { points = m.points; slots = map live_slot (corners_of m.tets); keys = map (λ f. (f, true)) m.tracked }

-- the parts at begin, and closed
abbrev pub rolled_back : StoreView → StoreView
rolled_back v = record { parts = unwrap_or v.at_begin v.parts; at_begin = None; side = v.side }
