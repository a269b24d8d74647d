-- The slots that a search found, and their tetrahedra.
use Rattle.std.specs.Prelude.{◌≡◌, ℕ, Bool, ◌&&◌, if◌then◌else◌, List, [], ◌∷◌, map}
use Rattle.grid.specs.declared.shapes.Point.{Point}
use Rattle.grid.specs.declared.shapes.Tri.{Tri}
use Rattle.tet_slots.specs.declared.slot.Slot.{Slot}
use Rattle.mesh_types.specs.Phases.{points_of}
use Rattle.tet_slots.specs.Searches.{numbers_of}
use Rattle.tet_slots.specs.Slots.{slot_at}
use Rattle.cutter.specs.declared.touching.Touched.{Touched}
use Rattle.cutter.specs.declared.touching.Touching.{Touching}
use Rattle.cutting_rule.specs.Bounds.{is_met}
use Rattle.cutting_rule.specs.Touching.{touches, touch_of, IsReach}

-- the tetrahedra of slots by their numbers
abbrev pub tets_at : List Slot → List ℕ → List (List ℕ)
tets_at slots ns = map (λ k. (slot_at slots k).tet.0) ns

-- a live slot whose tetrahedron meets the box from lo to hi and touches the triangle
abbrev pub is_touching : List Point → Tri → Point → Point → Slot → Bool
is_touching points t lo hi s = s.live && (is_met lo hi (points_of points s.tet.0) && touches t (points_of points s.tet.0))

-- a slot by its number, and what is known of the corners of its tetrahedron
abbrev pub touched_at : List Point → List Slot → Tri → ℕ → Touched
touched_at points slots t k = record { slot = k; touch = touch_of t (points_of points (slot_at slots k).tet.0) }

-- the same of these corners, where the triangle touches them
abbrev pub picked_of : Tri → ℕ → List Point → List Touched
picked_of t k corners = if touches t corners then record { slot = k; touch = touch_of t corners } ∷ [] else []

abbrev pub picked : List Point → List Slot → Tri → ℕ → List Touched
picked points slots t k = picked_of t k (points_of points (slot_at slots k).tet.0)

-- the same where the slot is live, and meets the box from lo to hi
abbrev pub picked_near : List Point → List Slot → Tri → Point → Point → ℕ → List Touched
picked_near points slots t lo hi k = if (slot_at slots k).live && is_met lo hi (points_of points (slot_at slots k).tet.0) then picked points slots t k else []

-- the live slots that a triangle touches, in rising order, by a box about it
pub record AreTouching (points : List Point) (slots : List Slot) (t : Tri) (near : Touching) : Type 0 where
  pub reach : IsReach t near.reach.lo near.reach.hi
  pub found : near.slots.items ≡ map (touched_at points slots t) (numbers_of (is_touching points t near.reach.lo near.reach.hi) 0 slots)
