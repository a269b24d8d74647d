-- Tests of the tetrahedra that a try makes and of those that it replaces.
use Rattle.std.specs.Prelude.{ℕ, Bool, not, nat_lt, pos, List, map}
use Rattle.std.specs.List.{filter, list_all}
use Rattle.std.specs.Int.Signed.{lt_z}
use Rattle.grid.specs.declared.shapes.Point.{Point}
use Rattle.grid.specs.Determinants.{det_at}
use Rattle.grid.specs.Simplices.{faces, count}
use Rattle.tet_slots.specs.declared.slot.Slot.{Slot}
use Rattle.tet_slots.specs.Slots.{slot_at}

-- the determinant is above 0
abbrev pub is_positive : List Point → List ℕ → Bool
is_positive points x = lt_z (pos 0) (det_at points x)

-- each face of x occurs at most once among the tetrahedra
abbrev pub has_single_faces : List (List ℕ) → List ℕ → Bool
has_single_faces tets x = list_all (λ g. nat_lt (count g tets) 2) (faces x)

-- the tetrahedron in a slot
abbrev pub corners_at : List Slot → ℕ → List ℕ
corners_at slots i = (slot_at slots i).tet.0

-- of these slots, the tetrahedra of those that are dead
abbrev pub dead_tets : List Slot → List ℕ → List (List ℕ)
dead_tets slots numbers = map (corners_at slots) (filter (λ i. not (slot_at slots i).live) numbers)
