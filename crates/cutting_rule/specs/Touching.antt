-- Where a triangle's wanted edges and its section can be.
use Rattle.std.specs.Prelude.{◌≡◌, ℕ, zero, suc, ℤ, pos, ◌≤ℤ◌, Bool, true, false, ◌&&◌, ◌||◌, if◌then◌else◌, Option, None, Some, List, [], ◌∷◌, map}
use Rattle.std.specs.List.{list_any}
use Rattle.std.specs.Ordering.{int_eq}
use Rattle.grid.specs.declared.shapes.Point.{Point}
use Rattle.grid.specs.declared.shapes.Tri.{Tri}
use Rattle.grid.specs.Boxes.{IsInBox}
use Rattle.grid.specs.Planes.{Plane, side_plane, snap_sign}
use Rattle.grid.specs.Limits.{largest_side}
use Rattle.mesh_types.specs.CuttingRule.{lies_above, lies_on, is_crossed, reaches, splits, section_plane, phase_plane, boxes_meet, is_in_section}
use Rattle.cutting_rule.specs.Bounds.{is_met}
use Rattle.cutting_rule.specs.Section.{IsWithin}
use Rattle.cutting_rule.specs.declared.touch.Touch.{Touch}

-- a point lies on the triangle's plane, or one below it and another above it
abbrev pub touches_plane : Tri → List Point → Bool
touches_plane t ps = list_any (lies_on (section_plane t)) ps || splits (section_plane t) ps

-- some of the points lie on a plane or above it
abbrev pub has_some_within : Plane → List Point → Bool
has_some_within m ps = list_any (lies_on m) ps || list_any (lies_above m) ps

-- they do, and there is no side beyond which all the points lie
abbrev pub touches : Tri → List Point → Bool
touches t ps = touches_plane t ps && has_some_within (side_plane t 0) ps && has_some_within (side_plane t 1) ps && has_some_within (side_plane t 2) ps

-- a phase may want edges of a tetrahedron of these corners
abbrev pub may_want : Tri → ℕ → List Point → Bool
may_want t zero corners = is_crossed t corners
may_want t (suc i) corners = (list_any (lies_on (section_plane t)) corners && splits (side_plane t i) corners) && reaches t corners

-- which of the four phases may
abbrev pub phases_of : Tri → List Point → List Bool
phases_of t corners = may_want t 0 corners ∷ may_want t 1 corners ∷ may_want t 2 corners ∷ may_want t 3 corners ∷ []

-- the snapped signs of points at the triangle's plane
abbrev pub signs_at : Tri → List Point → List ℤ
signs_at t ps = map (snap_sign (section_plane t)) ps

-- a phase after the first wants the edge of these ends, which have the signs s and r
abbrev pub wants_along : Tri → ℕ → ℤ → ℤ → List Point → Bool
wants_along t i s r ends =
    (int_eq s (pos 0) && int_eq r (pos 0)) && (splits (phase_plane t i) ends && (reaches t ends && boxes_meet ends t.0))

-- which phases may want edges of a tetrahedron of these corners, and their signs
abbrev pub touch_of : Tri → List Point → Touch
touch_of t corners = record { phases = phases_of t corners; signs = signs_at t corners }

-- the same where the corners touch
abbrev pub touch : Tri → List Point → Option Touch
touch t corners = if touches t corners then Some (touch_of t corners) else None

-- the box from lo to hi meets each box that the triangle's bounding box meets, and has each point of the section
pub record IsReach (t : Tri) (lo hi : Point) : Type 0 where
  pub x_ordered : lo.x ≤ℤ hi.x
  pub y_ordered : lo.y ≤ℤ hi.y
  pub z_ordered : lo.z ≤ℤ hi.z
  pub meeting : (ps : List Point) → is_met lo hi ps ≡ false → boxes_meet ps t.0 ≡ false
  pub section : (p : Point) → IsInBox largest_side p → is_in_section t p ≡ true → IsWithin lo hi p
