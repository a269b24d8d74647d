-- The 24 oriented faces of a cube, by the places of their corners in it.
use Rattle.std.proofs.Common.{◌≡◌, ℕ, ◌+◌, ◌*◌, ◌/◌, ◌%◌, Bool, true, not, ◌&&◌, ◌||◌, List, [], ◌∷◌, map, count_by, nat_eq, nat_le, flat_map, refl}
use Rattle.std.specs.List.{list_all}
use Rattle.grid.specs.Boxes.{Axis, along_x, along_y, along_z}
use Rattle.grid.specs.Simplices.{faces}
use Rattle.mesh_types.specs.Lattice.{number_at, paths}

-- a place of the lattice, or of a corner in its cube
pub record Place : Type 0 where
  pub x : ℕ
  pub y : ℕ
  pub z : ℕ

abbrev pub place : ℕ → ℕ → ℕ → Place
place i j k = record { x = i; y = j; z = k }

abbrev pub along : Axis → Place → ℕ
along along_x p = p.x
along along_y p = p.y
along along_z p = p.z

-- a face of a cube
pub record Kind : Type 0 where
  pub a : Place
  pub b : Place
  pub c : Place

-- the number of the corner c of the cube at p
abbrev pub at : ℕ → Place → Place → ℕ
at n p c = number_at n (p.x + c.x) (p.y + c.y) (p.z + c.z)

-- the face of that kind of the cube at p
abbrev pub face_at : ℕ → Place → Kind → List ℕ
face_at n p k = at n p k.a ∷ at n p k.b ∷ at n p k.c ∷ []

-- corners by three bits
abbrev corner : ℕ → Place
corner c = place (c % 2) (c / 2 % 2) (c / 4)

abbrev kind_of : List ℕ → Kind
kind_of (a ∷ b ∷ c ∷ []) = record { a = corner a; b = corner b; c = corner c }
kind_of f = record { a = corner 0; b = corner 0; c = corner 0 }

abbrev pub kinds : List Kind
kinds = map kind_of (flat_map faces (paths (λ x y z. x + 2 * y + 4 * z)))

-- ---- tests of kinds
abbrev pub small : Place → Bool
small c = nat_le c.x 1 && nat_le c.y 1 && nat_le c.z 1

abbrev pub is_small : Kind → Bool
is_small k = small k.a && small k.b && small k.c

pub all_small : list_all is_small kinds ≡ true
all_small = refl

-- the step from a to b is the step from c to d
abbrev pub same_step : Place → Place → Place → Place → Bool
same_step a b c d = nat_eq (a.x + d.x) (c.x + b.x) && nat_eq (a.y + d.y) (c.y + b.y) && nat_eq (a.z + d.z) (c.z + b.z)

-- one kind is the other, moved
abbrev pub is_moved : Kind → Kind → Bool
is_moved k l = same_step k.a k.b l.a l.b && same_step k.a k.c l.a l.c

abbrev pub rotated : Kind → Kind
rotated k = record { a = k.b; b = k.c; c = k.a }

abbrev pub is_match : Kind → Kind → Bool
is_match k l = is_moved k l || (is_moved k (rotated l) || is_moved k (rotated (rotated l)))

abbrev pub same_place : Place → Place → Bool
same_place c d = nat_eq c.x d.x && nat_eq c.y d.y && nat_eq c.z d.z

-- a kind that is moved to another is that kind, and none is rotated and moved to another
abbrev pub is_apart : Kind → Kind → Bool
is_apart k l = (not (is_moved k l) || same_place k.a l.a) && (not (is_moved k (rotated l)) && not (is_moved k (rotated (rotated l))))

pub all_apart : list_all (λ k. list_all (is_apart k) kinds) kinds ≡ true
all_apart = refl

pub all_once : list_all (λ k. nat_le (count_by (is_match k) kinds) 1) kinds ≡ true
all_once = refl
