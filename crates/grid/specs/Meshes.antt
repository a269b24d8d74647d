-- Meshes, and when they tile a box.
use Rattle.std.specs.Prelude.{◌≡◌, ℕ, ◌*◌, ◌^◌, ◌<◌, ◌≤◌, Bool, true, false, ◌&&◌, ◌||◌, nat_lt, nat_eq, map, length, pos, List, [], ◌∷◌, count_by, All}
use Rattle.std.specs.List.{Contains, AllByRecursion}
use Rattle.grid.specs.declared.shapes.Point.{Point}
use Rattle.grid.specs.Simplices.{all_faces, count, same_corners, rising, Rises, IsTet}
use Rattle.grid.specs.Determinants.{IsPositive, volume}
use Rattle.grid.specs.Boxes.{IsOnOneSide}
use Rattle.grid.specs.Limits.{most_points, most_made}

-- points, tetrahedra and tracked triples by their corners, and how many tetrahedra were ever made
pub record Mesh : Type 0 where
  pub points : List Point
  pub tets : List (List ℕ)
  pub tracked : List (List ℕ)
  pub made : ℕ

-- ---- the order of triples
-- x stands before y, as words do in a dictionary
abbrev pub is_below : List ℕ → List ℕ → Bool
is_below [] [] = false
is_below [] (b ∷ y) = true
is_below (a ∷ x) [] = false
is_below (a ∷ x) (b ∷ y) = nat_lt a b || (nat_eq a b && is_below x y)

-- each triple is below the later ones
abbrev pub Ordered : List (List ℕ) → Type 0
Ordered [] = Unit {0}
Ordered (x ∷ xs) = AllByRecursion (λ y. is_below x y ≡ true) xs × Ordered xs

-- ---- well-formed meshes
-- a rising triple of point numbers below n
pub record IsTriple (n : ℕ) (t : List ℕ) : Type 0 where
  pub three : length t ≡ 3
  pub rises : Rises t
  pub in_range : All (λ c. c < n) t

-- tetrahedra have four different corners that are points, tracked triples rise and stand in rising order, without repeats
pub record IsWellFormed (m : Mesh) : Type 0 where
  pub tets_are : All (IsTet (length m.points)) m.tets
  pub triples_are : All (IsTriple (length m.points)) m.tracked
  pub ordered : Ordered m.tracked
  pub made_is : length m.tets ≤ m.made

-- the mesh has no more than these
pub record IsWithinLimits (m : Mesh) : Type 0 where
  pub points_few : length m.points ≤ most_points
  pub made_few : m.made ≤ most_made

-- ---- pairing and volume
-- what a mesh that fills the box from 0 to length_of has, whatever the signs of its tetrahedra
pub record Fills (m : Mesh) (length_of : ℕ) : Type 0 where
  -- no oriented face occurs twice
  pub once : (a b c : ℕ) → count (a ∷ b ∷ c ∷ []) m.tets ≤ 1
  -- the corners of a face whose reverse does not occur lie on one side of the box
  pub rim : (a b c : ℕ) → 0 < count (a ∷ b ∷ c ∷ []) m.tets → count (a ∷ c ∷ b ∷ []) m.tets ≡ 0 → IsOnOneSide m.points length_of (a ∷ b ∷ c ∷ [])
  -- the determinants add up to six times the volume of the box
  pub volume_is : volume m.points m.tets ≡ pos (6 * length_of ^ 3)
  -- each tracked triple is the rising triple of a face
  pub tracked_are : All (Contains (map rising (all_faces m.tets))) m.tracked

-- the tetrahedra fill the box and no two have the same corners; none need be positive
pub record Weave (m : Mesh) (length_of : ℕ) : Type 0 where
  pub fills : Fills m length_of
  pub no_twins : (x : List ℕ) → count_by (λ y. same_corners x y) m.tets ≤ 1

-- the tetrahedra fill the box and each is positive
pub record Tiles (m : Mesh) (length_of : ℕ) : Type 0 where
  pub positive : All (IsPositive m.points) m.tets
  pub fills : Fills m length_of
