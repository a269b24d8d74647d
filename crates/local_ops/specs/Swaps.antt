-- The two sides of a face that is swapped.
use Rattle.std.specs.Prelude.{◌≡◌, ℕ, Bool, true, false, ◌&&◌, ◌||◌, nat_lt, if◌then◌else◌, List, [], ◌∷◌, count_by, Option, None, Some}
use Rattle.std.specs.List.{find, list_all}
use Rattle.grid.specs.declared.shapes.Point.{Point}
use Rattle.grid.specs.Simplices.{has, count, faces, is_rotation, replaced}
use Rattle.mesh_types.specs.Verdicts.{energy_at}
use Rattle.mesh_types.specs.Results.{first_outside, is_across}
use Rattle.tet_slots.specs.declared.slot.Slot.{Slot}
use Rattle.tet_slots.specs.Searches.{has_edge, numbers_of}
use Rattle.mesh_store.specs.Exchanges.{has_either, tet_in}
use Rattle.local_ops.specs.declared.swapping.Sides.{Sides}

-- the first slot that has the face, the first on the other side of it, and the corner of this that the first has not
pub record AreSides (slots : List Slot) (a b c : ℕ) (s : Sides) : Type 0 where
  pub first : find (λ i. has_either (a ∷ b ∷ c ∷ []) (tet_in slots i)) (numbers_of (has_edge a b) 0 slots) ≡ Some s.first
  pub second : find (λ i. is_across (a ∷ b ∷ c ∷ []) (tet_in slots s.first) (tet_in slots i)) (numbers_of (has_edge a b) 0 slots) ≡ Some s.second
  pub apex : first_outside (tet_in slots s.first) (tet_in slots s.second) ≡ Some s.apex

abbrev pub AreSidesIfAny : List Slot → ℕ → ℕ → ℕ → Option Sides → Type 0
AreSidesIfAny slots a b c None = Unit {0}
AreSidesIfAny slots a b c (Some s) = AreSides slots a b c s

-- ---- the swap that makes worse
-- x with the apex in place of each corner of the face
abbrev pub three_of : (a b c o : ℕ) → List ℕ → List (List ℕ)
three_of a b c o x = replaced a o x ∷ replaced b o x ∷ replaced c o x ∷ []

abbrev pub is_face_of : List ℕ → List ℕ → Bool
is_face_of f z = nat_lt 0 (count_by (is_rotation f) (faces z))

-- the face occurs once among the new tetrahedra, and is one of x or y or has both d and o
abbrev pub is_new_once : (x y : List ℕ) (new : List (List ℕ)) (d o : ℕ) → List ℕ → Bool
is_new_once x y new d o f = nat_lt (count f new) 2 && (is_face_of f x || (is_face_of f y || (has f d && has f o)))

abbrev pub has_new_once : (x y : List ℕ) (new : List (List ℕ)) (d o : ℕ) → List ℕ → Bool
has_new_once x y new d o z = list_all (is_new_once x y new d o) (faces z)

abbrev pub are_new_once : (x y : List ℕ) (new : List (List ℕ)) (d o : ℕ) → Bool
are_new_once x y new d o = list_all (has_new_once x y new d o) new

-- the energies are below the larger one of x and y
abbrev pub are_below : List Point → (x y : List ℕ) → List (List ℕ) → Bool
are_below points x y new = list_all (λ z. nat_lt (energy_at points z) (if nat_lt (energy_at points x) (energy_at points y) then energy_at points y else energy_at points x)) new

-- no tetrahedron has the new edge from d, the new faces occur once, and the energies do not fall
pub record IsSeenWorse (slots : List Slot) (points : List Point) (a b c : ℕ) (s : Sides) : Type 0 where
  pub d : ℕ
  pub free : numbers_of (has_edge d s.apex) 0 slots ≡ []
  pub once : are_new_once (tet_in slots s.first) (tet_in slots s.second) (three_of a b c s.apex (tet_in slots s.first)) d s.apex ≡ true
  pub worse : are_below points (tet_in slots s.first) (tet_in slots s.second) (three_of a b c s.apex (tet_in slots s.first)) ≡ false
