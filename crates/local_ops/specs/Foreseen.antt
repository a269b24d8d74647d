-- What a try would make, as it is told from the mesh before.
use Rattle.std.specs.Prelude.{◌≡◌, ℕ, Bool, ◌&&◌, if◌then◌else◌, nat_eq, nat_lt, ℤ, pos, List, [], ◌∷◌, ◌++◌, map, length}
use Rattle.std.specs.List.{flat_map, list_all}
use Rattle.grid.specs.declared.shapes.Point.{Point}
use Rattle.grid.specs.Boxes.{IsInBox}
use Rattle.grid.specs.Determinants.{point_at, det}
use Rattle.grid.specs.Energy.{energy}
use Rattle.grid.specs.Meshes.{Mesh}
use Rattle.grid.specs.Simplices.{has, replaced}
use Rattle.grid.specs.Limits.{largest_side}
use Rattle.mesh_types.specs.declared.tries.Try.{Try}
use Rattle.mesh_types.specs.declared.tries.Try.TheVariants.{Split, Shift, Collapse}
use Rattle.mesh_types.specs.declared.tries.Verdict.TheVariants as verdict
use Rattle.mesh_types.specs.Results.{result_of}
use Rattle.mesh_types.specs.Verdicts.{Setting, IsVerdict, energy_at, largest}
use Rattle.tet_slots.specs.declared.slot.Slot.{Slot}
use Rattle.tet_slots.specs.Searches.{numbers_of}
use Rattle.mesh_store.specs.Parts.{Parts, mesh_in}
use Rattle.local_ops.specs.Attempts.{PassesBelow, may_go}
use Rattle.local_ops.specs.Measures.{corners_at, is_positive}
use Rattle.local_ops.specs.declared.foreseeing.Sight.{Sight}
use Rattle.local_ops.specs.declared.foreseeing.Sight.TheVariants.{Refused, Better, Unseen}

-- ---- tetrahedra with a corner u at the point p
-- the point of a corner
abbrev pub moved_at : List Point → ℕ → Point → ℕ → Point
moved_at points u p c = if nat_eq c u then p else point_at points c

abbrev pub det_with : List Point → ℕ → Point → List ℕ → ℤ
det_with points u p (a ∷ b ∷ c ∷ d ∷ []) = det (moved_at points u p a) (moved_at points u p b) (moved_at points u p c) (moved_at points u p d)
det_with points u p x = pos 0

abbrev pub energy_with : List Point → ℕ → Point → List ℕ → ℕ
energy_with points u p (a ∷ b ∷ c ∷ d ∷ []) = energy (moved_at points u p a) (moved_at points u p b) (moved_at points u p c) (moved_at points u p d)
energy_with points u p x = 0

-- ---- what becomes of a mesh by a split, a shift or a collapse
-- the points, with one more at p where the try makes one
abbrev pub points_with : Try → Point → List Point → List Point
points_with (Split u v) p points = points ++ p ∷ []
points_with (Shift u way) p points = points ++ p ∷ []
points_with t p points = points

-- what a tetrahedron becomes that goes, where there are n points
abbrev pub pieces_of : Try → ℕ → List ℕ → List (List ℕ)
pieces_of (Split u v) n x = replaced u n x ∷ replaced v n x ∷ []
pieces_of (Shift u way) n x = replaced u n x ∷ []
pieces_of (Collapse u v) n x = if has x v then [] else replaced u v x ∷ []
pieces_of t n x = []

-- the point that u goes to is that of v
abbrev pub IsAtEnd : Try → List Point → Point → Type 0
IsAtEnd (Collapse u v) points p = p ≡ point_at points v
IsAtEnd t points p = Unit {0}

-- the tetrahedra in the slots that the try may kill
abbrev pub near_tets : Try → List Slot → List (List ℕ)
near_tets t slots = map (corners_at slots) (numbers_of (may_go t) 0 slots)

-- the result of the try is read off these tetrahedra, with its new corners at p
pub record IsAim (l : ℕ) (m : Parts) (t : Try) (p : Point) : Type 0 where
  pub within : IsInBox largest_side p
  pub at_end : IsAtEnd t m.points p
  pub points : points_with t p m.points ≡ (result_of l (mesh_in m) t).mesh.points
  pub gone : near_tets t m.slots ≡ (result_of l (mesh_in m) t).gone
  pub fresh : flat_map (pieces_of t (length m.points)) (near_tets t m.slots) ≡ (result_of l (mesh_in m) t).fresh

-- ---- tests of what a tetrahedron becomes
-- each piece is positive
abbrev pub become_positive : Try → Point → List Point → List ℕ → Bool
become_positive t p points x = list_all (is_positive (points_with t p points)) (pieces_of t (length points) x)

-- the energy of each piece is below n
abbrev pub become_lower : Try → Point → List Point → ℕ → List ℕ → Bool
become_lower t p points n x = list_all (λ y. nat_lt (energy_at (points_with t p points) y) n) (pieces_of t (length points) x)

-- the energy of each piece is below the largest of these tetrahedra
abbrev pub are_lower : Try → Point → List Point → List (List ℕ) → Bool
are_lower t p points xs =
    let n : ℕ = largest (map (energy_at points) xs) in
    nat_lt 0 n && list_all (become_lower t p points n) xs

-- ---- what is seen
-- where the tests before Full are passed, the try is refused for the reason, or passes those before Uncovered
abbrev pub IsSight : Setting → Mesh → Try → Sight → Type 0
IsSight s m t (Refused w) = PassesBelow s m t 3 → IsVerdict s m t (verdict.Refused w)
IsSight s m t Better = PassesBelow s m t 3 → PassesBelow s m t 7
IsSight s m t Unseen = Unit {0}
