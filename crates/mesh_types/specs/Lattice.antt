-- The background lattice: a box cut into cubes, and each cube into the six tetrahedra of Kuhn's subdivision.
use Rattle.std.specs.Prelude.{ℕ, ◌+◌, ◌*◌, ◌/◌, ◌^◌, zero, suc, pos, List, [], ◌∷◌, ◌++◌}
use Rattle.grid.specs.declared.shapes.Point.{Point}
use Rattle.grid.specs.Meshes.{Mesh}

-- f 0, f 1 and so on up to f (n - 1), joined
abbrev pub gather : {X : Type 0} → ℕ → (ℕ → List X) → List X
gather zero f = []
gather (suc n) f = gather n f ++ f n

-- what is made for each place, the first axis running fastest
abbrev pub at_places : {X : Type 0} → ℕ → (ℕ → ℕ → ℕ → List X) → List X
at_places n f = gather n (λ k. gather n (λ j. gather n (λ i. f i j k)))

-- the point of three natural numbers
abbrev pub point : ℕ → ℕ → ℕ → Point
point x y z = record { x = pos x; y = pos y; z = pos z }

-- the points, h apart, on n + 1 places of each axis
abbrev pub lattice_points : ℕ → ℕ → List Point
lattice_points h n = at_places (n + 1) (λ i j k. point (i * h) (j * h) (k * h) ∷ [])

-- the number of the point at a place
abbrev pub number_at : ℕ → ℕ → ℕ → ℕ → ℕ
number_at n i j k = i + (n + 1) * j + (n + 1) ^ 2 * k

-- the tetrahedron of four corners
abbrev pub tet : ℕ → ℕ → ℕ → ℕ → List ℕ
tet a b c d = a ∷ b ∷ c ∷ d ∷ []

-- the six tetrahedra on eight corners, each along a path from the corner 000 to the corner 111
abbrev pub paths : (ℕ → ℕ → ℕ → ℕ) → List (List ℕ)
paths at =
    tet (at 0 0 0) (at 1 0 0) (at 1 1 0) (at 1 1 1) ∷ tet (at 0 0 0) (at 1 0 1) (at 1 0 0) (at 1 1 1)
    ∷ tet (at 0 0 0) (at 1 1 0) (at 0 1 0) (at 1 1 1) ∷ tet (at 0 0 0) (at 0 1 0) (at 0 1 1) (at 1 1 1)
    ∷ tet (at 0 0 0) (at 0 0 1) (at 1 0 1) (at 1 1 1) ∷ tet (at 0 0 0) (at 0 1 1) (at 0 0 1) (at 1 1 1) ∷ []

-- the tetrahedra of the cube at a place
abbrev pub cube : ℕ → ℕ → ℕ → ℕ → List (List ℕ)
cube n i j k = paths (λ x y z. number_at n (i + x) (j + y) (k + z))

-- the tetrahedra of all cubes
abbrev pub lattice_tets : ℕ → List (List ℕ)
lattice_tets n = at_places n (cube n)

-- the box of that side, cut into n cubes along each axis
unfoldable pub lattice : ℕ → ℕ → Mesh
lattice side n = record { points = lattice_points (side / n) n; tets = lattice_tets n; tracked = []; made = 6 * n ^ 3 }
