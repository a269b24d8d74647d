-- Determinants, volumes and squared distances.
use Rattle.std.specs.Prelude.{ℕ, ℤ, pos, ◌+ℤ◌, ◌-ℤ◌, ◌*ℤ◌, ◌<ℤ◌, List, [], ◌∷◌, slice_index_or}
use Rattle.grid.specs.declared.shapes.Point.{Point}

-- six times the signed volume of the tetrahedron a b c d: the determinant of b-a, c-a, d-a
unfoldable pub det : Point → Point → Point → Point → ℤ
det a b c d =
    let px = b.x -ℤ a.x in
    let py = b.y -ℤ a.y in
    let pz = b.z -ℤ a.z in
    let qx = c.x -ℤ a.x in
    let qy = c.y -ℤ a.y in
    let qz = c.z -ℤ a.z in
    let rx = d.x -ℤ a.x in
    let ry = d.y -ℤ a.y in
    let rz = d.z -ℤ a.z in
    ((px *ℤ ((qy *ℤ rz) -ℤ (qz *ℤ ry))) -ℤ (py *ℤ ((qx *ℤ rz) -ℤ (qz *ℤ rx)))) +ℤ (pz *ℤ ((qx *ℤ ry) -ℤ (qy *ℤ rx)))

-- the squared distance of two points
unfoldable pub sq_dist : Point → Point → ℤ
sq_dist a b = ((a.x -ℤ b.x) *ℤ (a.x -ℤ b.x)) +ℤ ((a.y -ℤ b.y) *ℤ (a.y -ℤ b.y)) +ℤ ((a.z -ℤ b.z) *ℤ (a.z -ℤ b.z))

-- the point 0, 0, 0
abbrev pub origin : Point
origin = record { x = pos 0; y = pos 0; z = pos 0 }

-- the point of a number
abbrev pub point_at : List Point → ℕ → Point
point_at points i = slice_index_or points i origin

-- the determinant of a tetrahedron's corners
abbrev pub det_at : List Point → List ℕ → ℤ
det_at points (a ∷ b ∷ c ∷ d ∷ []) = det (point_at points a) (point_at points b) (point_at points c) (point_at points d)
det_at points x = pos 0

-- a tetrahedron whose determinant is above 0
abbrev pub IsPositive : List Point → List ℕ → Type 0
IsPositive points x = pos 0 <ℤ det_at points x

-- the sum of the determinants
abbrev pub volume : List Point → List (List ℕ) → ℤ
volume points [] = pos 0
volume points (x ∷ xs) = det_at points x +ℤ volume points xs
