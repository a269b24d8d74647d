-- Certificates that a face lies in the envelope of a list of triangles.
use Rattle.std.specs.Prelude.{ℕ, ◌+◌, zero, suc, ◌+ℤ◌, List, [], ◌∷◌, Option, MatchOption}
use Rattle.grid.specs.declared.shapes.Point.{Point}
use Rattle.grid.specs.declared.shapes.Tri.{Tri}
use Rattle.grid.specs.Boxes.{corner_of}
use Rattle.grid.specs.Envelopes.{IsNearTo, IsLeastNear, HasNoneNear}
use Rattle.mesh_types.specs.declared.cert.Cert.{Cert, out-Cert}
use Rattle.mesh_types.specs.declared.cert.Cert.TheOpen.{Cert-F}
use Rattle.mesh_types.specs.declared.cert.Cert.TheOpen as open_cert

-- ---- the four pieces of a face, at twice its scale
-- the midpoint of a and b at twice their scale; of a and a it is a
abbrev pub midpoint : Point → Point → Point
midpoint a b = record { x = a.x +ℤ b.x; y = a.y +ℤ b.y; z = a.z +ℤ b.z }

-- the triangle of three corners
abbrev pub triangle : Point → Point → Point → Tri
triangle a b c = record { 0 = a ∷ b ∷ c ∷ [] }

-- the pieces at the corners a, b and c, and the one in the middle
abbrev pub pieces : Tri → List Tri
pieces f =
    let a = corner_of f 0 in
    let b = corner_of f 1 in
    let c = corner_of f 2 in
    triangle (midpoint a a) (midpoint a b) (midpoint a c) ∷ triangle (midpoint a b) (midpoint b b) (midpoint b c)
    ∷ triangle (midpoint a c) (midpoint b c) (midpoint c c) ∷ triangle (midpoint a b) (midpoint b c) (midpoint a c) ∷ []

-- each piece with the part of its place, and no other part
abbrev pub Each : (Tri → Cert → Type 0) → List Tri → List Cert → Type 0
Each P [] [] = Unit {0}
Each P (f ∷ fs) (c ∷ cs) = P f c × Each P fs cs
Each P fs cs = ⊥

-- ---- triangles that all corners of a face at the scale 2 ^ k are near to
-- t is the number of such a triangle
abbrev pub IsFaceNear : List Tri → (e k : ℕ) → Tri → ℕ → Type 0
IsFaceNear triangles e k f t = IsNearTo triangles (corner_of f 0) (corner_of f 1) (corner_of f 2) k e t

-- t is the least number of such a triangle
abbrev pub IsLeastOfFace : List Tri → (e k : ℕ) → Tri → ℕ → Type 0
IsLeastOfFace triangles e k f t = IsLeastNear triangles (corner_of f 0) (corner_of f 1) (corner_of f 2) k e t

-- there is no such triangle
abbrev pub HasNoneOfFace : List Tri → (e k : ℕ) → Tri → Type 0
HasNoneOfFace triangles e k f = HasNoneNear triangles (corner_of f 0) (corner_of f 1) (corner_of f 2) k e

-- ---- a certificate: a triangle that all corners are near to, or certificates of the four pieces
-- the top of a certificate is sound, where parts_are says that of its parts
abbrev pub CoversLevel : List Tri → (e k : ℕ) → Tri → (List Cert → Type 0) → Cert-F Cert → Type 0
CoversLevel triangles e k f parts_are (open_cert.Leaf t) = IsFaceNear triangles e k f t
CoversLevel triangles e k f parts_are (open_cert.Split parts) = parts_are parts

-- c is a certificate of the face f at the scale 2 ^ k, of at most that many levels of splits
abbrev pub Covers : List Tri → (e levels k : ℕ) → Tri → Cert → Type 0
Covers triangles e zero k f c = CoversLevel triangles e k f (λ parts. ⊥) (out-Cert c)
Covers triangles e (suc levels) k f c = CoversLevel triangles e k f (Each (Covers triangles e levels (k + 1)) (pieces f)) (out-Cert c)

-- ---- the certificate: the least triangle at each leaf, and a split only where there is no triangle
-- the top of the certificate is right, where parts_are says that of its parts
abbrev pub IsLeastLevel : List Tri → (e k : ℕ) → Tri → (List Cert → Type 0) → Cert-F Cert → Type 0
IsLeastLevel triangles e k f parts_are (open_cert.Leaf t) = IsLeastOfFace triangles e k f t
IsLeastLevel triangles e k f parts_are (open_cert.Split parts) = HasNoneOfFace triangles e k f × parts_are parts

-- c is this certificate of the face f at the scale 2 ^ k, of at most that many levels of splits
abbrev pub IsLeastCertificate : List Tri → (e levels k : ℕ) → Tri → Cert → Type 0
IsLeastCertificate triangles e zero k f c = IsLeastLevel triangles e k f (λ parts. ⊥) (out-Cert c)
IsLeastCertificate triangles e (suc levels) k f c =
    IsLeastLevel triangles e k f (Each (IsLeastCertificate triangles e levels (k + 1)) (pieces f)) (out-Cert c)

-- ---- of a face of the mesh, whose certificates have at most six levels
-- the most levels of splits
abbrev pub most_levels : ℕ
most_levels = 6

-- c is the certificate of the face f
abbrev pub IsCertificateOf : List Tri → ℕ → Tri → Cert → Type 0
IsCertificateOf triangles e f c = IsLeastCertificate triangles e most_levels 0 f c

-- the face f has a certificate
abbrev pub HasCertificate : List Tri → ℕ → Tri → Type 0
HasCertificate triangles e f = (c : Cert) × IsCertificateOf triangles e f c

-- the certificate of the face, or None where there is none
abbrev pub IsCov : List Tri → ℕ → Tri → Option Cert → Type 0
IsCov triangles e f found = MatchOption found (¬ HasCertificate triangles e f) (λ c. IsCertificateOf triangles e f c)
