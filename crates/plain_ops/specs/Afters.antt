-- Tests of what a try makes, face by face.
use Rattle.std.specs.Prelude.{◌⊎◌, ℕ, Bool, nat_lt, List}
use Rattle.std.specs.List.{Contains, list_all}
use Rattle.grid.specs.declared.shapes.Point.{Point}
use Rattle.grid.specs.declared.shapes.Tri.{Tri}
use Rattle.grid.specs.Simplices.{faces, count}
use Rattle.mesh_types.specs.Certificates.{HasCertificate}
use Rattle.mesh_types.specs.Verdicts.{face_at}

-- each face of x occurs at most once among the tetrahedra
abbrev pub has_single_faces : List (List ℕ) → List ℕ → Bool
has_single_faces tets x = list_all (λ g. nat_lt (count g tets) 2) (faces x)

-- the triple is one of the old ones or has a certificate
abbrev pub IsFine : List Tri → ℕ → List (List ℕ) → List Point → List ℕ → Type 0
IsFine triangles e old points t = Contains old t ⊎ HasCertificate triangles e (face_at points t)
