-- Faces that need no certificate or have one.
use Rattle.std.specs.Prelude.{◌≡◌, ◌⊎◌, ℕ, true, List}
use Rattle.std.specs.List.{list_any}
use Rattle.grid.specs.declared.shapes.Point.{Point}
use Rattle.grid.specs.declared.shapes.Tri.{Tri}
use Rattle.grid.specs.Simplices.{same_triple}
use Rattle.mesh_types.specs.Certificates.{HasCertificate}
use Rattle.mesh_types.specs.Verdicts.{face_at}

-- the triple is among the old ones or has a certificate
abbrev pub IsFine : List Tri → ℕ → List (List ℕ) → List Point → List ℕ → Type 0
IsFine triangles e old points t = (list_any (same_triple t) old ≡ true) ⊎ HasCertificate triangles e (face_at points t)
