-- Certificates of a face that has been cut: at the scale 2 ^ k, with that many levels left.
use Rattle.std.specs.Prelude.{ℕ, List, Option, MatchOption}
use Rattle.grid.specs.declared.shapes.Tri.{Tri}
use Rattle.mesh_types.specs.declared.cert.Cert.{Cert}
use Rattle.mesh_types.specs.Certificates.{IsLeastCertificate}

-- there is a certificate
abbrev pub HasCertificateAt : List Tri → (e levels k : ℕ) → Tri → Type 0
HasCertificateAt triangles e levels k f = (c : Cert) × IsLeastCertificate triangles e levels k f c

-- the certificate, or None where there is none
abbrev pub IsCovAt : List Tri → (e levels k : ℕ) → Tri → Option Cert → Type 0
IsCovAt triangles e levels k f found = MatchOption found (¬ HasCertificateAt triangles e levels k f) (λ c. IsLeastCertificate triangles e levels k f c)
