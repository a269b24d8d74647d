-- What holds where faults are absent, one kind after the other.
use Rattle.std.specs.Prelude.{◌≡◌, ℕ, ◌*◌, ◌^◌, ◌<◌, max, Option, pos, length, MatchOption}
use Rattle.grid.specs.Determinants.{volume}
use Rattle.grid.specs.Simplices.{all_faces}
use Rattle.face_table.specs.Pairing.{NoneTwice, LieOnSides}
use Rattle.cert_check.specs.declared.fault.Fault.{Fault}
use Rattle.cert_check.specs.declared.fault.Fault.TheVariants as faults
use Rattle.cert_check.specs.FileMesh.{tet_at}
use Rattle.cert_check.specs.Faults.{Case, Holds, rank, side_of, mesh_in, IsHeader, IsNodeIn, IsTetPositive, IsFace, IsCovered, IsTagOf, AreLines}

-- what holds where there is no fault of this kind, whatever it carries
abbrev pub Lacks : Case → Fault → Type 0
Lacks c faults.Header = IsHeader c.soup c.report c.digits
Lacks c (faults.NotInBox n) = (i : ℕ) → i < length c.mesh.nodes → IsNodeIn (side_of c) c.soup.shift c.mesh.nodes i
Lacks c (faults.NotPositive n) = (i : ℕ) → i < length c.mesh.tets → IsTetPositive (mesh_in c).points c.mesh.tets i
Lacks c (faults.Twice f) = NoneTwice (all_faces (mesh_in c).tets)
Lacks c (faults.Loose f) = LieOnSides (mesh_in c).points (side_of c) (all_faces (mesh_in c).tets) (all_faces (mesh_in c).tets)
Lacks c (faults.Volume s) = volume (mesh_in c).points (mesh_in c).tets ≡ pos (6 * side_of c ^ 3)
Lacks c (faults.NotAFace n) = (i : ℕ) → i < length c.mesh.tracked → IsFace (mesh_in c).tets c.mesh.tracked i
Lacks c (faults.NotCovered n) =
    (i : ℕ) → i < max (length c.mesh.tracked) (length c.report.faces)
    → IsCovered c.soup.triangles c.report.epsilon (mesh_in c).points c.mesh.tracked c.report.faces i
Lacks c (faults.Region n) = (i : ℕ) → i < length c.mesh.tets → IsTagOf (mesh_in c).tets (mesh_in c).tracked (tet_at c.mesh.tets i)
Lacks c (faults.TriangleLines n) = AreLines c.soup.triangles c.report

-- there is no fault of a rank below r
abbrev pub Passed : Case → ℕ → Type 0
Passed c r = (f : Fault) → rank f < r → Lacks c f

-- where there is no fault of a rank below r, there is none below s, or this is the first
abbrev pub GoesOn : Case → (r s : ℕ) → Option Fault → Type 0
GoesOn c r s found = Passed c r → MatchOption found (Passed c s) (λ f. Holds c f × Passed c (rank f))
