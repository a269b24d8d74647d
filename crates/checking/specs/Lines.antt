-- The lines that tell what a check found, and its status.
use Rattle.std.specs.Prelude.{ℕ, List, ◌++◌, codes, decimal, slice_index_or}
use Rattle.std.specs.Fmt.{signed_decimal}
use Rattle.cert_check.specs.declared.fault.Fault.{Fault}
use Rattle.cert_check.specs.declared.fault.Fault.TheVariants as faults
use Rattle.cert_check.specs.declared.fault.Finding.{Finding}
use Rattle.cert_check.specs.declared.fault.Finding.TheVariants as findings

-- a number, and the corners of a face, behind the name of a fault
abbrev pub number_text : List ℕ → ℕ → List ℕ
number_text name n = name ++ decimal n

abbrev pub face_text : List ℕ → List ℕ → List ℕ
face_text name f =
    number_text name (slice_index_or f 0 0) ++ number_text (codes " ") (slice_index_or f 1 0) ++ number_text (codes " ") (slice_index_or f 2 0)

abbrev pub fault_text : Fault → List ℕ
fault_text faults.Header = codes "header"
fault_text (faults.NotInBox n) = number_text (codes "not-in-box ") n
fault_text (faults.NotPositive n) = number_text (codes "not-positive ") n
fault_text (faults.Twice f) = face_text (codes "twice ") f.0
fault_text (faults.Loose f) = face_text (codes "loose ") f.0
fault_text (faults.Volume s) = codes "volume " ++ signed_decimal s
fault_text (faults.NotAFace n) = number_text (codes "not-a-face ") n
fault_text (faults.NotCovered n) = number_text (codes "not-covered ") n
fault_text (faults.Region n) = number_text (codes "region ") n
fault_text (faults.TriangleLines n) = number_text (codes "triangle-lines ") n

abbrev pub finding_line : Finding → List ℕ
finding_line findings.Good = codes "good\n"
finding_line (findings.Bad fault) = codes "bad " ++ (fault_text fault ++ codes "\n")

abbrev pub finding_status : Finding → ℕ
finding_status findings.Good = 0
finding_status (findings.Bad fault) = 1
