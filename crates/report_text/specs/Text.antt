-- The text of a report. Each line ends with a line feed.
use Rattle.std.specs.Prelude.{ℕ, zero, suc, ◌+◌, ◌+ℤ◌, ℤ, pos, List, [], ◌∷◌, ◌++◌, length, codes, slice_index_or, Option, Some, None}
use Rattle.std.specs.List.{enumerate_from, flat_map}
use Rattle.grid.specs.declared.shapes.Point.{Point}
use Rattle.mesh_types.specs.declared.cert.Cert.{Cert, out-Cert}
use Rattle.mesh_types.specs.declared.cert.Cert.TheOpen.{Cert-F}
use Rattle.mesh_types.specs.declared.cert.Cert.TheOpen as open_cert
use Rattle.mesh_types.specs.declared.outcome.Defect.{Defect}
use Rattle.mesh_types.specs.declared.outcome.Defect.TheVariants as defects
use Rattle.mesh_types.specs.declared.outcome.Outcome.{Outcome}
use Rattle.mesh_types.specs.declared.outcome.Outcome.TheVariants as outcomes
use Rattle.mesh_types.specs.declared.outcome.Again.{Again}
use Rattle.mesh_types.specs.declared.tries.Try.{Try}
use Rattle.mesh_types.specs.declared.tries.Try.TheVariants as tries
use Rattle.mesh_types.specs.declared.tries.TryLine.{TryLine}
use Rattle.mesh_types.specs.declared.tries.End.{End}
use Rattle.lines.specs.Fields.{space, feed, word, decimal_word}
use Rattle.lines.specs.Texts.{joined}
use Rattle.report_text.specs.declared.report.Covering.{Covering}
use Rattle.report_text.specs.declared.report.Second.{Second}
use Rattle.report_text.specs.declared.report.Report.{Report}
use Rattle.report_text.specs.Rules.{verdict_text, end_text, bracket}

-- a number behind a name, on a line of its own
abbrev pub named_line : List ℕ → ℕ → List ℕ
named_line name n = name ++ word feed n

-- ---- triangles
-- a grid point with the shift
abbrev pub point_text : List ℤ → (end : ℕ) → Point → List ℕ
point_text shift end p =
    joined (decimal_word 0 space (p.x +ℤ slice_index_or shift 0 (pos 0)) ∷ decimal_word 0 space (p.y +ℤ slice_index_or shift 1 (pos 0)) ∷ decimal_word 0 end (p.z +ℤ slice_index_or shift 2 (pos 0)) ∷ [])

-- points to the end of a line
abbrev pub points_text : List ℤ → List Point → List ℕ
points_text shift [] = []
points_text shift (p ∷ []) = point_text shift feed p
points_text shift (p ∷ q ∷ ps) = point_text shift space p ++ points_text shift (q ∷ ps)

abbrev pub defect_text : List ℤ → Defect → List ℕ
defect_text shift defects.Degenerate = codes "rolled-back degenerate\n"
defect_text shift defects.Full = codes "rolled-back full\n"
defect_text shift (defects.Inverted ps) = codes "rolled-back inverted " ++ points_text shift ps
defect_text shift (defects.Unresolved ps) = codes "rolled-back unresolved " ++ points_text shift ps
defect_text shift (defects.Stray ps) = codes "rolled-back stray " ++ points_text shift ps
defect_text shift (defects.Uncovered ps) = codes "rolled-back uncovered " ++ points_text shift ps

abbrev pub words_of : List ℤ → Outcome → List ℕ
words_of shift (outcomes.Inserted n) = named_line (codes "inserted ") n
words_of shift (outcomes.RolledBack defect) = defect_text shift defect

-- a triangle with its number
abbrev pub triangle_line : List ℤ → ℕ × Outcome → List ℕ
triangle_line shift e = joined (codes "t " ∷ word space e.0 ∷ words_of shift e.1 ∷ [])

abbrev pub again_line : List ℤ → Again → List ℕ
again_line shift a = triangle_line shift (a.triangle, a.outcome)

-- ---- tries
-- the number of a point in the file
abbrev pub vertex_text : ℕ → List ℕ
vertex_text u = word space (u + 1)

abbrev pub attempt_text : Try → List ℕ
attempt_text (tries.Split u v) = joined (codes "split " ∷ vertex_text u ∷ vertex_text v ∷ [])
attempt_text (tries.Shift u step) = joined (codes "shift " ∷ vertex_text u ∷ word space step ∷ [])
attempt_text (tries.Collapse u v) = joined (codes "collapse " ∷ vertex_text u ∷ vertex_text v ∷ [])
attempt_text (tries.FaceSwap a b c) = joined (codes "face-swap " ∷ vertex_text a ∷ vertex_text b ∷ vertex_text c ∷ [])
attempt_text (tries.EdgeSwap u v) = joined (codes "edge-swap " ∷ vertex_text u ∷ vertex_text v ∷ [])

abbrev pub try_line : TryLine → List ℕ
try_line line = attempt_text line.attempt ++ verdict_text line.verdict

-- the tries and how they ended
abbrev pub journal_text : List TryLine → End → List ℕ
journal_text lines end = joined (named_line (codes "tries ") (length lines) ∷ flat_map try_line lines ∷ end_text end ∷ [])

-- ---- faces
-- certificates with a space between them, and a bracket behind the last
abbrev pub parts_text : (piece : ℕ → Cert → List ℕ) → List Cert → List ℕ
parts_text piece [] = []
parts_text piece (c ∷ []) = piece bracket c
parts_text piece (c ∷ d ∷ cs) = piece space c ++ parts_text piece (d ∷ cs)

-- the top of a certificate and the byte behind it, where piece gives the text of its parts
abbrev pub top_text : (piece : ℕ → Cert → List ℕ) → (end : ℕ) → Cert-F Cert → List ℕ
top_text piece end (open_cert.Leaf t) = word end t
top_text piece end (open_cert.Split parts) = joined (codes "(" ∷ parts_text piece parts ∷ (end ∷ []) ∷ [])

-- a certificate of at most that many levels of splits, and the byte behind it; what is deeper is left out
unfoldable pub cert_text : (levels end : ℕ) → Cert → List ℕ
cert_text zero end c = top_text (λ e d. []) end (out-Cert c)
cert_text (suc levels) end c = top_text (cert_text levels) end (out-Cert c)

abbrev pub covering_line : Covering → List ℕ
covering_line f = joined (codes "f " ∷ flat_map (word space) f.face.0 ∷ cert_text 6 feed f.cert ∷ [])

-- ---- the whole text
abbrev pub size_text : Option ℕ → ℤ → List ℕ
size_text None side = codes "box " ++ decimal_word 0 feed side
size_text (Some d) side = joined (named_line (codes "digits ") d ∷ codes "box " ∷ decimal_word 0 feed side ∷ [])

abbrev pub shift_text : List ℤ → List ℕ
shift_text shift =
    joined (codes "shift " ∷ decimal_word 0 space (slice_index_or shift 0 (pos 0)) ∷ decimal_word 0 space (slice_index_or shift 1 (pos 0)) ∷ decimal_word 0 feed (slice_index_or shift 2 (pos 0)) ∷ [])

-- the second part, where there is one
abbrev pub second_text : List ℤ → Option Second → List ℕ
second_text shift None = []
second_text shift (Some s) = joined (named_line (codes "second ") (length s.again) ∷ flat_map (again_line shift) s.again ∷ journal_text s.journal.lines s.end ∷ [])

unfoldable pub report_text : Report → List ℕ
report_text r =
    joined (
    codes "tetsoup report 1\n" ∷ named_line (codes "epsilon ") r.epsilon ∷ named_line (codes "cells ") r.cells ∷ named_line (codes "budget ") r.budget
    ∷ size_text r.digits r.side ∷ shift_text r.shift
    ∷ named_line (codes "triangles ") (length r.outcomes) ∷ flat_map (triangle_line r.shift) (enumerate_from 0 r.outcomes)
    ∷ journal_text r.journal.lines r.end ∷ second_text r.shift r.second
    ∷ named_line (codes "tracked ") (length r.faces) ∷ flat_map covering_line r.faces ∷ []
    )
