-- The plain facts of a report that keeps the rules of its text.
use Rattle.std.specs.Prelude.{◌≡◌, ◌≢◌, ℕ, zero, suc, ◌+◌, ◌*◌, ◌^◌, ◌<◌, ◌≤◌, pos, List, length, map, All, IfSome}
use Rattle.grid.specs.declared.shapes.Point.{Point}
use Rattle.grid.specs.Boxes.{IsInBox}
use Rattle.grid.specs.Simplices.{Rises}
use Rattle.grid.specs.Limits.{most_epsilon, most_input, most_points}
use Rattle.lines.specs.Fields.{Between, Within}
use Rattle.mesh_types.specs.declared.cert.Cert.{Cert, out-Cert}
use Rattle.mesh_types.specs.declared.cert.Cert.TheOpen.{Cert-F}
use Rattle.mesh_types.specs.declared.cert.Cert.TheOpen as open_cert
use Rattle.mesh_types.specs.declared.outcome.Defect.{Defect}
use Rattle.mesh_types.specs.declared.outcome.Defect.TheVariants as defects
use Rattle.mesh_types.specs.declared.outcome.Outcome.{Outcome}
use Rattle.mesh_types.specs.declared.outcome.Outcome.TheVariants as outcomes
use Rattle.mesh_types.specs.declared.outcome.Again.{Again}
use Rattle.mesh_types.specs.declared.tries.Try.{Try}
use Rattle.mesh_types.specs.declared.tries.Try.TheVariants as tries
use Rattle.mesh_types.specs.declared.tries.TryLine.{TryLine}
use Rattle.report_text.specs.declared.report.Covering.{Covering}
use Rattle.report_text.specs.declared.report.Second.{Second}
use Rattle.report_text.specs.declared.report.Report.{Report}
use Rattle.report_text.specs.Rules.{IsSide, IsCells}
use Rattle.report_text.specs.Answers.{ReportRules}

-- ---- outcomes
-- so many points in the box of that side
pub record ArePoints (side count : ℕ) (ps : List Point) : Type 0 where
  pub count_is : length ps ≡ count
  pub in_box : All (IsInBox side) ps

-- the corners of a tetrahedron or of a face, where there are any
abbrev pub IsPlainDefect : (side : ℕ) → Defect → Type 0
IsPlainDefect side defects.Degenerate = Unit {0}
IsPlainDefect side defects.Full = Unit {0}
IsPlainDefect side (defects.Inverted ps) = ArePoints side 4 ps
IsPlainDefect side (defects.Unresolved ps) = ArePoints side 4 ps
IsPlainDefect side (defects.Stray ps) = ArePoints side 3 ps
IsPlainDefect side (defects.Uncovered ps) = ArePoints side 3 ps

-- at most 2^20 new points, or such a defect
abbrev pub IsPlainOutcome : (side : ℕ) → Outcome → Type 0
IsPlainOutcome side (outcomes.Inserted n) = n ≤ most_points
IsPlainOutcome side (outcomes.RolledBack defect) = IsPlainDefect side defect

-- the second outcome of one of so many triangles
pub record IsPlainAgain (side triangles : ℕ) (a : Again) : Type 0 where
  pub below : a.triangle < triangles
  pub outcome_is : IsPlainOutcome side a.outcome

-- ---- tries
-- numbers of points below 2^20: the ends of an edge and the corners of a face rise, and the two points of a collapse differ
abbrev pub IsPlainTry : Try → Type 0
IsPlainTry (tries.Split u v) = (u < v) × (v < most_points)
IsPlainTry (tries.Shift u way) = (u < most_points) × (way ≤ 1)
IsPlainTry (tries.Collapse u v) = (u < most_points) × (v < most_points) × (u ≢ v)
IsPlainTry (tries.FaceSwap a b c) = (a < b) × (b < c) × (c < most_points)
IsPlainTry (tries.EdgeSwap u v) = (u < v) × (v < most_points)

abbrev pub ArePlainTries : List TryLine → Type 0
ArePlainTries lines = All (λ line. IsPlainTry line.attempt) lines

-- ---- certificates
-- the number of a triangle, or parts of which parts_are says the same
abbrev pub IsPlainTop : (parts_are : List Cert → Type 0) → Cert-F Cert → Type 0
IsPlainTop parts_are (open_cert.Leaf t) = t < most_input
IsPlainTop parts_are (open_cert.Split parts) = parts_are parts

-- a certificate of at most that many levels of splits, each of which has four parts
abbrev pub IsPlainCert : (levels : ℕ) → Cert → Type 0
IsPlainCert zero c = IsPlainTop (λ parts. ⊥) (out-Cert c)
IsPlainCert (suc levels) c = IsPlainTop (λ parts. (length parts ≡ 4) × All (IsPlainCert levels) parts) (out-Cert c)

-- three numbers of the file that rise, and a certificate of at most six levels
pub record IsPlainCovering (f : Covering) : Type 0 where
  pub three : length f.face.0 ≡ 3
  pub rises : Rises f.face.0
  pub in_range : All (Between 1 most_points) f.face.0
  pub cert_is : IsPlainCert 6 f.cert

-- ---- the whole report
-- a second part for some of the triangles, in rising order, with the tries that the first ones leave of the budget
pub record IsPlainSecond (side triangles budget tries_before : ℕ) (s : Second) : Type 0 where
  pub members_are : Between 1 triangles (length s.again)
  pub members_rise : Rises (map (λ a. a.triangle) s.again)
  pub outcomes_are : All (IsPlainAgain side triangles) s.again
  pub tries_few : tries_before + length s.journal.lines ≤ budget
  pub tries_are : ArePlainTries s.journal.lines

pub record IsPlainReport (r : Report) : Type 0 where
  pub side : ℕ
  pub side_is : r.side ≡ pos side
  pub side_allowed : IsSide side
  pub epsilon_in_range : Between 1 most_epsilon r.epsilon
  pub cells_allowed : IsCells r.cells
  pub budget_few : r.budget ≤ 10 ^ 6
  pub digits_few : IfSome r.digits (λ d. d ≤ 5)
  pub shift_three : length r.shift ≡ 3
  pub shift_near : All (Within (2 * 10 ^ 9)) r.shift
  pub triangles_few : length r.outcomes ≤ most_input
  pub outcomes_are : All (IsPlainOutcome side) r.outcomes
  pub tries_few : length r.journal.lines ≤ r.budget
  pub tries_are : ArePlainTries r.journal.lines
  pub second_is : IfSome r.second (IsPlainSecond side (length r.outcomes) r.budget (length r.journal.lines))
  pub faces_few : length r.faces ≤ 2 ^ 24
  pub faces_are : All IsPlainCovering r.faces

-- a report with the plain facts keeps the rules
abbrev pub PlainLaw : Type 0
PlainLaw = (r : Report) → IsPlainReport r → ReportRules r
