-- What the rules of a report's text say of the report.
use Rattle.std.proofs.Common.{ℕ, suc, ◌+◌, ◌^◌, ◌≤◌, List, [], ◌∷◌, length, ap, subst, arith, ℤ, Option}
use Rattle.std.specs.Prelude.{codes}
use Rattle.std.proofs.lemmas.List.{length-append}
use Rattle.grid.specs.Limits.{most_epsilon, most_input}
use Rattle.lines.specs.Forms.{Reads}
use Rattle.lines.specs.Fields.{Between}
use Rattle.report_text.specs.declared.kinds.PartKind.{PartKind}
use Rattle.report_text.specs.declared.kinds.PartKind.TheVariants as part_kinds
use Rattle.report_text.specs.declared.report.Covering.{Covering}
use Rattle.report_text.specs.declared.report.Second.{Second}
use Rattle.report_text.specs.declared.report.Report.{Report}
use Rattle.report_text.specs.Rules.{more_outcomes, more_faces, part_behind, second_part, report_rules}
use Rattle.report_text.proofs.ForCallers.{named_is, outcomes_grow}
use Rattle.cert_check.specs.Conditions.{IsReport}
use Rattle.cert_check.proofs.MeshRules.{repeat_keeps}

-- one more line
faces_grow : (n : ℕ) (before after : List Covering) (bytes rest : List ℕ) → length before + suc n ≤ 2 ^ 24 → Reads (more_faces before) bytes after rest → length after + n ≤ 2 ^ 24
unfolding Reads more_faces
faces_grow n before after bytes rest room h = omega (arith, room, ap length h.3.3.3.3.3.0, length-append before (record { face = record { 0 = h.3.0 ∷ h.3.3.0 ∷ h.3.3.3.0 ∷ [] }; cert = h.3.3.3.3.0 } ∷ []))

-- the number of faces behind the second part
part_few : (triangles side : ℕ) (shift : List ℤ) (most : ℕ) (kind : PartKind) (x : Option Second × ℕ) (bytes rest : List ℕ) → Reads (part_behind triangles side shift most kind) bytes x rest → x.1 ≤ 2 ^ 24
unfolding Reads
part_few triangles side shift most part_kinds.Second x bytes rest h =
    let faces = h.3.3.3 in
    let few = named_is (codes "tracked ") (Between 0 (2 ^ 24)) faces.0 _ _ faces.2 in
    omega (arith, few.1, ap (λ (p : Option Second × ℕ). p.1) faces.3.0)
part_few triangles side shift most part_kinds.Tracked x bytes rest h = omega (arith, h.2.allowed.1, ap (λ (p : Option Second × ℕ). p.1) h.3.0)

second_few : (triangles side : ℕ) (shift : List ℤ) (most : ℕ) (x : Option Second × ℕ) (bytes rest : List ℕ) → Reads (second_part triangles side shift most) bytes x rest → x.1 ≤ 2 ^ 24
unfolding Reads second_part
second_few triangles side shift most x bytes rest h = part_few triangles side shift most h.0 x h.1 rest h.3

-- ---- the whole text
pub IsReport-rules : (bytes rest : List ℕ) (r : Report) → Reads report_rules bytes r rest → IsReport r
unfolding Reads report_rules
IsReport-rules bytes rest r h =
    let epsilon = h.3 in
    let box = epsilon.3.3.3 in
    let shift = box.3 in
    let triangles = shift.3 in
    let outcomes = triangles.3 in
    let tries = outcomes.3 in
    let second = tries.3 in
    let faces = second.3 in
    let epsilon_is = named_is (codes "epsilon ") (Between 1 most_epsilon) epsilon.0 _ _ epsilon.2 in
    let triangles_is = named_is (codes "triangles ") (Between 0 most_input) triangles.0 _ _ triangles.2 in
    let lines = repeat_keeps (more_outcomes box.0.1 shift.0) (λ n os. length os + n ≤ most_input) (outcomes_grow box.0.1 shift.0) triangles.0 [] outcomes.0 _ _ (omega (arith, triangles_is.1)) outcomes.2 in
    let few = second_few triangles.0 box.0.1 shift.0 _ second.0 _ _ second.2 in
    let coverings = repeat_keeps more_faces (λ n fs. length fs + n ≤ 2 ^ 24) faces_grow second.0.1 [] faces.0 _ _ (omega (arith, few)) faces.2 in
    subst IsReport faces.3.0 (record {
      epsilon = epsilon_is.1;
      few_outcomes = omega (arith, lines);
      few_faces = omega (arith, coverings);
    })
