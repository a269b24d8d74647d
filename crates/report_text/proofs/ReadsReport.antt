-- What is read is the text of the report, and each answer that is right is given.
use Rattle.std.proofs.Common.{◌≡◌, ℕ, true, List, [], ◌++◌, length, refl, sym, ap, ◌∙◌, subst, eqb, ◌⊎◌, inl, inr}
use Rattle.std.specs.Prelude.{Result, Ok, Err, IsErrOf}
use Rattle.std.proofs.lemmas.List.{append-nil}
use Rattle.lines.specs.Forms.{Reads}
use Rattle.lines.proofs.ForCallers.{nothing_left, text_once, text_or_bad, bad_line_once}
use Rattle.report_text.specs.declared.issue.ReportIssue.{ReportIssue}
use Rattle.report_text.specs.declared.issue.ReportIssue.TheVariants as issues
use Rattle.report_text.specs.declared.report.Report.{Report}
use Rattle.report_text.specs.Text.{report_text}
use Rattle.report_text.specs.Rules.{report_rules}
use Rattle.report_text.specs.Answers.{Answers, BadLine, IsReportOf}
use Rattle.report_text.proofs.OneReading.{report_clear}
use Rattle.report_text.proofs.SaysText.{whole_text}

pub is_report : (bytes rest : List ℕ) (r : Report) → Reads report_rules bytes r rest → eqb (length rest) 0 ≡ true → IsReportOf bytes r
is_report bytes rest r h none =
    let empty : rest ≡ [] = nothing_left rest none in
    let text : report_text r ≡ bytes = sym (whole_text bytes rest r h ∙ ap (λ bs. report_text r ++ bs) empty ∙ append-nil (report_text r)) in
    record {
      rules = subst (λ bs. Reads report_rules bs r []) (sym text) (subst (λ bs. Reads report_rules bytes r bs) empty h);
      text = text;
    }

-- ---- each answer that is right is given
bad_text : (bytes : List ℕ) (r : Report) (n : ℕ) → IsReportOf bytes r → BadLine bytes n → ⊥
bad_text bytes r n h bad = text_or_bad report_rules bytes r n report_clear (subst (λ bs. Reads report_rules bs r []) h.text h.rules) bad

pub all_read : (bytes : List ℕ) (result : Result Report ReportIssue) (r : Report) → Answers bytes result → IsReportOf bytes r → (result ≡ Ok r) ⊎ IsErrOf result issues.Memory
all_read bytes (Ok x) r h k =
    inl (ap (λ (y : Report). Ok y) (text_once report_rules bytes x r report_clear (subst (λ bs. Reads report_rules bs x []) h.text h.rules) (subst (λ bs. Reads report_rules bs r []) k.text k.rules)))
all_read bytes (Err (issues.Line n)) r h k = absurd (bad_text bytes r n k h)
all_read bytes (Err issues.Memory) r h k = inr refl

abbrev refused : ℕ → Result Report ReportIssue
refused n = Err (issues.Line n)

pub all_refused : (bytes : List ℕ) (result : Result Report ReportIssue) (n : ℕ) → Answers bytes result → BadLine bytes n → IsErrOf result (issues.Line n) ⊎ IsErrOf result issues.Memory
all_refused bytes (Ok x) n h k = absurd (bad_text bytes x n h k)
all_refused bytes (Err (issues.Line m)) n h k = inl (ap refused (bad_line_once report_rules bytes m n report_clear h k))
all_refused bytes (Err issues.Memory) n h k = inr refl
