use Rattle.std.proofs.Common.{ℕ, ◌<◌, length, sym, subst, ◌∙◌, true≢false}
use Rattle.std.specs.Prelude.{unsigned_abs}
use Rattle.cert_check.specs.declared.fault.Fault.TheVariants as faults
use Rattle.cert_check.specs.FileMesh.{node_at}
use Rattle.cert_check.specs.Faults.{Case, case_of, IsNodeIn}
use Rattle.cert_check.specs.Firsts.{IsFirstFailing}
use Rattle.cert_check.proofs.Facts.{kept-side}
use Rattle.cert_check.proofs.Passing.{passed_more}
use Rattle.cert_check.proofs.judgement.fault_of_nodes.Goals as goal

pub returns-then-not-is_header : goal.returns-then-not-is_header
returns-then-not-is_header c p = (λ h. true≢false (sym (c.is_header.ensures.1 h) ∙ c.if-not-is_header.true), p)

pub returns-in-Some : goal.returns-in-Some
returns-in-Some c p =
    let s = c.args.soup.now in
    let k : Case = case_of s c.args.mesh.now c.args.report.now c.args.digits in
    let l = unsigned_abs s.side in (
      subst (λ ns. IsFirstFailing (length ns) (IsNodeIn l s.shift ns) (λ i. (node_at ns i).number) c.in-Some.number) c.as_slice-nodes.ensures (c.in-Some.ensures l (kept-side s.side c.requires.soup.side)),
      passed_more k faults.Header p (c.is_header.ensures.0 c.if-not-is_header.false),
    )

pub returns : goal.returns
returns c p =
    let s = c.args.soup.now in
    let k : Case = case_of s c.args.mesh.now c.args.report.now c.args.digits in
    let l = unsigned_abs s.side in
    passed_more k (faults.NotInBox 0) (passed_more k faults.Header p (c.is_header.ensures.0 c.if-not-is_header.false))
    (subst (λ ns. (i : ℕ) → i < length ns → IsNodeIn l s.shift ns i) c.as_slice-nodes.ensures (c.in_default.ensures l (kept-side s.side c.requires.soup.side)))
