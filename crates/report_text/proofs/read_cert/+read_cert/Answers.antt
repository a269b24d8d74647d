use Rattle.std.proofs.Common.{ℕ, List, Option, sym, subst}
use Rattle.std.proofs.lemmas.Result.{err_from_is_err_and}
use Rattle.lines.specs.Forms.{field, Reads}
use Rattle.lines.proofs.ForCallers.{goes_on, ends, fails}
use Rattle.mesh_types.specs.declared.cert.Cert.{Cert}
use Rattle.mesh_types.specs.declared.cert.Cert.TheVariants as certs
use Rattle.report_text.specs.Rules.{certificate, certificate_text, CertificateAllowed}
use Rattle.report_text.proofs.TopOfCert.{top_fails, leaf_ends, split_starts, some_level}
use Rattle.report_text.proofs.read_cert.+read_cert.Goals as goal

pub returns-in_err-top : goal.returns-in_err-top
returns-in_err-top t c =
    let p = err_from_is_err_and c.from_residual.result c.from_residual.ensures.1 in
    rw (p.1, p.2) (top_fails c.args.levels c.args.end c.args.bytes.now c.in_err-top.field-0.0 c.in_err-top.ensures.gives)

pub returns-in-Some : goal.returns-in-Some
returns-in-Some t c = leaf_ends c.args.levels c.args.end c.args.bytes.now c.in-Some.t c.in_ok-top.rest.now (subst (λ (o : Option ℕ). Reads (field (certificate_text c.args.end) (CertificateAllowed c.args.levels)) c.args.bytes.now o c.in_ok-top.rest.now) c.in-Some.is c.in_ok-top.ensures.gives)

pub returns-in_err-a : goal.returns-in_err-a
returns-in_err-a t c =
    let p = err_from_is_err_and c.from_residual-in_err-a.result c.from_residual-in_err-a.ensures.1 in
    rw (p.1, p.2) (fails c.in_err-a.field-0.0 (split_starts c.args.levels c.args.end c.args.bytes.now c.in_ok-top.rest.now (some_level c.args.levels c.in_ok-top.top c.in_default.is c.in_ok-top.ensures.level) (subst (λ (o : Option ℕ). Reads (field (certificate_text c.args.end) (CertificateAllowed c.args.levels)) c.args.bytes.now o c.in_ok-top.rest.now) c.in_default.is c.in_ok-top.ensures.gives)) c.in_err-a.ensures)

pub returns-in_err-b : goal.returns-in_err-b
returns-in_err-b t c =
    let p = err_from_is_err_and c.from_residual-in_err-b.result c.from_residual-in_err-b.ensures.1 in
    rw (p.1, p.2) (fails c.in_err-b.field-0.0 (goes_on (split_starts c.args.levels c.args.end c.args.bytes.now c.in_ok-top.rest.now (some_level c.args.levels c.in_ok-top.top c.in_default.is c.in_ok-top.ensures.level) (subst (λ (o : Option ℕ). Reads (field (certificate_text c.args.end) (CertificateAllowed c.args.levels)) c.args.bytes.now o c.in_ok-top.rest.now) c.in_default.is c.in_ok-top.ensures.gives)) c.in_ok-a.ensures) c.in_err-b.ensures)

pub returns-in_err-c : goal.returns-in_err-c
returns-in_err-c t c =
    let p = err_from_is_err_and c.from_residual-in_err-c.result c.from_residual-in_err-c.ensures.1 in
    rw (p.1, p.2) (fails c.in_err-c.field-0.0 (goes_on (goes_on (split_starts c.args.levels c.args.end c.args.bytes.now c.in_ok-top.rest.now (some_level c.args.levels c.in_ok-top.top c.in_default.is c.in_ok-top.ensures.level) (subst (λ (o : Option ℕ). Reads (field (certificate_text c.args.end) (CertificateAllowed c.args.levels)) c.args.bytes.now o c.in_ok-top.rest.now) c.in_default.is c.in_ok-top.ensures.gives)) c.in_ok-a.ensures) c.in_ok-b.ensures) c.in_err-c.ensures)

pub returns-in_err-d : goal.returns-in_err-d
returns-in_err-d t c =
    let p = err_from_is_err_and c.from_residual-in_err-d.result c.from_residual-in_err-d.ensures.1 in
    rw (p.1, p.2) (fails c.in_err-d.field-0.0 (goes_on (goes_on (goes_on (split_starts c.args.levels c.args.end c.args.bytes.now c.in_ok-top.rest.now (some_level c.args.levels c.in_ok-top.top c.in_default.is c.in_ok-top.ensures.level) (subst (λ (o : Option ℕ). Reads (field (certificate_text c.args.end) (CertificateAllowed c.args.levels)) c.args.bytes.now o c.in_ok-top.rest.now) c.in_default.is c.in_ok-top.ensures.gives)) c.in_ok-a.ensures) c.in_ok-b.ensures) c.in_ok-c.ensures) c.in_err-d.ensures)

pub returns-in_err-rest : goal.returns-in_err-rest
returns-in_err-rest t c =
    let p = err_from_is_err_and c.from_residual-in_err-rest.result c.from_residual-in_err-rest.ensures.1 in
    rw (p.1, p.2) (fails c.in_err-rest.field-0.0 (goes_on (goes_on (goes_on (goes_on (split_starts c.args.levels c.args.end c.args.bytes.now c.in_ok-top.rest.now (some_level c.args.levels c.in_ok-top.top c.in_default.is c.in_ok-top.ensures.level) (subst (λ (o : Option ℕ). Reads (field (certificate_text c.args.end) (CertificateAllowed c.args.levels)) c.args.bytes.now o c.in_ok-top.rest.now) c.in_default.is c.in_ok-top.ensures.gives)) c.in_ok-a.ensures) c.in_ok-b.ensures) c.in_ok-c.ensures) c.in_ok-d.ensures) c.in_err-rest.ensures)

pub returns : goal.returns
returns t c = subst (λ (ps : List Cert). Reads (certificate c.args.levels c.args.end) c.args.bytes.now (certs.Split ps) c.in_ok-rest.rest.now) (sym c.in_ok-parts.ensures) (ends (goes_on (goes_on (goes_on (goes_on (goes_on (split_starts c.args.levels c.args.end c.args.bytes.now c.in_ok-top.rest.now (some_level c.args.levels c.in_ok-top.top c.in_default.is c.in_ok-top.ensures.level) (subst (λ (o : Option ℕ). Reads (field (certificate_text c.args.end) (CertificateAllowed c.args.levels)) c.args.bytes.now o c.in_ok-top.rest.now) c.in_default.is c.in_ok-top.ensures.gives)) c.in_ok-a.ensures) c.in_ok-b.ensures) c.in_ok-c.ensures) c.in_ok-d.ensures) c.in_ok-rest.ensures))
