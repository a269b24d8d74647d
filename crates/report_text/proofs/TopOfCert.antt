-- The top of a certificate that is read.
use Rattle.std.proofs.Common.{◌≡◌, ℕ, zero, suc, ◌-◌, ◌<◌, false, List, ◌++◌, length, sym, subst, ◌∙◌, arith, Option, Some, None}
use Rattle.std.specs.Prelude.{codes, MatchOption}
use Rattle.std.specs.Char.{is_ascii_digit}
use Rattle.grid.specs.Limits.{most_input}
use Rattle.lines.specs.declared.stop.Stop.{Stop}
use Rattle.lines.specs.declared.stop.Stop.TheVariants as stops
use Rattle.lines.specs.Forms.{field, Reads, Breaks, IsBad}
use Rattle.lines.specs.Fields.{number, Between}
use Rattle.lines.specs.Gives.{Fails}
use Rattle.lines.proofs.ForCallers.{Continues, starts, goes_on, ends, fails, field_breaks, field_reads}
use Rattle.mesh_types.specs.declared.cert.Cert.TheVariants as certs
use Rattle.report_text.specs.Rules.{certificate, certificate_behind, certificate_text, CertificateAllowed}
use Rattle.report_text.proofs.OneReading.{no_bracket}
use Rattle.report_text.proofs.OneOf.{Lacks}

module _ (levels end : ℕ) (bytes : List ℕ) where
  -- a split below the last level
  pub deep_breaks : (rest : List ℕ) → is_ascii_digit end ≡ false → levels ≡ 0 → bytes ≡ codes "(" ++ rest → Breaks (field (certificate_text end) (CertificateAllowed levels)) bytes (length bytes)
  deep_breaks rest no_digit none is = field_breaks (certificate_text end) (CertificateAllowed levels) bytes cases
    where
      cases : IsBad (certificate_text end) (CertificateAllowed levels) bytes
      cases None more says = omega (arith, none, says.allowed)
      cases (Some t) more says = no_bracket end t more rest no_digit says.allowed (sym says.spells ∙ is)

  pub split_reads : (rest : List ℕ) → 0 < levels → bytes ≡ codes "(" ++ rest → Reads (field (certificate_text end) (CertificateAllowed levels)) bytes None rest
  split_reads rest some is = field_reads (certificate_text end) (CertificateAllowed levels) bytes None rest some is

  pub leaf_reads : (t : ℕ) (rest : List ℕ) → Reads (number end (Between 0 (most_input - 1))) bytes t rest → Reads (field (certificate_text end) (CertificateAllowed levels)) bytes (Some t) rest
  unfolding Reads
  leaf_reads t rest h = record { allowed = omega (arith, h.allowed.1); spells = h.spells }

  pub leaf_fails : (e : Stop) → Lacks bytes (codes "(") → Fails (number end (Between 0 (most_input - 1))) bytes e → Fails (field (certificate_text end) (CertificateAllowed levels)) bytes e
  unfolding Breaks
  leaf_fails (stops.At left) lacks h = (cases, h.1)
    where
      cases : IsBad (certificate_text end) (CertificateAllowed levels) bytes
      cases None more says = lacks more says.spells
      cases (Some t) more says = h.0 t more (record { allowed = (omega arith, omega (arith, says.allowed)); spells = says.spells })
  leaf_fails stops.Memory lacks h = tt

-- ---- the certificate behind its top
pub some_level : (levels : ℕ) (top : Option ℕ) → top ≡ None → MatchOption top (0 < levels) (λ t. Unit {0}) → 0 < levels
some_level levels top is h = subst (λ (o : Option ℕ). MatchOption o (0 < levels) (λ t. Unit {0})) is h

pub top_fails : (levels end : ℕ) (bytes : List ℕ) (e : Stop) → Fails (field (certificate_text end) (CertificateAllowed levels)) bytes e → Fails (certificate levels end) bytes e
unfolding certificate
top_fails zero end bytes e h = fails e (starts (certificate zero end) bytes) h
top_fails (suc levels) end bytes e h = fails e (starts (certificate (suc levels) end) bytes) h

pub leaf_ends : (levels end : ℕ) (bytes : List ℕ) (t : ℕ) (rest : List ℕ) → Reads (field (certificate_text end) (CertificateAllowed levels)) bytes (Some t) rest → Reads (certificate levels end) bytes (certs.Leaf t) rest
unfolding certificate
leaf_ends zero end bytes t rest h = ends (goes_on (starts (certificate zero end) bytes) h)
leaf_ends (suc levels) end bytes t rest h = ends (goes_on (starts (certificate (suc levels) end) bytes) h)

pub split_starts : (levels end : ℕ) (bytes rest : List ℕ) → 0 < levels → Reads (field (certificate_text end) (CertificateAllowed levels)) bytes None rest → Continues (certificate levels end) bytes (certificate_behind (certificate (levels - 1)) end None) rest
unfolding certificate
split_starts zero end bytes rest some h = absurd (omega (arith, some))
split_starts (suc levels) end bytes rest some h =
    let next : levels ≡ suc levels - 1 = omega arith in
    subst (λ n. Continues (certificate (suc levels) end) bytes (certificate_behind (certificate n) end None) rest) next (goes_on (starts (certificate (suc levels) end) bytes) h)
