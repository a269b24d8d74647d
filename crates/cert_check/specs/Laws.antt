-- The laws of findings.
use Rattle.std.specs.Prelude.{◌≡◌}
use Rattle.cert_check.specs.declared.fault.Finding.{Finding}
use Rattle.cert_check.specs.declared.fault.Finding.TheVariants as findings
use Rattle.cert_check.specs.Faults.{Case, IsFinding}
use Rattle.cert_check.specs.Sound.{IsSound}

-- a case has at most one finding
abbrev pub OneFinding : Type 0
OneFinding = (c : Case) (r s : Finding) → IsFinding c r → IsFinding c s → r ≡ s

-- where the files are sound, the finding is Good
abbrev pub SoundIsGood : Type 0
SoundIsGood = (c : Case) → IsSound c → IsFinding c findings.Good
