-- What a verdict tells.
use Rattle.std.specs.Prelude.{Option, None, Some}
use Rattle.qc_types.specs.declared.names.Why.{Why}
use Rattle.qc_rules.specs.declared.verdicts.Verdict.{Verdict}
use Rattle.qc_rules.specs.declared.verdicts.Verdict.TheVariants as kept

-- the reason that keeps a select out, or none
abbrev pub reason_of : Verdict → Option Why
reason_of kept.Cacheable = None
reason_of (kept.Not why) = Some why
