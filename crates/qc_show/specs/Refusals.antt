-- What may be shown of a report, and why nothing is.
use Rattle.std.specs.Prelude.{◌≡◌, ℕ, ◌<◌, ◌≤◌, true, List, length, Option, Some, None, Err, is_ok, IfSome}
use Rattle.qc_types.specs.declared.memory.Or.{Or}
use Rattle.qc_types.specs.declared.memory.Or.TheVariants as or
use Rattle.qc_model.specs.declared.reports.Report.{Report}
use Rattle.qc_model.specs.declared.reports.ScriptRefusal.{ScriptRefusal}
use Rattle.qc_model.specs.ReportText.{text_of_report}
use Rattle.qc_model.specs.ScriptLines.{script_of}
use Rattle.qc_script.specs.BadLine.{IsFirstBad}
use Rattle.qc_script.specs.Tellable.{IsTellable}
use Rattle.qc_show.specs.declared.fault.Fault.TheVariants as fault
use Rattle.qc_show.specs.declared.fault.Refusal.{Refusal}
use Rattle.qc_show.specs.declared.fault.Refusal.TheVariants as refusal

-- bytes that are the text of a report, and tell the whole of it
abbrev pub IsReport : List ℕ → Type 0
IsReport bytes = (r : Report) × IsTellable r × (bytes ≡ text_of_report r)

-- a script, where there is one, is one that can be read
abbrev pub IsScript : Option (List ℕ) → Type 0
IsScript script = IfSome script (λ bytes. is_ok (script_of bytes) ≡ true)

-- what may be shown: a report that isn't too long, and a script beside it, where there is one
abbrev pub MayShow : List ℕ → Option (List ℕ) → Type 0
MayShow report script = IsReport report × (length report ≤ 4294967294) × IsScript script

-- a script is refused as what it means; or a fault came in between
abbrev pub HasScriptCause : Option (List ℕ) → Refusal → Type 0
HasScriptCause (Some bytes) (refusal.Script r) = script_of bytes ≡ Err r
HasScriptCause None (refusal.Script r) = ⊥
HasScriptCause script (refusal.Fault f) = Unit {0}
HasScriptCause script _ = ⊥

-- what a refusal says of a report and of the script beside it
abbrev pub HasCause : List ℕ → Option (List ℕ) → Refusal → Type 0
HasCause report script (refusal.Report line) = IsFirstBad report line
HasCause report script refusal.TooLong = 4294967294 < length report
HasCause report script r = HasScriptCause script r

-- ---- refusals of the readers

abbrev pub refused_report : Or ℕ → Refusal
refused_report or.Memory = refusal.Fault fault.Memory
refused_report (or.Other line) = refusal.Report line

abbrev pub refused_script : Or ScriptRefusal → Refusal
refused_script or.Memory = refusal.Fault fault.Memory
refused_script (or.Other r) = refusal.Script r
