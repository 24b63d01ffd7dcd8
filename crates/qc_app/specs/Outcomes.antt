-- What the top call ends with, and how that is told.
use Rattle.std.specs.Prelude.{ℕ, Option, Some, None}
use Rattle.qc_model.specs.declared.reports.ScriptRefusal.{ScriptRefusal}
use Rattle.qc_app.specs.declared.script_run.Ran.{Ran}
use Rattle.qc_app.specs.declared.top.Ended.{Ended}
use Rattle.qc_app.specs.declared.top.Outcome.{Outcome}
use Rattle.qc_app.specs.declared.top.Outcome.TheVariants as outcome

-- at a status, with the run or with why there is none
abbrev pub ended_with : ℕ → Option ScriptRefusal → Option Ran → Ended
ended_with status bad None = record { status = status; report = None; bad = bad; server = None; receipts = None }
ended_with status bad (Some ran) = record { status = status; report = Some ran.report; bad = bad; server = Some ran.server; receipts = Some ran.receipts }

abbrev pub ended_of : Outcome → Ended
ended_of (outcome.Reported ran) = ended_with 0 None (Some ran)
ended_of outcome.WrongArguments = ended_with 1 None None
ended_of (outcome.Refused refusal) = ended_with 2 (Some refusal) None
ended_of outcome.ReadFault = ended_with 3 None None
ended_of (outcome.WriteFault ran) = ended_with 4 None (Some ran)
ended_of (outcome.NoMemory ran) = ended_with 5 None ran
