-- What the top call has done, where its source and its sink tell what they have and hold.
use Rattle.std.specs.Prelude.{◌≡◌, ◌⊎◌, ℕ, Bool, true, false, not, List, [], ◌++◌, Option, Some, None, is_ok, Ok, Err}
use Rattle.qc_types.specs.Streams.{BeginsWith, Rose}
use Rattle.qc_model.specs.declared.reports.Report.{Report}
use Rattle.qc_model.specs.declared.reports.Script.{Script}
use Rattle.qc_model.specs.declared.reports.ScriptRefusal.{ScriptRefusal}
use Rattle.qc_model.specs.ReportText.{text_of_report}
use Rattle.qc_model.specs.ScriptLines.{script_of}
use Rattle.qc_model.specs.Workload.{summary}
use Rattle.qc_script.specs.WorkloadScript.{workload_script}
use Rattle.qc_core.specs.declared.server_state.ServerState.{ServerState}
use Rattle.qc_core.specs.Whole.{IsSomewhereSound}
use Rattle.qc_serve.specs.declared.connecting.Receipt.{Receipt}
use Rattle.qc_app.specs.declared.script_run.Ran.{Ran}
use Rattle.qc_app.specs.ScriptRun.{HaveReceipts, IsReportOf}
use Rattle.qc_app.specs.declared.arguments.reading.Asked.{Asked}
use Rattle.qc_app.specs.declared.arguments.reading.Asked.TheVariants as ask
use Rattle.qc_app.specs.declared.top.Ended.{Ended}
use Rattle.qc_app.specs.Arguments.{options_asked}

-- ---- the script that was asked for

-- a source was read to its end, and gave these bytes
abbrev pub ReadsAll : Option (List ℕ) → Option (List ℕ) → List ℕ → Type 0
ReadsAll None now bytes = now ≡ None
ReadsAll (Some left) now bytes = (left ≡ bytes) × (now ≡ Some [])

-- an input was read to its end, and spells this script
pub record Spells (before now : Option (List ℕ)) (script : Script) : Type 0 where
  pub bytes : List ℕ
  pub read : ReadsAll before now bytes
  pub means : script_of bytes ≡ Ok script

-- `run` takes the script that the input spells, and `workload` reads no input
abbrev pub IsScriptOf : Asked → Option (List ℕ) → Option (List ℕ) → Script → Type 0
IsScriptOf (ask.Run options) before now script = Spells before now script
IsScriptOf (ask.Workload number) before now script = script ≡ workload_script number

abbrev pub reads_input : Option Asked → Bool
reads_input (Some (ask.Run options)) = true
reads_input (Some (ask.Workload number)) = false
reads_input None = false

-- the input is read, and its count of faults rose
abbrev pub HasReadFault : Option Asked → ℕ → ℕ → Type 0
HasReadFault (Some (ask.Run options)) before now = Rose before now
HasReadFault (Some (ask.Workload number)) before now = ⊥
HasReadFault None before now = ⊥

-- the script of an input is refused for this
abbrev pub RefusesInput : Option (List ℕ) → ScriptRefusal → Type 0
RefusesInput None r = (bytes : List ℕ) × (script_of bytes ≡ Err r)
RefusesInput (Some left) r = script_of left ≡ Err r

-- the script that was asked for is refused for this
abbrev pub RefusesAsked : Option Asked → Option (List ℕ) → ScriptRefusal → Type 0
RefusesAsked (Some (ask.Run options)) left r = RefusesInput left r
RefusesAsked (Some (ask.Workload number)) left r = ⊥
RefusesAsked None left r = ⊥

-- it is known that the script of an input is refused, or that it isn't
abbrev pub TellsInput : Option (List ℕ) → Bool → Type 0
TellsInput None refused = ⊥
TellsInput (Some left) refused = is_ok (script_of left) ≡ not refused

-- it is known that a script was asked for and is refused, or that it isn't
abbrev pub TellsRefusal : Option Asked → Option (List ℕ) → Bool → Type 0
TellsRefusal (Some (ask.Run options)) left refused = TellsInput left refused
TellsRefusal (Some (ask.Workload number)) left refused = refused ≡ false
TellsRefusal None left refused = ⊥

-- ---- the run

-- a report is one of a run of the script that was asked for, under its options
pub record IsRunOf (asked : Option Asked) (before now : Option (List ℕ)) (report : Report) : Type 0 where
  pub run : Asked
  pub script : Script
  pub is : asked ≡ Some run
  pub takes : IsScriptOf run before now script
  pub agrees : IsReportOf script (options_asked run) report

-- the text that is put: all of a report's, or the workload's summary, which depends on its number alone; without words in the form nothing is put
abbrev pub text_put : Option Asked → Report → List ℕ
text_put (Some (ask.Run options)) report = text_of_report report
text_put (Some (ask.Workload number)) report = summary number
text_put None report = []

-- what a run has left beside its report: the server is sound, under the report's options and with its journal, and each session has its receipt
pub record IsBacked (server : ServerState) (receipts : List Receipt) (report : Report) : Type 0 where
  pub sound : IsSomewhereSound server
  pub options : server.options ≡ report.options
  pub journal : server.journal.events ≡ report.journal
  pub each : HaveReceipts report.sessions receipts

-- the report, the server and the receipts are there together, and the others show what the report tells
abbrev pub AreShown : Option Report → Option ServerState → Option (List Receipt) → Type 0
AreShown (Some report) (Some server) (Some receipts) = IsBacked server receipts report
AreShown None None None = Unit {0}
AreShown (Some report) None receipts = ⊥
AreShown (Some report) (Some server) None = ⊥
AreShown None (Some server) receipts = ⊥
AreShown None None (Some receipts) = ⊥

abbrev pub IsShown : Ended → Type 0
IsShown e = AreShown e.report e.server e.receipts

-- it ended with this run, or without any
abbrev pub LeavesRun : Ran → Ended → Type 0
LeavesRun ran e = ((e.report ≡ Some ran.report) × (e.server ≡ Some ran.server) × (e.receipts ≡ Some ran.receipts)) ⊎ ((e.report ≡ None) × (e.server ≡ None) × (e.receipts ≡ None))

-- a sink holds these bytes more
abbrev pub HoldsMore : Option (List ℕ) → Option (List ℕ) → List ℕ → Type 0
HoldsMore None now text = now ≡ None
HoldsMore (Some held) now text = now ≡ Some (held ++ text)

-- a sink holds a prefix of these bytes more
abbrev pub HoldsPrefix : Option (List ℕ) → Option (List ℕ) → List ℕ → Type 0
HoldsPrefix None now text = now ≡ None
HoldsPrefix (Some held) now text = (prefix : List ℕ) × BeginsWith text prefix × (now ≡ Some (held ++ prefix))
