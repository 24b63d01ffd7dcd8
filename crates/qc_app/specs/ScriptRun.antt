-- What a run of a script leaves.
use Rattle.std.specs.Prelude.{◌≡◌, ℕ, ◌≤◌, ◌%◌, List, ◌∷◌, map, length, Option, Some, None}
use Rattle.std.specs.List.{AllZip}
use Rattle.qc_types.specs.declared.options.Options.{Options}
use Rattle.qc_model.specs.declared.events.Event.{Event}
use Rattle.qc_model.specs.declared.reports.Report.{Report}
use Rattle.qc_model.specs.declared.reports.Script.{Script}
use Rattle.qc_model.specs.declared.reports.SessionReport.{SessionReport}
use Rattle.qc_model.specs.Agrees.{Agrees, inputs_of, whole_machine}
use Rattle.qc_model.specs.Journal.{Journal}
use Rattle.qc_laws.specs.runs.Runs.{HaveEnded, IsClosed, StartsWith, numbers}
use Rattle.qc_turn.specs.declared.turn.Turn.{Turn}
use Rattle.qc_turn.specs.declared.view.View.{View}
use Rattle.qc_core.specs.declared.server_state.ServerState.{ServerState}
use Rattle.qc_core.specs.Whole.{IsSomewhereSound}
use Rattle.qc_serve.specs.declared.connecting.Receipt.{Receipt}
use Rattle.qc_serve.specs.Logs.{logged_line}
use Rattle.qc_app.specs.declared.outcomes.Outcome.{Outcome}
use Rattle.qc_app.specs.declared.sessions.Slot.{Slot}
use Rattle.qc_app.specs.SessionEnds.{AreOutcomes, kept_of}
use Rattle.qc_app.specs.SessionStarts.{AreOpen}
use Rattle.qc_app.specs.Sessions.{IsServed}

-- options as they are taken
pub record AreTaken (options : Options) : Type 0 where
  pub size : options.size % 1024 ≡ 0
  pub size_most : options.size ≤ 67108864
  pub unit : options.unit % 8 ≡ 0
  pub unit_least : 512 ≤ options.unit
  pub unit_most : options.unit ≤ 1048576

-- a script of at most 64 sessions
pub record MayRun (script : Script) : Type 0 where
  pub few : length script.sessions ≤ 64

-- The report agrees with the script, by the meaning of all commands. The name stays folded in the callers' proofs: what it stands for has the meaning of the whole language in it.
unfoldable pub IsReportOf : Script → Options → Report → Type 0
IsReportOf script options report = Agrees whole_machine script options report

-- the receipt of a session's report: each line's place and word stand in its log
pub record IsReceiptOf (s : SessionReport) (r : Receipt) : Type 0 where
  pub session : r.session ≡ s.session
  pub lines : r.log.lines ≡ map logged_line s.lines

-- one receipt for each session, in their order
abbrev pub HaveReceipts : List SessionReport → List Receipt → Type 0
HaveReceipts sessions receipts = AllZip IsReceiptOf sessions receipts

-- All inputs were served by sessions that began when the first seat had seen this, and that it has met since.
pub record HaveServed (t : Turn ServerState Event) (o : Options) (inputs : List (List ℕ)) (outcomes : List Outcome) (first : Journal) (now : View ServerState Event) : Type 0 where
  pub begun : List Slot
  pub over : List Slot
  pub opened : AreOpen t o first inputs begun
  pub all : length begun ≡ length inputs
  pub served : AllZip (IsServed t) begun over
  pub told : AreOutcomes over outcomes
  pub registry : now.registry ≡ map kept_of over
  pub seen : StartsWith now.seen first

abbrev pub reports_in : List Outcome → List SessionReport
reports_in outcomes = map (λ o. o.report) outcomes

abbrev pub receipts_in : List Outcome → List Receipt
receipts_in outcomes = map (λ o. o.receipt) outcomes

-- what the setup part left stands in front
abbrev pub behind_setup : Option Outcome → List Outcome → List Outcome
behind_setup None outcomes = outcomes
behind_setup (Some outcome) outcomes = outcome ∷ outcomes

-- what is known of the server that the last seat left, once the setup part and all inputs were served
pub record HaveRun (o : Options) (setup : Option (List ℕ)) (inputs : List (List ℕ)) (outcomes : List Outcome) (server : ServerState) : Type 0 where
  pub sound : IsSomewhereSound server
  pub options : server.options ≡ o
  pub first : Journal
  pub ended : HaveEnded whole_machine o first server.journal.events (inputs_of (record { setup = setup; sessions = inputs })) (reports_in outcomes)
  pub closed : IsClosed o first server.journal.events (numbers (reports_in outcomes))
  pub receipts : HaveReceipts (reports_in outcomes) (receipts_in outcomes)
