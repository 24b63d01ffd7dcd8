-- How a call has ended, from its source and its sink as they are seen before it and behind it.
use Rattle.std.specs.Prelude.{◌≡◌, ◌⊎◌, ◌==◌, ◌≤◌, ℕ, true, false, List, Option, Some, None, IfSome, is_some}
use Rattle.qc_types.specs.Streams.{Rose}
use Rattle.qc_model.specs.declared.reports.Report.{Report}
use Rattle.qc_model.specs.declared.reports.Script.{Script}
use Rattle.qc_model.specs.ReportText.{text_of_report}
use Rattle.qc_app.specs.ScriptRun.{IsReportOf}
use Rattle.qc_app.specs.declared.arguments.reading.Asked.{Asked}
use Rattle.qc_app.specs.declared.arguments.reading.Asked.TheVariants as ask
use Rattle.qc_app.specs.declared.top.Ended.{Ended}
use Rattle.qc_app.specs.Arguments.{options_asked}
use Rattle.qc_app.specs.Summary.{counted_summary}
use Rattle.qc_app.specs.Top.{HasReadFault, HoldsMore, HoldsPrefix, IsRunOf, IsShown, RefusesAsked, TellsRefusal, text_put}

-- the bytes that a source has left or a sink holds, where it tells them, and its count of faults
pub record Seen : Type 0 where
  pub bytes : Option (List ℕ)
  pub faults : ℕ

abbrev pub seen : Option (List ℕ) → ℕ → Seen
seen bytes faults = record { bytes = bytes; faults = faults }

-- the text that is made of a run's report: all of it, or the workload's summary as it is counted there
abbrev pub text_made : Asked → Report → List ℕ
text_made (ask.Run options) report = text_of_report report
text_made (ask.Workload number) report = counted_summary number report

-- a script was run, and its text was put
pub record HasRun (run : Asked) (script : Script) (out out-now : Seen) (e : Ended) : Type 0 where
  pub statuses : (e.status ≡ 0) ⊎ (e.status ≡ 4) ⊎ (e.status ≡ 5)
  pub bad : e.bad ≡ None
  pub there : (e.status ≡ 0) ⊎ (e.status ≡ 4) → is_some e.report ≡ true
  pub agrees : IfSome e.report (IsReportOf script (options_asked run))
  pub shown : IsShown e
  pub prefix : IfSome e.report (λ report. HoldsPrefix out.bytes out-now.bytes (text_made run report))
  pub all : e.status ≡ 0 → IfSome e.report (λ report. HoldsMore out.bytes out-now.bytes (text_made run report))
  pub fault : e.status ≡ 4 → Rose out.faults out-now.faults

-- a call has ended that was asked for this, or for nothing
pub record HasEnded (asked : Option Asked) (input input-now out out-now : Seen) (e : Ended) : Type 0 where
  pub statuses : e.status ≤ 5
  pub usage : e.status ≡ 1 → asked ≡ None
  pub refuses_words : asked ≡ None → (e.status ≡ 1) ⊎ (e.status ≡ 5)
  pub refusal_there : is_some e.bad ≡ (e.status == 2)
  pub refusal : IfSome e.bad (RefusesAsked asked input.bytes)
  pub report_there : (e.status ≡ 0) ⊎ (e.status ≡ 4) → is_some e.report ≡ true
  pub report_lacks : is_some e.report ≡ true → (e.status ≡ 0) ⊎ (e.status ≡ 4) ⊎ (e.status ≡ 5)
  pub agrees : IfSome e.report (IsRunOf asked input.bytes input-now.bytes)
  pub shown : IsShown e
  pub prefix_written : IfSome e.report (λ report. HoldsPrefix out.bytes out-now.bytes (text_put asked report))
  pub all_written : e.status ≡ 0 → IfSome e.report (λ report. HoldsMore out.bytes out-now.bytes (text_put asked report))
  pub read_fault : e.status ≡ 3 → HasReadFault asked input.faults input-now.faults
  pub write_fault : e.status ≡ 4 → Rose out.faults out-now.faults
  pub refuses : TellsRefusal asked input.bytes true → (HasReadFault asked input.faults input-now.faults → ⊥) → (e.status ≡ 2) ⊎ (e.status ≡ 5)
  pub completes : TellsRefusal asked input.bytes false → (HasReadFault asked input.faults input-now.faults → ⊥) → (Rose out.faults out-now.faults → ⊥) → (e.status ≡ 0) ⊎ (e.status ≡ 5)
