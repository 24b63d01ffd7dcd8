use Rattle.std.proofs.Common.{ap, sym, subst, ◌∙◌}
use Rattle.qc_model.specs.Agrees.{Agrees, whole_machine}
use Rattle.qc_model.specs.declared.reports.Report.{Report}
use Rattle.qc_script.specs.ShortNames.{HasShortNames}
use Rattle.qc_app.specs.ScriptRun.{IsReportOf}
use Rattle.qc_app.proofs.Closing.{report_agrees}
use Rattle.qc_app.proofs.Names.{names_are_short}
use Rattle.qc_app.proofs.script_run.run_script.Goals as goal

pub returns-clause-agrees : goal.returns-clause-agrees
unfolding IsReportOf
returns-clause-agrees g c =
    let script = c.args.script in
    let options = c.args.options in
    let server = c.in_ok-server.server in
    let ran = c.in_ok-server.ensures in
    subst (λ (r : Report). Agrees whole_machine script options r) (sym c.in_ok-report.ensures)
    (report_agrees script options _ _ c.into_vec-inputs.result.items server c.into_vec-inputs.ensures c.in_ok-reports.ensures.reports ran)

pub returns-clause-names : goal.returns-clause-names
returns-clause-names g c =
    let ran = c.in_ok-server.ensures in
    subst HasShortNames (sym c.in_ok-report.ensures) (names_are_short c.args.options c.in_ok-reports.reports.items c.in_ok-server.server ran.sound)

pub returns-clause-options : goal.returns-clause-options
returns-clause-options g c = c.in_ok-server.ensures.options ∙ sym (ap (λ (r : Report). r.options) c.in_ok-report.ensures)
