use Rattle.std.proofs.Common.{subst, sym}
use Rattle.qc_app.specs.declared.arguments.reading.Asked.{Asked}
use Rattle.qc_app.specs.Ends.{seen}
use Rattle.qc_app.specs.Top.{IsScriptOf}
use Rattle.qc_app.proofs.Endings.{run_ends}
use Rattle.qc_app.proofs.Tops.{workload_may_run}
use Rattle.qc_app.proofs.top.script_asked.Goals as goal

pub returns-in-Run-clause-ends : goal.returns-in-Run-clause-ends
returns-in-Run-clause-ends g c =
    let before = seen (g.S.Source.left c.args.input.now) (g.S.Source.faults c.args.input.now) in
    let now = seen (g.S.Source.left c.script_of_input.new.input) (g.S.Source.faults c.script_of_input.new.input) in
    run_ends c.args.asked c.in-Run.field-0 before now c.script_of_input.result c.in-Run.is c.script_of_input.ensures.ends

pub returns-in-Ok-clause-script : goal.returns-in-Ok-clause-script
returns-in-Ok-clause-script g c =
    let left = g.S.Source.left c.args.input.now in
    (workload_may_run c.in-Workload.number c.in-Ok.script c.in-Ok.ensures, subst (λ (a : Asked). IsScriptOf a left left c.in-Ok.script) (sym c.in-Workload.is) c.in-Ok.ensures)
