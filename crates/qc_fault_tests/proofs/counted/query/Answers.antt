use Rattle.std.proofs.Common.{rules, ◌≡◌, ap, ◌∙◌}
use Rattle.qc_sql.specs.declared.commands.Command.TheVariants as sent
use Rattle.qc_model.specs.declared.reports.Word.TheVariants as word
use Rattle.qc_serve.specs.Logs.{Lines}
use Rattle.qc_fault_tests.proofs.NoSteps.{no_step}
use Rattle.qc_fault_tests.proofs.counted.query.Goals as goal

pub returns-clause-counter : goal.returns-clause-counter
returns-clause-counter g c = λ hit.
    let how : c.in-Some.line.now.how ≡ c.args.how = search rules in
    let there : c.lines.result.now ≡ c.execute.new.session.log.lines = c.lines.ensures ∙ ap (λ (l : Lines). l.lines) c.log.ensures in
    no_step c.args.turn.now (sent.Query c.must.result) c.args.session.now c.execute.new.session _ _ c.args.steps.now c.execute.new.steps c.lines.result.now c.in-Some.line.now
    (c.in-Replied.ensures.executes (search rules)) c.execute.ensures.hits_read_no_row there c.in-Some.ensures.value (how ∙ hit)
