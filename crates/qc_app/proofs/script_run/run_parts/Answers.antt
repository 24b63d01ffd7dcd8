use Rattle.std.proofs.Common.{List, Option, Result, sym, subst, ◌∙◌}
use Rattle.std.specs.Prelude.{IfOk, reverse}
use Rattle.qc_types.specs.declared.memory.NoMemory.{NoMemory}
use Rattle.qc_turn.specs.Seats.{view}
use Rattle.qc_app.specs.declared.outcomes.Outcome.{Outcome}
use Rattle.qc_app.specs.ScriptRun.{HaveRun}
use Rattle.qc_app.specs.SetupPart.{HasPrepared}
use Rattle.qc_app.proofs.Closing.{have_run, same_options}
use Rattle.qc_app.proofs.script_run.run_parts.Goals as goal

pub returns-in_ok-served-in-Ok : goal.returns-in_ok-served-in-Ok
returns-in_ok-served-in-Ok g c =
    let t = c.in-Ok.turn in
    let o = c.args.options.now in
    let setup = c.args.setup in
    let inputs = c.args.inputs.items in
    let before = view c.prepare-first.result.0 in
    let server = c.close-server.result in
    let closes = c.close-server.ensures in
    let ends = c.in_ok-served-in-Ok.ensures in
    let kept = c.in_ok-prepared-in-Ok.field-0 in
    let prepared = subst (λ (r : Result (Option Outcome) NoMemory). IfOk r (HasPrepared t o setup before)) c.in_ok-prepared-in-Ok.was c.prepare-first.ensures.prepared in
    subst (λ (os : List Outcome). HaveRun o setup inputs os server) (sym c.put_setup.ensures)
    (have_run t o setup inputs kept (reverse c.run_over-served.new.outcomes.items) before (view c.run_over-served.new.first) server prepared ends.ran ends.same.0 closes
    (same_options server.options o (sym closes.fixed ∙ (ends.same.1 ∙ c.prepare-first.ensures.first.fixed))))
