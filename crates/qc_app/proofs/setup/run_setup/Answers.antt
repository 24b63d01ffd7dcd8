use Rattle.std.proofs.Common.{[], Option, sym, subst}
use Rattle.std.specs.Prelude.{IfSome}
use Rattle.qc_app.specs.declared.outcomes.Outcome.{Outcome}
use Rattle.qc_app.specs.declared.sessions.Slot.{Slot}
use Rattle.qc_app.specs.SessionEnds.{IsOutcomeOf}
use Rattle.qc_app.specs.SessionStarts.{IsOpen}
use Rattle.qc_app.proofs.Preparing.{fresh_may_connect, setup_open, setup_prepared}
use Rattle.qc_app.proofs.setup.run_setup.Goals as goal

pub connect-requires : goal.connect-requires
connect-requires g c = fresh_may_connect c.args.turn.now c.args.options.now c.args.first c.requires.fresh

pub returns-in-Ok-clause-prepared : goal.returns-in-Ok-clause-prepared
returns-in-Ok-clause-prepared g c = λ outcome is.
    let t = c.args.turn.now in
    let o = c.args.options.now in
    let input = c.args.input in
    let opened = subst (λ (s : Slot). IsOpen t o [] (0, input) s) (sym c.new-slot.ensures) (setup_open t o c.args.first c.requires.fresh c.in-Ok.session input c.in-Ok.ensures.begins) in
    setup_prepared t o input c.new-slot.result c.serve.new.self c.into_parts.result.0 outcome opened c.serve.ensures c.into_parts.ensures.seat
    (subst (λ (r : Option Outcome). IfSome r (IsOutcomeOf c.serve.new.self)) is c.into_parts.ensures.outcome)
