use Rattle.std.proofs.Common.{◌≡◌, ℕ, true, false, sym, subst, ◌∙◌, arith}
use Rattle.std.specs.Prelude.{Option, IfSome, IsSomeAnd}
use Rattle.qc_model.specs.declared.events.Event.{Event}
use Rattle.qc_model.specs.Journal.{event_at}
use Rattle.qc_core.specs.OvertakenFill.{overtakes}
use Rattle.qc_core.proofs.Overtaking.{more_ahead, event_within, some_clash}
use Rattle.qc_core.proofs.overtaken_fill.first_overtaking.Goals as goal

pub returns-then-overtakes : goal.returns-then-overtakes
returns-then-overtakes c =
    let tables = c.args.tables.now in
    record {
      past = omega (arith, c.loop-number.invariant.0);
      event = subst (λ (o : Option Event). IsSomeAnd o (λ e. overtakes tables e ≡ true)) (sym c.event.ensures) (sym c.overtakes.ensures ∙ c.if-overtakes.true);
      first = λ k low high. c.loop-number.invariant.1 k low (omega (arith, high));
    }

pub loop-number-preserved : goal.loop-number-preserved
loop-number-preserved c =
    let j = c.args.journal.now.events in
    let tables = c.args.tables.now in
    let P = λ (k : ℕ). IfSome (event_at j k) (λ e. overtakes tables e ≡ false) in (
      omega (arith, c.loop-number.invariant.0),
      more_ahead P c.args.after c.loop-number.number c.loop-number.invariant.1 (subst (λ (o : Option Event). IfSome o (λ e. overtakes tables e ≡ false)) (sym c.event.ensures) (sym c.overtakes.ensures ∙ c.if-overtakes.false)),
    )

pub unreachable-requires : goal.unreachable-requires
unreachable-requires c =
    let j = c.args.journal.now.events in
    let tables = c.args.tables.now in
    let by = c.requires.0 in
    let within = event_within j by (λ e. overtakes tables e ≡ true) (omega (arith, c.requires.1)) c.requires.2 in
    some_clash (event_at j by) (overtakes tables) c.requires.2 (c.loop-number.invariant.1 by c.requires.1 (omega (arith, within, c.loop-number-test.false, c.len-count.ensures.value)))
