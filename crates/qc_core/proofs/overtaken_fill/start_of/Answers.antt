use Rattle.std.proofs.Common.{◌≡◌, ℕ, false, sym, subst, ◌∙◌, arith}
use Rattle.std.specs.Prelude.{Option, IfSome}
use Rattle.qc_model.specs.declared.events.Event.{Event}
use Rattle.qc_model.specs.Journal.{event_at}
use Rattle.qc_core.specs.OvertakenFill.{is_start_of}
use Rattle.qc_core.proofs.Overtaking.{more_behind, started_here, no_start}
use Rattle.qc_core.proofs.overtaken_fill.start_of.Goals as goal

pub returns-then-is_start_of : goal.returns-then-is_start_of
returns-then-is_start_of c = started_here c.args.journal.now.events c.args.serial _ c.event.result.now (omega (arith, c.loop-back-test.true)) c.event.ensures (sym c.is_start_of.ensures ∙ c.if-is_start_of.true)

pub loop-back-preserved : goal.loop-back-preserved
loop-back-preserved c =
    let j = c.args.journal.now.events in
    let P = λ (k : ℕ). IfSome (event_at j k) (λ e. is_start_of c.args.serial e ≡ false) in
    more_behind P c.len-count.result c.loop-back.back c.loop-back-test.true c.loop-back.invariant
    (subst (λ (o : Option Event). IfSome o (λ e. is_start_of c.args.serial e ≡ false)) (sym c.event.ensures) (sym c.is_start_of.ensures ∙ c.if-is_start_of.false))

pub unreachable-requires : goal.unreachable-requires
unreachable-requires c =
    no_start c.args.journal.now.events c.args.serial c.requires (λ k low high. c.loop-back.invariant k (omega (arith, low, c.loop-back-test.false)) (omega (arith, high, c.len-count.ensures.value)))
