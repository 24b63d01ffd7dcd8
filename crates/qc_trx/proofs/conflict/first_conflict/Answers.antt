-- The walk begins at the place, and ends at the first commit that meets a row, or at the end.
use Rattle.std.proofs.Common.{◌≡◌, ◌∙◌, sym, ap, arith}
use Rattle.std.specs.Prelude.{option_map}
use Rattle.qc_trx.specs.Endings.{meant}
use Rattle.qc_trx.proofs.Aboves.{begins, ends, meets_one, passes_one}
use Rattle.qc_trx.proofs.Walks.{at_passed}
use Rattle.qc_trx.proofs.conflict.first_conflict.Goals as goal

pub loop-passed-init : goal.loop-passed-init
loop-passed-init c = begins c.args.place c.args.origin.now c.args.writes.now c.args.journal.now.events c.requires

pub returns-in-Some : goal.returns-in-Some
returns-in-Some c =
    let events = c.args.journal.now.events in
    let passed = c.loop-passed.passed in
    let at = at_passed events passed c.event-event.result.now c.event-event.ensures in
    let found = ap (option_map meant) (sym c.in-Some.is) ∙ c.in_ok-conflict.ensures in
    meets_one c.args.place c.args.origin.now c.args.writes.now passed events c.event-event.result.now (meant c.in-Some.conflict) c.loop-passed.invariant (omega arith) at found

pub loop-passed-preserved : goal.loop-passed-preserved
loop-passed-preserved c =
    let events = c.args.journal.now.events in
    let passed = c.loop-passed.passed in
    let at = at_passed events passed c.event-event.result.now c.event-event.ensures in
    let none = ap (option_map meant) (sym c.in_default.is) ∙ c.in_ok-conflict.ensures in
    passes_one c.args.place c.args.origin.now c.args.writes.now passed events c.event-event.result.now c.loop-passed.invariant (omega arith) at none
