use Rattle.std.proofs.Common.{◌∷◌, [], length-append, arith}
use Rattle.std.proofs.lemmas.List.Elements.{All-push}
use Rattle.std.proofs.lemmas.Result.{err_from_is_err_and}
use Rattle.qc_script.specs.ShortNames.{HasShortColumns}
use Rattle.qc_script.specs.Told.{unread, times, event_at, behind_event}
use Rattle.qc_script.proofs.ReadBack.{event_more}
use Rattle.qc_script.proofs.Loops.{goes_on, ends, is_done}
use Rattle.qc_script.proofs.EventLoop.{events_done, events_fail}
use Rattle.qc_script.proofs.reading.journal.read_events.Goals as goal

pub loop-place-preserved : goal.loop-place-preserved
loop-place-preserved c = record {
  short = rw c.in_ok-push.ensures.ok (All-push HasShortColumns c.loop-place.events c.in_ok-event.event c.loop-place.invariant.short c.in_ok-event.ensures.short);
  text = rw c.in_ok-push.ensures.ok (event_more _ _ _ c.loop-place.events c.in_ok-event.event c.loop-place.place c.loop-place.invariant.text c.in_ok-event.ensures.text c.loop-place.invariant.count);
  count = rw c.in_ok-push.ensures.ok (omega (arith, length-append c.loop-place.events (c.in_ok-event.event ∷ []), c.loop-place.invariant.count));
  told = rw c.in_ok-push.ensures.ok (goes_on event_at c.loop-place.events c.args.count c.loop-place.place (behind_event c.loop-place.place c.loop-place.made (unread c.loop-place.lines)) c.in_ok-event.event _ (times event_at c.args.count (behind_event 0 [] (unread c.args.lines))) c.loop-place-test.true c.in_ok-event.ensures.told c.loop-place.invariant.told);
}

pub returns-in_err-event-clause-told : goal.returns-in_err-event-clause-told
returns-in_err-event-clause-told c =
    let p = err_from_is_err_and c.from_residual.result c.from_residual.ensures.1 in
    rw (p.1, p.2) (events_fail c.in_err-event.field-0.0 c.args.count (unread c.args.lines)
    (ends event_at c.in_err-event.field-0.0 c.loop-place.events c.args.count c.loop-place.place (behind_event c.loop-place.place c.loop-place.made (unread c.loop-place.lines)) (times event_at c.args.count (behind_event 0 [] (unread c.args.lines))) c.loop-place-test.true c.in_err-event.ensures.told c.loop-place.invariant.told))

pub returns-clause-told : goal.returns-clause-told
returns-clause-told c =
    events_done c.args.count (unread c.args.lines) c.loop-place.events (behind_event c.loop-place.place c.loop-place.made (unread c.loop-place.lines))
    (is_done event_at c.loop-place.events c.args.count c.loop-place.place (behind_event c.loop-place.place c.loop-place.made (unread c.loop-place.lines)) (times event_at c.args.count (behind_event 0 [] (unread c.args.lines))) c.loop-place-test.false c.loop-place.invariant.told)
