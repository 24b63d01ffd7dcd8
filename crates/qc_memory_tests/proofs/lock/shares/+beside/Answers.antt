use Rattle.std.proofs.Common.{ap, ◌∙◌, subst}
use Rattle.qc_turn.specs.Seats.{view}
use Rattle.qc_turn.specs.Views.{met_seat}
use Rattle.qc_memory_tests.specs.Seats.{MeetsAll}
use Rattle.qc_memory_tests.proofs.Meetings.{meets_one}
use Rattle.qc_memory_tests.proofs.lock.shares.+beside.Goals as goal

pub add_beside-returns-clause-met : goal.add_beside-returns-clause-met
add_beside-returns-clause-met g t c =
    let old = view c.args.first.now in
    let other = view c.add_both-done.new.seat in
    let both = c.add_both-done.ensures in
    meets_one old.registry (view c.add_both-done.new.first).registry (view c.meet.new.self).registry other.number (met_seat other)
    (both.seat.1 ∙ ap (λ v. v.number) c.in-Ok.ensures.next.1)
    (subst (λ r. MeetsAll r (view c.add_both-done.new.first).registry) (ap (λ v. v.registry) c.in-Ok.ensures.ok.0) both.met)
    (ap (λ v. v.registry) c.meet.ensures.view)
