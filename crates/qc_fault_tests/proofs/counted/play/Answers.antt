use Rattle.std.proofs.Common.{rules, ◌≡◌, Option, None, List, [], ◌∷◌, ◌++◌, ap, sym, subst, ◌∙◌}
use Rattle.qc_model.specs.declared.events.Event.{Event}
use Rattle.qc_turn.specs.declared.view.MetSeat.{MetSeat}
use Rattle.qc_turn.specs.Seats.{view}
use Rattle.qc_turn.specs.Views.{AllMet}
use Rattle.qc_fault_tests.proofs.Meetings.{met_among}
use Rattle.qc_fault_tests.proofs.counted.play.Goals as goal

pub close-server-requires-clause-met : goal.close-server-requires-clause-met
close-server-requires-clause-met g c =
    let split : (view c.split.new.self).registry ≡ None ∷ [] = search rules in
    let two : (view c.hit.new.session.seat).number ≡ 2 = search rules in
    let met = met_among [] (view c.split.new.self).registry (view c.split.new.self).registry (view c.part.new.first).registry (view c.hit.new.session.seat).number
    split ([], split ∙ sym (ap (λ (l : List (Option (MetSeat Event))). l ++ []) split), tt) two c.part.ensures.met in
    subst AllMet (sym met.1) met.2
