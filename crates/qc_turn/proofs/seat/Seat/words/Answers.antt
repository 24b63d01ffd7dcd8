use Rattle.std.proofs.Common.{◌∙◌}
use Rattle.qc_turn.specs.Seats.{view}
use Rattle.qc_turn.proofs.Tasks.{words_kept}
use Rattle.qc_turn.proofs.seat.Seat.words.Goals as goal

pub returns-in-Stream : goal.returns-in-Stream
returns-in-Stream g c = λ t seated.
    let v = view c.args.self.now in
    c.words.ensures ∙ words_kept c.args.self.now.task v.task v.blocks c.args.self.now.ranges.blocks c.in-Stream.is c.args.self.now.tasked.0 seated.ranges
