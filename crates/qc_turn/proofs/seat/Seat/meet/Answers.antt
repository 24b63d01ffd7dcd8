use Rattle.std.proofs.Common.{rules, subst, sym, ap, ◌∙◌}
use Rattle.qc_turn.proofs.RuleKept.{joins}
use Rattle.qc_turn.proofs.Tasks.{longer_one}
use Rattle.qc_turn.specs.Seats.{view}
use Rattle.qc_turn.specs.Tasks.{HasBlocks}
use Rattle.qc_turn.specs.Views.{IsSoundJournal}
use Rattle.qc_turn.proofs.seat.Seat.meet.Goals as goal

pub join_seat-requires : goal.join_seat-requires
join_seat-requires g c = (search rules, search rules, search rules, search rules, joins g.V.Kept _ _ _ _ _ c.requires.first.0 c.requires.first.1 c.requires.seated.1.free c.requires.rests)

pub returns-clause-seated : goal.returns-clause-seated
returns-clause-seated g c =
    let e = c.join_seat.ensures in
    let first = c.requires.seated.0 in
    let other = c.requires.seated.1 in
    let v = ap (λ m. m.0) e.2 in
    record {
      table = e.0 ∙ first.table;
      out = ap (λ m. m.1) e.2 ∙ first.out;
      free = ap (λ w. w.holding) v ∙ first.free;
      ranges = subst (λ (w : _). HasBlocks w.task w.blocks c.args.self.now.ranges.blocks) (sym v) first.ranges;
      was_sound = subst (λ (w : _). IsSoundJournal g.V.Kept w.seen) (sym v) (longer_one (IsSoundJournal g.V.Kept) (view c.args.self.now).seen (view c.args.other).seen first.was_sound other.was_sound);
    }
