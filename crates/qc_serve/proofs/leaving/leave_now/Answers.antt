use Rattle.std.proofs.Common.{sym, ◌∙◌}
use Rattle.qc_turn.specs.Seats.{view}
use Rattle.qc_serve.proofs.Parting.{left_seen, same_standing}
use Rattle.qc_serve.proofs.Seating.{idle}
use Rattle.qc_serve.proofs.leaving.leave_now.Goals as goal

pub leave_held-requires : goal.leave_held-requires
leave_held-requires g c =
    let t = c.take-held in
    idle c.args.turn.now c.args.session c.args.seat.now t.result c.requires t.ensures.held.0 t.ensures.taken t.ensures.holds

pub returns-clause-seen : goal.returns-clause-seen
returns-clause-seen g c =
    let t = c.take-held in
    let l = c.leave_held in
    let s = c.args.seat.now in
    let is_idle = idle c.args.turn.now c.args.session s t.result c.requires t.ensures.held.0 t.ensures.taken t.ensures.holds in
    let seen = left_seen c.args.session (view s) _ t.result l.new.held t.ensures.holds is_idle l.ensures.events c.let_go.ensures.rested in
    rw (c.seat-1.given.1 (sym (l.ensures.go.1.seat ∙ t.ensures.same_seat))) seen

pub returns-clause-same : goal.returns-clause-same
returns-clause-same g c =
    let t = c.take-held in
    let l = c.leave_held in
    let same = same_standing (view c.args.seat.now) _ t.result l.new.held t.ensures.holds l.ensures.go.1 c.let_go.ensures.rested in
    rw (c.seat-1.given.1 (sym (l.ensures.go.1.seat ∙ t.ensures.same_seat))) same
