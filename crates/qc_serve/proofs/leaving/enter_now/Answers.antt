use Rattle.std.proofs.Common.{arith, sym, ◌∙◌}
use Rattle.qc_serve.proofs.Parting.{entered_same, stranger}
use Rattle.qc_serve.proofs.leaving.enter_now.Goals as goal

pub enter_held-session-requires-clause-stranger : goal.enter_held-session-requires-clause-stranger
enter_held-session-requires-clause-stranger g c =
    let t = c.take-held in
    let s = c.args.seat.now in
    stranger c.args.turn.now s t.result c.requires.apart (omega (arith, s.numbered.0, s.numbered.1)) t.ensures.held.0 t.ensures.taken t.ensures.holds

pub returns-clause-same : goal.returns-clause-same
returns-clause-same g c =
    let t = c.take-held in
    let e = c.enter_held-session in
    let s = c.args.seat.now in
    let same = entered_same s _ t.result e.new.held (omega (arith, s.numbered.0, s.numbered.1)) t.ensures.taken t.ensures.holds e.ensures.go.1 e.ensures.events c.let_go.ensures.rested in
    rw (c.seat-1.given.1 (sym (e.ensures.go.1.seat ∙ t.ensures.same_seat))) (same.0, same.1, c.let_go.ensures.ranges ∙ (e.ensures.go.1.ranges ∙ t.ensures.ranges), same.2)
