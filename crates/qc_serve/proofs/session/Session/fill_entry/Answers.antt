use Rattle.std.proofs.Common.{◌≡◌, ℕ, [], subst, sym, ◌∙◌}
use Rattle.std.specs.Prelude.{IfSome, OnOk}
use Rattle.std.specs.List.{concat}
use Rattle.qc_model.specs.Session.{flags_of, status_of}
use Rattle.qc_turn.specs.declared.task.Task.TheVariants as task
use Rattle.qc_turn.specs.Seats.{view}
use Rattle.qc_flow.specs.Seats.{HasEnded}
use Rattle.qc_serve.specs.Filling.{IsGoing}
use Rattle.qc_serve.specs.Going.{number_of}
use Rattle.qc_serve.specs.Querying.{plan_packets}
use Rattle.qc_serve.specs.SentAt.{SendsAt}
use Rattle.qc_serve.proofs.Fillings.{filled_at, goes_both, ok_then, then_ok}
use Rattle.qc_serve.proofs.Replying.{fill_begins, fill_ends}
use Rattle.qc_serve.proofs.session.Session.fill_entry.Goals as goal

pub fill_plan-sent-requires-clause-fills : goal.fill_plan-sent-requires-clause-fills
fill_plan-sent-requires-clause-fills g c =
    let s = c.args.self.now in
    let status = status_of (flags_of s.state.state) in
    let start : IsGoing c.args.serial (plan_packets c.args.plan c.status-status.result) c.of.result s.seat =
    subst (λ (n : ℕ). IsGoing c.args.serial (plan_packets c.args.plan n) c.of.result s.seat) (sym c.status-status.ensures)
    (fill_begins c.args.turn.now (number_of s) c.args.serial (plan_packets c.args.plan status) s.options c.of.result s.seat c.requires.fills c.requires.options c.of.ensures.0 c.of.ensures.1 c.of.ensures.2) in
    (c.args.serial, start)

pub end_fill-requires-clause-fills : goal.end_fill-requires-clause-fills
end_fill-requires-clause-fills g c =
    let s = c.args.self.now in
    let status = status_of (flags_of s.state.state) in
    let start : IsGoing c.args.serial (plan_packets c.args.plan c.status-status.result) c.of.result s.seat =
    subst (λ (n : ℕ). IsGoing c.args.serial (plan_packets c.args.plan n) c.of.result s.seat) (sym c.status-status.ensures)
    (fill_begins c.args.turn.now (number_of s) c.args.serial (plan_packets c.args.plan status) s.options c.of.result s.seat c.requires.fills c.requires.options c.of.ensures.0 c.of.ensures.1 c.of.ensures.2) in
    let f = c.fill_plan-sent.ensures.fills c.args.serial start in
    (c.args.serial, (f.0, f.1, λ whole. ok_then c.fill_plan-sent.result (f.0 ≡ []) f.2 (sym c.is_ok.ensures.value ∙ whole)))

pub returns-clause-seat : goal.returns-clause-seat
returns-clause-seat g c =
    let s = c.args.self.now in
    let p = c.fill_plan-sent in
    let e = c.end_fill in
    fill_ends c.args.turn.now (number_of s) (task.Fill c.args.serial) s.seat e.new.seat c.requires.fills.has e.ensures.seated.0 (goes_both (view s.seat) (view p.new.seat) (view e.new.seat) p.ensures.goes_on e.ensures.goes_on) e.ensures.rests (e.ensures.seated.1 ∙ p.ensures.seated.1)

pub returns-clause-at : goal.returns-clause-at
returns-clause-at g c =
    let s = c.args.self.now in
    let p = c.fill_plan-sent in
    let status = status_of (flags_of s.state.state) in
    let held = g.K.ReplySink.held c.args.sink.now in
    let out = g.K.ReplySink.held p.new.sink in
    let start : IsGoing c.args.serial (plan_packets c.args.plan c.status-status.result) c.of.result s.seat =
    subst (λ (n : ℕ). IsGoing c.args.serial (plan_packets c.args.plan n) c.of.result s.seat) (sym c.status-status.ensures)
    (fill_begins c.args.turn.now (number_of s) c.args.serial (plan_packets c.args.plan status) s.options c.of.result s.seat c.requires.fills c.requires.options c.of.ensures.0 c.of.ensures.1 c.of.ensures.2) in
    let f = p.ensures.fills c.args.serial start in
    let at = subst (λ (n : ℕ). OnOk p.result (IfSome p.new.fill (λ f. SendsAt (task.Fill c.args.serial) held out (concat (plan_packets c.args.plan n))))) c.status-status.ensures (p.ensures.at c.args.serial start) in
    filled_at p.result p.new.fill c.args.serial (view c.end_fill.new.seat).seen held out (concat (plan_packets c.args.plan status)) at (c.end_fill.ensures.gone c.args.serial f.0 f.1)

pub returns-clause-ended : goal.returns-clause-ended
returns-clause-ended g c =
    let s = c.args.self.now in
    let p = c.fill_plan-sent in
    let status = status_of (flags_of s.state.state) in
    let start : IsGoing c.args.serial (plan_packets c.args.plan c.status-status.result) c.of.result s.seat =
    subst (λ (n : ℕ). IsGoing c.args.serial (plan_packets c.args.plan n) c.of.result s.seat) (sym c.status-status.ensures)
    (fill_begins c.args.turn.now (number_of s) c.args.serial (plan_packets c.args.plan status) s.options c.of.result s.seat c.requires.fills c.requires.options c.of.ensures.0 c.of.ensures.1 c.of.ensures.2) in
    let f = p.ensures.fills c.args.serial start in
    then_ok p.result (HasEnded c.args.serial (view c.end_fill.new.seat)) (λ whole. c.end_fill.ensures.ended c.args.serial f.0 f.1 (c.is_ok.ensures.value ∙ whole))
