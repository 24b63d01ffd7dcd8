use Rattle.std.proofs.Common.{sym, ◌∙◌}
use Rattle.qc_serve.proofs.Lookups.{looked, looks_lacking, looks_now}
use Rattle.qc_serve.proofs.session.Session.look.Goals as goal

pub returns-clause-found : goal.returns-clause-found
returns-clause-found g c =
    let t = c.args.turn.now in
    let old = c.args.self.now in
    let n = c.hold in
    let key = c.bytes.result.now in
    looked t c.args.text.now key old n.new.seat n.result (sym c.asks_cache.ensures ∙ c.if-not-asks_cache.false) (λ place. c.bytes.ensures ∙ c.in_ok-key.ensures.key place) c.in_ok-key.ensures.keyed
    (looks_now t old.state.state old.seat n.new.seat key c.session-session.result n.result c.session-session.ensures n.ensures.turns n.ensures.gives n.ensures.keeps)

pub returns-clause-memory : goal.returns-clause-memory
returns-clause-memory g c =
    let n = c.hold in
    looks_lacking c.args.turn.now c.args.self.now n.new.seat c.session-session.result n.result c.session-session.ensures n.ensures.turns n.ensures.none
