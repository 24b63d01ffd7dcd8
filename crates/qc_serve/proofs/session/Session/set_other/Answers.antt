use Rattle.std.proofs.Common.{List, ℕ}
use Rattle.qc_model.specs.Machine.{ok_reply, refused}
use Rattle.qc_statements.proofs.Calls.{if_ok}
use Rattle.qc_serve.specs.Going.{SetsOther, TellsOut}
use Rattle.qc_serve.proofs.Transacting.{set_may, set_tells, unset_tells}
use Rattle.qc_serve.proofs.session.Session.set_other.Goals as goal

pub tell_ok-requires : goal.tell_ok-requires
tell_ok-requires c = set_may c.args.turn.now c.args.self.now c.args.setting.now c.set.new.self c.requires.rest c.in-Ok.ensures.gives c.set.ensures.same

pub returns-in-Ok-clause-sets : goal.returns-in-Ok-clause-sets
returns-in-Ok-clause-sets c =
    let t = c.args.turn.now in
    let old = c.args.self.now in
    let v = c.args.setting.now in
    let x = c.set.new.self in
    let n = c.tell_ok in
    if_ok (λ (bytes : List ℕ). TellsOut t (record old { state = x }) n.new.self bytes (ok_reply x.state 0) x.state) (SetsOther t v old n.new.self) (λ bytes. set_tells t old n.new.self v x bytes c.in-Ok.ensures.gives) n.result n.ensures.tells

pub returns-in-Err-Other-clause-sets : goal.returns-in-Err-Other-clause-sets
returns-in-Err-Other-clause-sets c =
    let t = c.args.turn.now in
    let old = c.args.self.now in
    let v = c.args.setting.now in
    let x = c.set.new.self in
    let n = c.tell_error in
    let e = c.in-Err-Other.error in
    if_ok (λ (bytes : List ℕ). TellsOut t (record old { state = x }) n.new.self bytes (refused e) x.state) (SetsOther t v old n.new.self)
    (λ bytes. unset_tells t old n.new.self v x e bytes (rw c.in-Err-Other.field-0-is at c.in-Err-Other.ensures.gives) c.in-Err-Other.ensures.err) n.result n.ensures.tells
