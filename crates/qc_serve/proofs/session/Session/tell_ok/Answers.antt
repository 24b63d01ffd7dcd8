use Rattle.qc_model.specs.Machine.{ok_reply}
use Rattle.qc_serve.proofs.Resting.{tells_out}
use Rattle.qc_serve.proofs.session.Session.tell_ok.Goals as goal

pub returns-clause-tells : goal.returns-clause-tells
returns-clause-tells c =
    let old = c.args.self.now in
    let n = c.put_line in
    tells_out c.args.turn.now old n.new.self c.in_ok-reply.reply (ok_reply old.state.state 0) c.requires.rest (rw c.status.ensures at c.in_ok-reply.ensures) n.ensures.same n.ensures.lines
