use Rattle.qc_statements.proofs.Calls.{on_ok}
use Rattle.qc_serve.proofs.StatusPackets.{head_put}
use Rattle.qc_serve.proofs.status_reply.put_head.Goals as goal

pub returns : goal.returns
returns c =
    let n = c.put_eof in
    on_ok n.result (head_put c.args.state.now.state c.args.out.now c.put_count.new.out c.put_definition.new.out c.put_definition-2.new.out n.new.out c.in_ok-put_count.ensures.ok c.in_ok-put_definition.ensures c.in_ok-put_definition-2.ensures) (rw c.status.ensures at n.ensures.ok)
