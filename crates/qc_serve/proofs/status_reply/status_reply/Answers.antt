use Rattle.qc_serve.proofs.StatusPackets.{status_put}
use Rattle.qc_serve.proofs.status_reply.status_reply.Goals as goal

pub returns : goal.returns
returns c =
    status_put c.args.state.now.state c.args.counters.now c.args.totals.now c.in_ok-out.out c.put_head.new.out c.put_rows.new.out c.put_eof.new.out c.in_ok-out.ensures c.in_ok-put_head.ensures c.in_ok-put_rows.ensures (rw c.status.ensures at c.in_ok-put_eof.ensures.ok)
