use Rattle.qc_statements.proofs.Calls.{on_ok}
use Rattle.qc_serve.proofs.StatusPackets.{rows_put}
use Rattle.qc_serve.proofs.status_reply.put_rows.Goals as goal

pub returns : goal.returns
returns c =
    let n = c.put_variable-8 in
    let blocks = rw c.from.ensures at c.in_ok-put_variable.ensures in
    let memory = rw c.from-free_memory.ensures at c.in_ok-put_variable-2.ensures in
    on_ok n.result
    (rows_put c.args.counters.now c.args.totals.now c.args.out.now c.put_variable.new.out c.put_variable-2.new.out c.put_variable-3.new.out c.put_variable-4.new.out c.put_variable-5.new.out c.put_variable-6.new.out c.put_variable-7.new.out n.new.out blocks memory c.in_ok-put_variable-3.ensures c.in_ok-put_variable-4.ensures c.in_ok-put_variable-5.ensures c.in_ok-put_variable-6.ensures c.in_ok-put_variable-7.ensures)
    (rw c.from-2.ensures at n.ensures)
