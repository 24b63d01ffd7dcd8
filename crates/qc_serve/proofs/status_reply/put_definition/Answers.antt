use Rattle.qc_sql.specs.Packets.{column_payload}
use Rattle.qc_model.specs.Machine.{status_column}
use Rattle.qc_statements.proofs.Calls.{on_ok}
use Rattle.qc_serve.proofs.StatusPackets.{definition_fits, one_put}
use Rattle.qc_serve.proofs.status_reply.put_definition.Goals as goal

pub put_column-requires : goal.put_column-requires
put_column-requires c = rw (c.in_ok-of.ensures, c.in_ok-of-2.ensures, c.in_ok-of-3.ensures, c.in_ok-of-4.ensures, c.in_ok-of-5.ensures, c.flags.ensures) (definition_fits c.args.state.now.state c.args.name.now c.args.bytes c.requires.short)

pub returns : goal.returns
returns c =
    let n = c.put_column in
    let put = rw (c.in_ok-of.ensures, c.in_ok-of-2.ensures, c.in_ok-of-3.ensures, c.in_ok-of-4.ensures, c.in_ok-of-5.ensures, c.flags.ensures) at n.ensures.ok in
    on_ok n.result (λ e. one_put c.args.sequence (column_payload (status_column c.args.state.now.state c.args.name.now c.args.bytes)) c.args.out.now n.new.out c.requires.before e) put
