use Rattle.qc_sql.specs.declared.replies.ColumnDef.{ColumnDef}
use Rattle.qc_wire.proofs.Lengths.{column_bound}
use Rattle.qc_wire_tests.proofs.packets.version_comment.Goals as goal

pub returns : goal.returns
returns g c =
    let column : ColumnDef = record {
      schema = c.short.result;
      table = c.short-2.result;
      org_table = c.short-3.result;
      name = c.short-4.result;
      org_name = c.short-5.result;
      charset = 8;
      length = 28;
      kind = 253;
      flags = 0;
      decimals = 31;
    } in
    column_bound column c.short.ensures c.short-2.ensures c.short-3.ensures c.short-4.ensures c.short-5.ensures
