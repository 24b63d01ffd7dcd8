use Rattle.std.proofs.Common.{◌≡◌, drop, true}
use Rattle.qc_sql.specs.Database.{apply}
use Rattle.qc_model.specs.Licence.{ops_fit}
use Rattle.qc_table.proofs.database.Database.tables_after.Given as goal

abbrev pub invariant-loop-op : goal.invariant-loop-op
invariant-loop-op l = record {
  fit : ops_fit (drop l.op-index l.op-items) l.draft ≡ true;
  made : apply (drop l.op-index l.op-items) l.draft ≡ apply l.fn.ops l.fn.self;
}
