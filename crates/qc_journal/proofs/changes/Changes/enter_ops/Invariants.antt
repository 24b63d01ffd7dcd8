use Rattle.std.proofs.Common.{◌≡◌, cond, take}
use Rattle.std.specs.List.{list_any}
use Rattle.qc_types.specs.declared.names.TableName.{TableName}
use Rattle.qc_sql.specs.Database.{touches}
use Rattle.qc_journal.specs.Indexed.{found}
use Rattle.qc_journal.proofs.changes.Changes.enter_ops.Given as goal

abbrev pub invariant-loop-op : goal.invariant-loop-op
invariant-loop-op l = record {
  found : (t : TableName) → found t l.self ≡ cond (list_any (touches t) (take l.op-index l.ops)) l.number (found t l.fn.self);
  same : l.self.entered ≡ l.fn.self.entered;
}
