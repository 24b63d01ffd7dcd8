use Rattle.std.proofs.Common.{◌≡◌, drop}
use Rattle.std.specs.List.{list_any}
use Rattle.qc_sql.specs.Database.{Database}
use Rattle.qc_model.specs.Conflicts.{changes_form}
use Rattle.qc_trx.specs.Writes.{written_on}
use Rattle.qc_trx.proofs.conflict.change_form.Given as goal

-- none of the operations so far is one
abbrev pub invariant-loop-op : goal.invariant-loop-op
invariant-loop-op l =
    (d : Database) → list_any (changes_form l.table) (written_on l.ops d) ≡ list_any (changes_form l.table) (written_on (drop l.op-index l.ops) d)
