use Rattle.std.proofs.Common.{◌≡◌, drop}
use Rattle.std.specs.Prelude.{option_copied}
use Rattle.qc_trx.specs.Writes.{columns_left}
use Rattle.qc_sql.specs.Database.{columns_of}
use Rattle.qc_trx.proofs.noting.columns_left.Given as goal

-- the columns after the operations so far
abbrev pub invariant-loop-op : goal.invariant-loop-op
invariant-loop-op l = columns_left l.table (drop l.op-index l.making) (option_copied l.columns) ≡ columns_left l.table l.making (columns_of l.table l.seen)
