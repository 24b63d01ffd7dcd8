use Rattle.std.proofs.Common.{◌≡◌, ◌+◌, drop}
use Rattle.qc_chain.specs.declared.keys.Key.{Key}
use Rattle.qc_dir.specs.Keys.{times}
use Rattle.qc_dir.specs.Indexed.{named_times}
use Rattle.qc_dir.proofs.dir.name_tables.Given as goal

abbrev pub invariant-loop-table : goal.invariant-loop-table
invariant-loop-table l = record {
  keys : (k : Key) → times k l.named.keys + named_times k l.tables.held l.serial (drop l.table-index l.names) ≡ times k l.fn.named.keys + named_times k l.tables.held l.serial l.names;
  room : l.named.room + l.table-index ≡ l.fn.named.room;
}
