use Rattle.std.proofs.Common.{◌≡◌, map}
use Rattle.qc_dir.specs.Directory.{moved_entry, moved_table}
use Rattle.qc_dir.specs.Uses.{texts_at}
use Rattle.qc_dir.proofs.dir.Dir.shift.Given as goal

abbrev pub invariant-loop-change : goal.invariant-loop-change
invariant-loop-change l = record {
  entries : map (moved_entry l.change) l.self.entries ≡ map (moved_entry l.change) l.fn.self.entries;
  tables : l.self.tables ≡ map (moved_table l.change) l.fn.self.tables;
  room : l.self.room ≡ l.fn.self.room;
  table_room : l.self.table_room ≡ l.fn.self.table_room;
}

abbrev pub decreases-loop-change : goal.decreases-loop-change
decreases-loop-change l = texts_at l.change.from l.self.entries
