use Rattle.std.proofs.Common.{◌≡◌, ◌+◌, ◌-◌, ◌*◌, drop, length}
use Rattle.qc_dir.specs.Keys.{total}
use Rattle.qc_dir.specs.Uses.{entries_of}
use Rattle.qc_dir.proofs.Removals.{IsRemoving}
use Rattle.qc_dir.proofs.dir.Dir.remove.Given as goal

abbrev pub invariant-loop-table : goal.invariant-loop-table
invariant-loop-table l = record {
  entries : l.self-inside.entries ≡ l.initial.self-inside.entries;
  removing : IsRemoving (entries_of l.initial.self-inside.entries) l.serial (drop l.table-index l.table-items) l.initial.self-inside.tables l.self-inside.tables l.self-inside.named
      (8 * l.initial.self-inside.entries.room + total (λ e. 8 - length e.tables) (entries_of l.initial.self-inside.entries)) l.freed;
}
