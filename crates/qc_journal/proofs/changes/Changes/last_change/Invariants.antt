use Rattle.std.proofs.Common.{◌≡◌, ◌+◌, ◌≤◌, drop, length}
use Rattle.qc_model.specs.Journal.{last_number, touches_table}
use Rattle.qc_journal.specs.Indexed.{last_after}
use Rattle.qc_journal.proofs.changes.Changes.last_change.Given as goal

abbrev pub invariant-loop-place : goal.invariant-loop-place
invariant-loop-place l = record {
  within : l.place ≤ length l.events;
  same : last_number (touches_table l.table) l.found (l.place + 1) (drop l.place l.events) ≡ last_after l.self l.events l.table;
}
