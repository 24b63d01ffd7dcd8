use Rattle.std.proofs.Common.{◌≡◌, ◌≤◌, length}
use Rattle.qc_types.specs.declared.names.TableName.{TableName}
use Rattle.qc_journal.specs.Indexed.{last_after}
use Rattle.qc_journal.proofs.changes.Changes.catch_up.Given as goal

abbrev pub invariant-loop-place : goal.invariant-loop-place
invariant-loop-place l = record {
  entered : l.self.entered ≡ l.place;
  within : l.place ≤ length l.events;
  same : (t : TableName) → last_after l.self l.events t ≡ last_after l.fn.self l.events t;
}
