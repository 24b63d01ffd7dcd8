-- What a journal keeps beside its events.
use Rattle.std.specs.Prelude.{◌≡◌, ℕ, ◌≤◌, List, length}
use Rattle.qc_types.specs.declared.names.TableName.{TableName}
use Rattle.qc_model.specs.Journal.{Journal, last_change}
use Rattle.qc_journal.specs.declared.changes.Changes.{Changes}
use Rattle.qc_journal.specs.declared.counts.Counts.{Counts}
use Rattle.qc_journal.specs.Counting.{AreCounts, AreCounted}
use Rattle.qc_journal.specs.Indexed.{last_after}

-- the counts, of all and of each session, are those of the events, and the index, with the events that are not entered, tells the last change of each table
pub record IsKept (counts : Counts) (sessions : List ℕ) (changes : Changes) (journal : Journal) : Type 0 where
  pub counted : AreCounts counts journal
  pub by_session : AreCounted sessions journal
  pub within : changes.entered ≤ length journal
  pub indexed : (t : TableName) → last_after changes journal t ≡ last_change journal t
