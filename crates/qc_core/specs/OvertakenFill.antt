-- The event that took an entry out before its fill ended.
use Rattle.std.specs.Prelude.{◌≡◌, ℕ, ◌+◌, ◌<◌, Bool, true, false, List, length, Option, Some, None, IfSome, IsSomeAnd, ◌==◌}
use Rattle.std.specs.List.{list_any}
use Rattle.qc_types.specs.declared.names.TableName.{TableName}
use Rattle.qc_types.specs.declared.options.Options.{Options}
use Rattle.qc_sql.specs.declared.tables.RowOp.{RowOp}
use Rattle.qc_sql.specs.Database.{touches}
use Rattle.qc_model.specs.declared.events.Event.{Event}
use Rattle.qc_model.specs.declared.events.Event.TheVariants as event
use Rattle.qc_model.specs.declared.events.How.TheVariants as how
use Rattle.qc_model.specs.Journal.{Journal, event_at}
use Rattle.qc_model.specs.Cache.{cache, entry_of}
use Rattle.qc_model.specs.Licence.{IsLawful}
use Rattle.qc_laws.specs.history.Runs.{IsStarted}
use Rattle.qc_sound.specs.Ended.{is_ended}

-- one of these tables is touched by one of these operations
abbrev pub any_touched : List TableName → List RowOp → Bool
any_touched tables ops = list_any (λ t. list_any (touches t) ops) tables

-- a commit on one of these tables, or a reset
abbrev pub overtakes : List TableName → Event → Bool
overtakes tables (event.Reset who) = true
overtakes tables (event.Commit who ops) = any_touched tables ops
overtakes tables e = false

abbrev pub is_start_of : ℕ → Event → Bool
is_start_of n (event.Run who (how.Start k key tables)) = k == n
is_start_of n e = false

-- the tables of an entry that the event starts
abbrev pub started_tables : Event → Option (List TableName)
started_tables (event.Run who (how.Start k key tables)) = Some tables
started_tables e = None

-- the entry was started by the event with this number
abbrev pub IsStartedAt : Journal → ℕ → ℕ → Type 0
IsStartedAt j n at = (s : IsStarted j n) × (length s.earlier + 1 ≡ at)

-- the number of the first event after a place that overtakes an entry on these tables
pub record IsFirstOvertaking (j : Journal) (tables : List TableName) (after by : ℕ) : Type 0 where
  pub past : after < by
  pub event : IsSomeAnd (event_at j by) (λ e. overtakes tables e ≡ true)
  pub first : (k : ℕ) → after < k → k < by → IfSome (event_at j k) (λ e. overtakes tables e ≡ false)

-- the number of the first commit on one of the entry's tables, or reset, after its start, where its fill hasn't ended
pub record IsOvertaken (j : Journal) (n by : ℕ) : Type 0 where
  pub start : IsStarted j n
  pub filling : is_ended n j ≡ false
  pub first : IsFirstOvertaking j start.tables (length start.earlier + 1) by

-- the entry was started and isn't there any more, though its fill hasn't ended
pub record WasOvertaken (j : Journal) (n : ℕ) : Type 0 where
  pub options : Options
  pub lawful : IsLawful options j
  pub start : IsStarted j n
  pub filling : is_ended n j ≡ false
  pub left : entry_of n (cache j) ≡ None
