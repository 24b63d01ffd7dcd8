-- What a session sees of the tables that its snapshot and the present have in common.
use Rattle.std.specs.Prelude.{◌≡◌, ℕ, ◌≤◌, true, not, ◌&&◌, Bool, Option, Some, None}
use Rattle.qc_types.specs.declared.names.TableName.{TableName}
use Rattle.qc_sql.specs.Database.{table_of}
use Rattle.qc_model.specs.Journal.{Journal, present}
use Rattle.qc_model.specs.Session.{State, base, snapshot_of}
use Rattle.qc_model.specs.Choice.{wrote, is_stale}
use Rattle.qc_laws.specs.fits.Sound.{IsNoChangeAt}

-- its own transaction hasn't written the table, and it hasn't changed since the snapshot
abbrev pub is_current : State → Journal → TableName → Bool
is_current state journal t = not (wrote state t) && not (is_stale state journal t)

-- a snapshot is taken at the place of a statement that reads or writes rows, so nothing is committed there
abbrev pub IsPlace : Journal → Option ℕ → Type 0
IsPlace journal None = Unit {0}
IsPlace journal (Some place) = (1 ≤ place) × IsNoChangeAt place journal

-- such a table is the same in what the session sees and in the present
abbrev pub SeesPresent : Type 0
SeesPresent = (state : State) (journal : Journal) (t : TableName) → IsPlace journal (snapshot_of state) → is_current state journal t ≡ true
    → table_of t (base state journal) ≡ table_of t (present journal)
