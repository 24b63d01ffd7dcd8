-- What is true of a journal with its database, and of a session's state in it.
use Rattle.std.specs.Prelude.{◌≡◌, ◌==◌, ◌≤◌, ◌+◌, ℕ, Bool, true, ◌&&◌, ◌||◌, List, [], length, Option, Some, None}
use Rattle.std.specs.List.{list_all}
use Rattle.qc_types.specs.declared.options.Options.{Options}
use Rattle.qc_sql.specs.declared.tables.RowOp.{RowOp}
use Rattle.qc_sql.specs.Database.{Name, MapOf, Table, Tables, Database, apply}
use Rattle.qc_model.specs.Journal.{Journal, present, before}
use Rattle.qc_model.specs.Session.{Transaction}
use Rattle.qc_model.specs.Licence.{IsLawful, ops_fit, is_within_rows}
use Rattle.qc_model.specs.Sound.{IsSoundDatabase}
use Rattle.qc_laws.specs.sizes.Names.{is_short}
use Rattle.qc_laws.specs.sizes.Replies.{is_bounded_database}
use Rattle.qc_laws.specs.sizes.Operations.{is_small_operation, is_small_event}
use Rattle.qc_laws.specs.fits.Sound.{IsNoChangeAt, is_row_op}
use Rattle.qc_trx.specs.SnapshotStates.{SnapshotState, after_arrival, after_sight}

-- ---- its database

-- short names, each of something that passes a test
abbrev pub are_named : {X : Type 0} → (X → Bool) → MapOf Name X → Bool
are_named test m = list_all (λ entry. is_short entry.0 && test entry.1) m

abbrev pub have_short_names : Tables → Bool
have_short_names ts = are_named {X = Table} (λ table. true) ts

-- the names of the databases are short, and those of their tables
abbrev pub are_short : Database → Bool
are_short d = are_named have_short_names d

pub record IsOrderly (d : Database) : Type 0 where
  pub sound : IsSoundDatabase d
  pub within : is_within_rows d ≡ true
  pub bounded : is_bounded_database d ≡ true
  pub short : are_short d ≡ true

-- the journal is lawful, and the database is the one that it makes
pub record IsSound (options : Options) (journal : Journal) (d : Database) : Type 0 where
  pub small : list_all is_small_event journal ≡ true
  pub lawful : IsLawful options journal
  pub database : d ≡ present journal
  pub orderly : IsOrderly d

-- ---- its transaction

-- operations that may be carried out on a database
pub record MayFollow (ops : List RowOp) (d : Database) : Type 0 where
  pub small : list_all is_small_operation ops ≡ true
  pub fit : ops_fit ops d ≡ true
  pub within : is_within_rows (apply ops d) ≡ true

-- operations on rows that may
pub record AreOwn (ops : List RowOp) (d : Database) : Type 0 where
  pub rows : list_all is_row_op ops ≡ true
  pub follow : MayFollow ops d

-- its snapshot is a place of the journal or the next one, where nothing is committed; the database there, and its own operations
pub record HasSnapshot (journal : Journal) (place : ℕ) (origin : Option Database) (ops : List RowOp) : Type 0 where
  pub least : 1 ≤ place
  pub most : place ≤ length journal + 1
  pub quiet : IsNoChangeAt place journal
  pub is : origin ≡ Some (present (before place journal))
  pub own : AreOwn ops (present (before place journal))

-- before it has a snapshot it has no operations
abbrev pub IsFitAt : Journal → Option Database → Option ℕ → List RowOp → Type 0
IsFitAt journal origin None own = (origin ≡ None) × (own ≡ [])
IsFitAt journal origin (Some place) own = HasSnapshot journal place origin own

abbrev pub IsFitTransaction : Journal → Option Database → Transaction → Type 0
IsFitTransaction journal origin t = IsFitAt journal origin t.snapshot t.operations

abbrev pub IsFitIn : Journal → Option Database → Option Transaction → Type 0
IsFitIn journal origin None = origin ≡ None
IsFitIn journal origin (Some t) = IsFitTransaction journal origin t

pub record IsFitState (journal : Journal) (x : SnapshotState) : Type 0 where
  pub db : is_short x.state.db ≡ true
  pub charset : (x.state.charset == 33 || x.state.charset == 45) ≡ true
  pub transaction : IsFitIn journal x.origin x.state.transaction

-- the snapshot was taken at an event that is there
abbrev pub IsPast : Journal → Option ℕ → Type 0
IsPast journal None = Unit {0}
IsPast journal (Some place) = place ≤ length journal

-- ---- what arrives

-- a statement on rows has arrived at this place, on this database: where a transaction is open, or opens by itself, it has a snapshot now
abbrev pub arrived_snapshot_state : ℕ → Database → SnapshotState → SnapshotState
arrived_snapshot_state place now x = after_sight place now (after_arrival x)
