-- What holds of an open transaction between two events.
use Rattle.std.specs.Prelude.{◌≡◌, ℕ, ◌+◌, ◌<◌, ◌≤◌, true, List, [], ◌++◌, length, Option, Some, None, IfSome}
use Rattle.std.specs.List.{list_all}
use Rattle.qc_sql.specs.declared.tables.RowOp.{RowOp}
use Rattle.qc_model.specs.declared.events.Event.{Event}
use Rattle.qc_model.specs.declared.events.Event.TheVariants as event
use Rattle.qc_model.specs.Journal.{Journal}
use Rattle.qc_model.specs.Session.{Transaction, at_snapshot, seen_in}
use Rattle.qc_model.specs.Licence.{ops_fit, is_within_rows, MayCommit}
use Rattle.qc_laws.specs.fits.Sound.{is_row_op, IsNoChangeAt}

-- A transaction without a snapshot has no operations. A snapshot is taken at a place up to the next event's, and that event, once it is there,
-- changes nothing.
abbrev pub IsPlacedAt : Option ℕ → List RowOp → Journal → Type 0
IsPlacedAt None ops journal = ops ≡ []
IsPlacedAt (Some place) ops journal = (0 < place) × (place ≤ length journal + 1) × IsNoChangeAt place journal

-- The operations of a transaction are row operations that fit its snapshot, and leave room there.
pub record IsFitting (t : Transaction) (journal : Journal) : Type 0 where
  pub rows : list_all is_row_op t.operations ≡ true
  pub fit : ops_fit t.operations (at_snapshot t.snapshot journal) ≡ true
  pub within : is_within_rows (seen_in (Some t) journal) ≡ true
  pub placed : IsPlacedAt t.snapshot t.operations journal

-- the same of the transaction that is open, where one is
abbrev pub AreFitting : Option Transaction → Journal → Type 0
AreFitting None journal = Unit {0}
AreFitting (Some t) journal = IsFitting t journal

-- a transaction with further operations
abbrev pub grown : Transaction → List RowOp → Transaction
grown t ops = record { snapshot = t.snapshot; operations = t.operations ++ ops }

-- ---- a session between two of its commands

-- the event at the place of its snapshot is there
abbrev pub IsSettled : Option Transaction → Journal → Type 0
IsSettled None journal = Unit {0}
IsSettled (Some t) journal = IfSome t.snapshot (λ place. place ≤ length journal)

pub record IsAtRest (o : Option Transaction) (journal : Journal) : Type 0 where
  pub fitting : AreFitting o journal
  pub settled : IsSettled o journal

-- An event may come, as far as it commits.
abbrev pub MayCome : Journal → Event → Type 0
MayCome journal (event.Commit who ops) = MayCommit journal ops
MayCome journal _ = Unit {0}
