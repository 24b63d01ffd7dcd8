-- The database that a session sees, by the journal.
use Rattle.std.proofs.Common.{◌≡◌, ℕ, List, sym, ap, true≢false}
use Rattle.std.specs.Prelude.{Option, Some, None, IfSome}
use Rattle.std.proofs.lemmas.Option.{same_Some}
use Rattle.qc_sql.specs.declared.tables.RowOp.{RowOp}
use Rattle.qc_sql.specs.Database.{Database, apply}
use Rattle.qc_model.specs.Journal.{Journal, present}
use Rattle.qc_model.specs.Session.{State, Transaction, base, snapshot_of, with_transaction}
use Rattle.qc_trx.specs.Endings.{IsOriginIn, StandsIn}
use Rattle.qc_trx.specs.SnapshotStates.{IsSnapshotState, SnapshotState, seen_on}
use Rattle.qc_select.proofs.Settling.{IsReached}

-- a session's state with this transaction
abbrev on : State → Option Transaction → Option Database → SnapshotState
on s t o = record { state = with_transaction s t; origin = o }

in_transaction : (J : Journal) (d : Database) (s : State) (ops : List RowOp) (p : Option ℕ) (o : Option Database) → d ≡ present J → IsSnapshotState (on s (Some (record { snapshot = p; operations = ops })) o)
    → StandsIn J (on s (Some (record { snapshot = p; operations = ops })) o) → seen_on d (on s (Some (record { snapshot = p; operations = ops })) o) ≡ base (with_transaction s (Some (record { snapshot = p; operations = ops }))) J
in_transaction J d s ops None None is i st = ap (apply ops) is
in_transaction J d s ops None (Some e) is i st = absurd (true≢false i.snapshot)
in_transaction J d s ops (Some n) None is i st = absurd (true≢false (sym i.snapshot))
in_transaction J d s ops (Some n) (Some e) is i st = ap (apply ops) (same_Some e _ st.is)

by_transaction : (J : Journal) (d : Database) (s : State) (t : Option Transaction) (o : Option Database) → d ≡ present J → IsSnapshotState (on s t o) → StandsIn J (on s t o) → seen_on d (on s t o) ≡ base (with_transaction s t) J
by_transaction J d s (Some t) o is i st = in_transaction J d s t.operations t.snapshot o is i st
by_transaction J d s None None is i st = is
by_transaction J d s None (Some e) is i st = absurd (true≢false i.snapshot)

pub seen_is : (J : Journal) (d : Database) (x : SnapshotState) → d ≡ present J → IsSnapshotState x → StandsIn J x → seen_on d x ≡ base x.state J
seen_is J d x is i st = let s = x.state in by_transaction J d s s.transaction x.origin is i st

-- its snapshot is in the journal, or stands behind its end
pub reached : (J : Journal) (x : SnapshotState) → StandsIn J x → IsReached J (snapshot_of x.state)
reached J x st = by (snapshot_of x.state) st
  where
    by : (p : Option ℕ) → IfSome p (λ place. IsOriginIn J place x.origin) → IsReached J p
    by None h = tt
    by (Some n) h = h.most
