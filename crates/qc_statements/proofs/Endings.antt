-- How the open transaction ends, by the machine.
use Rattle.std.proofs.Common.{◌≡◌, ℕ, List, refl, sym, ap, ◌∙◌, subst, None, Some, Option, Ok, Err, Result}
use Rattle.std.specs.Prelude.{IfOk, IfErr}
use Rattle.qc_types.specs.declared.memory.Or.{Or}
use Rattle.qc_types.specs.declared.memory.Or.TheVariants as or
use Rattle.qc_types.specs.Answers.{Gives}
use Rattle.qc_types.specs.declared.options.Options.{Options}
use Rattle.qc_types.specs.declared.names.TableName.{TableName}
use Rattle.qc_types.specs.declared.sql_error.SqlError.{SqlError}
use Rattle.qc_sql.specs.declared.tables.RowOp.{RowOp}
use Rattle.qc_sql.specs.declared.statements.Statement.{Statement}
use Rattle.qc_sql.specs.Database.{Database, apply}
use Rattle.qc_sql.specs.Effects.{Effect, effect}
use Rattle.qc_sql.specs.Errors.{write_conflict, table_full}
use Rattle.qc_model.specs.declared.events.Event.TheVariants as event
use Rattle.qc_model.specs.declared.events.How.TheVariants as how
use Rattle.qc_model.specs.declared.events.Who.{Who}
use Rattle.qc_model.specs.Journal.{Journal, present}
use Rattle.qc_model.specs.Session.{State, Transaction, own_operations, with_transaction}
use Rattle.qc_model.specs.Conflicts.{Conflict, conflict_of}
use Rattle.qc_model.specs.Machine.{Given, conflict_in, full_table, ending, changed_form, form_given, refused}
use Rattle.qc_statements.specs.Sound.{IsSound, IsOrderly, IsFitAt, IsFitIn, IsFitState, MayFollow}
use Rattle.qc_statements.specs.Ends.{MayTry, IsWithCommit}
use Rattle.qc_statements.proofs.Conflicts.{conflict_is_commit}
use Rattle.qc_statements.proofs.Shorts.{stay_short, full_short}
use Rattle.qc_statements.proofs.Sounds.{small_parts}
use Rattle.qc_laws.specs.sizes.Replies.{FitsError}
use Rattle.qc_laws.proofs.sizes.Answered.{table_full_fits}
use Rattle.qc_laws.proofs.fits.Full.{none_is_full}
use Rattle.qc_laws.proofs.fits.Kept.{kept_snapshots_fit}
use Rattle.qc_laws.proofs.fits.Journals.{lawful_commits_fit}
use Rattle.qc_trx.specs.SnapshotStates.{SnapshotState}
use Rattle.qc_trx.specs.Endings.{meant, end_of, unless_in_conflict}
use Rattle.qc_trx.specs.declared.conflict.Conflict.{Conflict as Met}

-- ---- by the three cases

pub conflict_ends : (who : Who) (J : Journal) (state : State) (c : Conflict) (go : List RowOp → Given) → conflict_in state J ≡ Some c
    → record { event = event.Run who (how.Conflict c.table c.key c.by); reply = refused write_conflict; next = with_transaction state None } ≡ ending who state J go
conflict_ends who J state c go h = rw h refl

pub full_ends : (who : Who) (J : Journal) (state : State) (t : TableName) (go : List RowOp → Given) → conflict_in state J ≡ None → full_table (apply (own_operations state) (present J)) ≡ Some t
    → record { event = event.Run who how.Other; reply = refused (table_full t); next = with_transaction state None } ≡ ending who state J go
full_ends who J state t go h f = rw (h, f) refl

pub commit_ends : (who : Who) (J : Journal) (state : State) (go : List RowOp → Given) → conflict_in state J ≡ None → full_table (apply (own_operations state) (present J)) ≡ None
    → go (own_operations state) ≡ ending who state J go
commit_ends who J state go h f = rw (h, f) refl

pub forms_end : (who : Who) (J : Journal) (state : State) (s : Statement) (r : Result Effect SqlError) → conflict_in state J ≡ None → full_table (apply (own_operations state) (present J)) ≡ None
    → effect s (apply (own_operations state) (present J)) state.db state.session ≡ r → form_given who state (own_operations state) r ≡ changed_form who state J s
forms_end who J state s r h f e = ap (form_given who state (own_operations state)) (sym e) ∙ commit_ends who J state (λ own. form_given who state own (effect s (apply own (present J)) state.db state.session)) h f

-- ---- the operations of a transaction that no later commit met

try_by : {o : Options} (J : Journal) (p : Option ℕ) (ops : List RowOp) (origin : Option Database) → IsFitAt J origin p ops → IsSound o J (present J)
    → conflict_of (record { snapshot = p; operations = ops }) J ≡ None → MayTry ops (present J)
try_by J None ops origin f s h = subst (λ (os : List RowOp). MayTry os (present J)) (sym f.1) (record { small = refl; fit = refl })
try_by {o} J (Some place) ops origin f s h =
    let own = f.own in
    let follow = own.follow in
    record {
      small = follow.small;
      fit = kept_snapshots_fit (record { snapshot = Some place; operations = ops }) place J (lawful_commits_fit o J s.lawful) refl f.quiet own.rows follow.fit h;
    }

try_with : {o : Options} (J : Journal) (s : State) (t : Option Transaction) (origin : Option Database) → IsFitIn J origin t → IsSound o J (present J) → conflict_in (with_transaction s t) J ≡ None
    → MayTry (own_operations (with_transaction s t)) (present J)
try_with J s None origin f sound h = record { small = refl; fit = refl }
try_with J s (Some t) origin f sound h = try_by J t.snapshot t.operations origin f sound h

-- they may be tried on the database as it is now
pub own_tries : {o : Options} (J : Journal) (x : SnapshotState) → IsSound o J (present J) → IsFitState J x → conflict_in x.state J ≡ None → MayTry (own_operations x.state) (present J)
own_tries J x s f h = try_with J x.state x.state.transaction x.origin f.transaction s h

-- a table that would be too full with operations can be told of
pub full_fits : (ops : List RowOp) (d : Database) (t : TableName) → IsOrderly d → MayTry ops d → full_table (apply ops d) ≡ Some t → FitsError (table_full t)
full_fits ops d t orderly try full =
    let parts = small_parts ops try.small in
    let names = full_short (apply ops d) t full (stay_short ops d parts.1 orderly.short) in
    table_full_fits t names.0 names.1

-- they may be carried out, where none would be
pub tried_follows : (ops : List RowOp) (d : Database) → MayTry ops d → full_table (apply ops d) ≡ None → MayFollow ops d
tried_follows ops d try full = record { small = try.small; fit = try.fit; within = none_is_full (apply ops d) full }

sound_at : {o : Options} (J : Journal) (d : Database) → IsSound o J d → IsSound o J (present J)
sound_at {o} J d s = subst (λ (x : Database). IsSound o J x) s.database s

-- the same of the transaction's own, on the database that is there
pub own_full_fits : {o : Options} (J : Journal) (d : Database) (x : SnapshotState) (t : TableName) → IsSound o J d → IsFitState J x → conflict_in x.state J ≡ None → full_table (apply (own_operations x.state) (present J)) ≡ Some t → FitsError (table_full t)
own_full_fits J d x t s f h full = let now = sound_at J d s in full_fits (own_operations x.state) (present J) t now.orderly (own_tries J x now f h) full

pub own_follows : {o : Options} (J : Journal) (d : Database) (x : SnapshotState) → IsSound o J d → IsFitState J x → conflict_in x.state J ≡ None → full_table (apply (own_operations x.state) (present J)) ≡ None
    → MayFollow (own_operations x.state) d
own_follows J d x s f h full = subst (λ (e : Database). MayFollow (own_operations x.state) e) (sym s.database) (tried_follows (own_operations x.state) (present J) (own_tries J x (sound_at J d s) f h) full)

-- ---- what judging answers

by_conflict : (c : Option Conflict) (own ops : List RowOp) → unless_in_conflict c own ≡ Ok ops → (c ≡ None) × (own ≡ ops)
by_conflict None own ops h = (refl, cc)
by_conflict (Some c) own ops h = absurd cc

-- operations: no later commit met them, and they are the transaction's own
pub ends_with : (J : Journal) (state : State) (ops : List RowOp) → end_of state J ≡ Ok ops → (conflict_in state J ≡ None) × (own_operations state ≡ ops)
ends_with J state ops h = by_conflict (conflict_in state J) (own_operations state) ops h

by_met : (c : Option Conflict) (own : List RowOp) (d : Conflict) → unless_in_conflict c own ≡ Err d → c ≡ Some d
by_met None own d h = absurd cc
by_met (Some c) own d h = cc

-- or the conflict
pub ends_in : (J : Journal) (state : State) (c : Conflict) → end_of state J ≡ Err c → conflict_in state J ≡ Some c
ends_in J state c h = by_met (conflict_in state J) (own_operations state) c h

pub when_ends : {X : Type 0} (view : X → List RowOp) (P : List RowOp → Type 0) (J : Journal) (state : State) (r : Result X (Or Met)) → ((ops : List RowOp) → end_of state J ≡ Ok ops → P ops)
    → Gives view meant r (end_of state J) → IfOk r (λ x. P (view x))
when_ends view P J state (Ok x) f g = f (view x) g
when_ends view P J state (Err e) f g = tt

pub when_meets : {X : Type 0} (view : X → List RowOp) (J : Journal) (state : State) (r : Result X (Or Met)) → Gives view meant r (end_of state J) → IfErr r (IsWithCommit J)
when_meets view J state (Ok x) g = tt
when_meets view J state (Err or.Memory) g = tt
when_meets view J state (Err (or.Other c)) g = conflict_is_commit J state (meant c) (ends_in J state (meant c) g)
