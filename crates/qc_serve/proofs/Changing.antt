-- Statements that change rows, tables or databases, on the server's journal.
use Rattle.std.proofs.Common.{◌≡◌, ◌<◌, true, false, List, ◌++◌, length, length-append, refl, sym, ap, ◌∙◌, subst, arith, None, Ok, Err, Result}
use Rattle.std.specs.Prelude.{◌==◌}
use Rattle.qc_types.specs.declared.names.TableName.{TableName}
use Rattle.qc_types.specs.declared.sql_error.SqlError.{SqlError}
use Rattle.qc_sql.specs.declared.statements.Statement.{Statement}
use Rattle.qc_sql.specs.declared.tables.RowOp.{RowOp}
use Rattle.qc_sql.specs.Database.{Database}
use Rattle.qc_sql.specs.Effects.{Effect, effect}
use Rattle.qc_sql.specs.Errors.{table_full}
use Rattle.qc_laws.specs.sizes.Names.{is_short_statement}
use Rattle.qc_laws.specs.sizes.Replies.{FitsError}
use Rattle.qc_model.specs.declared.events.Event.{Event}
use Rattle.qc_model.specs.declared.events.Event.TheVariants as event
use Rattle.qc_model.specs.declared.events.How.TheVariants as how
use Rattle.qc_model.specs.declared.events.Who.{Who}
use Rattle.qc_model.specs.Journal.{Journal, present}
use Rattle.qc_model.specs.Machine.{Given, changed_form, changed_rows, committed, form_given, ok_reply, other, refused}
use Rattle.qc_model.specs.Session.{State, base, own_operations, snapshot_of}
use Rattle.qc_trx.specs.SnapshotStates.{SnapshotState}
use Rattle.qc_turn.specs.Seats.{Held}
use Rattle.qc_core.specs.contracts.server.ServerKept.TheImpl.{ghosts}
use Rattle.qc_core.specs.declared.server_state.ServerState.{ServerState}
use Rattle.qc_statements.specs.Sound.{IsFitState, IsPast, MayFollow}
use Rattle.qc_statements.specs.Ends.{conflict_given, full_given}
use Rattle.qc_statements.specs.Statements.{changes_rows}
use Rattle.qc_trx.specs.declared.conflict.Conflict.{Conflict}
use Rattle.qc_statements.proofs.Choices.{view_is}
use Rattle.qc_statements.proofs.Keeping.{effect_refused, rows_own}
use Rattle.qc_trx.specs.SnapshotStates.{seen_on}
use Rattle.qc_serve.specs.Ends.{FormsAs, IsGiven, RowsAs}
use Rattle.qc_serve.specs.Seats.{IsReady, Pushes, PushesOne}
use Rattle.qc_serve.specs.declared.schema.FormsEnd.TheVariants as forms
use Rattle.qc_serve.specs.declared.rows.RowsEnd.TheVariants as rows
use Rattle.qc_serve.proofs.Endings.{committed_none, committed_some, ready_makes}

-- ---- what is given

pub is_given : (g h : Given) → g ≡ h → IsGiven h g.event g.reply g.next
is_given g h is = record { event = ap (λ (x : Given). x.event) is; reply = sym (ap (λ (x : Given). x.reply) is); next = sym (ap (λ (x : Given). x.next) is) }

-- ---- rows

-- what the session sees on the server's database
pub sees_base : (who : Who) (h : Held ServerState Event ghosts) (x : SnapshotState) → IsReady who h → IsFitState h.value.journal.events x → seen_on h.value.database x ≡ base x.state h.value.journal.events
sees_base who h x r fit = let m = ready_makes who h r in view_is h.value.journal.events h.value.database x m.1 fit

base_closed : (J : Journal) (state : State) → state.transaction ≡ None → base state J ≡ present J
base_closed J state closed = rw closed refl

pub closed_past : (J : Journal) (state : State) → state.transaction ≡ None → IsPast J (snapshot_of state)
closed_past J state closed = rw closed tt

-- what a statement does on rows outside of a transaction may be carried out
pub rows_may : (who : Who) (h : Held ServerState Event ghosts) (st : Statement) (x : SnapshotState) (e : Effect) → IsReady who h → IsFitState h.value.journal.events x → changes_rows st ≡ true → is_short_statement st ≡ true → x.state.transaction ≡ None
    → effect st (base x.state h.value.journal.events) x.state.db x.state.session ≡ Ok e → MayFollow e.operations h.value.database
rows_may who h st x e r fit rows short closed is =
    let J = h.value.journal.events in
    let m = ready_makes who h r in
    let own = rows_own st J h.value.database x e m.1 fit rows short is in
    subst (λ (d : Database). MayFollow e.operations d) (base_closed J x.state closed ∙ sym m.1.database) own.follow

changed_closed : (who : Who) (state : State) (e : Effect) → state.transaction ≡ None → record { event = committed who e.operations; reply = ok_reply state e.affected; next = state } ≡ changed_rows who state (Ok e)
changed_closed who state e closed = rw closed refl

-- it was committed, or there was nothing to commit
pub rows_changed : (who : Who) (state : State) (st : Statement) (J : Journal) (e : Effect) (v : Event) → state.transaction ≡ None → effect st (base state J) state.db state.session ≡ Ok e → committed who e.operations ≡ v → RowsAs who state st J v (rows.Changes e.affected)
rows_changed who state st J e v closed is made =
    let given = is_given (record { event = committed who e.operations; reply = ok_reply state e.affected; next = state }) (changed_rows who state (Ok e)) (changed_closed who state e closed) in
    subst (λ (p : Event × Result Effect SqlError). IsGiven (changed_rows who state p.1) p.0 (ok_reply state e.affected) state) (λ i. (made i, sym is i)) given

pub rows_committed : (who : Who) (h k : Held ServerState Event ghosts) (st : Statement) (x : SnapshotState) (e : Effect) → x.state.transaction ≡ None → effect st (base x.state h.value.journal.events) x.state.db x.state.session ≡ Ok e → (length e.operations == 0) ≡ false
    → Pushes who (event.Commit who e.operations) h k → PushesOne who h k (λ J v. RowsAs who x.state st J v (rows.Changes e.affected))
rows_committed who h k st x e closed is some pushes = record {
  event = event.Commit who e.operations;
  is_so = rows_changed who x.state st h.value.journal.events e (event.Commit who e.operations) closed is (committed_some who e.operations some);
  pushes = pushes;
}

pub rows_none : (who : Who) (h k : Held ServerState Event ghosts) (st : Statement) (x : SnapshotState) (e : Effect) → x.state.transaction ≡ None → effect st (base x.state h.value.journal.events) x.state.db x.state.session ≡ Ok e → (length e.operations == 0) ≡ true
    → Pushes who (event.Run who how.Other) h k → PushesOne who h k (λ J v. RowsAs who x.state st J v (rows.Changes e.affected))
rows_none who h k st x e closed is none pushes = record {
  event = event.Run who how.Other;
  is_so = rows_changed who x.state st h.value.journal.events e (event.Run who how.Other) closed is (committed_none who e.operations none);
  pushes = pushes;
}

-- it was refused
pub rows_refused : (who : Who) (h : Held ServerState Event ghosts) (st : Statement) (x : SnapshotState) (e : SqlError) → IsReady who h → IsFitState h.value.journal.events x → is_short_statement st ≡ true
    → effect st (base x.state h.value.journal.events) x.state.db x.state.session ≡ Err e → RowsAs who x.state st h.value.journal.events (event.Run who how.Other) (rows.Refused e)
rows_refused who h st x e r fit short is =
    let J = h.value.journal.events in
    let m = ready_makes who h r in (
      effect_refused st J h.value.database x e m.1 fit short is,
      subst (λ (v : Result Effect SqlError). IsGiven (changed_rows who x.state v) (event.Run who how.Other) (refused e) x.state) (sym is) (record { event = refl; reply = refl; next = refl }),
    )

-- ---- tables and databases

pub forms_conflict : (who : Who) (state : State) (st : Statement) (J : Journal) (c : Conflict) → conflict_given who state c ≡ changed_form who state J st → FormsAs who state st J (event.Run who (how.Conflict c.table c.key c.by)) forms.Conflict
forms_conflict who state st J c is = is_given (conflict_given who state c) (changed_form who state J st) is

pub forms_full : (who : Who) (state : State) (st : Statement) (J : Journal) (t : TableName) → FitsError (table_full t) → full_given who state t ≡ changed_form who state J st → FormsAs who state st J (event.Run who how.Other) (forms.Full t)
forms_full who state st J t fits is = (fits, is_given (full_given who state t) (changed_form who state J st) is)

pub forms_refused : (who : Who) (state : State) (st : Statement) (J : Journal) (e : SqlError) → FitsError e → other who state (refused e) ≡ changed_form who state J st → FormsAs who state st J (event.Run who how.Other) (forms.Refused e)
forms_refused who state st J e fits is = (fits, is_given (other who state (refused e)) (changed_form who state J st) is)

pub forms_committed : (who : Who) (state : State) (st : Statement) (J : Journal) (e : Effect) (ops : List RowOp) → ops ≡ own_operations state ++ e.operations → form_given who state (own_operations state) (Ok e) ≡ changed_form who state J st
    → FormsAs who state st J (event.Commit who ops) (forms.Changes e.affected)
forms_committed who state st J e ops same is =
    let given = is_given (form_given who state (own_operations state) (Ok e)) (changed_form who state J st) is in
    subst (λ (os : List RowOp). FormsAs who state st J (event.Commit who os) (forms.Changes e.affected)) (sym same) given

-- behind the transaction's own operations
pub more_some : (own ops : List RowOp) → 0 < length ops → 0 < length (own ++ ops)
more_some own ops h = omega (arith, length-append own ops)

pub forms_pushed : (who : Who) (h k : Held ServerState Event ghosts) (state : State) (st : Statement) (e : Effect) (ops : List RowOp) → ops ≡ own_operations state ++ e.operations → form_given who state (own_operations state) (Ok e) ≡ changed_form who state h.value.journal.events st
    → Pushes who (event.Commit who ops) h k → PushesOne who h k (λ J v. FormsAs who state st J v (forms.Changes e.affected))
forms_pushed who h k state st e ops same is pushes = record {
  event = event.Commit who ops;
  is_so = forms_committed who state st h.value.journal.events e ops same is;
  pushes = pushes;
}
