-- A transaction ends on the server's journal.
use Rattle.std.proofs.Common.{◌≡◌, ◌<◌, true, false, List, [], ◌∷◌, length, refl, sym, ap, ◌∙◌, subst, arith, true≢false, Some, None, Option, Ok, Err}
use Rattle.std.specs.Prelude.{◌==◌}
use Rattle.std.proofs.lemmas.Bool.Decides.{Decides-eqb}
use Rattle.qc_types.specs.declared.options.Options.{Options}
use Rattle.qc_types.specs.declared.names.TableName.{TableName}
use Rattle.qc_sql.specs.declared.tables.RowOp.{RowOp}
use Rattle.qc_sql.specs.Database.{Database, apply}
use Rattle.qc_model.specs.declared.events.Event.{Event}
use Rattle.qc_model.specs.declared.events.Event.TheVariants as event
use Rattle.qc_model.specs.declared.events.How.TheVariants as how
use Rattle.qc_model.specs.declared.events.Who.{Who}
use Rattle.qc_model.specs.Conflicts.{Conflict}
use Rattle.qc_model.specs.Journal.{Journal, present}
use Rattle.qc_model.specs.Machine.{Given, committed, conflict_in, full_table, ok_reply}
use Rattle.qc_model.specs.Session.{State, own_operations}
use Rattle.qc_trx.specs.SnapshotStates.{SnapshotState}
use Rattle.qc_trx.specs.Endings.{meant}
use Rattle.qc_trx.specs.declared.conflict.Conflict.{Conflict as Met}
use Rattle.qc_turn.specs.Seats.{Held}
use Rattle.qc_core.specs.contracts.server.ServerKept.TheImpl.{ghosts}
use Rattle.qc_core.specs.declared.server_state.ServerState.{ServerState}
use Rattle.qc_statements.specs.Sound.{IsFitState, IsSound}
use Rattle.qc_statements.specs.Ends.{MayTry}
use Rattle.qc_statements.proofs.Endings.{commit_ends, conflict_ends, full_ends, own_full_fits, own_tries}
use Rattle.qc_statements.proofs.Fitting.{has_room, is_full}
use Rattle.qc_statements.proofs.States.{sound_of}
use Rattle.qc_laws.proofs.fits.Full.{within_is_not_full}
use Rattle.qc_table.specs.Fitting.{fitting}
use Rattle.qc_serve.specs.Ends.{EndsAs, Makes}
use Rattle.qc_serve.specs.Seats.{IsReady, IsSameSeat, Pushes, PushesNone, PushesOne}
use Rattle.qc_serve.proofs.Seating.{pushes_on, ready_rests}
use Rattle.qc_serve.specs.declared.transaction_end.Ended.TheVariants as ended

-- the server's journal is sound, and makes its database
pub ready_makes : (who : Who) (h : Held ServerState Event ghosts) → IsReady who h → Makes h.value.journal.events h.value.database
ready_makes who h r =
    let stands = r.stands in
    let whole = stands.sound.1 in
    let all = whole.sound in
    let j = all.journal in
    (h.value.options, sound_of h.value.options h.value.journal.events h.value.database j.small j.lawful j.database)

pub ready_present : (who : Who) (h : Held ServerState Event ghosts) → IsReady who h → Makes h.value.journal.events (present h.value.journal.events)
ready_present who h r = let m = ready_makes who h r in (m.0, subst (λ (d : Database). IsSound m.0 h.value.journal.events d) m.1.database m.1)

-- ---- how it ends

pub ends_in_conflict : (who : Who) (state : State) (J : Journal) (c : Conflict) → conflict_in state J ≡ Some c → EndsAs who state J (event.Run who (how.Conflict c.table c.key c.by)) ended.Conflict
ends_in_conflict who state J c h next =
    let is = conflict_ends who J state c (λ own. record { event = committed who own; reply = ok_reply next 0; next = next }) h in
    record { event = ap (λ (g : Given). g.event) is; reply = sym (ap (λ (g : Given). g.reply) is); next = sym (ap (λ (g : Given). g.next) is) }

pub ends_full : {o : Options} (who : Who) (J : Journal) (d : Database) (x : SnapshotState) (t : TableName) → IsSound o J d → IsFitState J x → conflict_in x.state J ≡ None → full_table (apply (own_operations x.state) (present J)) ≡ Some t
    → EndsAs who x.state J (event.Run who how.Other) (ended.Full t)
ends_full who J d x t sound fit alone full = (
  own_full_fits J d x t sound fit alone full,
  λ next.
      let is = full_ends who J x.state t (λ own. record { event = committed who own; reply = ok_reply next 0; next = next }) alone full in
      record { event = ap (λ (g : Given). g.event) is; reply = sym (ap (λ (g : Given). g.reply) is); next = sym (ap (λ (g : Given). g.next) is) },
)

pub ends_by_commit : (who : Who) (J : Journal) (state : State) → conflict_in state J ≡ None → full_table (apply (own_operations state) (present J)) ≡ None → EndsAs who state J (committed who (own_operations state)) ended.Commits
ends_by_commit who J state alone full next =
    let is = commit_ends who J state (λ own. record { event = committed who own; reply = ok_reply next 0; next = next }) alone full in
    record { event = ap (λ (g : Given). g.event) is; reply = sym (ap (λ (g : Given). g.reply) is); next = sym (ap (λ (g : Given). g.next) is) }

-- ---- what is committed

pub some_are : {X : Type 0} (xs : List X) → (length xs == 0) ≡ false → 0 < length xs
some_are [] h = absurd (true≢false h)
some_are (x ∷ xs) h = omega arith

not_none : {X P : Type 0} (x : X) (xs : List X) → (length (x ∷ xs) == 0) ≡ true → P
not_none x xs h = let none : length (x ∷ xs) ≡ 0 = (Decides-eqb (length (x ∷ xs)) 0).0 h in absurd (omega (arith, none))

pub committed_some : (who : Who) (ops : List RowOp) → (length ops == 0) ≡ false → committed who ops ≡ event.Commit who ops
committed_some who [] h = absurd (true≢false h)
committed_some who (o ∷ os) h = refl

-- the transaction's own operations may be tried
pub own_may : (who : Who) (h : Held ServerState Event ghosts) (x : SnapshotState) (ops : List RowOp) → IsReady who h → IsFitState h.value.journal.events x → conflict_in x.state h.value.journal.events ≡ None → ops ≡ own_operations x.state → MayTry ops h.value.database
own_may who h x ops r fit alone is =
    let m = ready_makes who h r in
    subst (λ (os : List RowOp). MayTry os h.value.database) (sym is)
    (subst (λ (d : Database). MayTry (own_operations x.state) d) (sym m.1.database) (own_tries h.value.journal.events x (ready_present who h r).1 fit alone))

full_on : (who : Who) (h : Held ServerState Event ghosts) (x : SnapshotState) (ops : List RowOp) (o : Option TableName) → IsReady who h → ops ≡ own_operations x.state → full_table (apply ops h.value.database) ≡ o → full_table (apply (own_operations x.state) (present h.value.journal.events)) ≡ o
full_on who h x ops o r is full = let m = ready_makes who h r in (λ i. full_table (apply (sym is i) (sym m.1.database i))) ∙ full

-- they were committed
pub own_committed : (who : Who) (h k : Held ServerState Event ghosts) (x : SnapshotState) (ops : List RowOp) → IsReady who h → conflict_in x.state h.value.journal.events ≡ None → ops ≡ own_operations x.state → (length ops == 0) ≡ false
    → fitting (apply ops h.value.database) ≡ Ok (apply ops h.value.database) → Pushes who (event.Commit who ops) h k → PushesOne who h k (λ J e. EndsAs who x.state J e ended.Commits)
own_committed who h k x ops r alone is some fits pushes =
    let J : Journal = h.value.journal.events in
    let full = full_on who h x ops None r is (has_room (apply ops h.value.database) (apply ops h.value.database) fits).0 in
    let event_is : committed who (own_operations x.state) ≡ event.Commit who ops = ap (committed who) (sym is) ∙ committed_some who ops some in
    record {
      event = event.Commit who ops;
      is_so = subst (λ (e : Event). EndsAs who x.state J e ended.Commits) event_is (ends_by_commit who J x.state alone full);
      pushes = pushes;
    }

-- there were none
none_full : (who : Who) (h : Held ServerState Event ghosts) (ops : List RowOp) → IsReady who h → (length ops == 0) ≡ true → full_table (apply ops h.value.database) ≡ None
none_full who h [] r h0 = let m = ready_makes who h r in let orderly = m.1.orderly in within_is_not_full h.value.database orderly.within
none_full who h (o ∷ os) r h0 = not_none o os h0

pub committed_none : (who : Who) (ops : List RowOp) → (length ops == 0) ≡ true → committed who ops ≡ event.Run who how.Other
committed_none who [] h = refl
committed_none who (o ∷ os) h = not_none o os h

pub own_none : (who : Who) (h k : Held ServerState Event ghosts) (x : SnapshotState) (ops : List RowOp) → IsReady who h → conflict_in x.state h.value.journal.events ≡ None → ops ≡ own_operations x.state → (length ops == 0) ≡ true
    → Pushes who (event.Run who how.Other) h k → PushesOne who h k (λ J e. EndsAs who x.state J e ended.Commits)
own_none who h k x ops r alone is none pushes =
    let J : Journal = h.value.journal.events in
    let full = full_on who h x ops None r is (none_full who h ops r none) in
    let event_is : committed who (own_operations x.state) ≡ event.Run who how.Other = ap (committed who) (sym is) ∙ committed_none who ops none in
    record {
      event = event.Run who how.Other;
      is_so = subst (λ (e : Event). EndsAs who x.state J e ended.Commits) event_is (ends_by_commit who J x.state alone full);
      pushes = pushes;
    }

-- a table would be too full with them
pub own_full : (who : Who) (h k m : Held ServerState Event ghosts) (x : SnapshotState) (ops : List RowOp) (t : TableName) → IsReady who h → IsFitState h.value.journal.events x → conflict_in x.state h.value.journal.events ≡ None → ops ≡ own_operations x.state
    → fitting (apply ops h.value.database) ≡ Err t → IsSameSeat h k → k.value ≡ h.value → Pushes who (event.Run who how.Other) k m → PushesOne who h m (λ J e. EndsAs who x.state J e (ended.Full t))
own_full who h k m x ops t r fit alone is fits same value pushes =
    let made = ready_makes who h r in
    record {
      event = event.Run who how.Other;
      is_so = ends_full who h.value.journal.events h.value.database x t made.1 fit alone (full_on who h x ops (Some t) r is (is_full (apply ops h.value.database) t fits));
      pushes = pushes_on who (event.Run who how.Other) h k m same value pushes;
    }

-- nothing was pushed
pub none_pushed : (who : Who) (h k : Held ServerState Event ghosts) → IsSameSeat h k → IsReady who k → k.value ≡ h.value → PushesNone h k
none_pushed who h k same ready value = record { same = same; rest = ready_rests who k ready; events = ap (λ (x : ServerState). x.journal.events) value }

-- it was rolled back for a conflict
pub conflict_pushed : (who : Who) (h k : Held ServerState Event ghosts) (state : State) (c : Met) → conflict_in state h.value.journal.events ≡ Some (meant c) → Pushes who (event.Run who (how.Conflict c.table c.key c.by)) h k → PushesOne who h k (λ J e. EndsAs who state J e ended.Conflict)
conflict_pushed who h k state c met pushes = record {
  event = event.Run who (how.Conflict c.table c.key c.by);
  is_so = ends_in_conflict who state h.value.journal.events (meant c) met;
  pushes = pushes;
}
