-- What a call under the turn has decided, of a seat that was made ready before it.
use Rattle.std.proofs.Common.{◌≡◌, ℕ, Ok, Err, Result, Option, subst, sym, ap, ◌∙◌}
use Rattle.std.specs.Prelude.{IfOk, OnErr}
use Rattle.qc_model.specs.declared.events.Event.{Event}
use Rattle.qc_model.specs.declared.events.Who.{Who}
use Rattle.qc_model.specs.Journal.{Journal}
use Rattle.qc_model.specs.Session.{snapshot_of}
use Rattle.qc_trx.specs.SnapshotStates.{SnapshotState}
use Rattle.qc_turn.specs.declared.seat.Seat.{Seat}
use Rattle.qc_turn.specs.declared.view.View.{View}
use Rattle.qc_turn.specs.declared.view.Holding.TheVariants.{Holds}
use Rattle.qc_turn.specs.Seats.{Held, holder, view, words}
use Rattle.qc_turn.specs.Views.{with_turn}
use Rattle.qc_core.specs.contracts.server.ServerKept.TheImpl.{ghosts}
use Rattle.qc_core.specs.declared.server_state.ServerState.{ServerState}
use Rattle.qc_statements.specs.Sound.{IsFitState, IsPast}
use Rattle.qc_statements.proofs.States.{fit_on}
use Rattle.qc_serve.specs.Seats.{Decides, GoesOn, HasRested, IsReady, IsSameSeat, MayRest, Pushes, PushesNone, PushesOne, next_of}
use Rattle.qc_serve.proofs.Seating.{pushes_on, same_again}

-- ---- a seat that is ready

-- the session's event is the next one behind what it has seen
pub ready_who : (session : ℕ) (who : Who) (h k : Held ServerState Event ghosts) → IsSameSeat h k → who.session ≡ session → IsReady who k → who ≡ next_of session (holder h).seen
ready_who session who h k same named r = r.who_is ∙ (λ i. next_of (named i) (same.seen i))

-- the journal as it was taken, behind what the session has seen
pub ready_goes_on : (session : ℕ) (who : Who) (h k : Held ServerState Event ghosts) → IsSameSeat h k → who.session ≡ session → IsReady who k → GoesOn session (holder h).seen k.value.journal.events
ready_goes_on session who h k same named r = subst (λ (p : ℕ × Journal). GoesOn p.0 p.1 k.value.journal.events) (λ i. (named i, same.seen i)) r.goes_on

-- a state that fits what the session has seen fits the journal as it was taken
pub fit_taken : (session : ℕ) (who : Who) (h k : Held ServerState Event ghosts) (x : SnapshotState) → IsSameSeat h k → who.session ≡ session → IsReady who k → IsPast (holder h).seen (snapshot_of x.state) → IsFitState (holder h).seen x
    → IsFitState k.value.journal.events x
fit_taken session who h k x same named r past fit =
    let goes = ready_goes_on session who h k same named r in
    let begins = goes.begins in
    subst (λ (j : Journal). IsFitState j x) (sym begins.1) (fit_on (holder h).seen begins.0 x past fit)

-- ---- the one event was pushed, or none

pub one_decided : (session : ℕ) (who : Who) (h k m : Held ServerState Event ghosts) (IsSo : Who → Journal → Event → Type 0) → IsSameSeat h k → who.session ≡ session → IsReady who k → PushesOne who k m (IsSo who)
    → Decides session (holder h).seen m.value.journal.events (IsSo (next_of session (holder h).seen))
one_decided session who h k m IsSo same named r p =
    let pushed = p.pushes in
    record {
      journal = k.value.journal.events;
      goes_on = ready_goes_on session who h k same named r;
      event = p.event;
      is_so = subst (λ (w : Who). IsSo w k.value.journal.events p.event) (ready_who session who h k same named r) p.is_so;
      events = pushed.events;
    }

pub one_rests : (who : Who) (h k m : Held ServerState Event ghosts) (IsSo : Journal → Event → Type 0) → IsSameSeat h k → PushesOne who k m IsSo → MayRest m × IsSameSeat h m
one_rests who h k m IsSo same p = let pushed = p.pushes in (pushed.rest, same_again h k m same pushed.same)

pub none_rests : (h k m : Held ServerState Event ghosts) → IsSameSeat h k → PushesNone k m → MayRest m × IsSameSeat h m
none_rests h k m same p = (p.rest, same_again h k m same p.same)

pub none_decided : (session : ℕ) (who : Who) (h k m : Held ServerState Event ghosts) → IsSameSeat h k → who.session ≡ session → IsReady who k → PushesNone k m → GoesOn session (holder h).seen m.value.journal.events
none_decided session who h k m same named r p = subst (GoesOn session (holder h).seen) (sym p.events) (ready_goes_on session who h k same named r)

-- ---- behind a call that changed nothing

pub one_on : (who : Who) (h k m : Held ServerState Event ghosts) (IsSo : Journal → Event → Type 0) → IsSameSeat h k → k.value ≡ h.value → PushesOne who k m IsSo → PushesOne who h m IsSo
one_on who h k m IsSo same value p = record {
  event = p.event;
  is_so = subst (λ (x : ServerState). IsSo x.journal.events p.event) value p.is_so;
  pushes = pushes_on who p.event h k m same value p.pushes;
}

pub made_one : (who : Who) (e : Event) (h k m : Held ServerState Event ghosts) (IsSo : Journal → Event → Type 0) → IsSo h.value.journal.events e → IsSameSeat h k → k.value ≡ h.value → Pushes who e k m → PushesOne who h m IsSo
made_one who e h k m IsSo is_so same value p = record { event = e; is_so = is_so; pushes = pushes_on who e h k m same value p }

pub none_on : (h k m : Held ServerState Event ghosts) → IsSameSeat h k → k.value ≡ h.value → PushesNone k m → PushesNone h m
none_on h k m same value p = record {
  same = same_again h k m same p.same;
  rest = p.rest;
  events = p.events ∙ ap (λ (x : ServerState). x.journal.events) value;
}

pub answer_one_on : {X E : Type 0} (who : Who) (h k m : Held ServerState Event ghosts) (IsSo : X → Journal → Event → Type 0) (r : Result X E) → IsSameSeat h k → k.value ≡ h.value → IfOk r (λ x. PushesOne who k m (IsSo x)) → IfOk r (λ x. PushesOne who h m (IsSo x))
answer_one_on who h k m IsSo (Ok x) same value p = one_on who h k m (IsSo x) same value p
answer_one_on who h k m IsSo (Err e) same value p = tt

pub answer_none_on : {X E : Type 0} (h k m : Held ServerState Event ghosts) (r : Result X E) → IsSameSeat h k → k.value ≡ h.value → OnErr r (PushesNone k m) → OnErr r (PushesNone h m)
answer_none_on h k m (Ok x) same value p = tt
answer_none_on h k m (Err e) same value p = none_on h k m same value p

-- ---- whatever a call answers

pub answer_rests : {X E : Type 0} (who : Who) (h k m : Held ServerState Event ghosts) (IsSo : X → Journal → Event → Type 0) (r : Result X E) → IsSameSeat h k → IfOk r (λ x. PushesOne who k m (IsSo x)) → OnErr r (PushesNone k m) → MayRest m × IsSameSeat h m
answer_rests who h k m IsSo (Ok x) same ok err = one_rests who h k m (IsSo x) same ok
answer_rests who h k m IsSo (Err e) same ok err = none_rests h k m same err

pub answer_decides : {X E : Type 0} (session : ℕ) (who : Who) (h k m : Held ServerState Event ghosts) (IsSo : X → Who → Journal → Event → Type 0) (r : Result X E) → IsSameSeat h k → who.session ≡ session → IsReady who k → IfOk r (λ x. PushesOne who k m (IsSo x who))
    → IfOk r (λ x. Decides session (holder h).seen m.value.journal.events (IsSo x (next_of session (holder h).seen)))
answer_decides session who h k m IsSo (Ok x) same named ready ok = one_decided session who h k m (IsSo x) same named ready ok
answer_decides session who h k m IsSo (Err e) same named ready ok = tt

pub answer_goes_on : {X E : Type 0} (session : ℕ) (who : Who) (h k m : Held ServerState Event ghosts) (r : Result X E) → IsSameSeat h k → who.session ≡ session → IsReady who k → OnErr r (PushesNone k m) → OnErr r (GoesOn session (holder h).seen m.value.journal.events)
answer_goes_on session who h k m (Ok x) same named ready err = tt
answer_goes_on session who h k m (Err e) same named ready err = none_decided session who h k m same named ready err

-- ---- at the seat

-- where the seat took the turn with what it knew
pub seen_held : (s : Seat ServerState Event ghosts) (h : Held ServerState Event ghosts) → holder h ≡ with_turn (view s) h.value (words h) → (holder h).seen ≡ (view s).seen
seen_held s h holds = ap (λ (w : View ServerState Event). w.seen) holds

pub fit_held : (s : Seat ServerState Event ghosts) (h : Held ServerState Event ghosts) (x : SnapshotState) → holder h ≡ with_turn (view s) h.value (words h) → IsFitState (view s).seen x → IsFitState (holder h).seen x
fit_held s h x holds fit = subst (λ (j : Journal). IsFitState j x) (sym (seen_held s h holds)) fit

pub past_held : (s : Seat ServerState Event ghosts) (h : Held ServerState Event ghosts) (p : Option ℕ) → holder h ≡ with_turn (view s) h.value (words h) → IsPast (view s).seen p → IsPast (holder h).seen p
past_held s h p holds past = subst (λ (j : Journal). IsPast j p) (sym (seen_held s h holds)) past

-- and gave it back
pub seat_decides : {X E : Type 0} (session : ℕ) (old : Seat ServerState Event ghosts) (new : View ServerState Event) (h m : Held ServerState Event ghosts) (IsSo : X → Who → Journal → Event → Type 0) (r : Result X E) → holder h ≡ with_turn (view old) h.value (words h)
    → HasRested (holder m) new m.value → IfOk r (λ x. Decides session (holder h).seen m.value.journal.events (IsSo x (next_of session (holder h).seen))) → IfOk r (λ x. Decides session (view old).seen new.seen (IsSo x (next_of session (view old).seen)))
seat_decides session old new h m IsSo r holds rested d =
    let seen = seen_held old h holds in
    subst (λ (p : Journal × Journal). IfOk r (λ x. Decides session p.0 p.1 (IsSo x (next_of session p.0)))) (λ i. (seen i, sym rested.seen i)) d
