-- What a seat knows under the turn, and when it has given it back.
use Rattle.std.proofs.Common.{◌≡◌, ℕ, ◌+◌, ◌-◌, ◌<◌, true, false, List, [], ◌∷◌, ◌++◌, length, refl, sym, ap, ◌∙◌, subst, arith}
use Rattle.std.specs.Prelude.{◌==◌}
use Rattle.std.specs.List.{list_any}
use Rattle.qc_model.specs.declared.events.Event.{Event}
use Rattle.qc_model.specs.declared.events.Who.{Who}
use Rattle.qc_model.specs.Agrees.{who_of}
use Rattle.qc_model.specs.Journal.{Journal, event_count, events_of}
use Rattle.qc_laws.specs.runs.Runs.{StartsWith, own}
use Rattle.qc_laws.proofs.runs.Lists.{quiet_own, same_events}
use Rattle.qc_laws.proofs.runs.Steps.{of_seat_is}
use Rattle.qc_laws.proofs.runs.Whole.{own_count}
use Rattle.qc_chain.specs.Chains.{Ranged}
use Rattle.qc_turn.specs.declared.view.View.{View}
use Rattle.qc_turn.specs.declared.view.Holding.TheVariants.{Holds}
use Rattle.qc_turn.specs.declared.seat.Seat.{Seat}
use Rattle.qc_turn.specs.declared.turn.Turn.{Turn}
use Rattle.qc_turn.specs.declared.task.Task.{Task}
use Rattle.qc_turn.specs.declared.task.Task.TheVariants as task
use Rattle.qc_turn.specs.declared.task.ListedTask.{ListedTask}
use Rattle.qc_turn.specs.Releases.{Follows}
use Rattle.qc_turn.specs.Seats.{Held, IsHeld, IsSeatOf, MayRelease, SameHolder, holder, taken, view, with_value, words}
use Rattle.qc_turn.specs.Steps.{Taken}
use Rattle.qc_turn.specs.Tasks.{IsListed, is_stream, listed_for, released_task, task_in}
use Rattle.qc_turn.specs.Views.{after_release, base_of, idle_of, of_seat, with_turn, with_word_set}
use Rattle.qc_turn.proofs.Holders.{follows_refl}
use Rattle.qc_core.specs.contracts.server.ServerKept.TheImpl.{ghosts}
use Rattle.qc_core.specs.declared.server_state.ServerState.{ServerState}
use Rattle.qc_core.specs.Calls.{HasMoreRoom, HasSpare}
use Rattle.qc_core.specs.TaskEnd.{rested}
use Rattle.qc_core.specs.Connection.{is_connected}
use Rattle.qc_core.specs.ListRoom.{Reserved}
use Rattle.qc_core.specs.EndedStreams.{Finds}
use Rattle.qc_core.specs.Whole.{tasks_of}
use Rattle.qc_serve.proofs.Books.{books_on, more_books, rested_books}
use Rattle.qc_serve.specs.Seats.{Decides, GoesOn, HasRested, IsIdle, IsReady, IsSameSeat, MayRest, Pushes, RestsAgain, SameBooks, SeatRests}

-- ---- the journal

-- the events of a seat are those of its session
pub seat_events : (n : ℕ) (J : Journal) → 0 < n → of_seat ghosts n J ≡ events_of (n - 1) J
seat_events n J h = let is : n ≡ n - 1 + 1 = omega (arith, h) in ap (λ k. of_seat ghosts k J) is ∙ of_seat_is (n - 1) J

-- a journal that goes on without events of the session
pub goes_on : (s : ℕ) (I J : Journal) → StartsWith J I → events_of s J ≡ events_of s I → GoesOn s I J
goes_on s I J b e =
    let none : events_of s b.0 ≡ [] = same_events s I b.0 (ap (events_of s) (sym b.1) ∙ e) in
    record { begins = b; none = ap (own s) b.1 ∙ quiet_own s I b.0 none }

-- and as many of its events
pub same_count : (s : ℕ) (I J : Journal) → GoesOn s I J → event_count J s ≡ event_count I s
same_count s I J g = sym (own_count s J) ∙ (ap length g.none ∙ own_count s I)

-- ---- the same seat

pub same_seat : (h k : Held ServerState Event ghosts) → SameHolder h k → k.ranges ≡ h.ranges → IsSameSeat h k
same_seat h k s ranges = record {
  seat = s.seat;
  turn = s.turn;
  number = ap (λ (v : View ServerState Event). v.number) s.holder;
  seen = ap (λ (v : View ServerState Event). v.seen) s.holder;
  fixed = ap (λ (v : View ServerState Event). v.fixed) s.holder;
  registry = ap (λ (v : View ServerState Event). v.registry) s.holder;
  word_set = ap (λ (v : View ServerState Event). v.word_set) s.holder;
  task = ap (λ (v : View ServerState Event). v.task) s.holder;
  ranges = ranges;
}

pub found_seat : (h k : Held ServerState Event ghosts) (found : _) → Finds h k found → IsSameSeat h k
found_seat h k found s = record {
  seat = s.seat;
  turn = s.turn;
  number = ap (λ (v : View ServerState Event). v.number) s.holder;
  seen = ap (λ (v : View ServerState Event). v.seen) s.holder;
  fixed = ap (λ (v : View ServerState Event). v.fixed) s.holder;
  registry = ap (λ (v : View ServerState Event). v.registry) s.holder;
  word_set = ap (λ (v : View ServerState Event). v.word_set) s.holder;
  task = ap (λ (v : View ServerState Event). v.task) s.holder;
  ranges = s.ranges;
}

pub same_again : (h k m : Held ServerState Event ghosts) → IsSameSeat h k → IsSameSeat k m → IsSameSeat h m
same_again h k m s t = record {
  seat = t.seat ∙ s.seat;
  turn = t.turn ∙ s.turn;
  number = t.number ∙ s.number;
  seen = t.seen ∙ s.seen;
  fixed = t.fixed ∙ s.fixed;
  registry = t.registry ∙ s.registry;
  word_set = t.word_set ∙ s.word_set;
  task = t.task ∙ s.task;
  ranges = t.ranges ∙ s.ranges;
}

-- ---- as the turn was taken

pub idle : (t : Turn ServerState Event) (session : ℕ) (s : Seat ServerState Event ghosts) (h : Held ServerState Event ghosts) → SeatRests t session s → IsHeld h → Taken ghosts (view s) h.value (words h)
    → holder h ≡ with_turn (view s) h.value (words h) → IsIdle session h
idle t session s h rests held taken_as holds =
    let v : View ServerState Event = view s in
    let number : (holder h).number ≡ v.number = ap (λ (w : View ServerState Event). w.number) holds in
    let seen : (holder h).seen ≡ v.seen = ap (λ (w : View ServerState Event). w.seen) holds in
    let J : Journal = h.value.journal.events in
    let seated : 0 < v.number = omega (arith, rests.number) in
    let one : v.number - 1 ≡ session = omega (arith, rests.number) in
    let same : events_of session J ≡ events_of session v.seen
    = ap (λ n. events_of n J) (sym one) ∙ (sym (seat_events v.number J seated) ∙ (sym taken_as.events ∙ rests.events)) in
    let stays : taken h ≡ h.value = ap (λ (w : View ServerState Event). base_of h.value w.holding) holds in
    let listed : IsListed v.number task.Rest [] (listed_for v.number (tasks_of h.value)) = subst (λ (w : Task). IsListed v.number w [] (listed_for v.number (tasks_of h.value))) rests.task (none_listed v.number v.task v.blocks (listed_for v.number (tasks_of h.value)) rests.task taken_as.listed) in
    record {
      stands = record { held = held; sound = taken_as.sound; follows = subst (λ (b : ServerState). Follows ghosts (holder h).number (idle_of (holder h).found) b h.value) (sym stays) (follows_refl ghosts (holder h).number (idle_of (holder h).found) h.value) };
      seat = number ∙ rests.number;
      unset = ap (λ (w : View ServerState Event). w.word_set) holds ∙ (taken_as.word_set ∙ ap is_stream rests.task);
      rests = subst (λ n. IsListed n task.Rest [] (listed_for n (tasks_of h.value))) (sym number) listed;
      connected = ap (λ n. is_connected n h.value) number ∙ (sym taken_as.connected ∙ rests.connected);
      goes_on = subst (λ (i : Journal). GoesOn session i J) (sym seen) (goes_on session v.seen J taken_as.seen same);
    }
  where
    none_listed : (n : ℕ) (t : Task) (bs : _) (ts : List ListedTask) → t ≡ task.Rest → IsListed n t bs ts → IsListed n t [] ts
    none_listed n task.Rest bs ts is h = h
    none_listed n (task.Stream k) bs ts is h = absurd cc
    none_listed n (task.Fill k) bs ts is h = absurd cc

-- ---- the turn may be given back

connected_on : (n m : ℕ) (x y : ServerState) → n ≡ m → y.connected ≡ x.connected → is_connected m x ≡ true → is_connected n y ≡ true
connected_on n m x y number same h = (λ i. let r : Reserved ℕ = same i in list_any (λ k. k == number i) r.items) ∙ h

pub may_rest : (h k : Held ServerState Event ghosts) → IsSameSeat h k → 0 < (holder h).number → (holder h).word_set ≡ false → is_connected (holder h).number h.value ≡ true → MayRelease k → k.value.connected ≡ h.value.connected
    → listed_for (holder k).number (tasks_of k.value) ≡ [] → MayRest k
may_rest h k same seated unset connected stands books free = record {
  stands = stands;
  seated = subst (λ n. 0 < n) (sym same.number) seated;
  unset = same.word_set ∙ unset;
  free = free;
  connected = connected_on (holder k).number (holder h).number h.value k.value same.number books connected;
}

-- a seat that may push its next event may also give the turn back
pub ready_rests : (who : Who) (h : Held ServerState Event ghosts) → IsReady who h → MayRest h
ready_rests who h r = let next = r.next in record { stands = r.stands; seated = omega (arith, r.seat); unset = r.unset; free = next.free; connected = next.connected }

-- one that was idle is ready, or may give the turn back
pub prepared : (session : ℕ) (h k : Held ServerState Event ghosts) → IsIdle session h → MayRelease k → IsSameSeat h k → SameBooks h.value k.value → listed_for (holder h).number (tasks_of k.value) ≡ [] → MayRest k
prepared session h k i stands same books free =
    may_rest h k same (omega (arith, i.seat)) i.unset i.connected stands books.connected (subst (λ n. listed_for n (tasks_of k.value) ≡ []) (sym same.number) free)

pub ready : (session : ℕ) (h k : Held ServerState Event ghosts) (number : ℕ) → IsIdle session h → MayRest k → IsSameSeat h k → SameBooks h.value k.value → HasSpare k.value → number ≡ event_count k.value.journal.events session + 1
    → IsReady (who_of session number) k
ready session h k number i rest same books room counted =
    let seat : (holder k).number ≡ session + 1 = same.number ∙ i.seat in
    let goes : GoesOn session (holder k).seen k.value.journal.events = subst (λ (p : Journal × Journal). GoesOn session p.0 p.1) (λ j. (sym same.seen j, sym books.events j)) i.goes_on in
    record {
      stands = rest.stands;
      seat = seat;
      unset = rest.unset;
      next = record { session = omega (arith, seat); number = counted; connected = rest.connected; free = rest.free };
      who_is = ap (who_of session) (counted ∙ ap (λ n. n + 1) (same_count session (holder k).seen k.value.journal.events goes));
      room = room;
      goes_on = goes;
    }

-- ---- an event

pub pushes : (who : Who) (e : Event) (h k : Held ServerState Event ghosts) → IsReady who h → IsSameSeat h k → MayRelease k → k.value.journal.events ≡ h.value.journal.events ++ e ∷ [] → k.value.connected ≡ h.value.connected
    → listed_for (holder k).number (tasks_of k.value) ≡ [] → Pushes who e h k
pushes who e h k r same stands events books free =
    let next = r.next in
    record {
      same = same;
      rest = may_rest h k same (omega (arith, r.seat)) r.unset next.connected stands books free;
      events = events;
    }

-- the same tasks are listed for the same seat
pub still_free : (h k : Held ServerState Event ghosts) (who : Who) → IsReady who h → IsSameSeat h k → tasks_of k.value ≡ tasks_of h.value → listed_for (holder k).number (tasks_of k.value) ≡ []
still_free h k who r same tasks = let next = r.next in (λ i. listed_for (same.number i) (tasks i)) ∙ next.free

-- ---- the turn is given back

pub has_rested : (v : View ServerState Event) (x : ServerState) (us : List ℕ) → 0 < v.number → listed_for v.number (tasks_of x) ≡ [] → is_connected v.number x ≡ true → HasRested v (after_release ghosts (with_word_set v false) x us) x
has_rested v x us seated free connected = record {
  number = refl;
  fixed = refl;
  registry = refl;
  seen = refl;
  task = ap (λ (ts : List ListedTask). released_task false (task_in ts)) free;
  connected = connected;
  events = seat_events v.number x.journal.events seated;
}

-- it rests again
pub rests_again : (t : Turn ServerState Event) (session : ℕ) (old new : Seat ServerState Event ghosts) (h k : Held ServerState Event ghosts) → SeatRests t session old → holder h ≡ with_turn (view old) h.value (words h) → h.turn.now ≡ t → h.ranges ≡ old.ranges → IsSameSeat h k
    → IsSeatOf k.turn.now new → HasRested (holder k) (view new) k.value → new.ranges ≡ k.ranges → RestsAgain t session old new
rests_again t session old new h k rests holds turn held same seated rested ranges =
    let number : (holder k).number ≡ (view old).number = same.number ∙ ap (λ (w : View ServerState Event). w.number) holds in
    let one : (holder k).number - 1 ≡ session = omega (arith, number, rests.number) in
    record {
      rests = record {
        seated = subst (λ (u : Turn ServerState Event). IsSeatOf u new) (same.turn ∙ turn) seated;
        number = rested.number ∙ (number ∙ rests.number);
        few = rests.few;
        task = rested.task;
        connected = rested.connected;
        events = rested.events ∙ (λ i. events_of (one i) (sym rested.seen i));
      };
      fixed = rested.fixed ∙ (same.fixed ∙ ap (λ (w : View ServerState Event). w.fixed) holds);
      registry = rested.registry ∙ (same.registry ∙ ap (λ (w : View ServerState Event). w.registry) holds);
      ranges = ap (λ (r : Ranged). r.room) (ranges ∙ (same.ranges ∙ held));
    }

-- what was decided of the session's event
pub decides : (session : ℕ) (old new : Seat ServerState Event ghosts) (h k m : Held ServerState Event ghosts) (who : Who) (e : Event) (IsSo : Journal → Event → Type 0) → holder h ≡ with_turn (view old) h.value (words h) → IsSameSeat h k → who.session ≡ session → IsReady who k → Pushes who e k m
    → HasRested (holder m) (view new) m.value → IsSo k.value.journal.events e → Decides session (view old).seen (view new).seen IsSo
decides session old new h k m who e IsSo holds same named ready pushed rested is_so =
    let seen : (holder k).seen ≡ (view old).seen = same.seen ∙ ap (λ (w : View ServerState Event). w.seen) holds in
    record {
      journal = k.value.journal.events;
      goes_on = subst (λ (p : ℕ × Journal). GoesOn p.0 p.1 k.value.journal.events) (λ i. (named i, seen i)) ready.goes_on;
      event = e;
      is_so = is_so;
      events = rested.seen ∙ pushed.events;
    }

-- where nothing was pushed
pub nothing_pushed : (session : ℕ) (old new : Seat ServerState Event ghosts) (h k : Held ServerState Event ghosts) → holder h ≡ with_turn (view old) h.value (words h) → IsSameSeat h k → IsIdle session h → k.value.journal.events ≡ h.value.journal.events
    → HasRested (holder k) (view new) k.value → GoesOn session (view old).seen (view new).seen
nothing_pushed session old new h k holds same i events rested =
    let seen : (holder h).seen ≡ (view old).seen = ap (λ (w : View ServerState Event). w.seen) holds in
    subst (λ (p : Journal × Journal). GoesOn session p.0 p.1) (λ j. (seen j, (sym events ∙ sym rested.seen) j)) i.goes_on

-- ---- room was made, and ended streams were struck off

pub reserved_books : (h k : Held ServerState Event ghosts) → HasMoreRoom (rested (holder h).number h.value) k.value → SameBooks h.value k.value
reserved_books h k more = books_on h.value (rested (holder h).number h.value) k.value (rested_books (holder h).number h.value) (more_books (rested (holder h).number h.value) k.value more)

pub reserved_rests : (session : ℕ) (h k : Held ServerState Event ghosts) → IsIdle session h → MayRelease k × SameHolder h k → k.ranges ≡ h.ranges → HasMoreRoom (rested (holder h).number h.value) k.value → listed_for (holder h).number (tasks_of k.value) ≡ [] → MayRest k
reserved_rests session h k i both ranges more free = prepared session h k i both.0 (same_seat h k both.1 ranges) (reserved_books h k more) free

pub reserved_ready : (session : ℕ) (h k : Held ServerState Event ghosts) (x : ServerState) (number : ℕ) → IsIdle session h → MayRelease k × SameHolder h k → k.ranges ≡ h.ranges → HasMoreRoom (rested (holder h).number h.value) k.value → listed_for (holder h).number (tasks_of k.value) ≡ []
    → HasSpare k.value → x ≡ k.value → number ≡ event_count x.journal.events session + 1 → IsReady (who_of session number) (with_value k x)
reserved_ready session h k x number i both ranges more free room same counted =
    subst (λ (y : ServerState). IsReady (who_of session number) (with_value k y)) (sym same)
    (ready session h k number i (reserved_rests session h k i both ranges more free) (same_seat h k both.1 ranges) (reserved_books h k more) room (counted ∙ ap (λ (y : ServerState). event_count y.journal.events session + 1) same))

-- the same from before a call that changed nothing
pub pushes_on : (who : Who) (e : Event) (h k m : Held ServerState Event ghosts) → IsSameSeat h k → k.value ≡ h.value → Pushes who e k m → Pushes who e h m
pushes_on who e h k m same value p = record {
  same = same_again h k m same p.same;
  rest = p.rest;
  events = p.events ∙ ap (λ (x : ServerState). x.journal.events ++ e ∷ []) value;
}

-- the value was borrowed, and nothing was written
pub ready_same : (who : Who) (h : Held ServerState Event ghosts) (x : ServerState) → IsReady who h → x ≡ h.value → IsReady who (with_value h x) × IsSameSeat h (with_value h x) × (x ≡ h.value)
ready_same who h x r is =
    subst (λ (y : ServerState). IsReady who (with_value h y) × IsSameSeat h (with_value h y) × (y ≡ h.value)) (sym is)
    (r, record { seat = refl; turn = refl; number = refl; seen = refl; fixed = refl; registry = refl; word_set = refl; task = refl; ranges = refl }, refl)
