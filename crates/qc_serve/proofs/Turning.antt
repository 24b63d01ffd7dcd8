-- A session takes the turn for one request, and gives it back with a task.
use Rattle.std.proofs.Common.{◌≡◌, ℕ, ◌+◌, ◌-◌, ◌≤◌, true, false, List, [], ◌∷◌, length, refl, sym, ap, ◌∙◌, subst, arith}
use Rattle.std.specs.Prelude.{IfOk, Ok, Err, Result, unwrap_or}
use Rattle.qc_types.specs.declared.options.Options.{Options}
use Rattle.qc_model.specs.declared.events.Event.{Event}
use Rattle.qc_model.specs.declared.events.Who.{Who}
use Rattle.qc_model.specs.Journal.{Journal, events_of, present}
use Rattle.qc_model.specs.Session.{answer}
use Rattle.qc_turn.specs.declared.seat.Seat.{Seat}
use Rattle.qc_turn.specs.declared.task.Task.{Task}
use Rattle.qc_turn.specs.declared.task.Task.TheVariants as task
use Rattle.qc_turn.specs.declared.turn.Turn.{Turn}
use Rattle.qc_turn.specs.declared.view.View.{View}
use Rattle.qc_turn.specs.Releases.{SpellsReleased}
use Rattle.qc_turn.specs.Rules.{ContentRule}
use Rattle.qc_turn.specs.Seats.{Held, IsHeld, IsSeatOf, holder, view, words}
use Rattle.qc_turn.specs.Steps.{Taken}
use Rattle.qc_turn.specs.Tasks.{blocks_in, is_stream, own, released_blocks, released_task, task_in}
use Rattle.qc_turn.specs.Views.{after_release, bytes_on, content_of, with_turn, with_word_set}
use Rattle.qc_turn.specs.Words.{word_seats}
use Rattle.qc_tiles.specs.declared.blocks.Block.{Block}
use Rattle.qc_sound.specs.Sound.{FitsFill}
use Rattle.qc_sound.proofs.Laws.{fits_by_start}
use Rattle.qc_core.specs.contracts.server.ServerKept.TheImpl.{ghosts}
use Rattle.qc_core.specs.declared.server_state.ServerState.{ServerState}
use Rattle.qc_serve.specs.Holding.{HasOne, IsPrepared, IsReleased, IsTaken, MayGoOn, TurnsHeld, TurnsTo, next_in, standing_at, standing_in, task_left}
use Rattle.qc_serve.specs.Seats.{IsReady, IsSameSeat, MayRest, Pushes, RestsAgain, SameBooks, SeatRests}
use Rattle.qc_serve.proofs.Seating.{idle, seat_events}

-- ---- the turn is taken

pub is_taken : (t : Turn ServerState Event) (session : ℕ) (s : Seat ServerState Event ghosts) (h : Held ServerState Event ghosts) → SeatRests t session s → IsHeld h → Taken ghosts (view s) h.value (words h)
    → holder h ≡ with_turn (view s) h.value (words h) → IsTaken session h
is_taken t session s h rests held taken holds =
    let number : (holder h).number ≡ (view s).number = ap (λ (w : View ServerState Event). w.number) holds in
    record {
      idle = idle t session s h rests held taken holds;
      rested = ap (λ (w : View ServerState Event). w.task) holds ∙ rests.task;
      known = ap (λ (w : View ServerState Event). w.fixed) holds ∙ taken.fixed;
      few = omega (arith, number, rests.number, rests.few);
    }

-- it stands where the seat stood
pub stood : (session : ℕ) (s : Seat ServerState Event ghosts) (h : Held ServerState Event ghosts) → h.ranges ≡ s.ranges → holder h ≡ with_turn (view s) h.value (words h) → standing_in session h ≡ standing_at session s
stood session s h ranges holds = λ i. record {
  session = session;
  seen = ap (λ (w : View ServerState Event). w.seen) holds i;
  fixed = ap (λ (w : View ServerState Event). w.fixed) holds i;
  room = ap (λ r. r.room) ranges i;
}

-- so does the same seat
pub stands_still : (a b : ℕ) (h k : Held ServerState Event ghosts) → b ≡ a → IsSameSeat h k → standing_in b k ≡ standing_in a h
stands_still a b h k named same = λ i. record { session = named i; seen = same.seen i; fixed = same.fixed i; room = ap (λ r. r.room) same.ranges i }

fixed_same : (o p : ServerState) → SameBooks o p → ghosts.fixed p ≡ ghosts.fixed o
fixed_same o p books = ap (λ (x : Options). x.size ∷ x.limit ∷ x.unit ∷ x.kind ∷ []) books.options

pub is_prepared : (session : ℕ) (who : Who) (h k : Held ServerState Event ghosts) → IsTaken session h → IsSameSeat h k → SameBooks h.value k.value → IsReady who k → IsPrepared who k
is_prepared session who h k taken same books ready = record {
  ready = ready;
  rested = same.task ∙ taken.rested;
  known = same.fixed ∙ (taken.known ∙ sym (fixed_same h.value k.value books));
  few = subst (λ n. n ≤ word_seats) (sym same.number) taken.few;
}

-- ---- the request was decided

-- the seat may rest
pub turns_to_rest : (h k : Held ServerState Event ghosts) → (holder h).task ≡ task.Rest → (holder h).number ≤ word_seats → IsSameSeat h k → MayRest k → TurnsHeld task.Rest h k
turns_to_rest h k rested few same rest = record {
  may = record {
    stands = rest.stands;
    seated = rest.seated;
    few = subst (λ n. n ≤ word_seats) (sym same.number) few;
    unset = rest.unset;
    rested = same.task ∙ rested;
    listed = rest.free;
    begun = tt;
    connected = rest.connected;
  };
  same = record { seat = same.seat; turn = same.turn; number = same.number; seen = same.seen; fixed = same.fixed; registry = same.registry; word_set = same.word_set; task = same.task; ranges = refl };
  room = ap (λ r. r.room) same.ranges;
}

-- the same from before the seat made ready
pub turns_on : (x : Task) (h k m : Held ServerState Event ghosts) → IsSameSeat h k → TurnsHeld x k m → TurnsHeld x h m
turns_on x h k m same turns =
    let s = turns.same in
    record {
      may = turns.may;
      same = record { seat = s.seat ∙ same.seat; turn = s.turn ∙ same.turn; number = s.number ∙ same.number; seen = s.seen ∙ same.seen; fixed = s.fixed ∙ same.fixed; registry = s.registry ∙ same.registry; word_set = s.word_set ∙ same.word_set; task = s.task ∙ same.task; ranges = refl };
      room = turns.room ∙ ap (λ r. r.room) same.ranges;
    }

-- ---- the turn is given back

task_released : (n : ℕ) (x : Task) (bs : List Block) → released_task (is_stream x) (task_in (own n x bs)) ≡ x
task_released n task.Rest bs = refl
task_released n (task.Stream s) bs = refl
task_released n (task.Fill s) bs = refl

pub turned : (t : Turn ServerState Event) (session : ℕ) (x : Task) (old new : Seat ServerState Event ghosts) (h k : Held ServerState Event ghosts) → SeatRests t session old → h.ranges ≡ old.ranges → holder h ≡ with_turn (view old) h.value (words h) → h.turn.now ≡ t → TurnsHeld x h k
    → IsSeatOf k.turn.now new → IsReleased x k new → TurnsTo t session x old new
turned t session x old new h k rests was holds turn held seated released =
    let may = held.may in
    let same = held.same in
    let is = released.view in
    let seat : (holder k).number ≡ session + 1 = same.number ∙ (ap (λ (w : View ServerState Event). w.number) holds ∙ rests.number) in
    let one : (holder k).number - 1 ≡ session = omega (arith, seat) in
    record {
      has = record {
        seated = subst (λ (u : Turn ServerState Event). IsSeatOf u new) (same.turn ∙ turn) seated;
        number = ap (λ (v : View ServerState Event). v.number) is ∙ seat;
        few = rests.few;
        task = ap (λ (v : View ServerState Event). v.task) is ∙ (ap (λ ts. released_task (is_stream x) (task_in ts)) may.listed ∙ task_released (holder k).number x k.ranges.blocks);
        connected = ap (λ (v : View ServerState Event). v.connected) is ∙ may.connected;
        events = ap (λ (v : View ServerState Event). v.events) is ∙ (seat_events (holder k).number k.value.journal.events may.seated
            ∙ ((λ i. events_of (one i) k.value.journal.events) ∙ ap (events_of session) (sym (ap (λ (v : View ServerState Event). v.seen) is))));
      };
      fixed = ap (λ (v : View ServerState Event). v.fixed) is ∙ (same.fixed ∙ ap (λ (w : View ServerState Event). w.fixed) holds);
      registry = ap (λ (v : View ServerState Event). v.registry) is ∙ (same.registry ∙ ap (λ (w : View ServerState Event). w.registry) holds);
      room = ap (λ r. r.room) released.ranges ∙ (held.room ∙ ap (λ r. r.room) was);
    }

-- the seat after the release
pub released : (x y : Task) (k : Held ServerState Event ghosts) (new : Seat ServerState Event ghosts) → MayGoOn x k → y ≡ x → view new ≡ after_release ghosts (with_word_set (holder k) (is_stream y)) k.value (words k) → new.ranges ≡ k.ranges → IsReleased x k new
released x y k new may task is ranges = record { may = may; view = is ∙ ap (λ (z : Task). after_release ghosts (with_word_set (holder k) (is_stream z)) k.value (words k)) task; ranges = ranges }

-- what the answer says of the holding
pub kept : {A E : Type 0} (leaves : A → Task) (Keeps : A → Held ServerState Event ghosts → Type 0) (r : Result A E) (k : Held ServerState Event ghosts) (new : Seat ServerState Event ghosts) → IsReleased (task_left leaves r) k new → IfOk r (λ a. Keeps a k)
    → IfOk r (λ a. (h : Held ServerState Event ghosts) × IsReleased (leaves a) h new × Keeps a h)
kept leaves Keeps (Ok a) k new is keeps = (k, is, keeps)
kept leaves Keeps (Err e) k new is keeps = tt

-- what the task spells
rested_bytes : (x : Task) (n : ℕ) (bytes : List ℕ) → x ≡ task.Rest → bytes_on ghosts x n bytes ≡ []
rested_bytes x n bytes is = ap (λ (y : Task). bytes_on ghosts y n bytes) is

pub spells : (x : Task) (h : Held ServerState Event ghosts) → MayGoOn x h → SpellsReleased ghosts (with_word_set (holder h) (is_stream x)) h.value (words h)
spells task.Rest h may =
    let us = words h in
    let v = holder h in
    subst (λ ts. ContentRule ghosts h.value us (released_task false (task_in ts)) (released_blocks (released_task false (task_in ts)) (blocks_in ts)) (content_of ghosts us v.task v.content (released_task false (task_in ts)) (released_blocks (released_task false (task_in ts)) (blocks_in ts)))) (sym may.listed) tt
spells (task.Stream n) h may =
    let us = words h in
    let v = holder h in
    subst (λ ts. ContentRule ghosts h.value us (released_task true (task_in ts)) (released_blocks (released_task true (task_in ts)) (blocks_in ts)) (content_of ghosts us v.task v.content (released_task true (task_in ts)) (released_blocks (released_task true (task_in ts)) (blocks_in ts)))) (sym may.listed) refl
spells (task.Fill n) h may =
    let us = words h in
    let v = holder h in
    let j = h.value.journal.events in
    let none = rested_bytes v.task n v.content may.rested in
    let start = may.begun in
    let fits : FitsFill j n [] = fits_by_start h.value.options j n [] may.stands.sound.1.sound.journal.lawful start (unwrap_or (answer start.key (present start.earlier)) [], refl) in
    subst (λ ts. ContentRule ghosts h.value us (released_task false (task_in ts)) (released_blocks (released_task false (task_in ts)) (blocks_in ts)) (content_of ghosts us v.task v.content (released_task false (task_in ts)) (released_blocks (released_task false (task_in ts)) (blocks_in ts)))) (sym may.listed)
    (subst (λ l. ContentRule ghosts h.value us (task.Fill n) h.ranges.blocks l) (sym none) (refl, fits))

-- ---- one event

-- one was pushed, and the seat may rest
pub has_one : (who : Who) (e : Event) (IsSo : Who → Journal → Event → Type 0) (h k : Held ServerState Event ghosts) (place : ℕ) → IsPrepared who h → Pushes who e h k → place ≡ length k.value.journal.events → IsSo who h.value.journal.events e
    → HasOne (standing_in who.session h) place k.value.journal.events (IsSo (next_in (standing_in who.session h)))
has_one who e IsSo h k place p pushed at is_so = record {
  place = at;
  decides = record { journal = h.value.journal.events; goes_on = p.ready.goes_on; event = e; is_so = subst (λ w. IsSo w h.value.journal.events e) p.ready.who_is is_so; events = pushed.events };
}

pub one_turns : (who : Who) (e : Event) (h k : Held ServerState Event ghosts) → IsPrepared who h → Pushes who e h k → TurnsHeld task.Rest h k
one_turns who e h k p pushed = turns_to_rest h k p.rested p.few pushed.same pushed.rest

-- the seat rests again
pub rests_again : (t : Turn ServerState Event) (session : ℕ) (x : Task) (old new : Seat ServerState Event ghosts) → x ≡ task.Rest → TurnsTo t session x old new → RestsAgain t session old new
rests_again t session x old new is turns =
    let has = turns.has in
    record {
      rests = record { seated = has.seated; number = has.number; few = has.few; task = has.task ∙ is; connected = has.connected; events = has.events };
      fixed = turns.fixed;
      registry = turns.registry;
      ranges = turns.room;
    }
