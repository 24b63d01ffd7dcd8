-- A seat connects, and leaves.
use Rattle.std.proofs.Common.{◌≡◌, ℕ, ◌-◌, ◌<◌, Bool, true, false, cond, not, List, [], ◌∷◌, refl, sym, ap, ◌∙◌, subst, arith, inl, inr, rules}
use Rattle.std.specs.Prelude.{◌==◌, ◌||◌}
use Rattle.std.specs.List.{list_any, filter}
use Rattle.std.proofs.lemmas.List.Folds.{list_any-append}
use Rattle.qc_tiles.specs.declared.blocks.Block.{Block}
use Rattle.qc_model.specs.declared.events.Event.{Event}
use Rattle.qc_model.specs.Journal.{Journal, events_of}
use Rattle.qc_turn.specs.declared.seat.Seat.{Seat}
use Rattle.qc_turn.specs.declared.turn.Turn.{Turn}
use Rattle.qc_turn.specs.declared.view.View.{View}
use Rattle.qc_turn.specs.declared.view.Holding.TheVariants.{Holds}
use Rattle.qc_turn.specs.declared.task.Task.{Task}
use Rattle.qc_turn.specs.declared.task.Task.TheVariants as task
use Rattle.qc_turn.specs.declared.task.ListedTask.{ListedTask}
use Rattle.qc_turn.specs.Releases.{Follows, SpellsReleased}
use Rattle.qc_turn.specs.Rules.{ContentRule}
use Rattle.qc_turn.specs.Seats.{Held, IsHeld, MayRelease, SameHolder, StaysSeat, holder, taken, view, words}
use Rattle.qc_turn.specs.Steps.{Taken}
use Rattle.qc_turn.specs.Tasks.{IsListed, blocks_in, is_stream, listed_for, own, released_blocks, released_task, task_in}
use Rattle.qc_turn.specs.Views.{after_release, base_of, content_of, idle_of, with_turn, with_word_set}
use Rattle.qc_turn.specs.Words.{StartsWith}
use Rattle.qc_turn.proofs.Holders.{follows_refl}
use Rattle.qc_core.specs.contracts.server.ServerKept.TheImpl.{ghosts}
use Rattle.qc_core.specs.declared.server_state.ServerState.{ServerState}
use Rattle.qc_core.specs.Calls.{Rests}
use Rattle.qc_core.specs.Connection.{connects, disconnects, is_connected}
use Rattle.qc_core.specs.TaskEnd.{rested}
use Rattle.qc_core.specs.Whole.{tasks_of}
use Rattle.qc_serve.proofs.Books.{rested_books}
use Rattle.qc_serve.proofs.Seating.{same_seat, seat_events}
use Rattle.qc_serve.specs.Leaving.{HasLetGo, IsApart, IsStranger, MayLetGo}
use Rattle.qc_serve.specs.Seats.{GoesOn, IsIdle, IsSameSeat}

-- ---- the list of the connected

or_true : (b : Bool) → (b || true) ≡ true
or_true true = refl
or_true false = refl

same_eqb : (n : ℕ) → (n == n) ≡ true
same_eqb n = search rules

connects_is : (n : ℕ) (x : ServerState) → is_connected n (connects n x) ≡ true
connects_is n x =
    list_any-append (λ m. m == n) x.connected.items (n ∷ []) ∙ (ap (λ b. list_any (λ m. m == n) x.connected.items || (b || false)) (same_eqb n) ∙ or_true (list_any (λ m. m == n) x.connected.items))

without : (n : ℕ) (b : Bool) (m : ℕ) (ms : List ℕ) → (m == n) ≡ b → list_any (λ k. k == n) ms ≡ false → list_any (λ k. k == n) (cond (not b) (m ∷ ms) ms) ≡ false
without n true m ms is h = h
without n false m ms is h = ap (λ b. b || list_any (λ k. k == n) ms) is ∙ h

none_left : (n : ℕ) (ms : List ℕ) → list_any (λ k. k == n) (filter (λ k. not (k == n)) ms) ≡ false
none_left n [] = refl
none_left n (m ∷ ms) = without n (m == n) m (filter (λ k. not (k == n)) ms) refl (none_left n ms)

disconnects_is : (n : ℕ) (x : ServerState) → is_connected n (disconnects n x) ≡ false
disconnects_is n x = none_left n x.connected.items

connected_at : (n m : ℕ) (x y : ServerState) (b : Bool) → m ≡ n → y ≡ x → is_connected n x ≡ b → is_connected m y ≡ b
connected_at n m x y b number same h = (λ i. is_connected (number i) (same i)) ∙ h

-- ---- as the turn was taken

unlisted : (n : ℕ) (t : Task) (bs : _) (ts : List ListedTask) → t ≡ task.Rest → IsListed n t bs ts → IsListed n t [] ts
unlisted n task.Rest bs ts is h = h
unlisted n (task.Stream k) bs ts is h = absurd cc
unlisted n (task.Fill k) bs ts is h = absurd cc

pub stranger : (t : Turn ServerState Event) (s : Seat ServerState Event ghosts) (h : Held ServerState Event ghosts) → IsApart t s → 0 < (view s).number → IsHeld h → Taken ghosts (view s) h.value (words h)
    → holder h ≡ with_turn (view s) h.value (words h) → IsStranger h
stranger t s h apart seated held taken_as holds =
    let v : View ServerState Event = view s in
    let number : (holder h).number ≡ v.number = ap (λ (w : View ServerState Event). w.number) holds in
    let seen : (holder h).seen ≡ v.seen = ap (λ (w : View ServerState Event). w.seen) holds in
    let J : Journal = h.value.journal.events in
    let stays : taken h ≡ h.value = ap (λ (w : View ServerState Event). base_of h.value w.holding) holds in
    let listed : IsListed v.number task.Rest [] (listed_for v.number (tasks_of h.value))
    = subst (λ (w : Task). IsListed v.number w [] (listed_for v.number (tasks_of h.value))) apart.task (unlisted v.number v.task v.blocks (listed_for v.number (tasks_of h.value)) apart.task taken_as.listed) in
    record {
      stands = record { held = held; sound = taken_as.sound; follows = subst (λ (b : ServerState). Follows ghosts (holder h).number (idle_of (holder h).found) b h.value) (sym stays) (follows_refl ghosts (holder h).number (idle_of (holder h).found) h.value) };
      seated = subst (λ n. 0 < n) (sym number) seated;
      unset = ap (λ (w : View ServerState Event). w.word_set) holds ∙ (taken_as.word_set ∙ ap is_stream apart.task);
      rests = subst (λ n. IsListed n task.Rest [] (listed_for n (tasks_of h.value))) (sym number) listed;
      connected = ap (λ n. is_connected n h.value) number ∙ (sym taken_as.connected ∙ apart.connected);
      begins = subst (λ (i : Journal). StartsWith J i) (sym seen) taken_as.seen;
    }

-- what the seat knows of its own events is what is in the journal
known_events : (s : Seat ServerState Event ghosts) (h : Held ServerState Event ghosts) → 0 < (view s).number → Taken ghosts (view s) h.value (words h) → events_of ((view s).number - 1) h.value.journal.events ≡ (view s).events
known_events s h seated taken_as = sym (taken_as.events ∙ seat_events (view s).number h.value.journal.events seated)

-- the same seat with other ranges
pub apart_on : (t : Turn ServerState Event) (old new : Seat ServerState Event ghosts) → IsApart t old → StaysSeat old new → view new ≡ view old → IsApart t new
apart_on t old new apart stays same = record {
  seated = stays t apart.seated;
  task = ap (λ (v : View ServerState Event). v.task) same ∙ apart.task;
  connected = ap (λ (v : View ServerState Event). v.connected) same ∙ apart.connected;
}

-- ---- under the turn

rests_on : (h k : Held ServerState Event ghosts) → (holder k).number ≡ (holder h).number → tasks_of k.value ≡ tasks_of h.value → Rests h → Rests k
rests_on h k number tasks rests = subst (λ (p : ℕ × List ListedTask). IsListed p.0 task.Rest [] (listed_for p.0 p.1)) (λ i. (sym number i, sym tasks i)) rests

pub entered : (h k : Held ServerState Event ghosts) → IsStranger h → MayRelease k × SameHolder h k → k.ranges ≡ h.ranges → k.value ≡ connects (holder h).number h.value → MayLetGo k × IsSameSeat h k
entered h k s both ranges value =
    let same = same_seat h k both.1 ranges in (
      record {
        stands = both.0;
        seated = subst (λ n. 0 < n) (sym same.number) s.seated;
        unset = same.word_set ∙ s.unset;
        rests = rests_on h k same.number (ap tasks_of value) s.rests;
      },
      same,
    )

pub entered_connected : (h k : Held ServerState Event ghosts) → IsSameSeat h k → k.value ≡ connects (holder h).number h.value → is_connected (holder k).number k.value ≡ true
entered_connected h k same value = connected_at (holder h).number (holder k).number (connects (holder h).number h.value) k.value true same.number value (connects_is (holder h).number h.value)

pub left : (session : ℕ) (h k : Held ServerState Event ghosts) → IsIdle session h → MayRelease k × SameHolder h k → k.ranges ≡ h.ranges → listed_for (holder h).number (tasks_of k.value) ≡ [] → MayLetGo k × IsSameSeat h k
left session h k idle both ranges free =
    let same = same_seat h k both.1 ranges in (
      record {
        stands = both.0;
        seated = omega (arith, same.number, idle.seat);
        unset = same.word_set ∙ idle.unset;
        rests = inl (subst (λ n. listed_for n (tasks_of k.value) ≡ []) (sym same.number) free);
      },
      same,
    )

pub left_connected : (h k : Held ServerState Event ghosts) (x : ServerState) → IsSameSeat h k → k.value ≡ disconnects (holder h).number x → is_connected (holder k).number k.value ≡ false
left_connected h k x same value = connected_at (holder h).number (holder k).number (disconnects (holder h).number x) k.value false same.number value (disconnects_is (holder h).number x)

pub left_events : (h k : Held ServerState Event ghosts) → k.value ≡ disconnects (holder h).number (rested (holder h).number h.value) → k.value.journal.events ≡ h.value.journal.events
left_events h k value = ap (λ (x : ServerState). x.journal.events) value ∙ (rested_books (holder h).number h.value).events

-- ---- the turn is given back

-- what is so of nothing and of an ended stream is so of what is listed for a seat that rests
rests_by : (P : List ListedTask → Type 0) (n : ℕ) (ts : List ListedTask) → IsListed n task.Rest [] ts → P [] → ((s : ℕ) (bs : List Block) → P (own n (task.Stream s) bs)) → P ts
rests_by P n ts (inl e) none ended = subst P (sym e) none
rests_by P n ts (inr e) none ended = subst P (sym e.1.2) (ended e.1.0 e.1.1)

pub rests_content : (h : Held ServerState Event ghosts) → MayLetGo h → SpellsReleased ghosts (with_word_set (holder h) false) h.value (words h)
rests_content h m =
    let w = holder h in
    rests_by (λ ts. ContentRule ghosts h.value (words h) (released_task false (task_in ts)) (released_blocks (released_task false (task_in ts)) (blocks_in ts)) (content_of ghosts (words h) w.task w.content (released_task false (task_in ts)) (released_blocks (released_task false (task_in ts)) (blocks_in ts))))
    w.number (listed_for w.number (tasks_of h.value)) m.rests tt (λ s bs. tt)

pub has_let_go : (v : View ServerState Event) (x : ServerState) (us : List ℕ) → 0 < v.number → IsListed v.number task.Rest [] (listed_for v.number (tasks_of x)) → HasLetGo v (after_release ghosts (with_word_set v false) x us) x
has_let_go v x us seated rests = record {
  number = refl;
  fixed = refl;
  registry = refl;
  seen = refl;
  task = rests_by (λ ts. released_task false (task_in ts) ≡ task.Rest) v.number (listed_for v.number (tasks_of x)) rests refl (λ s bs. refl);
  connected = refl;
  events = seat_events v.number x.journal.events seated;
}

-- ---- the seat, when it has given the turn back

-- who has connected keeps what is fixed, and its events
pub entered_same : (old : Seat ServerState Event ghosts) (new : View ServerState Event) (h k : Held ServerState Event ghosts) → 0 < (view old).number → Taken ghosts (view old) h.value (words h) → holder h ≡ with_turn (view old) h.value (words h)
    → IsSameSeat h k → k.value.journal.events ≡ h.value.journal.events → HasLetGo (holder k) new k.value → (new.fixed ≡ (view old).fixed) × (new.events ≡ (view old).events) × (new.registry ≡ (view old).registry)
entered_same old new h k seated taken_as holds same events rested =
    let number : (holder h).number ≡ (view old).number = ap (λ (w : View ServerState Event). w.number) holds in
    let one : (holder k).number - 1 ≡ (view old).number - 1 = omega (arith, same.number, number) in (
      rested.fixed ∙ (same.fixed ∙ ap (λ (w : View ServerState Event). w.fixed) holds),
      rested.events ∙ ((λ i. events_of (one i) (events i)) ∙ known_events old h seated taken_as),
      rested.registry ∙ (same.registry ∙ ap (λ (w : View ServerState Event). w.registry) holds),
    )

-- who has connected or left keeps what is fixed, and the seats that it has split off
pub same_standing : (old new : View ServerState Event) (h k : Held ServerState Event ghosts) → holder h ≡ with_turn old h.value (words h) → IsSameSeat h k → HasLetGo (holder k) new k.value → (new.fixed ≡ old.fixed) × (new.registry ≡ old.registry)
same_standing old new h k holds same rested = (
  rested.fixed ∙ (same.fixed ∙ ap (λ (w : View ServerState Event). w.fixed) holds),
  rested.registry ∙ (same.registry ∙ ap (λ (w : View ServerState Event). w.registry) holds),
)

-- who has left has seen what others did, and no event of its own
pub left_seen : (session : ℕ) (old new : View ServerState Event) (h k : Held ServerState Event ghosts) → holder h ≡ with_turn old h.value (words h) → IsIdle session h → k.value.journal.events ≡ h.value.journal.events → HasLetGo (holder k) new k.value → GoesOn session old.seen new.seen
left_seen session old new h k holds idle events rested =
    let seen : (holder h).seen ≡ old.seen = ap (λ (w : View ServerState Event). w.seen) holds in
    subst (λ (p : Journal × Journal). GoesOn session p.0 p.1) (λ i. (seen i, sym (rested.seen ∙ events) i)) idle.goes_on
