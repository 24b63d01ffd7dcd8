-- There is room for a task of a connected seat.
use Rattle.std.proofs.Common.{◌≡◌, ℕ, ◌<◌, eqb, eqb-true, true, false, List, [], ◌∷◌, map, refl, sym, subst, arith, true≢false}
use Rattle.std.specs.Prelude.{◌||◌, ◌==◌}
use Rattle.std.specs.List.{list_any, AllByRecursion}
use Rattle.std.proofs.lemmas.List.{length-map}
use Rattle.qc_model.specs.Journal.{Journal}
use Rattle.qc_turn.specs.Tasks.{listed_for}
use Rattle.qc_sound.specs.PlainServer.{EntryChain, SeatTask}
use Rattle.qc_sound.specs.Moment.{Moment}
use Rattle.qc_sound.specs.parts.Tasks.{IsSeat, SeatTaskIsSound}
use Rattle.qc_core.specs.declared.server_state.ServerState.{ServerState}
use Rattle.qc_core.specs.Whole.{Named, plain, tasks_of, work_in, IsWhole}
use Rattle.qc_core.specs.Connection.{is_connected}
use Rattle.qc_core.proofs.Seating.{one_more}
use Rattle.qc_core.proofs.Noting.{none_listed}

seat_among : (n : ℕ) (xs : List ℕ) → AllByRecursion IsSeat xs → list_any (λ m. m == n) xs ≡ true → IsSeat n
seat_among n [] all h = absurd (true≢false (sym h))
seat_among n (x ∷ xs) all h = elim (eqb x n) as (λ b. eqb x n ≡ b → (b || list_any (λ m. m == n) xs) ≡ true → IsSeat n) [
  | true ↦ λ e _. subst IsSeat (eqb-true x n e) all.0
  | false ↦ λ e k. seat_among n xs all.1 k
] refl h

pub connected_seat : (m : Moment) (names : List Named) (words : List ℕ) (s : ServerState) (n : ℕ) → IsWhole m names words s → is_connected n s ≡ true → IsSeat n
connected_seat m names words s n h is = seat_among n s.connected.items h.sound.tasks.connected is

seats_of : (j : Journal) (cs : List EntryChain) (ws : List SeatTask) → AllByRecursion (SeatTaskIsSound j cs) ws → AllByRecursion IsSeat (map (λ w. w.seat) ws)
seats_of j cs [] h = tt
seats_of j cs (w ∷ ws) h = (h.0.seat, seats_of j cs ws h.1)

pub task_room : (m : Moment) (names : List Named) (words : List ℕ) (s : ServerState) (n : ℕ) → IsWhole m names words s → IsSeat n → listed_for n (tasks_of s) ≡ [] → 0 < s.tasks.room
task_room m names words s n h is free =
    let p = plain names s in
    let few = one_more n (map (λ (w : SeatTask). w.seat) p.tasks) h.sound.tasks.one_each (seats_of p.journal p.chains p.tasks h.sound.tasks.each) (none_listed s.chains n s.tasks.items free) is in
    let a = length-map p.tasks (λ (w : SeatTask). w.seat) in
    let b = length-map s.tasks.items work_in in
    omega (arith, few, a, b, h.seats.task_room)
