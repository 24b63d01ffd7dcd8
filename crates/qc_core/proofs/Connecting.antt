-- Seats connect and leave.
use Rattle.std.proofs.Common.{true≢false, suc, ◌≡◌, ◌≢◌, ℕ, ◌+◌, ◌<◌, ◌≤◌, eqb, eqb-true, ne_eqb, true, false, cond, List, [], ◌∷◌, ◌++◌, map, refl, sym, ap, ◌∙◌, arith, inl, append-nil, length-append}
use Rattle.std.specs.Prelude.{not, ◌||◌, ◌==◌, Some, slice_get, remove}
use Rattle.std.specs.List.{list_any, filter}
use Rattle.qc_laws.specs.history.Runs.{are_distinct}
use Rattle.qc_laws.proofs.history.Serials.{distinct_push}
use Rattle.qc_turn.specs.Words.{word_seats}
use Rattle.qc_turn.specs.Releases.{Follows}
use Rattle.qc_sound.specs.Moment.{Moment, at_rest}
use Rattle.qc_sound.specs.parts.Tasks.{IsSeat}
use Rattle.qc_sound.proofs.Ending.{seat_step}
use Rattle.qc_key.specs.Hash.{hash}
use Rattle.qc_core.specs.declared.server_state.ServerState.{ServerState}
use Rattle.qc_core.specs.contracts.server.ServerKept.TheImpl.{ghosts}
use Rattle.qc_core.specs.Whole.{Named, plain, IsWhole, Sound}
use Rattle.qc_core.specs.ListRoom.{Reserved}
use Rattle.qc_core.specs.Connection.{is_connected, connects, disconnects}
use Rattle.qc_core.proofs.Seating.{map_same, all_push, all_less, one_less, distinct_less, removed_is, one_more}

any_else : (k n : ℕ) (xs : List ℕ) → k ≢ n → list_any (λ m. m == k) (xs ++ n ∷ []) ≡ list_any (λ m. m == k) xs
any_else k n [] ne = ap (λ b. b || false) (ne_eqb n k (λ z. ne (sym z)))
any_else k n (x ∷ xs) ne = ap (λ b. (x == k) || b) (any_else k n xs ne)

any_less : (k n : ℕ) (xs : List ℕ) → k ≢ n → list_any (λ m. m == k) (filter (λ m. not (m == n)) xs) ≡ list_any (λ m. m == k) xs
any_less k n [] ne = refl
any_less k n (x ∷ xs) ne =
    let rest = filter (λ m. not (m == n)) xs in
    elim (eqb x n) as (λ b. eqb x n ≡ b → list_any (λ m. m == k) (cond (not b) (x ∷ rest) rest) ≡ ((x == k) || list_any (λ m. m == k) xs)) [
      | true ↦ λ e. any_less k n xs ne ∙ sym (ap (λ b. b || list_any (λ m. m == k) xs) (ne_eqb x k (λ z. ne (sym z ∙ eqb-true x n e))))
      | false ↦ λ e. ap (λ b. (x == k) || b) (any_less k n xs ne)
    ] refl

pub seat_of : (n : ℕ) → 0 < n → n ≤ word_seats → IsSeat n
seat_of n low high = record { low = low; high = high }

pub connect_follows : (s : ServerState) (n : ℕ) (idle : List ℕ) → Follows ghosts n idle s (connects n s)
connect_follows s n idle = record { journal = ([], sym (append-nil s.journal.events)); others = λ k ne. refl; fixed = refl; connected = λ k ne. any_else k n s.connected.items ne; tasks = λ k ne. inl refl }

pub disconnect_follows : (s : ServerState) (n : ℕ) (idle : List ℕ) → Follows ghosts n idle s (disconnects n s)
disconnect_follows s n idle = record { journal = ([], sym (append-nil s.journal.events)); others = λ k ne. refl; fixed = refl; connected = λ k ne. any_less k n s.connected.items ne; tasks = λ k ne. inl refl }

-- there is room for a seat that isn't connected
pub seat_room : (m : Moment) (names : List Named) (words : List ℕ) (s : ServerState) (n : ℕ) → IsWhole m names words s → IsSeat n → is_connected n s ≡ false → 0 < s.connected.room
seat_room m names words s n h is none = omega (arith, h.seats.room, one_more n s.connected.items h.seats.once h.sound.tasks.connected none is)

pub connect_sound : (words : List ℕ) (s : ServerState) (n : ℕ) → Sound words s → IsSeat n → is_connected n s ≡ false → Sound words (connects n s)
connect_sound words s n sound is none =
    let h = sound.1 in
    let more = length-append s.connected.items (n ∷ []) in
    let room = seat_room (at_rest hash) sound.0 words s n h is none in (
      sound.0,
      record {
        named = record { begun = h.named.begun; numbers = h.named.numbers; entries = h.named.entries; tasks = h.named.tasks };
        sound = seat_step (at_rest hash) words (plain sound.0 s) (s.connected.items ++ n ∷ []) h.sound (all_push IsSeat s.connected.items n h.sound.tasks.connected is);
        directory = h.directory;
        seats = record { once = distinct_push n s.connected.items h.seats.once none; room = omega (arith, h.seats.room, more, room); task_room = h.seats.task_room };
        room = record { entries = h.room.entries; tables = h.room.tables; chains = h.room.chains; unpinner = h.room.unpinner };
      },
    )

pub disconnect_sound : (words : List ℕ) (s : ServerState) (n i : ℕ) → Sound words s → slice_get s.connected.items i ≡ Some n → Sound words (disconnects n s)
disconnect_sound words s n i sound at =
    let h = sound.1 in
    let distinct : are_distinct (map (λ m. m) s.connected.items) ≡ true = ap are_distinct (map_same s.connected.items) ∙ h.seats.once in
    let less = one_less (λ m. m) n i s.connected.items n distinct at refl in (
      sound.0,
      record {
        named = record { begun = h.named.begun; numbers = h.named.numbers; entries = h.named.entries; tasks = h.named.tasks };
        sound = seat_step (at_rest hash) words (plain sound.0 s) (filter (λ m. not (m == n)) s.connected.items) h.sound (all_less (λ m. m) IsSeat n s.connected.items h.sound.tasks.connected);
        directory = h.directory;
        seats = record { once = sym (ap are_distinct (map_same (filter (λ m. not (m == n)) s.connected.items))) ∙ distinct_less (λ m. m) n s.connected.items distinct; room = omega (arith, h.seats.room, less); task_room = h.seats.task_room };
        room = record { entries = h.room.entries; tables = h.room.tables; chains = h.room.chains; unpinner = h.room.unpinner };
      },
    )

-- what the list is after one was taken out
pub disconnected_is : (r t : Reserved ℕ) (n i : ℕ) → are_distinct r.items ≡ true → slice_get r.items i ≡ Some n → t.items ≡ remove r.items i → t.room ≡ r.room + 1 → t ≡ record { items = filter (λ m. not (m == n)) r.items; room = r.room + 1 }
disconnected_is r t n i d at items room =
    let is = items ∙ removed_is (λ m. m) n i r.items n (ap are_distinct (map_same r.items) ∙ d) at refl in
    λ k. record { items = is k; room = room k }

-- a number that is among others has a place
pub connected_place : (n : ℕ) (xs : List ℕ) → list_any (λ m. m == n) xs ≡ true → (i : ℕ) × (slice_get xs i ≡ Some n)
connected_place n [] h = absurd (true≢false (sym h))
connected_place n (x ∷ xs) h = elim (eqb x n) as (λ b. eqb x n ≡ b → (b || list_any (λ m. m == n) xs) ≡ true → (i : ℕ) × (slice_get (x ∷ xs) i ≡ Some n)) [
  | true ↦ λ e _. (0, ap (λ k. Some k) (eqb-true x n e))
  | false ↦ λ e k. let t = connected_place n xs k in (suc t.0, t.1)
] refl h
