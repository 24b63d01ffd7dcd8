-- Seats are split off, and sessions begin there.
use Rattle.std.proofs.Common.{◌≡◌, ℕ, ◌+◌, ◌<◌, ◌≤◌, List, [], ◌∷◌, ◌++◌, length, take, drop, refl, sym, ap, ◌∙◌, subst, arith, length-append, length-take, drop_of_length-le, Option}
use Rattle.std.specs.Prelude.{slice_index_or}
use Rattle.std.specs.List.{AllZip}
use Rattle.std.proofs.lemmas.List.{take_more}
use Rattle.qc_types.specs.declared.options.Options.{Options}
use Rattle.qc_model.specs.declared.events.Event.{Event}
use Rattle.qc_model.specs.Agrees.{inputs_from}
use Rattle.qc_model.specs.Journal.{Journal, events_of}
use Rattle.qc_laws.specs.runs.Runs.{StartsWith}
use Rattle.qc_laws.proofs.runs.Lists.{quiet_numbered}
use Rattle.qc_turn.specs.declared.seat.Seat.{Seat}
use Rattle.qc_turn.specs.declared.turn.Turn.{Turn}
use Rattle.qc_turn.specs.declared.view.MetSeat.{MetSeat}
use Rattle.qc_turn.specs.declared.view.View.{View}
use Rattle.qc_turn.specs.Seats.{view}
use Rattle.qc_turn.specs.Views.{AllMet, next_seat}
use Rattle.qc_core.specs.contracts.server.ServerKept.TheImpl.{ghosts}
use Rattle.qc_core.specs.declared.server_state.ServerState.{ServerState}
use Rattle.qc_serve.specs.declared.session.Session.{Session}
use Rattle.qc_serve.specs.Connecting.{HasBegun}
use Rattle.qc_serve.specs.Going.{number_of, seen_by}
use Rattle.qc_app.specs.declared.sessions.Slot.{Slot}
use Rattle.qc_app.specs.SessionStarts.{AreOpen, HasSplit, IsOpen, IsOpening}
use Rattle.qc_app.specs.Sessions.{new_slot}
use Rattle.qc_app.proofs.Lists.{zip_push}

-- ---- one session

-- a session has begun on a seat that had done nothing
pub is_open : (t : Turn ServerState Event) (o : Options) (first : Journal) (n : ℕ) (seat : Seat ServerState Event ghosts) (s : Session) (input : List ℕ) → HasBegun t o seat s → (view seat).number ≡ n + 1 → (view seat).events ≡ [] → (view seat).registry ≡ [] → (view seat).seen ≡ first
    → IsOpen t o first (n, input) (new_slot s input)
is_open t o first n seat s input begun size events alone saw =
    let rest = begun.rest in
    let rests = rest.rests in
    let quiet : events_of (number_of s) (seen_by s) ≡ [] = sym rests.events ∙ (begun.events ∙ events) in
    record {
      rest = begun.rest;
      going = begun.going;
      number = let n : number_of s + 1 ≡ (view seat).number = begun.number in omega (arith, n, size);
      input = refl;
      options = begun.same_options;
      state = begun.state;
      place = begun.place;
      log = begun.lines;
      lines = refl;
      ending = refl;
      alone = begun.registry ∙ alone;
      begins = subst (λ (j : Journal). StartsWith (seen_by s) j) saw begun.seen;
      none = quiet_numbered (number_of s) 1 (seen_by s) quiet;
    }

-- on the next seat of the first one
pub next_open : (t : Turn ServerState Event) (o : Options) (first seat : Seat ServerState Event ghosts) (s : Session) (input : List ℕ) → HasBegun t o seat s → view seat ≡ next_seat (view first) → IsOpen t o (view first).seen (length (view first).registry + 1, input) (new_slot s input)
next_open t o first seat s input begun is =
    let size : (view seat).number ≡ length (view first).registry + 2 = ap (λ (v : View ServerState Event). v.number) is in
    is_open t o (view first).seen (length (view first).registry + 1) seat s input begun (omega (arith, size)) (ap (λ (v : View ServerState Event). v.events) is) (ap (λ (v : View ServerState Event). v.registry) is) (ap (λ (v : View ServerState Event). v.seen) is)

-- ---- one after another

inputs_append : (n : ℕ) (xs ys : List (List ℕ)) → inputs_from n (xs ++ ys) ≡ inputs_from n xs ++ inputs_from (n + length xs) ys
inputs_append n [] ys = ap (λ (k : ℕ). inputs_from k ys) (omega arith)
inputs_append n (x ∷ xs) ys = let e : n + 1 + length xs ≡ n + length (x ∷ xs) = omega arith in ap (λ (l : List (ℕ × List ℕ)). (n, x) ∷ l) (inputs_append (n + 1) xs ys ∙ ap (λ (k : ℕ). inputs_from (n + 1) xs ++ inputs_from k ys) e)

-- the inputs in front, and one more
inputs_more : (k : ℕ) (inputs : List (List ℕ)) (d : List ℕ) → k < length inputs → inputs_from 1 (take (k + 1) inputs) ≡ inputs_from 1 (take k inputs) ++ (k + 1, slice_index_or inputs k d) ∷ []
inputs_more k inputs d l =
    let long : length (take k inputs) ≡ k = let t = length-take k inputs in omega (arith, t, l) in
    let at : 1 + length (take k inputs) ≡ k + 1 = omega (arith, long) in
    ap (inputs_from 1) (take_more inputs k d l) ∙ (inputs_append 1 (take k inputs) (slice_index_or inputs k d ∷ []) ∙ ap (λ (n : ℕ). inputs_from 1 (take k inputs) ++ (n, slice_index_or inputs k d) ∷ []) at)

pub opening_none : (t : Turn ServerState Event) (o : Options) (first : Seat ServerState Event ghosts) (inputs : List (List ℕ)) (slots : List Slot) → HasSplit t o first 0 → slots ≡ [] → IsOpening t o first first inputs slots 0
opening_none t o first inputs slots split none = record {
  split = split;
  events = refl;
  seen = refl;
  count = ap length none;
  opened = subst (λ (l : List Slot). AllZip (IsOpen t o (view first).seen) (inputs_from 1 (take 0 inputs)) l) (sym none) tt;
}

pub opening_more : (t : Turn ServerState Event) (o : Options) (old now new : Seat ServerState Event ghosts) (inputs : List (List ℕ)) (slots slots' : List Slot) (n : ℕ) (input : List ℕ) (s : Slot) → IsOpening t o old now inputs slots n → n < length inputs → input ≡ slice_index_or inputs n input
    → (view new).events ≡ (view now).events → HasSplit t o new (length (view now).registry + 1) × ((view new).seen ≡ (view now).seen) → IsOpen t o (view now).seen (length (view now).registry + 1, input) s → slots' ≡ slots ++ s ∷ [] → IsOpening t o old new inputs slots' (n + 1)
opening_more t o old now new inputs slots slots' n input s opening l at events split is pushed =
    let before = opening.split in
    let count : length (view now).registry ≡ n = before.registry in
    record {
      split = subst (λ (k : ℕ). HasSplit t o new k) (ap (λ (k : ℕ). k + 1) count) split.0;
      events = events ∙ opening.events;
      seen = split.1 ∙ opening.seen;
      count = ap length pushed ∙ (length-append slots (s ∷ []) ∙ ap (λ (k : ℕ). k + 1) opening.count);
      opened = subst (λ (p : List (ℕ × List ℕ) × List Slot). AllZip (IsOpen t o (view old).seen) p.0 p.1) (λ i. (sym (inputs_more n inputs input l) i, sym pushed i))
          (zip_push (IsOpen t o (view old).seen) (inputs_from 1 (take n inputs)) slots (n + 1, slice_index_or inputs n input) s opening.opened
          (subst (λ (p : Journal × ℕ × List ℕ). IsOpen t o p.0 (p.1 + 1, p.2) s) (λ i. (opening.seen i, count i, at i)) is));
    }

-- ---- at the end

pub may_open : (t : Turn ServerState Event) (o : Options) (old now : Seat ServerState Event ghosts) (inputs : List (List ℕ)) (slots : List Slot) (n : ℕ) → IsOpening t o old now inputs slots n → n < length inputs → length inputs ≤ 64
    → HasSplit t o now (length (view now).registry) × (length (view now).registry < 64)
may_open t o old now inputs slots n opening l few =
    let split = opening.split in
    let count : length (view now).registry ≡ n = split.registry in
    (subst (λ (k : ℕ). HasSplit t o now k) (sym count) split, omega (arith, count, l, few))

pub are_open : (t : Turn ServerState Event) (o : Options) (old now : Seat ServerState Event ghosts) (inputs : List (List ℕ)) (slots : List Slot) (n : ℕ) → IsOpening t o old now inputs slots n → AreOpen t o (view old).seen inputs slots
are_open t o old now inputs slots n opening = subst (λ (k : ℕ). AllZip (IsOpen t o (view old).seen) (inputs_from 1 (take k inputs)) slots) (sym opening.count) opening.opened

pub behind_met : (slots : List Slot) (n : ℕ) (registry : List (Option (MetSeat Event))) → length slots ≡ n → length registry ≡ n → (length slots ≤ length registry) × AllMet (drop (length slots) registry)
behind_met slots n registry a b = (omega (arith, a, b), subst (λ (l : List (Option (MetSeat Event))). AllMet l) (sym (drop_of_length-le registry (omega (arith, a, b)))) tt)
