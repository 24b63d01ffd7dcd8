-- Seats are met one after another, the last first.
use Rattle.std.proofs.Common.{◌≡◌, ℕ, zero, suc, ◌+◌, ◌-◌, ◌<◌, ◌≤◌, Bool, true, List, [], ◌∷◌, ◌++◌, length, map, take, drop, Option, refl, sym, ap, ◌∙◌, subst, arith, append-nil, append_assoc, length-append}
use Rattle.std.specs.Prelude.{reverse, slice_index_or, slice_set}
use Rattle.std.specs.List.{All}
use Rattle.std.proofs.lemmas.List.{reverse-append, take-append-drop}
use Rattle.qc_model.specs.declared.events.Event.{Event}
use Rattle.qc_model.specs.Journal.{Journal}
use Rattle.qc_laws.specs.runs.Runs.{StartsWith}
use Rattle.qc_turn.specs.declared.seat.Seat.{Seat}
use Rattle.qc_turn.specs.declared.turn.Turn.{Turn}
use Rattle.qc_turn.specs.declared.view.MetSeat.{MetSeat}
use Rattle.qc_turn.specs.declared.view.View.{View}
use Rattle.qc_turn.specs.Seats.{IsSeatOf, view}
use Rattle.qc_turn.specs.Views.{after_meet}
use Rattle.qc_turn.proofs.Tasks.{longer_one}
use Rattle.qc_core.specs.contracts.server.ServerKept.TheImpl.{ghosts}
use Rattle.qc_core.specs.declared.server_state.ServerState.{ServerState}
use Rattle.qc_serve.specs.Going.{seen_by}
use Rattle.qc_app.specs.declared.sessions.Slot.{Slot}
use Rattle.qc_app.specs.declared.outcomes.Outcome.{Outcome}
use Rattle.qc_app.specs.SessionEnds.{AreOutcomes, HasMet, HasMetBehind, IsOutcomeOf, MayBeMet, MayMeet, kept_of}
use Rattle.qc_app.specs.SessionStarts.{IsFirst}

module _ {A : Type 0} where
  set_behind : (k : ℕ) (xs ys : List A) (x : A) → k < length xs → slice_set (take (k + 1) xs ++ ys) k x ≡ take k xs ++ x ∷ ys
  set_behind k [] ys x l = absurd (omega (arith, l))
  set_behind zero (a ∷ xs) ys x l = refl
  set_behind (suc k) (a ∷ xs) ys x l =
      let next : suc k + 1 ≡ suc (k + 1) = omega arith in
      subst (λ (m : ℕ). slice_set (take m (a ∷ xs) ++ ys) (suc k) x ≡ take (suc k) (a ∷ xs) ++ x ∷ ys) (sym next) (ap (λ (zs : List A). a ∷ zs) (set_behind k xs ys x (omega (arith, l))))

-- the seat that is popped
popped : (t : Turn ServerState Event) (slots left : List Slot) (s : Slot) → MayBeMet t slots → (met : List Slot) → slots ≡ (left ++ s ∷ []) ++ met → MayMeet t (length left + 1) s
popped t slots left s may met parts =
    let whole : slots ≡ left ++ (s ∷ met) = parts ∙ append_assoc left (s ∷ []) met in
    let long : length left < length slots = let e = ap length whole in let f = length-append left (s ∷ met) in omega (arith, e, f) in
    subst (MayMeet t (length left + 1)) (at_behind slots left s met whole s) (may (length left) s long)
  where
    at_front : (xs ys : List Slot) (y d : Slot) → slice_index_or (xs ++ y ∷ ys) (length xs) d ≡ y
    at_front [] ys y d = refl
    at_front (x ∷ xs) ys y d = at_front xs ys y d

    at_behind : (slots left : List Slot) (s : Slot) (met : List Slot) → slots ≡ left ++ (s ∷ met) → (d : Slot) → slice_index_or slots (length left) d ≡ s
    at_behind slots left s met whole d = ap (λ (l : List Slot). slice_index_or l (length left) d) whole ∙ at_front left met s d

pub popped_from : (t : Turn ServerState Event) (old now : Seat ServerState Event ghosts) (slots before left : List Slot) (s : Slot) (served : Bool) (outcomes : List Outcome) → MayBeMet t slots → HasMetBehind t old now slots before served outcomes → before ≡ left ++ s ∷ [] → MayMeet t (length left + 1) s
popped_from t old now slots before left s served outcomes may behind is = popped t slots left s may behind.met (behind.parts ∙ ap (λ (l : List Slot). l ++ behind.met) is)

pub met_none : (t : Turn ServerState Event) (first : Seat ServerState Event ghosts) (slots : List Slot) → IsFirst t first → HasMetBehind t first first slots slots true []
met_none t first slots is = record {
  met = [];
  parts = sym (append-nil slots);
  first = is;
  registry = sym (take-append-drop (length slots) (view first).registry);
  events = refl;
  fixed = refl;
  seen = λ journal starts all. starts;
  count = omega arith;
  told = λ e. tt;
}

-- one more seat is met
pub met_more : (t : Turn ServerState Event) (old now new : Seat ServerState Event ghosts) (slots left before : List Slot) (s : Slot) (served served' : Bool) (outcomes outcomes' : List Outcome) → MayBeMet t slots → length slots ≤ length (view old).registry
    → before ≡ left ++ s ∷ [] → (behind : HasMetBehind t old now slots before served outcomes) → IsSeatOf t new → view new ≡ after_meet (view now) (view s.session.seat) → length outcomes' ≤ length outcomes + 1
    → (served' ≡ true → (served ≡ true) × ((outcome : Outcome) × IsOutcomeOf s outcome × (outcomes' ≡ outcomes ++ outcome ∷ []))) → HasMetBehind t old new slots left served' outcomes'
met_more t old now new slots left before s served served' outcomes outcomes' may long is behind seated after count more =
    let met = behind.met in
    let parts : slots ≡ (left ++ s ∷ []) ++ met = subst (λ (l : List Slot). slots ≡ l ++ met) is behind.parts in
    let whole : slots ≡ left ++ (s ∷ met) = parts ∙ append_assoc left (s ∷ []) met in
    let r : List (Option (MetSeat Event)) = (view old).registry in
    let rest : List (Option (MetSeat Event)) = map kept_of met ++ drop (length slots) r in
    let gone = popped t slots left s may met parts in
    let has = gone.left in
    let number : (view s.session.seat).number - 2 ≡ length left = let n : (view s.session.seat).number ≡ length left + 1 + 1 = has.number in omega (arith, n) in
    let size : length before ≡ length left + 1 = ap length is ∙ length-append left (s ∷ []) in
    let inside : length left < length r = let e = ap length whole in let f = length-append left (s ∷ met) in omega (arith, e, f, long) in
    let put : (view new).registry ≡ slice_set (take (length left + 1) r ++ rest) (length left) (kept_of s) =
    ap (λ (w : View ServerState Event). w.registry) after ∙ (λ i. slice_set ((behind.registry ∙ ap (λ (k : ℕ). take k r ++ rest) size) i) (number i) (kept_of s)) in
    record {
      met = s ∷ met;
      parts = whole;
      first = let f = behind.first in record { seated = seated; number = ap (λ (w : View ServerState Event). w.number) after ∙ f.number };
      registry = put ∙ set_behind (length left) r rest (kept_of s) inside;
      events = ap (λ (w : View ServerState Event). w.events) after ∙ behind.events;
      fixed = ap (λ (w : View ServerState Event). w.fixed) after ∙ behind.fixed;
      seen = λ journal starts all. subst (λ (l : Journal). StartsWith l journal) (sym (ap (λ (w : View ServerState Event). w.seen) after))
          (longer_one (λ (l : Journal). StartsWith l journal) (view now).seen (seen_by s.session) (behind.seen journal starts all) (seen_one journal all whole));
      count = omega (arith, count, behind.count);
      told = λ e. let m = more e in told_one (m.1.0) m.1.1 m.1.2 (behind.told m.0);
    }
  where
    at_front : (xs ys : List Slot) (y d : Slot) → slice_index_or (xs ++ y ∷ ys) (length xs) d ≡ y
    at_front [] ys y d = refl
    at_front (x ∷ xs) ys y d = at_front xs ys y d

    seen_one : (journal : Journal) → All (λ (x : Slot). StartsWith (seen_by x.session) journal) slots → slots ≡ left ++ (s ∷ behind.met) → StartsWith (seen_by s.session) journal
    seen_one journal all whole =
        let e = ap length whole in let f = length-append left (s ∷ behind.met) in
        subst (λ (x : Slot). StartsWith (seen_by x.session) journal) (ap (λ (l : List Slot). slice_index_or l (length left) s) whole ∙ at_front left behind.met s s) (all (length left) s (omega (arith, e, f)))

    told_one : (outcome : Outcome) → IsOutcomeOf s outcome → outcomes' ≡ outcomes ++ outcome ∷ [] → AreOutcomes behind.met (reverse outcomes) → AreOutcomes (s ∷ behind.met) (reverse outcomes')
    told_one outcome is same all = subst (AreOutcomes (s ∷ behind.met)) (sym (ap reverse same ∙ reverse-append outcomes (outcome ∷ []))) (is, all)

-- all are met
pub met_all : (t : Turn ServerState Event) (old now : Seat ServerState Event ghosts) (slots left : List Slot) (served : Bool) (outcomes : List Outcome) → left ≡ [] → HasMetBehind t old now slots left served outcomes
    → HasMet t old now slots × (served ≡ true → AreOutcomes slots (reverse outcomes)) × (length outcomes ≤ length slots)
met_all t old now slots left served outcomes none behind =
    let met = behind.met in
    let same : slots ≡ met = subst (λ (l : List Slot). slots ≡ l ++ met) none behind.parts in
    let registry : (view now).registry ≡ map kept_of met ++ drop (length slots) (view old).registry = subst (λ (l : List Slot). (view now).registry ≡ take (length l) (view old).registry ++ (map kept_of met ++ drop (length slots) (view old).registry)) none behind.registry in (
      record {
        first = behind.first;
        registry = subst (λ (l : List Slot). (view now).registry ≡ map kept_of l ++ drop (length slots) (view old).registry) (sym same) registry;
        events = behind.events;
        fixed = behind.fixed;
        seen = behind.seen;
      },
      λ e. subst (λ (l : List Slot). AreOutcomes l (reverse outcomes)) (sym same) (behind.told e),
      subst (λ (l : List Slot). length outcomes ≤ length l) (sym same) behind.count,
    )
