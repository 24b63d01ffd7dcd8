-- From sessions that have begun to sessions that were served.
use Rattle.std.proofs.Common.{◌≡◌, ℕ, zero, suc, ◌+◌, ◌<◌, ◌≤◌, List, [], ◌∷◌, ◌++◌, length, map, take, drop, Option, Some, refl, sym, ap, ◌∙◌, subst, arith, append-nil, drop_of_length-le, length-take}
use Rattle.std.specs.Prelude.{IfSome, slice_index_or}
use Rattle.std.specs.List.{All, AllZip}
use Rattle.qc_types.specs.declared.options.Options.{Options}
use Rattle.qc_model.specs.declared.events.Event.{Event}
use Rattle.qc_model.specs.declared.reports.Ending.{Ending}
use Rattle.qc_model.specs.declared.reports.Ending.TheVariants as ending
use Rattle.qc_model.specs.Agrees.{inputs_from}
use Rattle.qc_model.specs.Journal.{Journal}
use Rattle.qc_laws.specs.runs.Runs.{StartsWith}
use Rattle.qc_turn.specs.declared.seat.Seat.{Seat}
use Rattle.qc_turn.specs.declared.turn.Turn.{Turn}
use Rattle.qc_turn.specs.declared.view.MetSeat.{MetSeat}
use Rattle.qc_turn.specs.Seats.{view}
use Rattle.qc_turn.specs.Views.{AllMet}
use Rattle.qc_turn.proofs.Tasks.{starts_trans}
use Rattle.qc_core.specs.contracts.server.ServerKept.TheImpl.{ghosts}
use Rattle.qc_core.specs.declared.server_state.ServerState.{ServerState}
use Rattle.qc_serve.specs.Going.{number_of, seen_by}
use Rattle.qc_serve.specs.Leaving.{HasLeft}
use Rattle.qc_app.specs.declared.sessions.Slot.{Slot}
use Rattle.qc_app.specs.SessionInput.{HasAnswered}
use Rattle.qc_app.specs.declared.outcomes.Outcome.{Outcome}
use Rattle.qc_app.specs.SessionEnds.{AreOutcomes, HasMet, IsOutcomeOf, MayBeMet, kept_of, receipt_of, report_of}
use Rattle.qc_app.specs.SessionStarts.{AreOpen, IsOpen}
use Rattle.qc_app.specs.ScriptRun.{HaveServed}
use Rattle.qc_app.specs.Sessions.{IsServed, MayServe}
use Rattle.qc_app.proofs.Lists.{zip_at, zip_long}

-- ---- those that have begun may be served

pub one_may_serve : (t : Turn ServerState Event) (o : Options) (first : Journal) (i : ℕ × List ℕ) (s : Slot) → IsOpen t o first i s → MayServe t s
one_may_serve t o first i s opened = record { rest = opened.rest; going = opened.going; none = opened.lines; unended = opened.ending }

all_may_serve : (t : Turn ServerState Event) (o : Options) (first : Journal) (ins : List (ℕ × List ℕ)) (slots : List Slot) → AllZip (IsOpen t o first) ins slots → All (MayServe t) slots
all_may_serve t o first ins slots zip k d l =
    let long = zip_long (IsOpen t o first) ins slots zip in
    one_may_serve t o first (slice_index_or ins k (0, [])) (slice_index_or slots k d) (zip_at (IsOpen t o first) ins slots zip k (0, []) d (omega (arith, l, long)))

pub may_serve : (t : Turn ServerState Event) (o : Options) (first : Journal) (inputs : List (List ℕ)) (slots : List Slot) → AreOpen t o first inputs slots → All (MayServe t) slots
may_serve t o first inputs slots opened = all_may_serve t o first (inputs_from 1 (take (length slots) inputs)) slots opened

inputs_long : (n : ℕ) (inputs : List (List ℕ)) → length (inputs_from n inputs) ≡ length inputs
inputs_long n [] = refl
inputs_long n (x ∷ xs) = ap suc (inputs_long (n + 1) xs)

pub few_open : (t : Turn ServerState Event) (o : Options) (first : Journal) (inputs : List (List ℕ)) (begun over : List Slot) → AreOpen t o first inputs begun → AllZip (IsServed t) begun over → length over ≤ length inputs
few_open t o first inputs begun over opened served =
    let a = zip_long (IsServed t) begun over served in
    let b = zip_long (IsOpen t o first) (inputs_from 1 (take (length begun) inputs)) begun opened in
    let e = inputs_long 1 (take (length begun) inputs) in
    let m = length-take (length begun) inputs in
    omega (arith, a, b, e, m)

-- ---- those that were served may be met

number_at : (n : ℕ) (inputs : List (List ℕ)) (i : ℕ) → i < length (inputs_from n inputs) → (slice_index_or (inputs_from n inputs) i (0, [])).0 ≡ n + i
number_at n [] i l = absurd (omega (arith, l))
number_at n (x ∷ xs) zero l = omega arith
number_at n (x ∷ xs) (suc i) l = let e = number_at (n + 1) xs i (omega (arith, l)) in omega (arith, e)

pub may_be_met : (t : Turn ServerState Event) (o : Options) (first : Journal) (inputs : List (List ℕ)) (begun over : List Slot) → AreOpen t o first inputs begun → AllZip (IsServed t) begun over → MayBeMet t over
may_be_met t o first inputs begun over opened served i d l =
    let ins = inputs_from 1 (take (length begun) inputs) in
    let a = zip_long (IsServed t) begun over served in
    let b = zip_long (IsOpen t o first) ins begun opened in
    let one = zip_at (IsOpen t o first) ins begun opened i (0, []) d (omega (arith, l, a, b)) in
    let was = zip_at (IsServed t) begun over served i d d (omega (arith, l, a)) in
    let ended = was.ended in
    let number : number_of (slice_index_or begun i d).session ≡ 1 + i = one.number ∙ number_at 1 (take (length begun) inputs) i (omega (arith, l, a, b)) in
    let at : number_of (slice_index_or begun i d).session ≡ i + 1 = omega (arith, number) in
    record {
      left = subst (λ (n : ℕ). HasLeft t n (slice_index_or over i d).session.seat) at ended.left;
      ended = ended.ended;
      numbered = ended.session ∙ at;
    }

-- ---- all were met

kept_met : (over : List Slot) (rest : List (Option (MetSeat Event))) → AllMet rest → AllMet (map kept_of over ++ rest)
kept_met [] rest h = h
kept_met (s ∷ over) rest h = kept_met over rest h

pub met_whole : (t : Turn ServerState Event) (old new : Seat ServerState Event ghosts) (begun over : List Slot) → AllZip (IsServed t) begun over → AllMet (drop (length begun) (view old).registry) → HasMet t old new over → AllMet (view new).registry
met_whole t old new begun over served rest met =
    let long = zip_long (IsServed t) begun over served in
    subst (λ (r : List (Option (MetSeat Event))). AllMet r) (sym met.registry) (kept_met over (drop (length over) (view old).registry) (subst (λ (n : ℕ). AllMet (drop n (view old).registry)) (sym long) rest))

-- ---- what they had seen

seen_after : (t : Turn ServerState Event) (o : Options) (first : Journal) (i : ℕ × List ℕ) (a b : Slot) (ending : Ending) → IsOpen t o first i a → IsServed t a b → b.ending ≡ Some ending → StartsWith (seen_by b.session) first
seen_after t o first i a b ending opened served is =
    let answered : HasAnswered a.session b.session a.input b.lines ending = subst (λ (x : Option Ending). IfSome x (HasAnswered a.session b.session a.input b.lines)) is served.answered in
    let run = answered.served in
    let runs = run.runs in
    starts_trans (seen_by b.session) (seen_by a.session) first runs.begins opened.begins

all_seen : (t : Turn ServerState Event) (o : Options) (first : Journal) (inputs : List (List ℕ)) (begun over : List Slot) (outcomes : List Outcome) → AreOpen t o first inputs begun → AllZip (IsServed t) begun over → AreOutcomes over outcomes → All (λ s. StartsWith (seen_by s.session) first) over
all_seen t o first inputs begun over outcomes opened served told i d l =
    let ins = inputs_from 1 (take (length begun) inputs) in
    let a = zip_long (IsServed t) begun over served in
    let b = zip_long (IsOpen t o first) ins begun opened in
    let one = zip_at (IsOpen t o first) ins begun opened i (0, []) d (omega (arith, l, a, b)) in
    let was = zip_at (IsServed t) begun over served i d d (omega (arith, l, a)) in
    let of = zip_at IsOutcomeOf over outcomes told i d (record { report = report_of d ending.Input; receipt = receipt_of d }) l in
    seen_after t o first (slice_index_or ins i (0, [])) (slice_index_or begun i d) (slice_index_or over i d) of.0 one was of.1

pub have_served : (t : Turn ServerState Event) (o : Options) (inputs : List (List ℕ)) (outcomes : List Outcome) (old middle new : Seat ServerState Event ghosts) (begun over : List Slot) → AreOpen t o (view old).seen inputs begun → length begun ≡ length inputs → (view middle).seen ≡ (view old).seen
    → length (view middle).registry ≡ length inputs → AllZip (IsServed t) begun over → HasMet t middle new over → AreOutcomes over outcomes → HaveServed t o inputs outcomes (view old).seen (view new)
have_served t o inputs outcomes old middle new begun over opened all same long served met told =
    let a = zip_long (IsServed t) begun over served in
    record {
      begun = begun;
      over = over;
      opened = opened;
      all = all;
      served = served;
      told = told;
      registry = met.registry ∙ (ap (λ (r : List (Option (MetSeat Event))). map kept_of over ++ r) (drop_of_length-le (view middle).registry (omega (arith, a, all, long))) ∙ append-nil (map kept_of over));
      seen = met.seen (view old).seen (subst (λ (j : Journal). StartsWith j (view old).seen) (sym same) ([], sym (append-nil (view old).seen))) (all_seen t o (view old).seen inputs begun over outcomes opened served told);
    }
