-- From the sessions and what the last seat gave, the whole.
use Rattle.std.proofs.Common.{◌≡◌, ◌≢◌, ℕ, zero, suc, ◌+◌, ◌-◌, ◌<◌, ◌≤◌, ◌==◌, Bool, true, false, List, [], ◌∷◌, ◌++◌, length, map, Option, Some, None, refl, sym, ap, ◌∙◌, subst, arith, take_all, get_or, true≢false, eqb, eq-eqb, eqb-true}
use lib.ListN.{length-map}
use Rattle.std.specs.Prelude.{IfSome, ◌||◌}
use mathlib.Core.Option.{some}
use lib.ListN.{get_elem?}
use Rattle.std.specs.List.{AllZip}
use Rattle.qc_types.specs.declared.options.Options.{Options}
use Rattle.qc_sql.specs.Words.{is_among}
use Rattle.qc_model.specs.declared.events.Event.{Event}
use Rattle.qc_model.specs.declared.reports.Ending.{Ending}
use Rattle.qc_model.specs.declared.reports.SessionReport.{SessionReport}
use Rattle.qc_model.specs.declared.reports.Script.{Script}
use Rattle.qc_model.specs.Agrees.{Agrees, commands_of, inputs_from, inputs_of, whole_machine}
use Rattle.qc_model.specs.Journal.{Journal, events_of}
use Rattle.qc_model.specs.Licence.{IsLawful}
use Rattle.qc_model.specs.Needs.{HasNeeds}
use Rattle.qc_model.specs.Session.{starting}
use Rattle.qc_laws.specs.runs.Runs.{HasEnded, HaveEnded, IsClosed, Position, Runs, StartsWith, numbers, own, stand}
use Rattle.qc_laws.specs.runs.Runs as runs
use Rattle.qc_laws.proofs.runs.Steps.{of_seat_is}
use Rattle.qc_laws.proofs.runs.Whole.{runs_agree}
use Rattle.qc_turn.specs.Releases.{ClosesWith}
use Rattle.qc_turn.specs.declared.turn.Turn.{Turn}
use Rattle.qc_turn.specs.declared.view.MetSeat.{MetSeat}
use Rattle.qc_turn.specs.declared.view.View.{View}
use Rattle.qc_turn.specs.Seats.{view}
use Rattle.qc_turn.specs.Views.{met_seat, of_seat}
use Rattle.qc_turn.proofs.Tasks.{starts_trans}
use Rattle.qc_core.specs.contracts.server.ServerKept.TheImpl.{ghosts}
use Rattle.qc_core.specs.declared.server_state.ServerState.{ServerState}
use Rattle.qc_core.specs.Whole.{IsSomewhereSound}
use Rattle.qc_sound.proofs.Needs.{needs_are}
use Rattle.qc_serve.specs.declared.connecting.Receipt.{Receipt}
use Rattle.qc_serve.specs.Going.{as_fixed, number_of, position_of, seen_by}
use Rattle.qc_serve.specs.Leaving.{HasLeft}
use Rattle.qc_serve.specs.Logs.{logged_line}
use Rattle.qc_app.specs.declared.sessions.Slot.{Slot}
use Rattle.qc_app.specs.SessionInput as served
use Rattle.qc_app.specs.declared.outcomes.Outcome.{Outcome}
use Rattle.qc_app.specs.SessionEnds.{AreOutcomes, IsOutcomeOf, kept_of, report_of}
use Rattle.qc_app.specs.SessionStarts.{IsOpen}
use Rattle.qc_app.specs.ScriptRun.{HaveReceipts, HaveRun, HaveServed, IsReceiptOf, behind_setup, receipts_in, reports_in}
use Rattle.qc_app.specs.SetupPart.{HasPrepared, IsPrepared}
use Rattle.qc_app.specs.Sessions.{IsServed}

-- the reports of sessions that have all served their inputs
abbrev AreReports : List Slot → List SessionReport → Type 0
AreReports slots reports = AllZip (λ s r. (ending : Ending) × (s.ending ≡ Some ending) × (r ≡ report_of s ending)) slots reports

are_reports : (over : List Slot) (outcomes : List Outcome) → AreOutcomes over outcomes → AreReports over (reports_in outcomes)
are_reports [] [] told = tt
are_reports [] (o ∷ os) told = absurd told
are_reports (s ∷ over) [] told = absurd told
are_reports (s ∷ over) (o ∷ os) told = ((told.0.0, told.0.1, told.0.2), are_reports over os told.1)

-- what the last value has of the seat with this number
abbrev HasKept : Journal → ℕ → MetSeat Event → Type 0
HasKept J n kept = (kept.events ≡ of_seat ghosts n J) × StartsWith J kept.seen

-- one session has ended in the journal
one_ended : (t : Turn ServerState Event) (o : Options) (was first J : Journal) (i : ℕ × List ℕ) (a b : Slot) (r : SessionReport) (ending : Ending) → IsOpen t o was i a → IsServed t a b → b.ending ≡ Some ending → r ≡ report_of b ending → (number_of b.session ≢ 0 → StartsWith (seen_by a.session) first)
    → (events_of (number_of b.session) J ≡ events_of (number_of b.session) (seen_by b.session)) → StartsWith J (seen_by b.session) → (r.session ≡ i.0) × HasEnded whole_machine o first J i.1 r
one_ended t o was first J i a b r ending opened is at same begins all seen =
    let ended = is.ended in
    let answered : served.HasAnswered a.session b.session a.input b.lines ending = of_some b.ending ending at is.answered in
    let run = answered.served in
    let number : number_of b.session ≡ number_of a.session = ended.session in
    let back : number_of a.session ≡ number_of b.session = sym number in
    let from : position_of a.session ≡ stand (seen_by a.session) (starting (number_of a.session) o.kind) 0 = λ j. stand (seen_by a.session) (opened.state j) (opened.place j) in
    let runs : Runs whole_machine o (number_of a.session) (stand (seen_by a.session) (starting (number_of a.session) o.kind) 0) (commands_of a.input).0 b.lines (position_of b.session) =
    subst (λ (x : Options × Position). Runs whole_machine x.0 (number_of a.session) x.1 (commands_of a.input).0 b.lines (position_of b.session)) (λ j. (opened.options j, from j)) run.runs in
    let mine : Runs whole_machine o (number_of b.session) (stand (seen_by a.session) (starting (number_of b.session) o.kind) 0) (commands_of i.1).0 b.lines (position_of b.session) =
    subst (λ (x : ℕ × List ℕ). Runs whole_machine o x.0 (stand (seen_by a.session) (starting x.0 o.kind) 0) (commands_of x.1).0 b.lines (position_of b.session)) (λ j. (back j, opened.input j)) runs in
    let none : own (number_of b.session) (seen_by a.session) ≡ [] = ap (λ (n : ℕ). own n (seen_by a.session)) number ∙ opened.none in
    subst (λ (x : SessionReport). (x.session ≡ i.0) × HasEnded whole_machine o first J i.1 x) (sym same) (
      number ∙ opened.number,
      record {
        from = seen_by a.session;
        to = position_of b.session;
        begins = begins;
        none = none;
        runs = mine;
        ending = answered.ends ∙ ap (λ (input : List ℕ). (commands_of input).1) opened.input;
        seen = seen;
        all = all;
      },
    )
  where
    of_some : (x : Option Ending) (e : Ending) → x ≡ Some e → IfSome x (served.HasAnswered a.session b.session a.input b.lines) → served.HasAnswered a.session b.session a.input b.lines e
    of_some x e is h = subst (λ (y : Option Ending). IfSome y (served.HasAnswered a.session b.session a.input b.lines)) is h

-- a seat's events are those of its session
its_events : (t : Turn ServerState Event) (J : Journal) (n : ℕ) (b : Slot) (number : ℕ) → HasLeft t number b.session.seat → number_of b.session ≡ number → n ≡ number + 1 → HasKept J n (met_seat (view b.session.seat))
    → (events_of (number_of b.session) J ≡ events_of (number_of b.session) (seen_by b.session)) × StartsWith J (seen_by b.session)
its_events t J n b number left is at kept = (
  ap (λ (k : ℕ). events_of k J) is ∙ (sym (of_seat_is number J) ∙ (ap (λ (k : ℕ). of_seat ghosts k J) (sym at) ∙ (sym kept.0 ∙ (left.events ∙ ap (λ (k : ℕ). events_of k (seen_by b.session)) (sym is))))),
  kept.1,
)

first_number : (n m : ℕ) → m ≡ n → 0 + (n + 1) ≡ m + 1
first_number n m e = omega (arith, e)

pub have_ended : (t : Turn ServerState Event) (o : Options) (first J : Journal) (n : ℕ) (inputs : List (List ℕ)) (begun over : List Slot) (reports : List SessionReport) → AllZip (IsOpen t o first) (inputs_from n inputs) begun → AllZip (IsServed t) begun over → AreReports over reports
    → ((k : ℕ) (kept : MetSeat Event) → get_elem? (map kept_of over) k ≡ some (Some kept) → HasKept J (k + (n + 1)) kept) → HaveEnded whole_machine o first J (inputs_from n inputs) reports
have_ended t o first J n [] [] [] [] a b c f = tt
have_ended t o first J n [] [] [] (r ∷ rs) a b c f = absurd c
have_ended t o first J n [] [] (x ∷ over) reports a b c f = absurd b
have_ended t o first J n [] (x ∷ begun) over reports a b c f = absurd a
have_ended t o first J n (i ∷ inputs) [] over reports a b c f = absurd a
have_ended t o first J n (i ∷ inputs) (x ∷ begun) [] reports a b c f = absurd b
have_ended t o first J n (i ∷ inputs) (x ∷ begun) (y ∷ over) [] a b c f = absurd c
have_ended t o first J n (i ∷ inputs) (x ∷ begun) (y ∷ over) (r ∷ rs) a b c f =
    let opened = a.0 in
    let is = b.0 in
    let ended = is.ended in
    let number : number_of y.session ≡ number_of x.session = ended.session in
    let known = its_events t J (0 + (n + 1)) y (number_of x.session) ended.left number (first_number n (number_of x.session) opened.number) (f 0 (met_seat (view y.session.seat)) refl) in
    let one = one_ended t o first first J (n, i) x y r c.0.0 opened is c.0.1 c.0.2 (λ ne. opened.begins) known.0 known.1 in (
      one.0,
      one.1,
      have_ended t o first J (n + 1) inputs begun over rs a.1 b.1 c.1 (λ k kept e. let at : suc k + (n + 1) ≡ k + (n + 1 + 1) = omega arith in subst (λ (m : ℕ). HasKept J m kept) at (f (suc k) kept e)),
    )

-- ---- nobody else has events

first_is : (a m : ℕ) (ns : List ℕ) → a ≡ m → is_among (a ∷ ns) m ≡ true
first_is a m ns e = ap (λ (b : Bool). b || is_among ns m) (eq-eqb a m e)

later_is : (a m : ℕ) (ns : List ℕ) → is_among ns m ≡ true → is_among (a ∷ ns) m ≡ true
later_is a m ns e = or_last (a == m) (is_among ns m) e
  where
    or_last : (a b : Bool) → b ≡ true → (a || b) ≡ true
    or_last true b k = refl
    or_last false b k = k

counted : (t : Turn ServerState Event) (o : Options) (first : Journal) (n : ℕ) (inputs : List (List ℕ)) (begun over : List Slot) (reports : List SessionReport) → AllZip (IsOpen t o first) (inputs_from n inputs) begun → AllZip (IsServed t) begun over → AreReports over reports
    → (m : ℕ) → n ≤ m → m < n + length over → is_among (numbers reports) m ≡ true
counted t o first n [] [] [] reports a b c m low high = absurd (omega (arith, low, high))
counted t o first n [] [] (x ∷ over) reports a b c m low high = absurd b
counted t o first n [] (x ∷ begun) over reports a b c m low high = absurd a
counted t o first n (i ∷ inputs) [] over reports a b c m low high = absurd a
counted t o first n (i ∷ inputs) (x ∷ begun) [] reports a b c m low high = absurd b
counted t o first n (i ∷ inputs) (x ∷ begun) (y ∷ over) [] a b c m low high = absurd c
counted t o first n (i ∷ inputs) (x ∷ begun) (y ∷ over) (r ∷ rs) a b c m low high =
    let opened = a.0 in
    let is = b.0 in
    let ended = is.ended in
    let at : r.session ≡ n = ap (λ (x : SessionReport). x.session) c.0.2 ∙ (ended.session ∙ opened.number) in
    found (eqb m n) refl at (λ next. counted t o first (n + 1) inputs begun over rs a.1 b.1 c.1 m next (omega (arith, high)))
  where
    next : eqb m n ≡ false → n + 1 ≤ m
    next e = omega (arith, low, λ (h : m ≡ n). true≢false (sym (eq-eqb m n h) ∙ e))

    found : (e : Bool) → eqb m n ≡ e → r.session ≡ n → (n + 1 ≤ m → is_among (numbers rs) m ≡ true) → is_among (numbers (r ∷ rs)) m ≡ true
    found true e at later = first_is (r.session) m (numbers rs) (at ∙ sym (eqb-true m n e))
    found false e at later = later_is (r.session) m (numbers rs) (later (next e))

-- ---- receipts

answered_lines : (t : Turn ServerState Event) (a b : Slot) (ending : Ending) → IsServed t a b → b.ending ≡ Some ending → b.session.log.lines ≡ a.session.log.lines ++ map logged_line b.lines
answered_lines t a b ending is at =
    let answered : served.HasAnswered a.session b.session a.input b.lines ending = subst (λ (y : Option Ending). IfSome y (served.HasAnswered a.session b.session a.input b.lines)) at is.answered in
    let run = answered.served in
    run.lines

one_receipt : (t : Turn ServerState Event) (o : Options) (first : Journal) (i : ℕ × List ℕ) (a b : Slot) (outcome : Outcome) → IsOpen t o first i a → IsServed t a b → IsOutcomeOf b outcome → IsReceiptOf outcome.report outcome.receipt
one_receipt t o first i a b outcome opened is (ending, at, report, receipt) =
    let log : outcome.receipt.log.lines ≡ b.session.log.lines = ap (λ (r : Receipt). r.log.lines) receipt in
    let none : a.session.log.lines ≡ [] = opened.log in
    record {
      session = ap (λ (r : Receipt). r.session) receipt ∙ sym (ap (λ (r : SessionReport). r.session) report);
      lines = log ∙ (answered_lines t a b ending is at ∙ (λ i. none i ++ map logged_line (sym (ap (λ (r : SessionReport). r.lines) report) i)));
    }

have_receipts : (t : Turn ServerState Event) (o : Options) (first : Journal) (n : ℕ) (inputs : List (List ℕ)) (begun over : List Slot) (outcomes : List Outcome) → AllZip (IsOpen t o first) (inputs_from n inputs) begun → AllZip (IsServed t) begun over → AreOutcomes over outcomes
    → HaveReceipts (reports_in outcomes) (receipts_in outcomes)
have_receipts t o first n [] [] [] [] a b c = tt
have_receipts t o first n [] [] [] (x ∷ xs) a b c = absurd c
have_receipts t o first n [] [] (x ∷ over) outcomes a b c = absurd b
have_receipts t o first n [] (x ∷ begun) over outcomes a b c = absurd a
have_receipts t o first n (i ∷ inputs) [] over outcomes a b c = absurd a
have_receipts t o first n (i ∷ inputs) (x ∷ begun) [] outcomes a b c = absurd b
have_receipts t o first n (i ∷ inputs) (x ∷ begun) (y ∷ over) [] a b c = absurd c
have_receipts t o first n (i ∷ inputs) (x ∷ begun) (y ∷ over) (u ∷ outcomes) a b c = (one_receipt t o first (n, i) x y u a.0 b.0 c.0, have_receipts t o first (n + 1) inputs begun over outcomes a.1 b.1 c.1)

-- ---- the whole

module _ (t : Turn ServerState Event) (o : Options) (inputs : List (List ℕ)) (outcomes : List Outcome) (before v : View ServerState Event) (server : ServerState) (served : HaveServed t o inputs outcomes before.seen v) (closes : ClosesWith ghosts v server) where
  abbrev J : Journal
  J = server.journal.events

  opened : AllZip (IsOpen t o before.seen) (inputs_from 1 inputs) served.begun
  opened = subst (λ (l : List (List ℕ)). AllZip (IsOpen t o before.seen) (inputs_from 1 l) served.begun) (take_all (length served.begun) inputs (omega (arith, served.all))) served.opened

  abbrev whole : IsSomewhereSound server
  whole = (closes.sound.0, closes.sound.2)

  -- the journal goes on behind what the first seat had seen when the others were split off
  goes_on : StartsWith J before.seen
  goes_on = starts_trans J v.seen before.seen closes.seen served.seen

  -- and session 0 has had no event since
  own_stays : v.events ≡ before.events → before.events ≡ events_of 0 before.seen → events_of 0 J ≡ events_of 0 before.seen
  own_stays same known = sym (of_seat_is 0 J) ∙ (sym closes.own ∙ (same ∙ known))

  sessions_ended : HaveEnded whole_machine o before.seen J (inputs_from 1 inputs) (reports_in outcomes)
  sessions_ended = have_ended t o before.seen J 1 inputs served.begun served.over (reports_in outcomes) opened served.served (are_reports served.over outcomes served.told)
      (λ k kept e. closes.met k kept (subst (λ (l : List (Option (MetSeat Event))). get_elem? l k ≡ some (Some kept)) (sym served.registry) e))

  sessions_receipts : HaveReceipts (reports_in outcomes) (receipts_in outcomes)
  sessions_receipts = have_receipts t o before.seen 1 inputs served.begun served.over outcomes opened served.served served.told

  -- no seat but these and the first has events
  no_others : (n : ℕ) → is_among (numbers (reports_in outcomes)) (suc n) ≡ false → events_of (suc n) J ≡ []
  no_others n e =
      let long : length v.registry ≡ length served.over = ap length served.registry ∙ length-map served.over kept_of in
      let among : suc n < 1 + length served.over → is_among (numbers (reports_in outcomes)) (suc n) ≡ true =
      λ h. counted t o before.seen 1 inputs served.begun served.over (reports_in outcomes) opened served.served (are_reports served.over outcomes served.told) (suc n) (omega arith) h in
      let beyond : length served.over < suc n = omega (arith, λ (h : suc n < 1 + length served.over). true≢false (sym (among h) ∙ e)) in
      sym (of_seat_is (suc n) J) ∙ closes.others (suc n + 1) (omega (arith, long, beyond))

  is_closed : server.options ≡ o → (reports : List SessionReport) → ((n : ℕ) → is_among (numbers reports) n ≡ false → events_of n J ≡ []) → events_of 0 J ≡ events_of 0 before.seen → IsClosed o before.seen J (numbers reports)
  is_closed same reports none own =
      let sound = whole in
      let parts = sound.1.1 in
      record {
        lawful = subst (λ (p : Options). IsLawful p J) same parts.sound.journal.lawful;
        needs = subst (λ (p : Options). HasNeeds p J) same (needs_are server.options [] J parts.sound.journal.needs);
        no_other = none;
        begins = goes_on;
        setup = own;
      }

  -- a script without a setup part
  pub ran_alone : server.options ≡ o → before.seen ≡ [] → before.events ≡ [] → v.events ≡ before.events → HaveRun o None inputs outcomes server
  ran_alone same saw none events =
      let own : events_of 0 J ≡ events_of 0 before.seen = own_stays events (none ∙ sym (ap (events_of 0) saw)) in
      record {
        sound = whole;
        options = same;
        first = before.seen;
        ended = sessions_ended;
        closed = is_closed same (reports_in outcomes) (others (own ∙ ap (events_of 0) saw)) own;
        receipts = sessions_receipts;
      }
    where
      others : events_of 0 J ≡ [] → (n : ℕ) → is_among (numbers (reports_in outcomes)) n ≡ false → events_of n J ≡ []
      others own zero e = own
      others own (suc n) e = no_others n e

  -- and one with it
  pub ran_behind : (input : List ℕ) (outcome : Outcome) → server.options ≡ o → IsPrepared t o input before outcome → v.events ≡ before.events → HaveRun o (Some input) inputs (outcome ∷ outcomes) server
  ran_behind input outcome same prepared events =
      let over = prepared.over in
      let begun = prepared.begun in
      let opened = prepared.opened in
      let is = prepared.served in
      let ended = is.ended in
      let left = ended.left in
      let seat = prepared.seat in
      let number : number_of begun.session ≡ 0 = opened.number in
      let zero_is : number_of over.session ≡ 0 = ended.session ∙ number in
      let saw : seen_by over.session ≡ before.seen = ap (λ (w : View ServerState Event). w.seen) seat in
      let known : before.events ≡ events_of 0 before.seen = sym (ap (λ (w : View ServerState Event). w.events) seat) ∙ (left.events ∙ (λ i. events_of (number i) (saw i))) in
      let own : events_of 0 J ≡ events_of 0 before.seen = own_stays events known in
      let of = prepared.left in
      let one = one_ended t o [] before.seen J (0, input) begun over outcome.report of.0 opened is of.1 of.2 (λ ne. absurd (ne zero_is))
      ((λ i. events_of (zero_is i) J) ∙ (own ∙ (λ i. events_of (sym zero_is i) (sym saw i)))) (subst (StartsWith J) (sym saw) goes_on) in
      let first : outcome.report.session ≡ 0 = one.0 in
      record {
        sound = whole;
        options = same;
        first = before.seen;
        ended = (one.0, one.1, sessions_ended);
        closed = is_closed same (outcome.report ∷ reports_in outcomes) (others outcome.report first) own;
        receipts = (one_receipt t o [] (0, input) begun over outcome opened is of, sessions_receipts);
      }
    where
      or_false : (a b : Bool) → (a || b) ≡ false → b ≡ false
      or_false true b e = absurd (true≢false e)
      or_false false b e = e

      others : (r : SessionReport) → r.session ≡ 0 → (n : ℕ) → is_among (numbers (r ∷ reports_in outcomes)) n ≡ false → events_of n J ≡ []
      others r is zero e = absurd (true≢false (sym (first_is r.session 0 (numbers (reports_in outcomes)) is) ∙ e))
      others r is (suc n) e = no_others n (or_false (r.session == suc n) (is_among (numbers (reports_in outcomes)) (suc n)) e)

pub have_run : (t : Turn ServerState Event) (o : Options) (setup : Option (List ℕ)) (inputs : List (List ℕ)) (prepared : Option Outcome) (outcomes : List Outcome) (before v : View ServerState Event) (server : ServerState) → HasPrepared t o setup before prepared → HaveServed t o inputs outcomes before.seen v
    → v.events ≡ before.events → ClosesWith ghosts v server → server.options ≡ o → HaveRun o setup inputs (behind_setup prepared outcomes) server
have_run t o None inputs None outcomes before v server prepared served events closes same = ran_alone t o inputs outcomes before v server served closes same prepared.0 prepared.1 events
have_run t o None inputs (Some outcome) outcomes before v server prepared served events closes same = absurd prepared
have_run t o (Some input) inputs None outcomes before v server prepared served events closes same = absurd prepared
have_run t o (Some input) inputs (Some outcome) outcomes before v server prepared served events closes same = ran_behind t o inputs outcomes before v server served closes input outcome same prepared events

-- options are known by what the lock keeps of them
pub same_options : (a b : Options) → as_fixed a ≡ as_fixed b → a ≡ b
same_options a b e = λ i. record { size = get_or (e i) 0 0; limit = get_or (e i) 1 0; unit = get_or (e i) 2 0; kind = get_or (e i) 3 0 }

-- ---- the report

pub report_agrees : (script : Script) (options : Options) (reports : List SessionReport) (outcomes : List Outcome) (inputs : List (List ℕ)) (server : ServerState) → inputs ≡ script.sessions → reports ≡ reports_in outcomes → HaveRun options script.setup inputs outcomes server
    → Agrees whole_machine script options (runs.report_of options reports server.journal.events)
report_agrees script options reports outcomes inputs server same told ran =
    subst (λ (rs : List SessionReport). Agrees whole_machine script options (runs.report_of options rs server.journal.events)) (sym told)
    (runs_agree whole_machine script options ran.first server.journal.events (reports_in outcomes)
    (subst (λ (ins : List (List ℕ)). HaveEnded whole_machine options ran.first server.journal.events (inputs_of (record { setup = script.setup; sessions = ins })) (reports_in outcomes)) same ran.ended) ran.closed)
