-- How a call ends, from what was read, run and put.
use Rattle.std.proofs.Common.{◌≡◌, ◌≢◌, ◌⊎◌, ◌==◌, ◌≤◌, ◌∙◌, ℕ, Bool, true, false, List, Option, Some, None, Result, Ok, Err, refl, sym, ap, subst, inl, inr, arith, true≢false}
use Rattle.std.specs.Prelude.{IfErr, IfSome, is_some}
use Rattle.std.proofs.lemmas.Option.{none-some}
use Rattle.qc_types.specs.declared.options.Options.{Options}
use Rattle.qc_types.specs.Streams.{Rose}
use Rattle.qc_model.specs.declared.reports.Report.{Report}
use Rattle.qc_model.specs.declared.reports.Script.{Script}
use Rattle.qc_model.specs.declared.reports.ScriptRefusal.{ScriptRefusal}
use Rattle.qc_app.specs.declared.script_run.Ran.{Ran}
use Rattle.qc_app.specs.ScriptRun.{IsReportOf}
use Rattle.qc_app.specs.declared.arguments.reading.Asked.{Asked}
use Rattle.qc_app.specs.declared.arguments.reading.Asked.TheVariants as ask
use Rattle.qc_app.specs.declared.top.Ended.{Ended}
use Rattle.qc_app.specs.Arguments.{options_asked}
use Rattle.qc_app.specs.Ends.{HasEnded, HasRun, Seen, text_made}
use Rattle.qc_app.specs.declared.top.Outcome.{Outcome}
use Rattle.qc_app.specs.Outcomes.{ended_of, ended_with}
use Rattle.qc_app.specs.Top.{HasReadFault, HoldsMore, HoldsPrefix, IsBacked, IsRunOf, IsScriptOf, LeavesRun, RefusesAsked, RefusesInput, TellsInput, TellsRefusal, text_put}
use Rattle.qc_app.proofs.Counts.{summary_counted}
use Rattle.qc_app.proofs.Tops.{left_report, left_shown, spelled_not_refused}

-- ---- without a run

neither : {P : Type 0} (n : ℕ) → n ≢ 0 → n ≢ 4 → (n ≡ 0) ⊎ (n ≡ 4) → P
neither n zero four (inl e) = absurd (zero e)
neither n zero four (inr e) = absurd (four e)

without_run : (a : Option Asked) (i i-now o o-now : Seen) (n : ℕ) (bad : Option ScriptRefusal) → n ≤ 5 → (n ≡ 1 → a ≡ None) → (a ≡ None → (n ≡ 1) ⊎ (n ≡ 5))
    → is_some bad ≡ (n == 2) → IfSome bad (RefusesAsked a i.bytes) → n ≢ 0 → n ≢ 4 → (n ≡ 3 → HasReadFault a i.faults i-now.faults)
    → (TellsRefusal a i.bytes true → (HasReadFault a i.faults i-now.faults → ⊥) → (n ≡ 2) ⊎ (n ≡ 5))
    → (TellsRefusal a i.bytes false → (HasReadFault a i.faults i-now.faults → ⊥) → (Rose o.faults o-now.faults → ⊥) → (n ≡ 0) ⊎ (n ≡ 5))
    → HasEnded a i i-now o o-now (ended_with n bad None)
without_run a i i-now o o-now n bad few usage words there why zero four fault refuses completes = record {
  statuses = few;
  usage = usage;
  refuses_words = words;
  refusal_there = there;
  refusal = why;
  report_there = λ e. neither n zero four e;
  report_lacks = λ e. absurd (true≢false (sym e));
  agrees = tt;
  shown = tt;
  prefix_written = tt;
  all_written = λ e. tt;
  read_fault = fault;
  write_fault = λ e. absurd (four e);
  refuses = refuses;
  completes = completes;
}

-- memory was wanting
pub no_memory : (a : Option Asked) (i i-now o o-now : Seen) → HasEnded a i i-now o o-now (ended_with 5 None None)
no_memory a i i-now o o-now =
    without_run a i i-now o o-now 5 None (omega arith) (λ e. absurd (omega (arith, e))) (λ e. inr refl) refl tt (λ e. absurd (omega (arith, e))) (λ e. absurd (omega (arith, e)))
    (λ e. absurd (omega (arith, e))) (λ t q. inr refl) (λ t q s. inr refl)

-- the words are in no form
pub no_words : (i i-now o o-now : Seen) → HasEnded None i i-now o o-now (ended_with 1 None None)
no_words i i-now o o-now =
    without_run None i i-now o o-now 1 None (omega arith) (λ e. refl) (λ e. inl refl) refl tt (λ e. absurd (omega (arith, e))) (λ e. absurd (omega (arith, e)))
    (λ e. absurd (omega (arith, e))) (λ t q. absurd t) (λ t q s. absurd t)

-- the input failed
pub input_failed : (options : Options) (i i-now o o-now : Seen) → Rose i.faults i-now.faults → HasEnded (Some (ask.Run options)) i i-now o o-now (ended_with 3 None None)
input_failed options i i-now o o-now rose =
    without_run (Some (ask.Run options)) i i-now o o-now 3 None (omega arith) (λ e. absurd (omega (arith, e))) (λ e. absurd (none-some (ask.Run options) (sym e))) refl tt (λ e. absurd (omega (arith, e)))
    (λ e. absurd (omega (arith, e))) (λ e. rose) (λ t q. absurd (q rose)) (λ t q s. absurd (q rose))

-- its script is refused
pub input_refused : (options : Options) (i i-now o o-now : Seen) (r : ScriptRefusal) → RefusesInput i.bytes r → (TellsInput i.bytes false → ⊥)
    → HasEnded (Some (ask.Run options)) i i-now o o-now (ended_with 2 (Some r) None)
input_refused options i i-now o o-now r why known =
    without_run (Some (ask.Run options)) i i-now o o-now 2 (Some r) (omega arith) (λ e. absurd (omega (arith, e))) (λ e. absurd (none-some (ask.Run options) (sym e))) refl why (λ e. absurd (omega (arith, e)))
    (λ e. absurd (omega (arith, e))) (λ e. absurd (omega (arith, e))) (λ t q. inl refl) (λ t q s. absurd (known t))

-- ---- with a run

-- memory was wanting for the run or for its text
pub not_run : (a : Asked) (script : Script) (o o-now : Seen) → HasRun a script o o-now (ended_with 5 None None)
not_run a script o o-now = record {
  statuses = inr (inr refl);
  bad = refl;
  there = λ e. neither 5 (λ e. absurd (omega (arith, e))) (λ e. absurd (omega (arith, e))) e;
  agrees = tt;
  shown = tt;
  prefix = tt;
  all = λ e. tt;
  fault = λ e. absurd (omega (arith, e));
}

-- a text that is put of a run is put of its report, where there is one
of_report : (P : List ℕ → Type 0) (f : Report → List ℕ) (text : List ℕ) (ran : Ran) (e : Ended) → LeavesRun ran e → text ≡ f ran.report → IfSome e.report (λ report. P text)
    → IfSome e.report (λ report. P (f report))
of_report P f text ran e (inl (report, server, receipts)) is put =
    subst (λ (r : Option Report). IfSome r (λ report. P (f report))) (sym report) (subst P is (subst (λ (r : Option Report). IfSome r (λ report. P text)) report put))
of_report P f text ran e (inr (report, server, receipts)) is put = subst (λ (r : Option Report). IfSome r (λ report. P (f report))) (sym report) tt

pub has_run : (a : Asked) (script : Script) (o o-now : Seen) (ran : Ran) (text : List ℕ) (e : Ended) → IsReportOf script (options_asked a) ran.report
    → IsBacked ran.server ran.receipts ran.report → text ≡ text_made a ran.report → (e.status ≡ 0) ⊎ (e.status ≡ 4) ⊎ (e.status ≡ 5) → e.bad ≡ None
    → ((e.status ≡ 0) ⊎ (e.status ≡ 4) → is_some e.report ≡ true) → LeavesRun ran e → IfSome e.report (λ report. HoldsPrefix o.bytes o-now.bytes text)
    → (e.status ≡ 0 → IfSome e.report (λ report. HoldsMore o.bytes o-now.bytes text)) → (e.status ≡ 4 → Rose o.faults o-now.faults) → HasRun a script o o-now e
has_run a script o o-now ran text e agrees backed is statuses bad there left prefix all fault = record {
  statuses = statuses;
  bad = bad;
  there = there;
  agrees = left_report ran e (IsReportOf script (options_asked a)) left agrees;
  shown = left_shown ran e left backed;
  prefix = of_report (HoldsPrefix o.bytes o-now.bytes) (text_made a) text ran e left is prefix;
  all = λ zero. of_report (HoldsMore o.bytes o-now.bytes) (text_made a) text ran e left is (all zero);
  fault = fault;
}

-- ---- the whole

at_most_five : (n : ℕ) → (n ≡ 0) ⊎ (n ≡ 4) ⊎ (n ≡ 5) → n ≤ 5
at_most_five n (inl e) = omega (arith, e)
at_most_five n (inr (inl e)) = omega (arith, e)
at_most_five n (inr (inr e)) = omega (arith, e)

-- neither 1, 2 nor 3
no_other : {P : Type 0} (n m : ℕ) → (n ≡ 0) ⊎ (n ≡ 4) ⊎ (n ≡ 5) → 1 ≤ m → m ≤ 3 → n ≡ m → P
no_other n m (inl e) low high is = absurd (omega (arith, e, low, high, is))
no_other n m (inr (inl e)) low high is = absurd (omega (arith, e, low, high, is))
no_other n m (inr (inr e)) low high is = absurd (omega (arith, e, low, high, is))

not_two : (n : ℕ) → (n ≡ 0) ⊎ (n ≡ 4) ⊎ (n ≡ 5) → (n == 2) ≡ false
not_two n (inl e) = ap (λ k. k == 2) e
not_two n (inr (inl e)) = ap (λ k. k == 2) e
not_two n (inr (inr e)) = ap (λ k. k == 2) e

if_some : {X : Type 0} (o : Option X) (P Q : X → Type 0) → ((x : X) → P x → Q x) → IfSome o P → IfSome o Q
if_some None P Q f h = tt
if_some (Some x) P Q f h = f x h

if_both : {X : Type 0} (o : Option X) (P Q R : X → Type 0) → ((x : X) → P x → Q x → R x) → IfSome o P → IfSome o Q → IfSome o R
if_both None P Q R f h k = tt
if_both (Some x) P Q R f h k = f x h k

-- the text that is made of a report of what was asked for is the one that is to be put: the numbers of a workload's report are those that its number gives
made_is_put : (a : Asked) (i i-now : Option (List ℕ)) (script : Script) (report : Report) → IsScriptOf a i i-now script → IsReportOf script (options_asked a) report → text_made a report ≡ text_put (Some a) report
made_is_put (ask.Run options) i i-now script report takes agrees = refl
made_is_put (ask.Workload number) i i-now script report is agrees = summary_counted number (options_asked (ask.Workload number)) report (subst (λ (s : Script). IsReportOf s (options_asked (ask.Workload number)) report) is agrees)

-- so what holds of the text that is made holds of the other
is_put : (a : Asked) (i i-now : Option (List ℕ)) (script : Script) (e : Ended) (P : List ℕ → Type 0) → IsScriptOf a i i-now script → IfSome e.report (IsReportOf script (options_asked a))
    → IfSome e.report (λ report. P (text_made a report)) → IfSome e.report (λ report. P (text_put (Some a) report))
is_put a i i-now script e P takes agrees made =
    if_both e.report (IsReportOf script (options_asked a)) (λ report. P (text_made a report)) (λ report. P (text_put (Some a) report))
    (λ report agrees. subst P (made_is_put a i i-now script report takes agrees)) agrees made

-- the script that was asked for isn't refused
not_refused : {P : Type 0} (a : Asked) (i i-now : Option (List ℕ)) (script : Script) → IsScriptOf a i i-now script → TellsRefusal (Some a) i true → P
not_refused (ask.Run options) i i-now script spells tells = spelled_not_refused i i-now script spells tells
not_refused (ask.Workload number) i i-now script is tells = absurd (true≢false tells)

written : (e : Ended) (P : Type 0) → (e.status ≡ 0) ⊎ (e.status ≡ 4) ⊎ (e.status ≡ 5) → (e.status ≡ 4 → P) → (P → ⊥) → (e.status ≡ 0) ⊎ (e.status ≡ 5)
written e P (inl is) fault still = inl is
written e P (inr (inl is)) fault still = absurd (still (fault is))
written e P (inr (inr is)) fault still = inr is

pub has_ended : (a : Asked) (script : Script) (i i-now o o-now : Seen) (e : Ended) → IsScriptOf a i.bytes i-now.bytes script → HasRun a script o o-now e → HasEnded (Some a) i i-now o o-now e
has_ended a script i i-now o o-now e takes ran = record {
  statuses = at_most_five e.status ran.statuses;
  usage = λ is. no_other e.status 1 ran.statuses (omega arith) (omega arith) is;
  refuses_words = λ none. absurd (none-some a (sym none));
  refusal_there = ap is_some ran.bad ∙ sym (not_two e.status ran.statuses);
  refusal = subst (λ (bad : Option ScriptRefusal). IfSome bad (RefusesAsked (Some a) i.bytes)) (sym ran.bad) tt;
  report_there = ran.there;
  report_lacks = λ some. ran.statuses;
  agrees = if_some e.report (IsReportOf script (options_asked a)) (IsRunOf (Some a) i.bytes i-now.bytes) (λ report agrees. record { run = a; script = script; is = refl; takes = takes; agrees = agrees }) ran.agrees;
  shown = ran.shown;
  prefix_written = is_put a i.bytes i-now.bytes script e (HoldsPrefix o.bytes o-now.bytes) takes ran.agrees ran.prefix;
  all_written = λ zero. is_put a i.bytes i-now.bytes script e (HoldsMore o.bytes o-now.bytes) takes ran.agrees (ran.all zero);
  read_fault = λ is. no_other e.status 3 ran.statuses (omega arith) (omega arith) is;
  write_fault = ran.fault;
  refuses = λ tells quiet. not_refused a i.bytes i-now.bytes script takes tells;
  completes = λ tells quiet still. written e (Rose o.faults o-now.faults) ran.statuses ran.fault still;
}

-- what was asked for is what the words ask for, and the ending is the one that is given
pub same_ending : (a b : Option Asked) (i i-now o o-now : Seen) (e f : Ended) → b ≡ a → f ≡ e → HasEnded a i i-now o o-now e → HasEnded b i i-now o o-now f
same_ending a b i i-now o o-now e f asks ends h = subst (λ (x : Option Asked × Ended). HasEnded x.0 i i-now o o-now x.1) (λ j. (sym asks j, sym ends j)) h

-- how a run's input ends a call, whatever its options are
pub run_ends : (a : Asked) (options : Options) (i i-now : Seen) (r : Result Script Outcome) → a ≡ ask.Run options
    → IfErr r (λ outcome. (all : Options) (o o-now : Seen) → HasEnded (Some (ask.Run all)) i i-now o o-now (ended_of outcome))
    → IfErr r (λ outcome. (o o-now : Seen) → HasEnded (Some a) i i-now o o-now (ended_of outcome))
run_ends a options i i-now (Ok script) is h = tt
run_ends a options i i-now (Err outcome) is h = λ o o-now. subst (λ x. HasEnded (Some x) i i-now o o-now (ended_of outcome)) (sym is) (h options o o-now)
