-- From what was read to what is said of the whole input.
use Rattle.std.proofs.Common.{◌≡◌, ℕ, ◌<◌, ◌≤◌, Bool, true, false, List, length, refl, sym, ap, ◌∙◌, subst, arith, true≢false, Option, Some, None, Result, Ok, Err, length-append, inl, inr, ◌⊎◌, ◌==◌}
use Rattle.std.specs.Prelude.{is_ok, IfOk, IfSome, nat_lt, if◌then◌else◌}
use Rattle.qc_types.specs.declared.memory.Or.{Or}
use Rattle.qc_types.specs.declared.memory.Or.TheVariants as or
use Rattle.qc_types.specs.Answers.{Gives}
use Rattle.qc_types.specs.Streams.{BeginsWith}
use Rattle.qc_model.specs.declared.reports.Report.{Report}
use Rattle.qc_model.specs.declared.reports.Script.{Script}
use Rattle.qc_model.specs.declared.reports.ScriptRefusal.{ScriptRefusal}
use Rattle.qc_model.specs.declared.reports.ScriptRefusal.TheVariants as refusal
use Rattle.qc_model.specs.Journal.{present}
use Rattle.qc_model.specs.ScriptLines.{script_of, most_script, after_lines, lines_of, no_sessions}
use Rattle.qc_script.specs.WorkloadScript.{workload_script}
use Rattle.qc_core.specs.declared.server_state.ServerState.{ServerState}
use Rattle.qc_core.specs.Whole.{IsSomewhereSound}
use Rattle.qc_serve.specs.declared.connecting.Receipt.{Receipt}
use Rattle.qc_app.specs.declared.script_run.Ran.{Ran}
use Rattle.qc_app.specs.ScriptRun.{AreTaken, MayRun}
use Rattle.qc_app.specs.declared.arguments.reading.Asked.{Asked}
use Rattle.qc_app.specs.declared.top.Ended.{Ended}
use Rattle.qc_app.specs.Arguments.{asked_of, options_asked}
use Rattle.qc_app.specs.Reading.{ReadsEnough}
use Rattle.qc_app.specs.Top.{AreShown, IsBacked, IsShown, LeavesRun, ReadsAll, RefusesInput, Spells, TellsInput}
use Rattle.qc_app.proofs.Rounding.{options_are_rounded}

-- ---- the words

pub words_given : {E : Type 0} (r : Result (Option Asked) E) (given : Option Asked) (a : Option Asked) (meant : Option Asked) → r ≡ Ok given → given ≡ a
    → IfOk r (λ x. x ≡ meant) → meant ≡ a
words_given {E} r given a meant is some h = sym (subst (λ (q : Result (Option Asked) E). IfOk q (λ x. x ≡ meant)) is h) ∙ some

-- the options are rounded, and in their ranges
pub words_are_taken : (words : List (List ℕ)) (a : Asked) → asked_of words ≡ Some a → AreTaken (options_asked a)
words_are_taken words a e =
    let r = options_are_rounded words a e in
    record { size = r.size; size_most = r.size_most; unit = r.unit; unit_least = r.unit_least; unit_most = r.unit_most }

-- ---- the workload's script

pub workload_may_run : (number : ℕ) (script : Script) → script ≡ workload_script number → MayRun script
unfolding workload_script
workload_may_run number script is = record { few = subst (λ (s : Script). length s.sessions ≤ 64) (sym is) (omega arith) }

-- ---- a script that is too long

long_front : (left bytes : List ℕ) → most_script < length bytes → BeginsWith left bytes → most_script < length left
long_front left bytes long b = omega (arith, long, ap length b.1, length-append bytes b.0)

pub too_long : (bytes : List ℕ) → most_script < length bytes → script_of bytes ≡ Err refusal.InputTooLong
unfolding script_of
too_long bytes long = by (nat_lt most_script (length bytes)) refl
  where
    by : (b : Bool) → nat_lt most_script (length bytes) ≡ b → (if b then Err refusal.InputTooLong else after_lines 1 no_sessions (lines_of bytes)) ≡ Err refusal.InputTooLong
    by true q = refl
    by false q = let within : length bytes ≤ most_script = grind (arith) in absurd (omega (arith, long, within))

long_is : {P : Type 0} (bytes : List ℕ) (s : Script) → most_script < length bytes → script_of bytes ≡ Ok s → P
long_is bytes s long e = clash (sym (too_long bytes long) ∙ e)
  where
    clash : {P : Type 0} → ◌≡◌ {A = Result Script ScriptRefusal} (Err refusal.InputTooLong) (Ok s) → P
    clash e = absurd cc

-- ---- what was read, and what is meant

pub all_read : (before now : Option (List ℕ)) (bytes : List ℕ) (s : Script) → ReadsEnough before now bytes → script_of bytes ≡ Ok s → ReadsAll before now bytes
all_read None now bytes s r e = r
all_read (Some left) now bytes s (inl r) e = r
all_read (Some left) now bytes s (inr r) e = long_is bytes s r.0 e

pub refusal_is : (before now : Option (List ℕ)) (bytes : List ℕ) (r : ScriptRefusal) → ReadsEnough before now bytes → script_of bytes ≡ Err r → RefusesInput before r
refusal_is None now bytes r h e = (bytes, e)
refusal_is (Some left) now bytes r (inl h) e = subst (λ (b : List ℕ). script_of b ≡ Err r) (sym h.0) e
refusal_is (Some left) now bytes r (inr h) e = too_long left (long_front left bytes h.0 h.1) ∙ sym (too_long bytes h.0) ∙ e

-- a refused script isn't told to be taken
pub not_taken : {P : Type 0} (before now : Option (List ℕ)) (bytes : List ℕ) (r : ScriptRefusal) → ReadsEnough before now bytes → script_of bytes ≡ Err r → TellsInput before false → P
not_taken None now bytes r h e t = absurd t
not_taken (Some left) now bytes r h e t = absurd (true≢false (sym t ∙ ap is_ok (refusal_is (Some left) now bytes r h e)))

-- a script that is spelled isn't told to be refused
pub spelled_not_refused : {P : Type 0} (before now : Option (List ℕ)) (script : Script) → Spells before now script → TellsInput before true → P
spelled_not_refused None now script spells tells = absurd tells
spelled_not_refused (Some left) now script spells tells =
    absurd (true≢false (sym (ap is_ok (subst (λ (b : List ℕ). script_of b ≡ Ok script) (sym spells.read.0) spells.means)) ∙ tells))

pub input_spells : (before now : Option (List ℕ)) (bytes : List ℕ) (script : Script) → ReadsEnough before now bytes → script_of bytes ≡ Ok script → Spells before now script
input_spells before now bytes script read means = record { bytes = bytes; read = all_read before now bytes script read means; means = means }

-- what a call gave
pub given_refusal : {X E : Type 0} (r : Result X (Or E)) (o : Or E) (e : E) (meant : Result X E) → r ≡ Err o → o ≡ or.Other e → Gives (λ x. x) (λ x. x) r meant → meant ≡ Err e
given_refusal {X} {E} r o e meant a b h = subst (λ (q : Result X (Or E)). Gives (λ x. x) (λ x. x) q meant) (a ∙ ap Err b) h

pub given : {X E : Type 0} (r : Result X (Or E)) (x : X) (meant : Result X E) → r ≡ Ok x → Gives (λ x. x) (λ x. x) r meant → meant ≡ Ok x
given {X} {E} r x meant a h = subst (λ (q : Result X (Or E)). Gives (λ x. x) (λ x. x) q meant) a h

-- ---- what it leaves

-- a sound server has the database of its journal
pub sound_database : (s : ServerState) → IsSomewhereSound s → s.database ≡ present s.journal.events
sound_database s sound = sound.1.1.sound.journal.database

pub left_report : (ran : Ran) (e : Ended) (P : Report → Type 0) → LeavesRun ran e → P ran.report → IfSome e.report P
left_report ran e P (inl (report, server, receipts)) h = subst (λ (o : Option Report). IfSome o P) (sym report) h
left_report ran e P (inr (report, server, receipts)) h = subst (λ (o : Option Report). IfSome o P) (sym report) tt

shown_by : (e : Ended) (r : Option Report) (s : Option ServerState) (q : Option (List Receipt)) → e.report ≡ r → e.server ≡ s → e.receipts ≡ q → AreShown r s q → IsShown e
shown_by e r s q report server receipts h = subst (λ (p : Option Report × Option ServerState × Option (List Receipt)). AreShown p.0 p.1 p.2) (λ i. (sym report i, sym server i, sym receipts i)) h

pub left_shown : (ran : Ran) (e : Ended) → LeavesRun ran e → IsBacked ran.server ran.receipts ran.report → IsShown e
left_shown ran e (inl (report, server, receipts)) backed = shown_by e (Some ran.report) (Some ran.server) (Some ran.receipts) report server receipts backed
left_shown ran e (inr (report, server, receipts)) backed = shown_by e None None None report server receipts tt
