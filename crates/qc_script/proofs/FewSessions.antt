-- A script that lines mean has at most 64 sessions.
use Rattle.std.proofs.Common.{◌≡◌, ℕ, ◌+◌, ◌≤◌, Bool, true, false, cond, List, [], ◌∷◌, length, Ok, Err, arith, refl, sym, inl, inr, length-append}
use Rattle.std.specs.Prelude.{Option, Some, None, Result, IfOk, nat_lt, not, bytes_eq, decimal}
use Rattle.std.proofs.lemmas.Bool.{cases_lt, lt-ltb, le-ltb}
use Rattle.qc_model.specs.declared.reports.Script.{Script}
use Rattle.qc_model.specs.declared.reports.ScriptRefusal.{ScriptRefusal}
use Rattle.qc_model.specs.declared.reports.ScriptRefusal.TheVariants as refusal
use Rattle.qc_sql.specs.Packets.{packet, most_payload}
use Rattle.qc_sql.specs.Commands.{command_payload}
use Rattle.qc_model.specs.ScriptLines.{Line, Prepares, Opens, Sends, Puts, Skips, most_sessions, line_of, has_begun, sent_last, with_setup, with_session, with_bytes, then_lines, after_line, after_lines, no_sessions}

abbrev HasFew : Script → Type 0
HasFew s = length s.sessions ≤ 64

abbrev IsFew : Result Script ScriptRefusal → Type 0
IsFew r = IfOk r HasFew

few_unless : (t : Bool) (e : ScriptRefusal) (r : Result Script ScriptRefusal) → IsFew r → IsFew (cond t (Err e) r)
few_unless true e r h = tt
few_unless false e r h = h

few_if : (t : Bool) (e : ScriptRefusal) (r : Result Script ScriptRefusal) → IsFew r → IsFew (cond t r (Err e))
few_if true e r h = h
few_if false e r h = tt

sent_as_many : (bytes : List ℕ) (sessions : List (List ℕ)) → length (sent_last bytes sessions) ≡ length sessions
sent_as_many bytes [] = refl
sent_as_many bytes (s ∷ []) = refl
sent_as_many bytes (s ∷ t ∷ ss) = omega (arith, sent_as_many bytes (t ∷ ss))

few_sent : (s : Script) (bytes : List ℕ) → HasFew s → HasFew (with_bytes s bytes)
few_sent s bytes h = omega (arith, sent_as_many bytes s.sessions)

few_opened : (s : Script) (e : ScriptRefusal) → IsFew (cond (nat_lt most_sessions (length s.sessions + 1)) (Err e) (Ok (with_session s)))
few_opened s e =
    elim (cases_lt 64 (length s.sessions + 1)) [
      | inl lt ↦ rw (lt-ltb 64 (length s.sessions + 1) lt) tt
      | inr ge ↦ rw (le-ltb 64 (length s.sessions + 1) ge) (omega (arith, length-append s.sessions ([] ∷ [])))
    ]

few_after_line : (number : ℕ) (s : Script) (line : Option Line) → HasFew s → IsFew (after_line number s line)
few_after_line number s (Some Prepares) h =
    let few : HasFew with_setup = omega arith in
    few_unless (has_begun s) (refusal.BadLine number) (Ok with_setup) few
few_after_line number s (Some (Opens digits)) h =
    few_unless (not (bytes_eq digits (decimal (length s.sessions + 1)))) (refusal.BadLine number) _ (few_opened s (refusal.TooManySessions number))
few_after_line number s (Some (Sends c)) h =
    let after : Script = with_bytes s (packet 0 (command_payload c)) in
    let fits : Result Script ScriptRefusal = cond (nat_lt most_payload (length (command_payload c))) (Err (refusal.BadLine number)) (Ok after) in
    few_unless (not (has_begun s)) (refusal.NoSession number) fits
    (few_unless (nat_lt most_payload (length (command_payload c))) (refusal.BadLine number) (Ok after) (few_sent s (packet 0 (command_payload c)) h))
few_after_line number s (Some (Puts bytes)) h = few_if (has_begun s) (refusal.NoSession number) (Ok (with_bytes s bytes)) (few_sent s bytes h)
few_after_line number s (Some Skips) h = h
few_after_line number s None h = tt

few_then : (r : Result Script ScriptRefusal) (f : Script → Result Script ScriptRefusal) → IsFew r → ((s : Script) → HasFew s → IsFew (f s)) → IsFew (then_lines r f)
few_then (Ok s) f h then = then s h
few_then (Err e) f h then = tt

few_lines : (number : ℕ) (s : Script) (ls : List (List ℕ)) → HasFew s → IsFew (after_lines number s ls)
few_lines number s [] h = h
few_lines number s (l ∷ ls) h =
    few_then (after_line number s (line_of l)) (λ next. after_lines (number + 1) next ls) (few_after_line number s (line_of l) h) (λ next few. few_lines (number + 1) next ls few)

-- the sessions that were read, where no line is left
pub few_read : (number : ℕ) (s : Script) (ls : List (List ℕ)) → Ok s ≡ after_lines number no_sessions ls → length s.sessions ≤ 64
few_read number s ls e = rw (sym e) at (few_lines number no_sessions ls (omega arith))
