-- The statements of a session's draws, sent one after another, and where the generator stands.
use Rattle.std.proofs.Common.{◌≡◌, ℕ, zero, suc, ◌+◌, ◌-◌, ◌*◌, ◌≤◌, List, [], ◌∷◌, ◌++◌, map, refl, sym, ap, ◌∙◌, append_assoc, append-nil, arith}
use Rattle.std.specs.Prelude.{Some}
use Rattle.std.specs.List.{range_with_len}
use Rattle.std.proofs.lemmas.List.FromFn.{map-range_with_len_more}
use Rattle.qc_sql.specs.declared.commands.Command.TheVariants as command
use Rattle.qc_model.specs.declared.reports.Script.{Script}
use Rattle.qc_model.specs.Workload.{drawn, draw, drawn_often, draws_of_session}
use Rattle.qc_wire.specs.Commands.{command_text}
use Rattle.qc_script.specs.WorkloadScript.{statement, statements, sent, setup_commands, session_of, before_session, behind_session, workload_script}

sent_one : (before whole : List ℕ) (next session k x : ℕ) → before ++ sent (statements (suc next) session k x) ≡ whole
    → (before ++ command_text (command.Query (statement session k (draw x)))) ++ sent (statements next session (k + 1) (drawn x)) ≡ whole
unfolding statements
sent_one before whole next session k x h =
    append_assoc before (command_text (command.Query (statement session k (draw x)))) (sent (statements next session (k + 1) (drawn x))) ∙ h

-- the statement of one draw more
pub sent_more : (before after whole : List ℕ) (left next session k x : ℕ) → left ≡ suc next
    → before ++ sent (statements left session k x) ≡ whole
    → after ≡ before ++ command_text (command.Query (statement session k (draw x)))
    → after ++ sent (statements next session (k + 1) (drawn x)) ≡ whole
sent_more before after whole left next session k x step was put = rw put (sent_one before whole next session k x (rw step at was))

-- no statement is left
pub sent_all : (before whole : List ℕ) (left session k x : ℕ) → left ≡ 0 → before ++ sent (statements left session k x) ≡ whole → before ≡ whole
unfolding statements
sent_all before whole left session k x none was = sym (append-nil before) ∙ (rw none at was)

pub behind_is : (often x : ℕ) → often ≡ draws_of_session → drawn_often often x ≡ behind_session x
unfolding behind_session
behind_is often x is = ap (λ n. drawn_often n x) is

-- draws behind others
drawn_behind : (m n x : ℕ) → drawn_often n (drawn_often m x) ≡ drawn_often (m + n) x
drawn_behind zero n x =
    let none : n ≡ 0 + n = omega arith in
    ap (λ often. drawn_often often x) none
drawn_behind (suc m) n x =
    let more : suc m + n ≡ suc (m + n) = omega arith in
    drawn_behind m n (drawn x) ∙ sym (ap (λ often. drawn_often often x) more)

drawn_by_sessions : (draws number session : ℕ) → 1 ≤ session → drawn_often draws (drawn_often (draws * (session - 1)) number) ≡ drawn_often (draws * (session + 1 - 1)) number
drawn_by_sessions draws number zero some = absurd (omega arith)
drawn_by_sessions draws number (suc session) some =
    let one : suc session - 1 ≡ session = omega arith in
    let next : suc session + 1 - 1 ≡ suc session = omega arith in
    let all : draws * session + draws ≡ draws * suc session = omega arith in
    rw (one, next) (drawn_behind (draws * session) draws number ∙ ap (λ often. drawn_often often number) all)

-- each session draws on from where the one in front of it stopped
pub next_session : (number session : ℕ) → 1 ≤ session → behind_session (before_session number session) ≡ before_session number (session + 1)
unfolding behind_session before_session
next_session number session some = drawn_by_sessions draws_of_session number session some

-- the input of one session more
pub session_more : (number session : ℕ) (inputs : List (List ℕ)) → 1 ≤ session → inputs ≡ map (session_of number) (range_with_len 1 (session - 1))
    → inputs ++ session_of number session ∷ [] ≡ map (session_of number) (range_with_len 1 (session + 1 - 1))
session_more number session inputs some was =
    let step : session + 1 - 1 ≡ session - 1 + 1 = omega arith in
    rw (was, step) (sym (map-range_with_len_more (session_of number) 1 (session - 1) session (omega arith)))

-- four packets, put one after another
pub four_sent : (start one two three four a b c d : List ℕ) → start ≡ [] → one ≡ start ++ a → two ≡ one ++ b → three ≡ two ++ c → four ≡ three ++ d → four ≡ a ++ (b ++ (c ++ (d ++ [])))
four_sent start one two three four a b c d e0 e1 e2 e3 e4 = rw (e4, e3, e2, e1, e0) (simp (append_assoc, append-nil))

-- the setup part and all sessions
pub script_is : (number count : ℕ) (setup : List ℕ) (inputs : List (List ℕ)) → count ≡ 4 → setup ≡ sent setup_commands → inputs ≡ map (session_of number) (range_with_len 1 count)
    → ◌≡◌ {A = Script} (record { setup = Some setup; sessions = inputs }) (workload_script number)
unfolding workload_script
script_is number count setup inputs four setup_is inputs_are =
    let all = rw four at inputs_are in
    rw (setup_is, all) refl
