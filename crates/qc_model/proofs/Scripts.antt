-- Worked scripts, and draws of the workload.
use Rattle.std.proofs.Common.{◌≡◌, ℕ, zero, suc, List, [], ◌∷◌, ◌++◌, refl, Ok, Err}
use Rattle.std.specs.Prelude.{codes, decimal, Some, None}
use Rattle.std.specs.Fmt.{digits}
use Rattle.std.specs.List.{flat_map}
use Rattle.qc_sql.specs.declared.commands.Command.{Command}
use Rattle.qc_sql.specs.declared.commands.Command.TheVariants as command
use Rattle.qc_model.specs.declared.reports.ScriptRefusal.TheVariants as refusal
use Rattle.qc_sql.specs.Packets.{packet}
use Rattle.qc_sql.specs.Commands.{command_payload}
use Rattle.hex.specs.Hex.{decode_pairs}
use Rattle.qc_model.specs.ReportText.{lines}
use Rattle.qc_model.specs.ScriptLines.{lines_of, script_of, no_sessions}
use Rattle.qc_model.specs.Workload.{draw, after_draws, no_tally}

first_lines : List (List ℕ)
first_lines = codes "session 1" ∷ codes "query CREATE DATABASE d" ∷ codes "init d" ∷ codes "query CREATE TABLE t (id BIGINT PRIMARY KEY)"
    ∷ codes "query INSERT INTO t VALUES (7)" ∷ codes "query SELECT id FROM t" ∷ []

first_commands : List Command
first_commands = command.Query (codes "CREATE DATABASE d") ∷ command.InitDb (codes "d") ∷ command.Query (codes "CREATE TABLE t (id BIGINT PRIMARY KEY)")
    ∷ command.Query (codes "INSERT INTO t VALUES (7)") ∷ command.Query (codes "SELECT id FROM t") ∷ []

cut_in_lines : lines_of (lines first_lines) ≡ first_lines
unfolding first_lines
cut_in_lines = refl

first_script : script_of (lines first_lines) ≡ Ok (record { setup = None; sessions = flat_map (λ c. packet 0 (command_payload c)) first_commands ∷ [] })
unfolding script_of digits first_lines first_commands packet
first_script = refl

empty_script : script_of [] ≡ Ok no_sessions
unfolding script_of digits
empty_script = refl

-- the last LF may lack
without_last_end : lines_of (codes "session 1" ++ 10 ∷ codes "init d") ≡ codes "session 1" ∷ codes "init d" ∷ []
without_last_end = refl

no_session_yet : script_of (lines (codes "init d" ∷ [])) ≡ Err (refusal.NoSession 1)
unfolding script_of digits
no_session_yet = refl

second_session_first : script_of (lines (codes "session 2" ∷ [])) ≡ Err (refusal.BadLine 1)
unfolding script_of digits
second_session_first = refl

session_twice : script_of (lines (codes "session 1" ∷ codes "init d" ∷ codes "session 1" ∷ [])) ≡ Err (refusal.BadLine 3)
unfolding script_of digits packet
session_twice = refl

word_without_space : script_of (lines (codes "session 1" ∷ codes "query" ∷ [])) ≡ Err (refusal.BadLine 2)
unfolding script_of digits
word_without_space = refl

-- skipped lines are counted
skipped : script_of (lines ([] ∷ codes "# first" ∷ codes "session 1" ∷ [] ∷ codes "#" ∷ codes "init" ∷ [])) ≡ Err (refusal.BadLine 6)
unfolding script_of digits packet
skipped = refl

ping_first : script_of (lines (codes "ping" ∷ [])) ≡ Err (refusal.NoSession 1)
unfolding script_of
ping_first = refl

-- bytes come as they are, digits may be capitals, and none is an even number of them
raw_bytes : script_of (lines (codes "session 1" ∷ codes "raw 0aFf" ∷ codes "quit" ∷ codes "raw " ∷ codes "ping" ∷ [])) ≡ Ok (record { setup = None; sessions = (10 ∷ 255 ∷ 1 ∷ 0 ∷ 0 ∷ 0 ∷ 1 ∷ 1 ∷ 0 ∷ 0 ∷ 0 ∷ 14 ∷ []) ∷ [] })
unfolding script_of digits packet decode_pairs
raw_bytes = refl

odd_digits : script_of (lines (codes "raw 0" ∷ [])) ≡ Err (refusal.BadLine 1)
unfolding script_of
odd_digits = refl

raw_first : script_of (lines (codes "raw 00" ∷ [])) ≡ Err (refusal.NoSession 1)
unfolding script_of decode_pairs
raw_first = refl

word_behind : script_of (lines (codes "session 1" ∷ codes "quit " ∷ [])) ≡ Err (refusal.BadLine 2)
unfolding script_of digits
word_behind = refl

-- the setup part comes once, before every session, and commands behind it are its own
setup_alone : script_of (lines (codes "setup" ∷ codes "ping" ∷ [])) ≡ Ok (record { setup = Some (1 ∷ 0 ∷ 0 ∷ 0 ∷ 14 ∷ []); sessions = [] })
unfolding script_of digits packet
setup_alone = refl

setup_and_sessions : script_of (lines (codes "setup" ∷ codes "quit" ∷ codes "session 1" ∷ codes "session 2" ∷ codes "ping" ∷ []))
    ≡ Ok (record { setup = Some (1 ∷ 0 ∷ 0 ∷ 0 ∷ 1 ∷ []); sessions = [] ∷ (1 ∷ 0 ∷ 0 ∷ 0 ∷ 14 ∷ []) ∷ [] })
unfolding script_of digits packet
setup_and_sessions = refl

setup_twice : script_of (lines (codes "setup" ∷ codes "setup" ∷ [])) ≡ Err (refusal.BadLine 2)
unfolding script_of
setup_twice = refl

setup_behind_a_session : script_of (lines (codes "session 1" ∷ codes "setup" ∷ [])) ≡ Err (refusal.BadLine 2)
unfolding script_of digits
setup_behind_a_session = refl

leading_zero : script_of (lines (codes "session 01" ∷ [])) ≡ Err (refusal.BadLine 1)
unfolding script_of digits
leading_zero = refl

session_left_out : script_of (lines (codes "session 1" ∷ codes "session 3" ∷ [])) ≡ Err (refusal.BadLine 2)
unfolding script_of digits
session_left_out = refl

-- `session 1`, `session 2` and so on, of so many sessions
opened : ℕ → List (List ℕ)
opened zero = []
opened (suc n) = opened n ++ (codes "session " ++ decimal (suc n)) ∷ []

one_session_more : script_of (lines (opened 65)) ≡ Err (refusal.TooManySessions 65)
unfolding script_of digits opened
one_session_more = refl

-- an empty text and an empty name are sent
empty_text : script_of (lines (codes "session 1" ∷ codes "query " ∷ codes "init " ∷ [])) ≡ Ok (record { setup = None; sessions = (1 ∷ 0 ∷ 0 ∷ 0 ∷ 3 ∷ 1 ∷ 0 ∷ 0 ∷ 0 ∷ 2 ∷ []) ∷ [] })
unfolding script_of digits packet
empty_text = refl

-- ---- the workload

first_draw : draw 1 ≡ 908834774
first_draw = refl

-- eight draws of session 1 of the workload 83, worked out by another program
eight_draws : after_draws 8 1 1 83 no_tally ≡ record { in_a = (1000004, 554) ∷ (1000007, 456) ∷ []; in_b = (1000003, 881) ∷ []; commits = 4; selects = 4 }
eight_draws = refl
