-- The commands of the workload's inputs.
use Rattle.std.proofs.Common.{◌≡◌, ℕ, zero, suc, ◌+◌, ◌*◌, ◌%◌, ◌≤◌, Bool, true, false, cond, List, [], ◌∷◌, ◌++◌, length, refl, ap, ◌∙◌, arith, length-append}
use Rattle.std.specs.Prelude.{codes, decimal, ◌==◌}
use Rattle.std.specs.List.{AllByRecursion}
use Rattle.qc_sql.specs.declared.commands.Command.{Command}
use Rattle.qc_sql.specs.declared.commands.Command.TheVariants as command
use Rattle.qc_sql.specs.Commands.{behind_packet}
use Rattle.qc_wire.specs.Commands.{IsCommand, command_text, ReadsAs}
use Rattle.qc_wire.proofs.ReadBack.{one_reading_streams}
use Rattle.qc_model.specs.declared.reports.Ending.TheVariants as ending
use Rattle.qc_model.specs.Workload.{drawn, draw}
use Rattle.qc_model.specs.Agrees.{Commands, commands_of}
use Rattle.qc_laws.specs.runs.Cuts.{Takes}
use Rattle.qc_laws.proofs.runs.Cutting.{takes_one}
use Rattle.qc_laws.proofs.sizes.Decimals.{decimal_few}
use Rattle.qc_script.specs.WorkloadScript.{statement, statements, sent, setup_commands, session_commands}
use Rattle.qc_model.specs.ReportText.{Text}
use Rattle.qc_app.proofs.workload.Inserted as inserted
use Rattle.qc_app.proofs.workload.Updated as updated
use Rattle.qc_app.proofs.workload.Written.{into_a, into_b, set, into_a_is, into_b_is, set_is}

-- a command that can be sent, and that ends nothing
abbrev Goes : Command → Type 0
Goes c = IsCommand c × (c ≡ command.Quit → ⊥)

sent_all : (cs : List Command) → AllByRecursion Goes cs → commands_of (sent cs) ≡ (cs, ending.Input)
sent_all [] h = refl
sent_all (c ∷ cs) h =
    let bytes : List ℕ = command_text c ++ sent cs in
    let reads : ReadsAs c (sent cs) = one_reading_streams c (sent cs) h.0.0 in
    let one : Takes bytes (c ∷ []) (behind_packet bytes) = takes_one bytes c reads.0 reads.1 h.0.1 in
    one ∙ (ap (λ (l : List ℕ). let x : Commands = (c ∷ (commands_of l).0, (commands_of l).1) in x) reads.2
    ∙ ap (λ (x : Commands). let y : Commands = (c ∷ x.0, x.1) in y) (sent_all cs h.1))

-- ---- short texts

short_if : (t : Bool) (n : ℕ) (x y : Text) → length x ≤ n → length y ≤ n → length (cond t x y) ≤ n
short_if true n x y h g = h
short_if false n x y h g = g

statement_short : (s k r : ℕ) → length (statement s k r) ≤ 324
unfolding statement
statement_short s k r =
    let first = s * 1000000 in
    let key = first + k in
    let m = r % 1000 in
    let wanted = first + r % 2000 in
    let d_key = decimal_few key in
    let d_first = decimal_few first in
    let d_m = decimal_few m in
    let d_wanted = decimal_few wanted in
    let one : length (decimal m ++ codes ")") ≤ 65 = omega (arith, length-append (decimal m) (codes ")"), d_m) in
    let two : length (decimal key ++ (codes ", " ++ (decimal m ++ codes ")"))) ≤ 131 = omega (arith, length-append (decimal key) (codes ", " ++ (decimal m ++ codes ")")), d_key, one) in
    let three : length (decimal first ++ (codes " AND " ++ decimal key)) ≤ 133 = omega (arith, length-append (decimal first) (codes " AND " ++ decimal key), d_first, d_key) in
    let four : length (decimal m ++ (codes " WHERE id BETWEEN " ++ (decimal first ++ (codes " AND " ++ decimal key)))) ≤ 220 =
    omega (arith, length-append (decimal m) (codes " WHERE id BETWEEN " ++ (decimal first ++ (codes " AND " ++ decimal key))), d_m, three) in
    let a_is : length (into_a key m) ≡ length (inserted.text true key m) = ap length (into_a_is key m) in
    let b_is : length (into_b key m) ≡ length (inserted.text false key m) = ap length (into_b_is key m) in
    let u_is : length (set first key m) ≡ length (updated.text first key m) = ap length (set_is first key m) in
    short_if (r % 8 == 0) 324 (into_a key m) _ (omega (arith, a_is, two))
    (short_if (r % 8 == 1) 324 (into_b key m) _ (omega (arith, b_is, two))
    (short_if (r % 8 == 2) 324 (set first key m) _ (omega (arith, u_is, four))
    (short_if (r % 8 == 3) 324 (codes "SELECT COUNT(*) FROM a") _ (omega arith)
    (short_if (r % 8 == 4) 324 (codes "SELECT SUM(v) FROM b") _ (omega arith)
    (short_if (r % 8 == 5) 324 (codes "SELECT id, v FROM a WHERE id = " ++ decimal wanted) _ (omega (arith, d_wanted))
    (short_if (r % 8 == 6) 324 (codes "SELECT MAX(v) FROM a") (codes "SELECT * FROM b ORDER BY v LIMIT 5") (omega arith) (omega arith)))))))

query_goes : (text : Text) → length text ≤ 324 → Goes (command.Query text)
query_goes text h = ((refl, omega (arith, h)), λ e. absurd cc)

init_goes : Goes (command.InitDb (codes "w"))
init_goes = ((refl, omega arith), λ e. absurd cc)

all_go : (n s k x : ℕ) → AllByRecursion Goes (statements n s k x)
unfolding statements
all_go zero s k x = tt
all_go (suc n) s k x = (query_goes (statement s k (draw x)) (statement_short s k (draw x)), all_go n s (k + 1) (drawn x))

-- ---- the inputs

pub setup_sent : commands_of (sent setup_commands) ≡ (setup_commands, ending.Input)
setup_sent = sent_all setup_commands (
  query_goes (codes "CREATE DATABASE w") (omega arith),
  (
    init_goes,
    (query_goes (codes "CREATE TABLE a (id BIGINT PRIMARY KEY, v BIGINT NOT NULL)") (omega arith), (query_goes (codes "CREATE TABLE b (id BIGINT PRIMARY KEY, v BIGINT NOT NULL)") (omega arith), tt)),
  ),
)

pub session_sent : (s x : ℕ) → commands_of (sent (session_commands s x)) ≡ (session_commands s x, ending.Input)
session_sent s x = sent_all (session_commands s x) (init_goes, all_go _ s 1 x)
