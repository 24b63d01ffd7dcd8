-- The script of the workload, from the draws of its number.
use Rattle.std.specs.Prelude.{ℕ, zero, suc, ◌+◌, ◌-◌, ◌*◌, ◌%◌, List, [], ◌∷◌, ◌++◌, map, Some, ◌==◌, codes, decimal, if◌then◌else◌}
use Rattle.std.specs.List.{flat_map}
use Rattle.qc_sql.specs.declared.commands.Command.{Command}
use Rattle.qc_sql.specs.declared.commands.Command.TheVariants as command
use Rattle.qc_model.specs.declared.reports.Script.{Script}
use Rattle.qc_model.specs.ReportText.{Text}
use Rattle.qc_model.specs.Workload.{drawn, draw, drawn_often, draws_of_session}
use Rattle.qc_wire.specs.Commands.{command_text}

-- By the rest of its draw by 8, a session puts a row of its own keys into a or into b, sets its rows of a, or selects.
-- The statement of a session's draw, by the session's number, the draw's number and what was drawn:
unfoldable pub statement : ℕ → ℕ → ℕ → Text
statement session k r =
    let first = session * 1000000 in
    let key = first + k in
    let m = r % 1000 in
    if r % 8 == 0 then codes "INSERT INTO a VALUES (" ++ decimal key ++ codes ", " ++ decimal m ++ codes ")" else
    if r % 8 == 1 then codes "INSERT INTO b VALUES (" ++ decimal key ++ codes ", " ++ decimal m ++ codes ")" else
    if r % 8 == 2 then codes "UPDATE a SET v = " ++ decimal m ++ codes " WHERE id BETWEEN " ++ decimal first ++ codes " AND " ++ decimal key else
    if r % 8 == 3 then codes "SELECT COUNT(*) FROM a" else
    if r % 8 == 4 then codes "SELECT SUM(v) FROM b" else
    if r % 8 == 5 then codes "SELECT id, v FROM a WHERE id = " ++ decimal (first + r % 2000) else
    if r % 8 == 6 then codes "SELECT MAX(v) FROM a" else
    codes "SELECT * FROM b ORDER BY v LIMIT 5"

-- the statements of n draws of a session, from the one with number k
unfoldable pub statements : ℕ → ℕ → ℕ → ℕ → List Command
statements zero session k x = []
statements (suc n) session k x = command.Query (statement session k (draw x)) ∷ statements n session (k + 1) (drawn x)

-- commands, as packets one after another
abbrev pub sent : List Command → List ℕ
sent commands = flat_map command_text commands

abbrev pub setup_commands : List Command
setup_commands = command.Query (codes "CREATE DATABASE w") ∷ command.InitDb (codes "w")
    ∷ command.Query (codes "CREATE TABLE a (id BIGINT PRIMARY KEY, v BIGINT NOT NULL)")
    ∷ command.Query (codes "CREATE TABLE b (id BIGINT PRIMARY KEY, v BIGINT NOT NULL)") ∷ []

-- the commands of a session, from where the generator stands before its draws
abbrev pub session_commands : ℕ → ℕ → List Command
session_commands session x = command.InitDb (codes "w") ∷ statements draws_of_session session 1 x

-- The sessions draw one after another from one generator, which starts as the workload's number: where it stands before a session's draws
unfoldable pub before_session : ℕ → ℕ → ℕ
before_session number session = drawn_often (draws_of_session * (session - 1)) number

-- where a session's draws leave the generator
unfoldable pub behind_session : ℕ → ℕ
behind_session x = drawn_often draws_of_session x

abbrev pub session_of : ℕ → ℕ → List ℕ
session_of number session = sent (session_commands session (before_session number session))

-- the setup part, and the sessions 1 to 4
unfoldable pub workload_script : ℕ → Script
workload_script number = record { setup = Some (sent setup_commands); sessions = map (session_of number) (1 ∷ 2 ∷ 3 ∷ 4 ∷ []) }
