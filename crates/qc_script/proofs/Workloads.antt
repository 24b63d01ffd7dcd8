-- Worked statements of the workload, and the commands in front of them; the draws were worked out by another program.
use Rattle.std.proofs.Common.{◌≡◌, [], ◌∷◌, refl}
use Rattle.std.specs.Prelude.{codes, take}
use Rattle.std.specs.Fmt.{digits}
use Rattle.qc_sql.specs.declared.commands.Command.TheVariants as command
use Rattle.qc_sql.specs.Packets.{packet}
use Rattle.qc_script.specs.WorkloadScript.{statement, statements, sent, session_commands, before_session, behind_session}

-- ---- each case of a draw, in session 2 of the workload 1

-- 1224741696 is 0 by 8, and 696 by 1000
puts_in_a : statement 2 5 1224741696 ≡ codes "INSERT INTO a VALUES (2000005, 696)"
unfolding statement digits
puts_in_a = refl

puts_in_b : statement 2 4 2084687857 ≡ codes "INSERT INTO b VALUES (2000004, 857)"
unfolding statement digits
puts_in_b = refl

-- from the session's first key to the draw's own
sets_all : statement 2 11 669134082 ≡ codes "UPDATE a SET v = 82 WHERE id BETWEEN 2000000 AND 2000011"
unfolding statement digits
sets_all = refl

counts : statement 2 2 992644819 ≡ codes "SELECT COUNT(*) FROM a"
unfolding statement
counts = refl

sums : statement 2 22 563429452 ≡ codes "SELECT SUM(v) FROM b"
unfolding statement
sums = refl

-- 480983565 is 5 by 8, and 1565 by 2000
seeks : statement 2 20 480983565 ≡ codes "SELECT id, v FROM a WHERE id = 2001565"
unfolding statement digits
seeks = refl

takes_greatest : statement 2 6 930450950 ≡ codes "SELECT MAX(v) FROM a"
unfolding statement
takes_greatest = refl

orders : statement 2 1 2117605799 ≡ codes "SELECT * FROM b ORDER BY v LIMIT 5"
unfolding statement
orders = refl

-- ---- draws one after another

-- session 1 starts with the workload's number
first_start : before_session 1 1 ≡ 1
unfolding before_session
first_start = refl

-- session 2 draws on from where session 1 stopped
second_start : before_session 1 2 ≡ behind_session 1
unfolding before_session behind_session
second_start = refl

six_of_first : statements 6 1 1 (before_session 1 1) ≡ command.Query (codes "SELECT MAX(v) FROM a") ∷ command.Query (codes "INSERT INTO b VALUES (1000002, 153)")
    ∷ command.Query (codes "SELECT SUM(v) FROM b") ∷ command.Query (codes "SELECT MAX(v) FROM a")
    ∷ command.Query (codes "UPDATE a SET v = 34 WHERE id BETWEEN 1000000 AND 1000005") ∷ command.Query (codes "SELECT COUNT(*) FROM a") ∷ []
unfolding before_session statements statement digits
six_of_first = refl

five_of_second : statements 5 2 1 (before_session 1 2) ≡ command.Query (codes "SELECT * FROM b ORDER BY v LIMIT 5") ∷ command.Query (codes "SELECT COUNT(*) FROM a")
    ∷ command.Query (codes "SELECT COUNT(*) FROM a") ∷ command.Query (codes "INSERT INTO b VALUES (2000004, 857)") ∷ command.Query (codes "INSERT INTO a VALUES (2000005, 696)") ∷ []
unfolding before_session statements statement digits
five_of_second = refl

-- a session's first packets: `init w` and its first statement
first_packets : sent (take 2 (session_commands 4 1)) ≡ 2 ∷ 0 ∷ 0 ∷ 0 ∷ 2 ∷ 119 ∷ 21 ∷ 0 ∷ 0 ∷ 0 ∷ 3 ∷ codes "SELECT MAX(v) FROM a"
unfolding statements statement packet
first_packets = refl
