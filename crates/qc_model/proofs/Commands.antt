-- What commands give that need no text: the state in which they are validated, the ends of transactions, and SET.
use Rattle.std.proofs.Common.{◌≡◌, ℕ, List, [], ◌∷◌, Option, refl, true, false}
use Rattle.std.specs.Prelude.{codes, Some, None, pos, Ok, Err, Result}
use Rattle.qc_types.specs.declared.sql_error.SqlError.{SqlError}
use Rattle.qc_sql.specs.declared.commands.Command.TheVariants as command
use Rattle.qc_sql.specs.declared.replies.Reply.{Reply}
use Rattle.qc_sql.specs.declared.replies.Reply.TheVariants as reply
use Rattle.qc_sql.specs.declared.statements.Setting.TheVariants as setting
use Rattle.qc_sql.specs.declared.statements.SetValue.{SetValue}
use Rattle.qc_sql.specs.declared.statements.SetValue.TheVariants as to
use Rattle.qc_sql.specs.declared.statements.Statement.{Statement}
use Rattle.qc_sql.specs.declared.statements.Statement.TheVariants as statement
use Rattle.qc_sql.specs.declared.tables.RowOp.{RowOp}
use Rattle.qc_sql.specs.declared.tables.RowOp.TheVariants as op
use Rattle.qc_sql.specs.Effects.{effect}
use Rattle.qc_sql.specs.Errors.{unknown_command, unknown_database, database_exists, null_column, write_conflict, unknown_variable, wrong_value}
use Rattle.qc_model.specs.declared.events.Event.{Event}
use Rattle.qc_model.specs.declared.events.Event.TheVariants as event
use Rattle.qc_model.specs.declared.events.How.TheVariants as how
use Rattle.qc_model.specs.Journal.{Journal}
use Rattle.qc_model.specs.Session.{State, Transaction, just_opened, flags_of, status_of, base, starting, arrived}
use Rattle.qc_model.specs.Settings.{set_to}
use Rattle.qc_model.specs.Machine.{Given, changed_rows, changed_form, ended_with, begun, used, set_autocommit, local}
use Rattle.qc_model.proofs.Journals.{t, u, row, a, made, only}
use Rattle.qc_model.proofs.Transactions.{in_d, free, since, told, then_come, committed}

-- a session in the database d with autocommit off, perhaps in a transaction
abbrev pub manual : Option Transaction → State
manual own = record { session = 1; db = codes "d"; autocommit = false; charset = 33; ansi = false; row_limit = 18446744073709551615; kind = 1; transaction = own }

abbrev pub taken : ℕ → List RowOp → Option Transaction
taken place ops = Some (record { snapshot = Some place; operations = ops })

-- DELETE FROM t
abbrev pub delete : Statement
delete = statement.Delete (record { table = record { db = None; name = codes "t" }; cond = None })

-- ---- the state in which a statement is validated

-- with autocommit on nothing opens by itself
stays_free : arrived 7 delete free ≡ free
stays_free = refl

-- with autocommit off a transaction opens, and its place is its snapshot
opens : arrived 7 delete (manual None) ≡ manual (taken 7 [])
opens = refl

-- the first statement behind BEGIN takes the snapshot, and a later one keeps it
takes_snapshot : arrived 7 delete (in_d (Some just_opened)) ≡ since 7 []
takes_snapshot = refl

-- the snapshot 5 stays, and so do the operations
keeps_snapshot : arrived 7 delete (since 5 (op.Put t (row 9) ∷ [])) ≡ since 5 (op.Put t (row 9) ∷ [])
keeps_snapshot = refl

-- other statements open none, and take no snapshot
opens_none : arrived 7 (statement.UseDb (codes "d")) (manual None) ≡ manual None
opens_none = refl

-- CREATE DATABASE takes no snapshot in a transaction that has none
takes_none : arrived 7 (statement.CreateDb (codes "e")) (in_d (Some just_opened)) ≡ in_d (Some just_opened)
takes_none = refl

-- 2 is autocommit, and 1 an open transaction
status_alone : status_of (flags_of free) ≡ 2
status_alone = refl

-- autocommit is on and a transaction is open: 1 + 2
status_in_both : status_of (flags_of (since 5 [])) ≡ 3
status_in_both = refl

-- autocommit is off and none is open
status_of_neither : status_of (flags_of (manual None)) ≡ 0
status_of_neither = refl

-- autocommit is off and one is open
status_in_manual : status_of (flags_of (manual (taken 5 []))) ≡ 1
status_in_manual = refl

-- ---- what a session sees

-- without a transaction the present
sees_present : base free told ≡ only (1 ∷ []) []
sees_present = refl

-- in one the database before its snapshot: u was empty, and t had 1 and 2
sees_snapshot : base (since 5 []) told ≡ only (1 ∷ 2 ∷ []) []
sees_snapshot = refl

-- with its own operations
sees_own : base (since 5 (op.Put u (row 8) ∷ op.Del t (pos 1) ∷ [])) told ≡ only (2 ∷ []) (8 ∷ [])
sees_own = refl

-- a transaction without snapshot sees the present
sees_all : base (in_d (Some just_opened)) told ≡ only (1 ∷ []) []
sees_all = refl

-- ---- statements that change rows

abbrev pub gives : Event → Reply → State → Given
gives e r next = record { event = e; reply = r; next = next }

abbrev pub others : ℕ → Event
others n = event.Run (a n) how.Other

-- outside a transaction they commit at once, where there is an operation
rows_commit : changed_rows (a 6) free (Ok (record { operations = op.Put t (row 9) ∷ []; affected = 1 }))
    ≡ gives (event.Commit (a 6) (op.Put t (row 9) ∷ [])) (reply.Ok 1 2) free
rows_commit = refl

-- without operations there is no commit
rows_unchanged : changed_rows (a 6) free (Ok (record { operations = []; affected = 0 })) ≡ gives (others 6) (reply.Ok 0 2) free
rows_unchanged = refl

-- in one they wait behind those before them
rows_wait : changed_rows (a 6) (since 5 (op.Put t (row 8) ∷ [])) (Ok (record { operations = op.Put t (row 9) ∷ []; affected = 1 }))
    ≡ gives (others 6) (reply.Ok 1 3) (since 5 (op.Put t (row 8) ∷ op.Put t (row 9) ∷ []))
rows_wait = refl

-- a refusal leaves the transaction
rows_refused : changed_rows (a 6) (since 5 (op.Put t (row 8) ∷ [])) (Err (null_column (codes "k")))
    ≡ gives (others 6) (reply.Err (null_column (codes "k"))) (since 5 (op.Put t (row 8) ∷ []))
rows_refused = refl

-- ---- the end of a transaction

abbrev pub writing : State
writing = since 5 (op.Put t (row 9) ∷ [])

-- nobody has written the row of the key 9 since; or somebody has, at event 6
abbrev pub calm : Journal
calm = then_come []

abbrev pub met : Journal
met = then_come (committed (op.Put t (row 9) ∷ []) ∷ [])

-- COMMIT outside a transaction, in one with operations, and in one that meets a conflict
commit_of_none : ended_with (a 6) free calm free ≡ gives (others 6) (reply.Ok 0 2) free
commit_of_none = refl

-- its operations become a commit, and the status has no transaction any more
commit_of_some : ended_with (a 6) writing calm free ≡ gives (event.Commit (a 6) (op.Put t (row 9) ∷ [])) (reply.Ok 0 2) free
commit_of_some = refl

-- event 6 put the same row: it is rolled back, and the error carries no status
commit_in_conflict : ended_with (a 6) writing met free ≡ gives (event.Run (a 6) (how.Conflict t (Some (pos 9)) 6)) (reply.Err write_conflict) free
commit_in_conflict = refl

-- BEGIN commits what is open and opens anew; where that meets a conflict it opens nothing
begin_of_none : ended_with (a 6) free calm (begun free) ≡ gives (others 6) (reply.Ok 0 3) (in_d (Some just_opened))
begin_of_none = refl

-- its operations become a commit, and the new transaction has no snapshot
begin_of_some : ended_with (a 6) writing calm (begun writing) ≡ gives (event.Commit (a 6) (op.Put t (row 9) ∷ [])) (reply.Ok 0 3) (in_d (Some just_opened))
begin_of_some = refl

-- after the conflict none is open, since nothing else of BEGIN is done
begin_in_conflict : ended_with (a 6) writing met (begun writing) ≡ gives (event.Run (a 6) (how.Conflict t (Some (pos 9)) 6)) (reply.Err write_conflict) free
begin_in_conflict = refl

-- ---- autocommit

-- from off to on it commits what is open
on_from_off : set_autocommit (a 6) (manual (taken 5 (op.Put t (row 9) ∷ []))) calm (Ok writing)
    ≡ gives (event.Commit (a 6) (op.Put t (row 9) ∷ [])) (reply.Ok 0 2) free
on_from_off = refl

-- where that meets a conflict, autocommit stays off
on_in_conflict : set_autocommit (a 6) (manual (taken 5 (op.Put t (row 9) ∷ []))) met (Ok writing)
    ≡ gives (event.Run (a 6) (how.Conflict t (Some (pos 9)) 6)) (reply.Err write_conflict) (manual None)
on_in_conflict = refl

-- from on to on, and from on to off, the transaction stays open
on_from_on : set_autocommit (a 6) writing calm (Ok writing) ≡ gives (others 6) (reply.Ok 0 3) writing
on_from_on = refl

-- the transaction stays, and the status has lost the bit of autocommit
off_from_on : set_autocommit (a 6) writing calm (Ok (manual (taken 5 (op.Put t (row 9) ∷ [])))) ≡ gives (others 6) (reply.Ok 0 1) (manual (taken 5 (op.Put t (row 9) ∷ [])))
off_from_on = refl

-- ---- statements that change tables or databases

-- outside a transaction
made_alone : changed_form (a 6) free calm (statement.CreateDb (codes "e")) ≡ gives (event.Commit (a 6) (op.CreateDb (codes "e") ∷ [])) (reply.Ok 1 2) free
unfolding effect
made_alone = refl

-- in one they commit its operations and then their own; d has two tables
dropped_with_own : changed_form (a 6) writing calm (statement.DropDb (codes "d"))
    ≡ gives (event.Commit (a 6) (op.Put t (row 9) ∷ op.DropDb (codes "d") ∷ [])) (reply.Ok 2 2) free
unfolding effect
dropped_with_own = refl

-- a refusal leaves the transaction open
made_twice : changed_form (a 6) writing calm (statement.CreateDb (codes "d")) ≡ gives (others 6) (reply.Err (database_exists (codes "d"))) writing
unfolding effect
made_twice = refl

-- a conflict comes before the refusal, and rolls it back
made_in_conflict : changed_form (a 6) writing met (statement.CreateDb (codes "d")) ≡ gives (event.Run (a 6) (how.Conflict t (Some (pos 9)) 6)) (reply.Err write_conflict) free
unfolding effect
made_in_conflict = refl

-- ---- USE

-- d is there, and becomes the current database
first_use : used (a 2) (starting 1 1) (made ∷ []) (codes "d") ≡ gives (others 2) (reply.Ok 0 2) free
first_use = refl

-- e isn't there, and the current database stays
no_such_database : used (a 6) free calm (codes "e") ≡ gives (others 6) (reply.Err (unknown_database (codes "e"))) free
no_such_database = refl

-- a transaction whose snapshot is before the first event sees no database, and stays open
not_seen_yet : used (a 6) (since 1 []) calm (codes "d") ≡ gives (others 6) (reply.Err (unknown_database (codes "d"))) (since 1 [])
not_seen_yet = refl

-- ---- SET

abbrev pub set : List ℕ → SetValue → Result State SqlError
set name v = set_to free (setting.Variable name v)

abbrev pub wrong : List ℕ → Result State SqlError
wrong name = Err (wrong_value name)

-- names and words are compared without case
autocommit_zero : set (codes "AutoCommit") (to.Number 0) ≡ Ok (record free { autocommit = false })
autocommit_zero = refl

-- OFF in small letters is 0
autocommit_off : set (codes "autocommit") (to.Word (codes "off")) ≡ Ok (record free { autocommit = false })
autocommit_off = refl

-- ON with one small letter is 1, which it is already
autocommit_on : set (codes "autocommit") (to.Word (codes "On")) ≡ Ok free
autocommit_on = refl

-- a text is none of its values, nor is DEFAULT, and the error has the name as it is written
autocommit_text : set (codes "AutoCommit") (to.Str (codes "1")) ≡ wrong (codes "AutoCommit")
autocommit_text = refl

-- DEFAULT is a value of the row limit alone
autocommit_default : set (codes "autocommit") to.Default ≡ wrong (codes "autocommit")
autocommit_default = refl

-- the row limit takes any number
limit_five : set (codes "sql_select_limit") (to.Number 5) ≡ Ok (record free { row_limit = 5 })
limit_five = refl

-- DEFAULT is the greatest number of 64 bits
limit_default : set_to (record free { row_limit = 5 }) (setting.Variable (codes "sql_select_limit") to.Default) ≡ Ok free
limit_default = refl

-- no word is a row limit
limit_word : set (codes "sql_select_limit") (to.Word (codes "ON")) ≡ wrong (codes "sql_select_limit")
limit_word = refl

-- the mode is known in small letters too
mode_quotes : set (codes "sql_mode") (to.Str (codes "ansi_quotes")) ≡ Ok (record free { ansi = true })
mode_quotes = refl

-- the empty text takes the quotes back
mode_empty : set_to (record free { ansi = true }) (setting.Variable (codes "sql_mode") (to.Str [])) ≡ Ok free
mode_empty = refl

-- the mode is a text, and no word
mode_word : set (codes "sql_mode") (to.Word (codes "ANSI_QUOTES")) ≡ wrong (codes "sql_mode")
mode_word = refl

-- DEMAND is 2
type_demand : set (codes "query_cache_type") (to.Word (codes "demand")) ≡ Ok (record free { kind = 2 })
type_demand = refl

-- 0 to 2 are taken as they are
type_zero : set (codes "query_cache_type") (to.Number 0) ≡ Ok (record free { kind = 0 })
type_zero = refl

-- 3 is no type
type_three : set (codes "query_cache_type") (to.Number 3) ≡ wrong (codes "query_cache_type")
type_three = refl

-- utf8mb4 is 45, in any case of letters
names_wide : set_to free (setting.Names (codes "UTF8MB4")) ≡ Ok (record free { charset = 45 })
names_wide = refl

-- utf8 is 33
names_usual : set_to (record free { charset = 45 }) (setting.Names (codes "utf8")) ≡ Ok free
names_usual = refl

-- another character set is refused, and the error names NAMES
names_unknown : set_to free (setting.Names (codes "latin1")) ≡ wrong (codes "NAMES")
names_unknown = refl

-- a variable that isn't known
unknown : set (codes "tx") (to.Number 0) ≡ Err (unknown_variable (codes "tx"))
unknown = refl

-- ---- commands without an event

-- a ping is answered OK, with the status of the open transaction
ping : local (since 5 []) command.Ping ≡ Some (reply.Ok 0 3, since 5 [])
ping = refl

-- an unknown command leaves the session as it was
unknown_byte : local free (command.Unknown 7) ≡ Some (reply.Err unknown_command, free)
unknown_byte = refl

-- an empty payload is an unknown command
empty_payload : local free command.Empty ≡ Some (reply.Err unknown_command, free)
empty_payload = refl

-- the command of USE has a deciding event, so nothing is given here
init_has_event : local free (command.InitDb (codes "d")) ≡ None
init_has_event = refl
