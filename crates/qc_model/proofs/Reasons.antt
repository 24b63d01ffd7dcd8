-- Further examples: reasons for a plain run, licences, conflicts.
use Rattle.std.proofs.Common.{◌≡◌, ℕ, List, [], ◌∷◌, ◌++◌, refl, true, false, Option, arith}
use Rattle.std.specs.Prelude.{codes, Some, None, pos, Ok, Result, length}
use Rattle.std.specs.Fmt.{digits}
use Rattle.qc_types.specs.declared.names.Value.TheVariants as value
use Rattle.qc_types.specs.declared.names.Why.TheVariants as why
use Rattle.qc_types.specs.declared.names.TableName.{TableName}
use Rattle.qc_types.specs.declared.options.Options.{Options}
use Rattle.qc_sql.specs.declared.tables.RowOp.TheVariants as op
use Rattle.qc_sql.specs.declared.statements.Expr.TheBlock.{shape-the_row-Expr-1, hidden-the_row-Expr-1}
use denote.Hole.Carrier as carrier
use Rattle.qc_sql.specs.declared.statements.Statement.{Statement}
use Rattle.qc_sql.specs.declared.statements.Statement.TheVariants as statement
use Rattle.qc_sql.specs.Packets.{packet, encoded_integer, encoded_string}
use Rattle.qc_sql.specs.Tokens.{lexed, trimmed}
use Rattle.qc_sql.specs.Reading.{is_reserved, opened}
use Rattle.qc_sql.specs.Grammar.{meaning, head_of, ParseFault, alias, any_statement, any_text, at_end, cache_word, call_word, column, condition, dotted, ends_value, from, from_part, item, items, joined, limit_part, literal, lock_part, look, member_at, one_too_many, order_part, select, signed, source, table, where_part, whole, call_at, bare_literal, other_statement, one_word, is_unsupported, is_aggregate_word, is_plain_call, is_uncached_call}
use Rattle.qc_sql.specs.Rows.{rows, rows_over}
use Rattle.qc_model.specs.declared.events.Who.{Who}
use Rattle.qc_model.specs.declared.events.Event.TheVariants as event
use Rattle.qc_model.specs.declared.events.How.TheVariants as how
use Rattle.qc_model.specs.declared.events.Reason.{Reason}
use Rattle.qc_model.specs.declared.events.Reason.TheVariants as reason
use Rattle.qc_model.specs.declared.events.GoneWhy.TheVariants as gone
use Rattle.qc_model.specs.Journal.{Journal, before, present}
use Rattle.qc_model.specs.Session.{State, Transaction, answer, answer_packets}
use Rattle.qc_model.specs.Choice.{plain_reason}
use Rattle.qc_model.specs.Licence.{IsLicensed}
use Rattle.qc_model.specs.Conflicts.{conflict_of}
use Rattle.qc_model.proofs.FirstRun.{t, id, who, key, journal}

options : ℕ → ℕ → Options
options size limit = record { size = size; limit = limit; unit = 4096; kind = 1 }

in_d : ℕ → Option Transaction → State
in_d kind own = record { session = 1; db = codes "d"; autocommit = true; charset = 33; ansi = false; row_limit = 18446744073709551615; kind = kind; transaction = own }

-- the reason of a text in a state, after a journal
reason_of : ℕ → State → List ℕ → Journal → Option Reason
reason_of size state text J = of_meaning (meaning text false)
  where
    of_meaning : Result Statement ParseFault → Option Reason
    of_meaning (Ok (statement.Select s)) = plain_reason (options size 1048576) state text s J
    of_meaning _ = None

base : Journal
base = before 5 journal

off : reason_of 0 (in_d 1 None) (codes "SELECT id FROM t") base ≡ Some reason.Off
unfolding reason_of options in_d base journal who t id key meaning lexed any_text whole any_statement other_statement one_word is_unsupported select cache_word items item call_at call_word is_aggregate_word is_plain_call is_uncached_call column dotted ends_value alias from_part from source table joined where_part condition member_at order_part limit_part lock_part at_end look literal bare_literal signed one_too_many head_of trimmed rows rows_over is_reserved opened
off = refl

not_asked : reason_of 1048576 (in_d 1 None) (codes "SELECT SQL_NO_CACHE id FROM t") base ≡ Some reason.NotAsked
unfolding reason_of options in_d base journal who t id key meaning lexed any_text whole any_statement other_statement one_word is_unsupported select cache_word items item call_at call_word is_aggregate_word is_plain_call is_uncached_call column dotted ends_value alias from_part from source table joined where_part condition member_at order_part limit_part lock_part at_end look literal bare_literal signed one_too_many head_of trimmed rows rows_over is_reserved opened
not_asked = refl

demand : reason_of 1048576 (in_d 2 None) (codes "SELECT SQL_CACHE id FROM t") base ≡ None
unfolding reason_of options in_d base journal who t id key meaning lexed any_text whole any_statement other_statement one_word is_unsupported select cache_word items item call_at call_word is_aggregate_word is_plain_call is_uncached_call column dotted ends_value alias from_part from source table joined where_part condition member_at order_part limit_part lock_part at_end look literal bare_literal signed one_too_many head_of trimmed rows rows_over is_reserved opened
demand = refl

no_tables : reason_of 1048576 (in_d 1 None) (codes "SELECT 1") base ≡ Some (reason.Rule why.NoTables)
unfolding reason_of options in_d base journal who t id key meaning lexed any_text whole any_statement other_statement one_word is_unsupported select cache_word items item call_at call_word is_aggregate_word is_plain_call is_uncached_call column dotted ends_value alias from_part from source table joined where_part condition member_at order_part limit_part lock_part at_end look literal bare_literal signed one_too_many head_of trimmed rows rows_over is_reserved opened
no_tables = refl

function : reason_of 1048576 (in_d 1 None) (codes "SELECT DATABASE(), id FROM t") base ≡ Some (reason.Rule (why.Function (codes "DATABASE")))
unfolding reason_of options in_d base journal who t id key meaning lexed any_text whole any_statement other_statement one_word is_unsupported select cache_word items item call_at call_word is_aggregate_word is_plain_call is_uncached_call column dotted ends_value alias from_part from source table joined where_part condition member_at order_part limit_part lock_part at_end look literal bare_literal signed one_too_many head_of trimmed rows rows_over shape-the_row-Expr-1 hidden-the_row-Expr-1 carrier.hidden is_reserved opened
function = refl

locking : reason_of 1048576 (in_d 1 None) (codes "SELECT id FROM t FOR UPDATE") base ≡ Some (reason.Rule why.Locking)
unfolding reason_of options in_d base journal who t id key meaning lexed any_text whole any_statement other_statement one_word is_unsupported select cache_word items item call_at call_word is_aggregate_word is_plain_call is_uncached_call column dotted ends_value alias from_part from source table joined where_part condition member_at order_part limit_part lock_part at_end look literal bare_literal signed one_too_many head_of trimmed rows rows_over is_reserved opened
locking = refl

no_table : reason_of 1048576 (in_d 1 None) (codes "SELECT id FROM x") base ≡ Some (reason.Error 1146)
unfolding reason_of options in_d base journal who t id key meaning lexed any_text whole any_statement other_statement one_word is_unsupported select cache_word items item call_at call_word is_aggregate_word is_plain_call is_uncached_call column dotted ends_value alias from_part from source table joined where_part condition member_at order_part limit_part lock_part at_end look literal bare_literal signed one_too_many head_of trimmed rows rows_over is_reserved opened
no_table = refl

now_is_refused : reason_of 1048576 (in_d 1 None) (codes "SELECT NOW() FROM t") base ≡ Some (reason.Error 1235)
unfolding reason_of options in_d base journal who t id key meaning lexed any_text whole any_statement other_statement one_word is_unsupported select cache_word items item call_at call_word is_aggregate_word is_plain_call is_uncached_call column dotted ends_value alias from_part from source table joined where_part condition member_at order_part limit_part lock_part at_end look literal bare_literal signed one_too_many head_of trimmed rows rows_over shape-the_row-Expr-1 hidden-the_row-Expr-1 carrier.hidden is_reserved opened
now_is_refused = refl

-- ---- a table that changed after a snapshot

other : ℕ → Who
other n = record { session = 2; number = n }

later : Journal
later = base ++ event.Run (who 5) how.Other ∷ event.Run (who 6) (how.Start 1 key (t ∷ [])) ∷ event.Done 1
    ∷ event.Run (other 1) how.Other ∷ event.Commit (other 2) (op.Put t (value.Int (pos 8) ∷ []) ∷ []) ∷ []

not_visible : reason_of 1048576 (in_d 1 (Some (record { snapshot = Some 6; operations = [] }))) (codes "SELECT id FROM t") later ≡ Some (reason.NotVisible t 9 6)
unfolding reason_of options in_d later other base journal who t id key meaning lexed any_text whole any_statement other_statement one_word is_unsupported select cache_word items item call_at call_word is_aggregate_word is_plain_call is_uncached_call column dotted ends_value alias from_part from source table joined where_part condition member_at order_part limit_part lock_part at_end look literal bare_literal signed one_too_many head_of trimmed rows rows_over is_reserved opened
not_visible = refl

written : reason_of 1048576 (in_d 1 (Some (record { snapshot = Some 6; operations = op.Put t (value.Int (pos 9) ∷ []) ∷ [] }))) (codes "SELECT id FROM t") base ≡ Some (reason.Written t)
unfolding reason_of options in_d base journal who t id key meaning lexed any_text whole any_statement other_statement one_word is_unsupported select cache_word items item call_at call_word is_aggregate_word is_plain_call is_uncached_call column dotted ends_value alias from_part from source table joined where_part condition member_at order_part limit_part lock_part at_end look literal bare_literal signed one_too_many head_of trimmed rows rows_over is_reserved opened
written = refl

-- an entry that is still being filled
filling : Journal
filling = base ++ event.Run (who 5) (how.Start 1 key (t ∷ [])) ∷ []

rival_is : reason_of 1048576 (in_d 1 None) (codes "SELECT id FROM t") filling ≡ Some (reason.Rival 1)
unfolding reason_of options in_d filling base journal who t id key meaning lexed any_text whole any_statement other_statement one_word is_unsupported select cache_word items item call_at call_word is_aggregate_word is_plain_call is_uncached_call column dotted ends_value alias from_part from source table joined where_part condition member_at order_part limit_part lock_part at_end look literal bare_literal signed one_too_many head_of trimmed rows rows_over is_reserved opened
rival_is = refl

-- ---- licences

may_start : IsLicensed (options 1048576 1048576) base (event.Run (who 5) (how.Start 1 key (t ∷ [])))
unfolding options base journal who t id key meaning lexed any_text whole any_statement other_statement one_word is_unsupported select cache_word items item call_at call_word is_aggregate_word is_plain_call is_uncached_call column dotted ends_value alias from_part from source table joined where_part condition member_at order_part limit_part lock_part at_end look literal bare_literal signed one_too_many head_of trimmed rows rows_over answer_packets packet encoded_integer encoded_string is_reserved opened
may_start = (record { next = refl; not_filling = refl }, record { next = refl; has_answer = refl; of_select = refl; no_other = refl; has_region = omega arith })

bytes_of : Option (List ℕ) → List ℕ
bytes_of None = []
bytes_of (Some bytes) = bytes

-- its answer has 62 bytes
answer_length : (length (bytes_of (answer key (present base))) ≡ 62)
unfolding bytes_of base journal who t id key meaning lexed any_text whole any_statement other_statement one_word is_unsupported select cache_word items item call_at call_word is_aggregate_word is_plain_call is_uncached_call column dotted ends_value alias from_part from source table joined where_part condition member_at order_part limit_part lock_part at_end look literal bare_literal signed one_too_many head_of trimmed rows rows_over answer_packets packet encoded_integer encoded_string digits is_reserved opened
answer_length = refl

too_large : IsLicensed (options 1048576 61) filling (event.Gone 1 (gone.TooLarge 62 61))
unfolding options filling base journal who t id key meaning lexed any_text whole any_statement other_statement one_word is_unsupported select cache_word items item call_at call_word is_aggregate_word is_plain_call is_uncached_call column dotted ends_value alias from_part from source table joined where_part condition member_at order_part limit_part lock_part at_end look literal bare_literal signed one_too_many head_of trimmed rows rows_over answer_packets packet encoded_integer encoded_string digits is_reserved opened
too_large = (refl, (refl, omega arith, refl))

-- ---- conflicts

p : TableName
p = record { db = codes "d"; name = codes "p" }

two_rows : Journal
two_rows = event.Commit (who 1) (op.CreateDb (codes "d") ∷ []) ∷ event.Commit (who 2) (op.CreateTable p (id ∷ []) ∷ [])
    ∷ event.Commit (who 3) (op.Put p (value.Int (pos 1) ∷ []) ∷ op.Put p (value.Int (pos 2) ∷ []) ∷ [])
    ∷ event.Run (who 4) how.Other ∷ event.Run (other 1) how.Other
    ∷ event.Commit (who 5) (op.Put p (value.Int (pos 1) ∷ []) ∷ []) ∷ []

writes : ℕ → Transaction
writes n = record { snapshot = Some 5; operations = op.Put p (value.Int (pos n) ∷ []) ∷ [] }

conflicting : conflict_of (writes 1) two_rows ≡ Some (record { table = p; key = Some (pos 1); by = 6 })
unfolding writes two_rows p id who other
conflicting = refl

apart : conflict_of (writes 2) two_rows ≡ None
unfolding writes two_rows p id who other
apart = refl
