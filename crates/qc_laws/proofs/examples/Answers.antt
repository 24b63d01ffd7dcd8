-- What an entry answers: the packets of its key's own text, at its start and now, and none where the cache may not keep them.
use Rattle.std.proofs.Common.{◌≡◌, ℕ, List, [], ◌∷◌, ◌++◌, refl, true, false, Ok}
use Rattle.std.specs.Prelude.{codes, Some, None, pos, neg_ℤ}
use Rattle.std.specs.Fmt.{digits}
use Rattle.qc_types.specs.declared.names.TableName.{TableName}
use Rattle.qc_types.specs.declared.names.Value.TheVariants as value
use Rattle.qc_sql.specs.declared.tables.Column.{Column}
use Rattle.qc_sql.specs.declared.tables.Kind.TheVariants as kind
use Rattle.qc_sql.specs.declared.tables.RowOp.TheVariants as op
use Rattle.qc_sql.specs.declared.statements.Expr.TheVariants as expr
use Rattle.qc_sql.specs.declared.statements.Head.TheVariants as head
use Rattle.qc_sql.specs.declared.statements.Select.{Select}
use Rattle.qc_model.specs.declared.events.Who.{Who}
use Rattle.qc_model.specs.declared.events.Event.TheVariants as event
use Rattle.qc_model.specs.declared.events.How.TheVariants as how
use Rattle.qc_sql.specs.Packets.{packet, encoded_integer, encoded_string}
use Rattle.qc_sql.specs.Tokens.{lexed, trimmed}
use Rattle.qc_sql.specs.Reading.{is_reserved, opened}
use Rattle.qc_sql.specs.Grammar.{meaning, head_of, alias, any_statement, any_text, at_end, cache_word, call_word, column, condition, dotted, ends_value, from, from_part, item, items, joined, limit_part, literal, lock_part, look, member_at, one_too_many, order_part, select, signed, source, table, where_part, whole, call_at, bare_literal, other_statement, one_word, is_unsupported, is_aggregate_word, is_plain_call, is_uncached_call}
use Rattle.qc_sql.specs.Rows.{rows, rows_over, Rows}
use Rattle.qc_model.specs.Journal.{Journal, present}
use Rattle.qc_model.specs.Cache.{Entry}
use Rattle.qc_model.specs.Session.{State, answer, answer_packets, flags_of}
use Rattle.qc_laws.specs.history.Runs.{IsStarted, IsKept}
use Rattle.qc_laws.specs.history.Answers.{packets_of, AnswersText, IsKeyOfRows}

abbrev u : TableName
u = record { db = codes "e"; name = codes "u" }

abbrev k : Column
k = record { name = codes "k"; kind = kind.Int; not_null = true; primary = true }

abbrev who : ℕ → Who
who n = record { session = 1; number = n }

-- SELECT k FROM u in the database e, outside a transaction, with autocommit, utf8 and no limit of rows
abbrev key : List ℕ
key = 1 ∷ 0x65 ∷ 0 ∷ 1 ∷ 33 ∷ 0 ∷ 0 ∷ 255 ∷ 255 ∷ 255 ∷ 255 ∷ 255 ∷ 255 ∷ 255 ∷ 255 ∷ 0 ∷ 0 ∷ codes "SELECT k FROM u"

-- the table with the rows 3 and -4, and then the select
abbrev before_start : Journal
before_start = event.Commit (who 1) (op.CreateDb (codes "e") ∷ []) ∷ event.Commit (who 2) (op.CreateTable u (k ∷ []) ∷ op.Put u (value.Int (pos 3) ∷ []) ∷ op.Put u (value.Int (neg_ℤ (pos 4)) ∷ []) ∷ []) ∷ []

abbrev journal : Journal
journal = before_start ++ event.Run (who 3) (how.Start 1 key (u ∷ [])) ∷ event.Done 1 ∷ []

-- one column, which is a primary key; the rows by rising key
abbrev bytes : List ℕ
bytes =
    0x01 ∷ 0x00 ∷ 0x00 ∷ 0x01 ∷ 0x01
    ∷ 0x1b ∷ 0x00 ∷ 0x00 ∷ 0x02 ∷ 0x03 ∷ 0x64 ∷ 0x65 ∷ 0x66 ∷ 0x01 ∷ 0x65 ∷ 0x01 ∷ 0x75 ∷ 0x01 ∷ 0x75 ∷ 0x01 ∷ 0x6b ∷ 0x01 ∷ 0x6b
    ∷ 0x0c ∷ 0x3f ∷ 0x00 ∷ 0x14 ∷ 0x00 ∷ 0x00 ∷ 0x00 ∷ 0x08 ∷ 0x03 ∷ 0x00 ∷ 0x00 ∷ 0x00 ∷ 0x00
    ∷ 0x05 ∷ 0x00 ∷ 0x00 ∷ 0x03 ∷ 0xfe ∷ 0x00 ∷ 0x00 ∷ 0x02 ∷ 0x00
    ∷ 0x03 ∷ 0x00 ∷ 0x00 ∷ 0x04 ∷ 0x02 ∷ 0x2d ∷ 0x34
    ∷ 0x02 ∷ 0x00 ∷ 0x00 ∷ 0x05 ∷ 0x01 ∷ 0x33
    ∷ 0x05 ∷ 0x00 ∷ 0x00 ∷ 0x06 ∷ 0xfe ∷ 0x00 ∷ 0x00 ∷ 0x02 ∷ 0x00 ∷ []

-- ---- what a key answers

answered : answer key (present journal) ≡ Some bytes
unfolding answer_packets meaning lexed any_text whole any_statement other_statement one_word is_unsupported select cache_word items item call_at call_word is_aggregate_word is_plain_call is_uncached_call column dotted ends_value alias from_part from source table joined where_part condition member_at order_part limit_part lock_part at_end look literal bare_literal signed one_too_many trimmed head_of rows rows_over digits is_reserved opened packet encoded_integer encoded_string
answered = refl

-- the table isn't there
refused : answer key [] ≡ None
unfolding answer_packets meaning lexed any_text whole any_statement other_statement one_word is_unsupported select cache_word items item call_at call_word is_aggregate_word is_plain_call is_uncached_call column dotted ends_value alias from_part from source table joined where_part condition member_at order_part limit_part lock_part at_end look literal bare_literal signed one_too_many trimmed head_of rows rows_over digits is_reserved opened
refused = refl

-- a text that is no select
no_select : answer (1 ∷ 0x65 ∷ 0 ∷ 1 ∷ 33 ∷ 0 ∷ 0 ∷ 255 ∷ 255 ∷ 255 ∷ 255 ∷ 255 ∷ 255 ∷ 255 ∷ 255 ∷ 0 ∷ 0 ∷ codes "COMMIT") (present journal) ≡ None
unfolding answer_packets meaning lexed any_text whole any_statement other_statement one_word is_unsupported at_end look is_reserved opened
no_select = refl

-- bytes that are no key
no_key : answer (codes "SELECT k FROM u") (present journal) ≡ None
unfolding answer_packets
no_key = refl

-- ---- an entry and its text

abbrev entry : Entry
entry = record { serial = 1; key = key; tables = u ∷ []; complete = true }

abbrev start : IsStarted journal 1
start = record { who = who 3; key = key; tables = u ∷ []; earlier = before_start; later = event.Done 1 ∷ []; split = refl }

kept : IsKept journal entry
unfolding answer_packets meaning lexed any_text whole any_statement other_statement one_word is_unsupported select cache_word items item call_at call_word is_aggregate_word is_plain_call is_uncached_call column dotted ends_value alias from_part from source table joined where_part condition member_at order_part limit_part lock_part at_end look literal bare_literal signed one_too_many trimmed head_of rows rows_over digits is_reserved opened packet encoded_integer encoded_string
kept = record { start = start; key = refl; named = refl; tables = refl; bytes = bytes; at_start = refl; now = refl; ended = λ h. refl }

-- another session in the same database, and the text with a space and a semicolon around it
abbrev other : State
other = record { session = 2; db = codes "e"; autocommit = true; charset = 33; ansi = false; row_limit = 18446744073709551615; kind = 1; transaction = None }

abbrev tree : Select
tree = record {
  cache = head.Bare;
  star = false;
  items = record { value = expr.Column (record { source = None; name = codes "k" }); name = None; from = 7; to = 8; words = codes "k" } ∷ [];
  from = record { table = record { db = None; name = codes "u" }; name = codes "u" } ∷ [];
  cond = None;
  order = [];
  limit = None;
  lock = false;
}

packets_are : packets_of other journal tree ≡ bytes
unfolding rows rows_over digits packet encoded_integer encoded_string
packets_are = refl

text_is_answered : AnswersText other journal (codes " SELECT k FROM u;") entry
unfolding answer_packets meaning lexed any_text whole any_statement other_statement one_word is_unsupported select cache_word items item call_at call_word is_aggregate_word is_plain_call is_uncached_call column dotted ends_value alias from_part from source table joined where_part condition member_at order_part limit_part lock_part at_end look literal bare_literal signed one_too_many trimmed head_of rows rows_over digits is_reserved opened packet encoded_integer encoded_string
text_is_answered = record { select = tree; means = refl; kept = refl; tables = refl; answers = refl }

-- the column and the rows
abbrev shown : Rows
shown = record {
  columns = record { schema = codes "e"; table = codes "u"; org_table = codes "u"; name = codes "k"; org_name = codes "k"; charset = 63; length = 20; kind = 8; flags = 3; decimals = 0 } ∷ [];
  rows = (value.Int (neg_ℤ (pos 4)) ∷ []) ∷ (value.Int (pos 3) ∷ []) ∷ [];
}

rows_are : rows tree (present journal) (codes "e") (flags_of other) 2 ≡ Ok shown
unfolding rows rows_over
rows_are = refl

key_of_rows : IsKeyOfRows other journal (codes " SELECT k FROM u;") tree shown
unfolding answer_packets meaning lexed any_text whole any_statement other_statement one_word is_unsupported select cache_word items item call_at call_word is_aggregate_word is_plain_call is_uncached_call column dotted ends_value alias from_part from source table joined where_part condition member_at order_part limit_part lock_part at_end look literal bare_literal signed one_too_many trimmed head_of rows rows_over digits is_reserved opened packet encoded_integer encoded_string
key_of_rows = record { packets = refl; tables = refl }
