-- Worked examples of the definitions, by computation.
use Rattle.std.proofs.Common.{◌≡◌, ℕ, List, [], ◌∷◌, map, refl, Option, Result, Ok, Err, true, false}
use Rattle.std.specs.Prelude.{codes, Some, None, pos, negsuc}
use Rattle.qc_types.specs.declared.names.TableName.{TableName}
use Rattle.qc_types.specs.declared.names.Value.{Value}
use Rattle.qc_sql.specs.declared.session.Flags.{Flags}
use Rattle.qc_sql.specs.declared.statements.ColumnName.{ColumnName}
use Rattle.qc_sql.specs.declared.statements.Expr.{Expr}
use Rattle.qc_sql.specs.declared.statements.Expr.TheBlock.{shape-the_row-Expr-0, hidden-the_row-Expr-0}
use Rattle.qc_sql.specs.declared.statements.Cond.TheBlock.{shape-the_row-Cond-1, hidden-the_row-Cond-1}
use denote.Hole.Carrier as carrier
use Rattle.qc_sql.specs.declared.statements.Expr.TheVariants as expr
use Rattle.qc_sql.specs.declared.statements.Cond.{Cond}
use Rattle.qc_sql.specs.declared.statements.Cond.TheVariants as cond
use Rattle.qc_sql.specs.declared.statements.Op.TheVariants as compare
use Rattle.qc_sql.specs.declared.statements.Head.TheVariants as head
use Rattle.qc_sql.specs.declared.statements.Item.{Item}
use Rattle.qc_sql.specs.declared.statements.Source.{Source}
use Rattle.qc_sql.specs.declared.statements.Order.{Order}
use Rattle.qc_sql.specs.declared.statements.Limit.{Limit}
use Rattle.qc_sql.specs.declared.statements.Select.{Select}
use Rattle.qc_sql.specs.declared.tables.Column.{Column}
use Rattle.qc_sql.specs.declared.tables.Kind.TheVariants as kind
use Rattle.qc_sql.specs.declared.tables.RowOp.TheVariants as op
use Rattle.qc_types.specs.declared.sql_error.SqlError.{SqlError}
use Rattle.qc_sql.specs.Database.{Database, apply}
use Rattle.qc_sql.specs.Rows.{Rows, rows, rows_over}
use Rattle.qc_types.specs.declared.names.Value.TheVariants as value
use Rattle.qc_sql.specs.declared.replies.ColumnDef.{ColumnDef}
use Rattle.qc_sql.specs.declared.replies.Reply.{Reply}
use Rattle.qc_sql.specs.declared.replies.Reply.TheVariants as reply
use Rattle.qc_sql.specs.Packets.{packets, packet, row_payload, encoded_integer, encoded_string}

id_column : ColumnDef
id_column = record { schema = codes "d"; table = codes "t"; org_table = codes "t"; name = codes "id"; org_name = codes "id"; charset = 63; length = 20; kind = 8; flags = 3; decimals = 0 }

-- the reply to SELECT id FROM t where t has the row 7
first_reply : Reply
first_reply = reply.Rows (id_column ∷ []) ((Some (codes "7") ∷ []) ∷ []) 2

first_reply_bytes : packets first_reply ≡ 1 ∷ 0 ∷ 0 ∷ 1 ∷ 1 ∷ 29 ∷ 0 ∷ 0 ∷ 2 ∷ 3 ∷ 100 ∷ 101 ∷ 102 ∷ 1 ∷ 100 ∷ 1 ∷ 116 ∷ 1 ∷ 116 ∷ 2 ∷ 105 ∷ 100 ∷ 2 ∷ 105 ∷ 100 ∷ 12 ∷ 63 ∷ 0 ∷ 20 ∷ 0 ∷ 0 ∷ 0 ∷ 8 ∷ 3 ∷ 0 ∷ 0 ∷ 0 ∷ 0 ∷ 5 ∷ 0 ∷ 0 ∷ 3 ∷ 254 ∷ 0 ∷ 0 ∷ 2 ∷ 0 ∷ 2 ∷ 0 ∷ 0 ∷ 4 ∷ 1 ∷ 55 ∷ 5 ∷ 0 ∷ 0 ∷ 5 ∷ 254 ∷ 0 ∷ 0 ∷ 2 ∷ 0 ∷ []
unfolding first_reply id_column packet encoded_integer encoded_string
first_reply_bytes = refl

-- a row of NULL and an empty text
null_and_empty : packet 4 (row_payload (None ∷ Some [] ∷ [])) ≡ 2 ∷ 0 ∷ 0 ∷ 4 ∷ 251 ∷ 0 ∷ []
unfolding packet encoded_integer encoded_string
null_and_empty = refl

-- ---- a select

flags : Flags
flags = record { in_trans = false; autocommit = true; charset = 33; ansi = false; row_limit = 18446744073709551615; protocol_form = 0; row_form = 0 }

name_of : List ℕ → ColumnName
name_of n = record { source = None; name = n }

table_t : TableName
table_t = record { db = codes "d"; name = codes "t" }

t_columns : List Column
t_columns = record { name = codes "id"; kind = kind.Int; not_null = true; primary = true } ∷ record { name = codes "v"; kind = kind.Int; not_null = false; primary = false } ∷ []

-- the table of rows (1, NULL), (2, 5), (3, -5), by operations
three_rows : Database
three_rows = apply (op.CreateDb (codes "d") ∷ op.CreateTable table_t t_columns
    ∷ op.Put table_t (value.Int (pos 3) ∷ value.Int (negsuc 4) ∷ [])
    ∷ op.Put table_t (value.Int (pos 1) ∷ value.Null ∷ [])
    ∷ op.Put table_t (value.Int (pos 2) ∷ value.Int (pos 5) ∷ []) ∷ []) []

item_of : Expr → Item
item_of e = record { value = e; name = None; from = 7; to = 9; words = codes "x" }

from_t : List Source
from_t = record { table = record { db = None; name = codes "t" }; name = codes "t" } ∷ []

select_of : List Expr → Option Cond → List Order → Option Limit → Select
select_of es cond order limit = record { cache = head.Bare; star = false; items = map item_of es; from = from_t; cond = cond; order = order; limit = limit; lock = false }

values_of : Result Rows SqlError → List (List Value)
values_of (Ok r) = r.rows
values_of (Err e) = []

-- SELECT COUNT(v), SUM(v), MIN(v) FROM t gives 2, 0, -5
aggregates : values_of (rows (select_of (expr.Count (expr.Column (name_of (codes "v"))) ∷ expr.Sum (name_of (codes "v")) ∷ expr.Min (name_of (codes "v")) ∷ []) None [] None) three_rows (codes "d") flags 1)
    ≡ (value.Int (pos 2) ∷ value.Int (pos 0) ∷ value.Int (negsuc 4) ∷ []) ∷ []
unfolding rows rows_over flags name_of table_t t_columns three_rows item_of from_t select_of values_of shape-the_row-Expr-0 hidden-the_row-Expr-0 carrier.hidden
aggregates = refl

-- SELECT id FROM t WHERE NOT v > 0 gives 3
negated_condition : values_of (rows (select_of (expr.Column (name_of (codes "id")) ∷ []) (Some (cond.Not (cond.Compare (expr.Column (name_of (codes "v"))) compare.Gt (expr.Literal (value.Int (pos 0)))))) [] None) three_rows (codes "d") flags 1)
    ≡ (value.Int (pos 3) ∷ []) ∷ []
unfolding rows rows_over flags name_of table_t t_columns three_rows item_of from_t select_of values_of shape-the_row-Cond-1 hidden-the_row-Cond-1 carrier.hidden
negated_condition = refl

-- SELECT id FROM t ORDER BY v DESC LIMIT 1, 1 gives 3
ordered : values_of (rows (select_of (expr.Column (name_of (codes "id")) ∷ []) None (record { column = name_of (codes "v"); desc = true } ∷ []) (Some (record { offset = 1; count = 1 }))) three_rows (codes "d") flags 1)
    ≡ (value.Int (pos 3) ∷ []) ∷ []
unfolding rows rows_over flags name_of table_t t_columns three_rows item_of from_t select_of values_of
ordered = refl
