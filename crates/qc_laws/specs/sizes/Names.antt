-- Tests of how long the names and texts of a statement are.
use Rattle.std.specs.Prelude.{ℕ, Bool, true, ◌&&◌, ◌||◌, List, length, Option, Some, None, nat_lt, nat_le}
use Rattle.std.specs.List.{list_all}
use Rattle.qc_types.specs.declared.names.Value.{Value}
use Rattle.qc_types.specs.declared.names.Value.TheVariants as value
use Rattle.qc_sql.specs.declared.statements.Expr.{Expr}
use Rattle.qc_sql.specs.declared.statements.Expr.TheOpen.{Expr-F}
use Rattle.qc_sql.specs.declared.statements.Cond.{Cond}
use Rattle.qc_sql.specs.declared.statements.Cond.TheOpen.{Cond-F}
use Rattle.qc_sql.specs.declared.statements.ColumnName.{ColumnName}
use Rattle.qc_sql.specs.declared.statements.TableRef.{TableRef}
use Rattle.qc_sql.specs.declared.statements.Item.{Item}
use Rattle.qc_sql.specs.declared.statements.Source.{Source}
use Rattle.qc_sql.specs.declared.statements.Order.{Order}
use Rattle.qc_sql.specs.declared.statements.Select.{Select}
use Rattle.qc_sql.specs.declared.statements.Insert.{Insert}
use Rattle.qc_sql.specs.declared.statements.Update.{Update}
use Rattle.qc_sql.specs.declared.statements.Delete.{Delete}
use Rattle.qc_sql.specs.declared.statements.Assignment.{Assignment}
use Rattle.qc_sql.specs.declared.statements.Right.{Right}
use Rattle.qc_sql.specs.declared.statements.Right.TheVariants as right
use Rattle.qc_sql.specs.declared.statements.Part.{Part}
use Rattle.qc_sql.specs.declared.statements.Part.TheVariants as piece
use Rattle.qc_sql.specs.declared.statements.Setting.{Setting}
use Rattle.qc_sql.specs.declared.statements.Setting.TheVariants as setting
use Rattle.qc_sql.specs.declared.statements.Statement.{Statement}
use Rattle.qc_sql.specs.declared.statements.Statement.TheVariants as statement
use Rattle.qc_sql.specs.Trees.{fold_expr, fold_cond}
use Rattle.qc_sql.specs.Database.{Name}
use Rattle.qc_sql.specs.Tokens.{Lexeme, Word, Quoted, Words, Digits, Sign, Token}
pub use Rattle.qc_model.specs.Sizes.{is_short, is_bounded, is_bounded_value}

-- what may be missing passes where it is missing
abbrev pub passes_if_there : {A : Type 0} → (A → Bool) → Option A → Bool
passes_if_there test None = true
passes_if_there test (Some x) = test x

-- ---- tokens

abbrev pub is_short_lexeme : Lexeme → Bool
is_short_lexeme (Word w) = is_short w
is_short_lexeme (Quoted w) = is_short w
is_short_lexeme (Words t) = is_bounded t
is_short_lexeme (Digits n) = true
is_short_lexeme (Sign s) = true

abbrev pub are_short_tokens : List Token → Bool
are_short_tokens tokens = list_all (λ t. is_short_lexeme t.what) tokens

-- ---- values and conditions

abbrev pub is_short_column : ColumnName → Bool
is_short_column c = passes_if_there is_short c.source && is_short c.name

-- column names and called words are short, and literals bounded, by whether those of each part are
abbrev pub is_short_value_at : Expr-F Bool → Bool
is_short_value_at (Expr-F.Column c) = is_short_column c
is_short_value_at (Expr-F.Literal v) = is_bounded_value v
is_short_value_at Expr-F.CountAll = true
is_short_value_at (Expr-F.Count part) = part
is_short_value_at (Expr-F.Sum c) = is_short_column c
is_short_value_at (Expr-F.Min c) = is_short_column c
is_short_value_at (Expr-F.Max c) = is_short_column c
is_short_value_at (Expr-F.Length part) = part
is_short_value_at (Expr-F.Concat parts) = list_all (λ part. part) parts
is_short_value_at (Expr-F.Call word parts) = is_short word && list_all (λ part. part) parts

abbrev pub is_short_value : Expr → Bool
is_short_value e = fold_expr is_short_value_at e

abbrev pub is_short_cond_at : Cond-F Bool → Bool
is_short_cond_at (Cond-F.Or parts) = list_all (λ part. part) parts
is_short_cond_at (Cond-F.And parts) = list_all (λ part. part) parts
is_short_cond_at (Cond-F.Not part) = part
is_short_cond_at (Cond-F.Compare a op b) = is_short_value a && is_short_value b
is_short_cond_at (Cond-F.IsNull a) = is_short_value a
is_short_cond_at (Cond-F.In a values) = is_short_value a && list_all is_bounded_value values
is_short_cond_at (Cond-F.Between a low high) = is_short_value a && (is_short_value low && is_short_value high)

abbrev pub is_short_cond : Cond → Bool
is_short_cond c = fold_cond is_short_cond_at c

-- ---- select

abbrev pub is_short_table : TableRef → Bool
is_short_table t = passes_if_there is_short t.db && is_short t.name

-- its words have at most 255 bytes
abbrev pub is_short_item : Item → Bool
is_short_item i = is_short_value i.value && (passes_if_there is_short i.name && nat_le (length i.words) 255)

abbrev pub is_short_source : Source → Bool
is_short_source s = is_short_table s.table && is_short s.name

abbrev pub is_short_order : Order → Bool
is_short_order o = is_short_column o.column

-- A select says what it gives: everything, or an item at least.
abbrev pub says_what : Bool → List Item → Bool
says_what star items = star || nat_lt 0 (length items)

abbrev pub is_short_select : Select → Bool
is_short_select s =
    says_what s.star s.items
    && (list_all is_short_item s.items && (list_all is_short_source s.from && (passes_if_there is_short_cond s.cond && list_all is_short_order s.order)))

-- ---- statements

abbrev pub is_short_insert : Insert → Bool
is_short_insert i = is_short_table i.table && (passes_if_there (list_all is_short) i.names && list_all (list_all is_bounded_value) i.rows)

abbrev pub is_short_right : Right → Bool
is_short_right (right.Literal v) = is_bounded_value v
is_short_right (right.Column name) = is_short name

abbrev pub is_short_assignment : Assignment → Bool
is_short_assignment a = is_short a.name && is_short_right a.right

abbrev pub is_short_update : Update → Bool
is_short_update u = is_short_table u.table && (list_all is_short_assignment u.sets && passes_if_there is_short_cond u.cond)

abbrev pub is_short_delete : Delete → Bool
is_short_delete d = is_short_table d.table && passes_if_there is_short_cond d.cond

abbrev pub is_short_part : Part → Bool
is_short_part (piece.Column name kind required key) = is_short name
is_short_part (piece.Primary name) = is_short name

-- the name of a variable
abbrev pub is_short_setting : Setting → Bool
is_short_setting (setting.Names w) = true
is_short_setting (setting.Variable name v) = is_short name

abbrev pub is_short_statement : Statement → Bool
is_short_statement (statement.Select s) = is_short_select s
is_short_statement (statement.Insert i) = is_short_insert i
is_short_statement (statement.Update u) = is_short_update u
is_short_statement (statement.Delete d) = is_short_delete d
is_short_statement (statement.Truncate t) = is_short_table t
is_short_statement (statement.CreateTable t parts) = is_short_table t && list_all is_short_part parts
is_short_statement (statement.DropTable t) = is_short_table t
is_short_statement (statement.CreateDb name) = is_short name
is_short_statement (statement.DropDb name) = is_short name
is_short_statement (statement.UseDb name) = is_short name
is_short_statement (statement.Set x) = is_short_setting x
is_short_statement _ = true
