-- The statements of the workload, and the texts that mean them.
use Rattle.std.specs.Prelude.{◌≡◌, ℕ, pos, true, false, List, [], ◌∷◌, Some, None, Ok, codes}
use Rattle.qc_types.specs.declared.names.Value.{Value}
use Rattle.qc_types.specs.declared.names.Value.TheVariants as value
use Rattle.qc_sql.specs.declared.statements.Head.TheVariants as head
use Rattle.qc_sql.specs.declared.statements.Expr.{Expr}
use Rattle.qc_sql.specs.declared.statements.Expr.TheVariants as expr
use Rattle.qc_sql.specs.declared.statements.Cond.{Cond}
use Rattle.qc_sql.specs.declared.statements.Cond.TheVariants as test
use Rattle.qc_sql.specs.declared.statements.Op.TheVariants as compare
use Rattle.qc_sql.specs.declared.statements.ColumnName.{ColumnName}
use Rattle.qc_sql.specs.declared.statements.TableRef.{TableRef}
use Rattle.qc_sql.specs.declared.statements.Item.{Item}
use Rattle.qc_sql.specs.declared.statements.Source.{Source}
use Rattle.qc_sql.specs.declared.statements.Select.{Select}
use Rattle.qc_sql.specs.declared.statements.Statement.{Statement}
use Rattle.qc_sql.specs.declared.statements.Statement.TheVariants as statement
use Rattle.qc_sql.specs.declared.statements.Right.TheVariants as right
use Rattle.qc_sql.specs.declared.statements.Part.{Part}
use Rattle.qc_sql.specs.declared.statements.Part.TheVariants as piece
use Rattle.qc_sql.specs.declared.statements.PartKind.TheVariants as typed
use Rattle.qc_sql.specs.Database.{Name}
use Rattle.qc_sql.specs.Grammar.{meaning, trimmed}

-- ---- names

abbrev pub table_named : Name → TableRef
table_named name = record { db = None; name = name }

abbrev pub column_named : Name → ColumnName
column_named name = record { source = None; name = name }

abbrev pub source_named : Name → Source
source_named name = record { table = table_named name; name = name }

abbrev pub number : ℕ → Value
number n = value.Int (pos n)

-- ---- statements that change tables or rows

-- id BIGINT PRIMARY KEY, v BIGINT NOT NULL
abbrev pub parts : List Part
parts = piece.Column (codes "id") typed.BigInt false true ∷ piece.Column (codes "v") typed.BigInt true false ∷ []

abbrev pub creation : Name → Statement
creation name = statement.CreateTable (table_named name) parts

abbrev pub insertion : Name → ℕ → ℕ → Statement
insertion name key m = statement.Insert (record { table = table_named name; names = None; rows = (number key ∷ number m ∷ []) ∷ [] })

abbrev pub between : ℕ → ℕ → Cond
between first last = test.Between (expr.Column (column_named (codes "id"))) (expr.Literal (number first)) (expr.Literal (number last))

abbrev pub setting : ℕ → ℕ → ℕ → Statement
setting first last m = statement.Update (record { table = table_named (codes "a"); sets = record { name = codes "v"; right = right.Literal (number m) } ∷ []; cond = Some (between first last) })

-- ---- selects

abbrev pub item_at : ℕ → ℕ → List ℕ → Expr → Item
item_at from to words e = record { value = e; name = None; from = from; to = to; words = words }

-- a select of one item, from one table
abbrev pub one_item : Name → ℕ → List ℕ → Expr → Select
one_item name to words e = record { cache = head.Bare; star = false; items = item_at 7 to words e ∷ []; from = source_named name ∷ []; cond = None; order = []; limit = None; lock = false }

abbrev pub count_of_a : Select
count_of_a = one_item (codes "a") 15 (codes "COUNT(*)") expr.CountAll

abbrev pub sum_of_b : Select
sum_of_b = one_item (codes "b") 13 (codes "SUM(v)") (expr.Sum (column_named (codes "v")))

abbrev pub greatest_of_a : Select
greatest_of_a = one_item (codes "a") 13 (codes "MAX(v)") (expr.Max (column_named (codes "v")))

abbrev pub first_of_b : Select
first_of_b = record { cache = head.Bare; star = true; items = []; from = source_named (codes "b") ∷ []; cond = None; order = record { column = column_named (codes "v"); desc = false } ∷ []; limit = Some (record { offset = 0; count = 5 }); lock = false }

abbrev pub row_of_a : ℕ → Select
row_of_a key = record {
  cache = head.Bare;
  star = false;
  items = item_at 7 9 (codes "id") (expr.Column (column_named (codes "id"))) ∷ item_at 11 12 (codes "v") (expr.Column (column_named (codes "v"))) ∷ [];
  from = source_named (codes "a") ∷ [];
  cond = Some (test.Compare (expr.Column (column_named (codes "id"))) compare.Eq (expr.Literal (number key)));
  order = [];
  limit = None;
  lock = false;
}

-- ---- meanings

-- a text means a statement, where no quotes are names
abbrev pub Means : List ℕ → Statement → Type 0
Means text s = meaning (trimmed text) false ≡ Ok s

-- the texts without a number that is drawn
pub record FixedTextsMean : Type 0 where
  pub database : Means (codes "CREATE DATABASE w") (statement.CreateDb (codes "w"))
  pub a : Means (codes "CREATE TABLE a (id BIGINT PRIMARY KEY, v BIGINT NOT NULL)") (creation (codes "a"))
  pub b : Means (codes "CREATE TABLE b (id BIGINT PRIMARY KEY, v BIGINT NOT NULL)") (creation (codes "b"))
  pub count : Means (codes "SELECT COUNT(*) FROM a") (statement.Select count_of_a)
  pub sum : Means (codes "SELECT SUM(v) FROM b") (statement.Select sum_of_b)
  pub greatest : Means (codes "SELECT MAX(v) FROM a") (statement.Select greatest_of_a)
  pub first : Means (codes "SELECT * FROM b ORDER BY v LIMIT 5") (statement.Select first_of_b)
