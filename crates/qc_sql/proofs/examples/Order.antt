-- Databases in order, what operations make of a database, and which of them touch a table.
use Rattle.std.proofs.Common.{◌≡◌, ℕ, ℤ, List, [], ◌∷◌, refl, true, false, arith, ap}
use Rattle.std.specs.Prelude.{codes, Some, None, pos, neg_ℤ, Option, length}
use Rattle.std.specs.List.Sorted.{IsStrictlySortedBy}
use Rattle.qc_types.specs.declared.names.TableName.{TableName}
use Rattle.qc_types.specs.declared.names.Value.{Value}
use Rattle.qc_types.specs.declared.names.Value.TheVariants as value
use Rattle.qc_sql.specs.declared.tables.Column.{Column}
use Rattle.qc_sql.specs.declared.tables.Kind.TheVariants as kind
use Rattle.qc_sql.specs.declared.tables.RowOp.TheVariants as op
use Rattle.qc_sql.specs.Database.{Database, Table, apply, apply_one, key_of, same_table, table_of, touches}
use Rattle.qc_sql.specs.Laws.{SameTables}
use Rattle.qc_sql.specs.declared.statements.Source.{Source}
use Rattle.qc_sql.specs.Order.{RowsRise, AreOrdered, IsOrdered}

-- a table whose key stands in the second column
abbrev columns : List Column
columns = record { name = codes "v"; kind = kind.Str 9; not_null = false; primary = false } ∷ record { name = codes "k"; kind = kind.Int; not_null = true; primary = true } ∷ []

abbrev row : ℤ → List ℕ → List Value
row key text = value.Str text ∷ value.Int key ∷ []

abbrev with_rows : List (ℤ × List Value) → Table
with_rows rows = record { columns = columns; rows = rows }

-- ---- rows, tables and databases that rise

-- from -5 to 3 keys rise
negative_first : RowsRise (with_rows ((neg_ℤ (pos 5), row (neg_ℤ (pos 5)) []) ∷ (pos 3, row (pos 3) []) ∷ []))
unfolding IsStrictlySortedBy
negative_first = ((refl, tt), (tt, tt))

-- one key twice doesn't
one_key_twice : RowsRise (with_rows ((pos 3, row (pos 3) []) ∷ (pos 3, row (pos 3) (codes "x")) ∷ [])) → ⊥
unfolding IsStrictlySortedBy
one_key_twice h = absurd (cc h.0.0)

-- nor does a greater key in front, also where another row stands between
greater_first : RowsRise (with_rows ((pos 4, row (pos 4) []) ∷ (pos 7, row (pos 7) []) ∷ (pos 1, row (pos 1) []) ∷ [])) → ⊥
unfolding IsStrictlySortedBy
greater_first h = absurd (cc h.0.1.0)

no_rows : RowsRise (with_rows [])
unfolding IsStrictlySortedBy
no_rows = tt

-- names are compared byte for byte: a capital stands before a small letter, and a name before a longer one that begins with it
names_rise : AreOrdered ((codes "Z", with_rows []) ∷ (codes "a", with_rows []) ∷ (codes "ab", with_rows []) ∷ [])
unfolding IsStrictlySortedBy
names_rise = record { names = ((refl, (refl, tt)), ((refl, tt), (tt, tt))); rows = (tt, (tt, (tt, tt))) }

names_fall : AreOrdered ((codes "ab", with_rows []) ∷ (codes "a", with_rows []) ∷ []) → ⊥
unfolding IsStrictlySortedBy
names_fall h = absurd (cc h.names.0.0)

empty : IsOrdered []
unfolding IsStrictlySortedBy
empty = record { names = tt; tables = tt }

-- the rows of a table in the second database have to rise as well
rows_fall : IsOrdered ((codes "d", []) ∷ (codes "e", (codes "t", with_rows ((pos 2, row (pos 2) []) ∷ (pos 1, row (pos 1) []) ∷ [])) ∷ []) ∷ []) → ⊥
unfolding IsStrictlySortedBy
rows_fall h = absurd (cc h.tables.1.0.rows.0.0.0)

two_databases : IsOrdered ((codes "d", []) ∷ (codes "e", (codes "t", with_rows ((pos 1, row (pos 1) []) ∷ [])) ∷ []) ∷ [])
unfolding IsStrictlySortedBy
two_databases = record { names = ((refl, tt), (tt, tt)); tables = (record { names = tt; rows = tt }, (record { names = (tt, tt); rows = ((tt, tt), tt) }, tt)) }

-- ---- keys

second_column : key_of columns (row (neg_ℤ (pos 8)) (codes "x")) ≡ neg_ℤ (pos 8)
second_column = refl

-- without a primary column the key is 0, as in a row that is too short
no_key : key_of (record { name = codes "v"; kind = kind.Int; not_null = false; primary = false } ∷ []) (value.Int (pos 4) ∷ []) ≡ pos 0
no_key = refl

short_row : key_of columns (value.Str (codes "x") ∷ []) ≡ pos 0
short_row = refl

-- ---- operations

abbrev t : TableName
t = record { db = codes "d"; name = codes "t" }

abbrev only : List (ℤ × List Value) → Database
only rows = (codes "d", (codes "t", with_rows rows) ∷ []) ∷ []

-- a smaller key goes to the front
put_in_front : apply (op.CreateDb (codes "d") ∷ op.CreateTable t columns ∷ op.Put t (row (pos 2) (codes "b")) ∷ op.Put t (row (neg_ℤ (pos 2)) (codes "a")) ∷ []) []
    ≡ only ((neg_ℤ (pos 2), row (neg_ℤ (pos 2)) (codes "a")) ∷ (pos 2, row (pos 2) (codes "b")) ∷ [])
put_in_front = refl

-- a row under a key that is there takes its place
put_again : apply_one (op.Put t (row (pos 2) (codes "c"))) (only ((pos 2, row (pos 2) (codes "b")) ∷ [])) ≡ only ((pos 2, row (pos 2) (codes "c")) ∷ [])
put_again = refl

-- a row of a table that isn't there goes nowhere
put_nowhere : apply_one (op.Put (record { db = codes "d"; name = codes "u" }) (row (pos 2) [])) (only []) ≡ only []
put_nowhere = refl

-- to make a database that is there changes nothing
made_again : apply_one (op.CreateDb (codes "d")) (only []) ≡ only []
made_again = refl

-- a new database stands by its name
made_in_front : apply_one (op.CreateDb (codes "c")) (only []) ≡ (codes "c", []) ∷ only []
made_in_front = refl

-- the drop of a table leaves its database
dropped : apply_one (op.DropTable t) (only ((pos 2, row (pos 2) []) ∷ [])) ≡ (codes "d", []) ∷ []
dropped = refl

-- names are told apart by their case
other_case : table_of (record { db = codes "d"; name = codes "T" }) (only []) ≡ None
other_case = refl

there : table_of t (only []) ≡ Some (with_rows [])
there = refl

-- ---- what touches a table

-- the names of a database and of its table don't run together
not_joined : same_table (record { db = codes "ab"; name = codes "c" }) (record { db = codes "a"; name = codes "bc" }) ≡ false
not_joined = refl

same : same_table t (record { db = codes "d"; name = codes "t" }) ≡ true
same = refl

by_drop : touches t (op.DropTable t) ≡ true
by_drop = refl

by_delete : touches t (op.Del t (pos 9)) ≡ true
by_delete = refl

not_by_new_database : touches t (op.CreateDb (codes "d")) ≡ false
not_by_new_database = refl

not_by_other_table : touches t (op.CreateTable (record { db = codes "d"; name = codes "tt" }) columns) ≡ false
not_by_other_table = refl

by_database : touches t (op.DropDb (codes "d")) ≡ true
by_database = refl

-- ---- databases in which the tables of a FROM are the same

abbrev from_t : Source
from_t = record { table = record { db = None; name = codes "t" }; name = codes "x" }

-- another database beside it says nothing of t
same_beside : SameTables (only []) ((codes "c", []) ∷ only []) (codes "d") (from_t ∷ [])
same_beside = (refl, tt)

-- a row more
other_rows : SameTables (only []) (only ((pos 2, row (pos 2) []) ∷ [])) (codes "d") (from_t ∷ []) → ⊥
other_rows h = absurd (omega (arith, ap count h.0))
  where
    count : Option Table → ℕ
    count None = 0
    count (Some x) = length x.rows

-- of no tables all are the same
same_nothing : SameTables (only []) [] (codes "d") []
same_nothing = tt
