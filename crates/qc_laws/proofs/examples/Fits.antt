-- Tables, databases and transactions that are sound, and what isn't.
use Rattle.std.proofs.Common.{◌≡◌, ℕ, ℤ, List, [], ◌∷◌, refl, true, false, arith}
use Rattle.std.specs.Prelude.{codes, Some, None, pos, neg_ℤ}
use Rattle.std.specs.List.Sorted.{IsStrictlySortedBy}
use Rattle.qc_types.specs.declared.names.TableName.{TableName}
use Rattle.qc_types.specs.declared.names.Value.{Value}
use Rattle.qc_types.specs.declared.names.Value.TheVariants as value
use Rattle.qc_sql.specs.declared.tables.Column.{Column}
use Rattle.qc_sql.specs.declared.tables.Kind.TheVariants as kind
use Rattle.qc_sql.specs.declared.tables.RowOp.TheVariants as op
use Rattle.qc_sql.specs.declared.statements.Statement.TheVariants as statement
use Rattle.qc_sql.specs.Database.{Database, Table, columns_of, row_of}
use Rattle.qc_model.specs.declared.events.Who.{Who}
use Rattle.qc_model.specs.declared.events.Event.{Event}
use Rattle.qc_model.specs.declared.events.Event.TheVariants as event
use Rattle.qc_model.specs.declared.events.How.TheVariants as how
use Rattle.qc_model.specs.Journal.{Journal}
use Rattle.qc_model.specs.Session.{Transaction, just_opened}
use Rattle.qc_laws.specs.fits.Sound.{commits_fit, IsNoChangeAt, is_row_op, rows_changed_by, changes_tables}
use Rattle.qc_model.specs.Sound.{IsRow, IsSoundTable, AreApart, IsSoundDatabase}
use Rattle.qc_laws.specs.fits.Open.{IsPlacedAt, IsFitting, AreFitting, grown, IsSettled, IsAtRest, MayCome}

abbrev t : TableName
t = record { db = codes "d"; name = codes "t" }

abbrev u : TableName
u = record { db = codes "d"; name = codes "u" }

-- a key and a text of at most two bytes
abbrev columns : List Column
columns = record { name = codes "k"; kind = kind.Int; not_null = true; primary = true } ∷ record { name = codes "v"; kind = kind.Str 2; not_null = false; primary = false } ∷ []

abbrev row : ℤ → List ℕ → List Value
row key text = value.Int key ∷ value.Str text ∷ []

abbrev with_rows : List (ℤ × List Value) → Table
with_rows rows = record { columns = columns; rows = rows }

-- ---- rows and tables

row_is : IsRow columns (pos 4, row (pos 4) (codes "ab"))
row_is = (refl, refl)

-- under another key
row_elsewhere : IsRow columns (pos 5, row (pos 4) (codes "ab")) → ⊥
row_elsewhere h = absurd (cc h.1)

-- a text of three bytes
long_row : IsRow columns (pos 4, row (pos 4) (codes "abc")) → ⊥
long_row h = absurd (cc h.0)

-- NULL may stand in the second column, and not as the key
null_text : IsRow columns (pos 4, value.Int (pos 4) ∷ value.Null ∷ [])
null_text = (refl, refl)

null_key : IsRow columns (pos 0, value.Null ∷ value.Null ∷ []) → ⊥
null_key h = absurd (cc h.0)

two_rows : IsSoundTable (with_rows ((neg_ℤ (pos 1), row (neg_ℤ (pos 1)) []) ∷ (pos 4, row (pos 4) (codes "ab")) ∷ []))
unfolding IsStrictlySortedBy
two_rows = record { columns = refl; rows = ((refl, refl), ((refl, refl), tt)); ordered = ((refl, tt), (tt, tt)) }

-- rows that don't rise
falling_rows : IsSoundTable (with_rows ((pos 4, row (pos 4) []) ∷ (pos 1, row (pos 1) []) ∷ [])) → ⊥
unfolding IsStrictlySortedBy
falling_rows h = absurd (cc h.ordered.0.0)

-- a table without columns has no key
no_columns : IsSoundTable (record { columns = []; rows = [] }) → ⊥
no_columns h = absurd (cc h.columns)

abbrev empty_table : Table
empty_table = with_rows []

no_rows : IsSoundTable empty_table
unfolding IsStrictlySortedBy
no_rows = record { columns = refl; rows = tt; ordered = tt }

-- ---- databases

names_apart : AreApart ((codes "t", empty_table) ∷ (codes "T", empty_table) ∷ [])
names_apart = (refl, (refl, tt))

name_twice : AreApart ((codes "t", empty_table) ∷ (codes "u", empty_table) ∷ (codes "t", empty_table) ∷ []) → ⊥
name_twice h = absurd (cc h.0)

-- no order is asked of the names
sound : IsSoundDatabase ((codes "e", []) ∷ (codes "d", (codes "u", empty_table) ∷ (codes "t", empty_table) ∷ []) ∷ [])
sound = record { apart = (refl, (refl, tt)); each = (record { apart = tt; each = tt }, (record { apart = (refl, (refl, tt)); each = (no_rows, (no_rows, tt)) }, tt)) }

database_twice : IsSoundDatabase ((codes "d", []) ∷ (codes "d", []) ∷ []) → ⊥
database_twice h = absurd (cc h.apart.0)

nothing : IsSoundDatabase []
nothing = record { apart = tt; each = tt }

abbrev d : Database
d = (codes "d", (codes "t", with_rows ((pos 4, row (pos 4) (codes "ab")) ∷ [])) ∷ []) ∷ []

columns_are : columns_of t d ≡ Some columns
columns_are = refl

columns_of_none : columns_of u d ≡ None
columns_of_none = refl

columns_elsewhere : columns_of (record { db = codes "e"; name = codes "t" }) d ≡ None
columns_elsewhere = refl

row_is_there : row_of t (pos 4) d ≡ Some (row (pos 4) (codes "ab"))
row_is_there = refl

other_row : row_of t (neg_ℤ (pos 4)) d ≡ None
other_row = refl

row_of_no_table : row_of u (pos 4) d ≡ None
row_of_no_table = refl

-- ---- operations and statements

put_is_one : is_row_op (op.Put t []) ≡ true
put_is_one = refl

delete_is_one : is_row_op (op.Del t (pos 1)) ≡ true
delete_is_one = refl

drop_is_none : is_row_op (op.DropTable t) ≡ false
drop_is_none = refl

database_is_none : is_row_op (op.DropDb (codes "d")) ≡ false
database_is_none = refl

-- a table without a database's name is of the current one
delete_changes_rows : rows_changed_by (codes "d") (statement.Delete (record { table = record { db = None; name = codes "t" }; cond = None })) ≡ Some t
delete_changes_rows = refl

insert_changes_rows : rows_changed_by (codes "e") (statement.Insert (record { table = record { db = Some (codes "d"); name = codes "u" }; names = None; rows = [] })) ≡ Some u
insert_changes_rows = refl

truncate_changes_form : rows_changed_by (codes "d") (statement.Truncate (record { db = None; name = codes "t" })) ≡ None
truncate_changes_form = refl

truncate_changes_tables : changes_tables (statement.Truncate (record { db = None; name = codes "t" })) ≡ true
truncate_changes_tables = refl

drop_changes_tables : changes_tables (statement.DropDb (codes "d")) ≡ true
drop_changes_tables = refl

delete_changes_none : changes_tables (statement.Delete (record { table = record { db = None; name = codes "t" }; cond = None })) ≡ false
delete_changes_none = refl

use_changes_none : changes_tables (statement.UseDb (codes "d")) ≡ false
use_changes_none = refl

-- ---- journals

abbrev who : ℕ → ℕ → Who
who session n = record { session = session; number = n }

abbrev made : Event
made = event.Commit (who 1 1) (op.CreateDb (codes "d") ∷ op.CreateTable t columns ∷ [])

abbrev put : ℕ → ℕ → Event
put n key = event.Commit (who 1 n) (op.Put t (row (pos key) []) ∷ [])

each_fits : commits_fit [] (made ∷ put 2 1 ∷ event.Flush (who 1 3) ∷ event.Commit (who 1 4) (op.Del t (pos 1) ∷ []) ∷ []) ≡ true
each_fits = refl

-- what comes too early doesn't fit
too_early : commits_fit [] (event.Commit (who 1 1) (op.Put t (row (pos 1) []) ∷ []) ∷ made ∷ []) ≡ false
too_early = refl

-- the row has gone when it is deleted a second time
second_delete : commits_fit [] (made ∷ put 2 1 ∷ event.Commit (who 1 3) (op.Del t (pos 1) ∷ []) ∷ event.Commit (who 1 4) (op.Del t (pos 1) ∷ []) ∷ []) ≡ false
second_delete = refl

no_commits : commits_fit [] [] ≡ true
no_commits = refl

flush_is_no_change : IsNoChangeAt 2 (made ∷ event.Flush (who 1 2) ∷ [])
flush_is_no_change = refl

commit_is_change : IsNoChangeAt 1 (made ∷ []) → ⊥
commit_is_change h = absurd (cc h)

behind_the_end : IsNoChangeAt 2 (made ∷ [])
behind_the_end = tt

-- ---- open transactions

abbrev two : Journal
two = made ∷ event.Run (who 2 1) how.Other ∷ []

placed : IsPlacedAt (Some 2) [] two
placed = (omega arith, omega arith, refl)

-- the place of the next event, which isn't there yet
placed_next : IsPlacedAt (Some 3) [] two
placed_next = (omega arith, omega arith, tt)

placed_later : IsPlacedAt (Some 4) [] two → ⊥
placed_later h = absurd (omega (arith, h.1))

placed_at_commit : IsPlacedAt (Some 1) [] two → ⊥
placed_at_commit h = absurd (cc h.2)

-- without a snapshot nothing was done
done_without : IsPlacedAt None (op.Del t (pos 1) ∷ []) two → ⊥
done_without h = absurd (cc h)

abbrev puts : Transaction
puts = record { snapshot = Some 2; operations = op.Put t (row (pos 7) []) ∷ [] }

puts_fit : IsFitting puts two
puts_fit = record { rows = refl; fit = refl; within = refl; placed = (omega arith, omega arith, refl) }

-- a row that isn't there at the snapshot can't be deleted
lacking : IsFitting (record { snapshot = Some 2; operations = op.Del t (pos 7) ∷ [] }) two → ⊥
lacking h = absurd (cc h.fit)

-- nor may a transaction drop a table
drops : IsFitting (record { snapshot = Some 2; operations = op.DropTable t ∷ [] }) two → ⊥
drops h = absurd (cc h.rows)

begun_fits : IsFitting just_opened two
begun_fits = record { rows = refl; fit = refl; within = refl; placed = refl }

none_fits : AreFitting None two
none_fits = tt

grows : grown puts (op.Del t (pos 7) ∷ []) ≡ record { snapshot = Some 2; operations = op.Put t (row (pos 7) []) ∷ op.Del t (pos 7) ∷ [] }
grows = refl

grows_by_none : grown just_opened [] ≡ just_opened
grows_by_none = refl

-- what was put can be deleted
grown_fits : IsFitting (grown puts (op.Del t (pos 7) ∷ [])) two
grown_fits = record { rows = refl; fit = refl; within = refl; placed = (omega arith, omega arith, refl) }

rests : IsAtRest (Some puts) two
rests = record { fitting = puts_fit; settled = omega arith }

-- the event at its place is still to come
unsettled : IsSettled (Some (record { snapshot = Some 3; operations = [] })) two → ⊥
unsettled h = absurd (omega (arith, h))

settled_without : IsSettled (Some just_opened) two
settled_without = tt

-- what commits nothing may come
flush_may_come : MayCome two (event.Flush (who 1 2))
flush_may_come = tt

put_may_come : MayCome two (put 2 7)
put_may_come = record { some = omega arith; fit = refl; not_full = refl }

-- a commit without operations, and one that doesn't fit
empty_may_not : MayCome two (event.Commit (who 1 2) []) → ⊥
empty_may_not h = absurd (omega (arith, h.some))

lacking_may_not : MayCome two (event.Commit (who 1 2) (op.Del t (pos 7) ∷ [])) → ⊥
lacking_may_not h = absurd (cc h.fit)
