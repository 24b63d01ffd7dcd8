-- What statements do to a database, and which refusal comes first.
use Rattle.std.proofs.Common.{◌≡◌, ℕ, ℤ, List, [], ◌∷◌, refl, true, false, Ok, Err}
use Rattle.std.specs.Prelude.{codes, Some, None, Option, pos, neg_ℤ}
use Rattle.std.specs.Fmt.{digits}
use Rattle.qc_types.specs.declared.names.TableName.{TableName}
use Rattle.qc_types.specs.declared.names.Value.{Value}
use Rattle.qc_types.specs.declared.names.Value.TheVariants as value
use Rattle.qc_sql.specs.declared.tables.Column.{Column}
use Rattle.qc_sql.specs.declared.tables.Kind.TheVariants as kind
use Rattle.qc_sql.specs.declared.tables.RowOp.TheVariants as op
use Rattle.qc_sql.specs.declared.statements.TableRef.{TableRef}
use Rattle.qc_sql.specs.declared.statements.Part.{Part}
use Rattle.qc_sql.specs.declared.statements.Part.TheVariants as part
use Rattle.qc_sql.specs.declared.statements.PartKind.TheVariants as part_kind
use Rattle.qc_sql.specs.declared.statements.Right.TheVariants as right
use Rattle.qc_sql.specs.declared.statements.Assignment.{Assignment}
use Rattle.qc_sql.specs.declared.statements.Statement.{Statement}
use Rattle.qc_sql.specs.declared.statements.Statement.TheVariants as statement
use Rattle.qc_sql.specs.Database.{Name, Database}
use Rattle.qc_sql.specs.Errors.{no_database_selected, database_exists, no_database_to_drop, unknown_database, null_column, table_exists, unknown_table, unknown_column, duplicate_column, duplicate_entry, no_key_column, column_named_twice, no_such_table, wrong_value_count, value_needed, too_long, not_supported}
use Rattle.qc_sql.specs.Effects.{effect, effect_of, is_other_sort, is_too_long, may_be_null, stored, lacking, whole_row, same_values, with_value, new_column, new_key, bad_length, marked, has_one_key}

abbrev t : TableName
t = record { db = codes "d"; name = codes "t" }

abbrev here : Name → TableRef
here name = record { db = None; name = name }

-- a text of at most two bytes that must be there, the key, and a number
abbrev name_column : Column
name_column = record { name = codes "n"; kind = kind.Str 2; not_null = true; primary = false }

abbrev key_column : Column
key_column = record { name = codes "k"; kind = kind.Int; not_null = true; primary = true }

abbrev sum_column : Column
sum_column = record { name = codes "s"; kind = kind.Int; not_null = false; primary = false }

abbrev row : List ℕ → ℤ → Value → List Value
row text key number = value.Str text ∷ value.Int key ∷ number ∷ []

abbrev d : Database
d = (codes "d", (codes "t", record { columns = name_column ∷ key_column ∷ sum_column ∷ []; rows = (neg_ℤ (pos 1), row (codes "a") (neg_ℤ (pos 1)) value.Null) ∷ (pos 5, row (codes "b") (pos 5) (value.Int (pos 9))) ∷ [] }) ∷ []) ∷ (codes "e", []) ∷ []

-- ---- values for columns

text_for_number : is_other_sort kind.Int (value.Str []) ≡ true
text_for_number = refl

number_for_text : is_other_sort (kind.Str 3) (value.Int (pos 0)) ≡ true
number_for_text = refl

null_for_text : is_other_sort (kind.Str 3) value.Null ≡ false
null_for_text = refl

as_long : is_too_long (kind.Str 2) (value.Str (codes "ab")) ≡ false
as_long = refl

longer : is_too_long (kind.Str 2) (value.Str (codes "abc")) ≡ true
longer = refl

-- a number has no length
number_is_short : is_too_long kind.Int (value.Int (pos 12345)) ≡ false
number_is_short = refl

-- a key is never NULL, also where NOT NULL isn't said
key_is_there : may_be_null (record { name = codes "k"; kind = kind.Int; not_null = false; primary = true }) ≡ false
key_is_there = refl

number_may_lack : may_be_null sum_column ≡ true
number_may_lack = refl

null_stored : stored sum_column value.Null ≡ Ok value.Null
null_stored = refl

null_refused : stored name_column value.Null ≡ Err (null_column (codes "n"))
null_refused = refl

long_refused : stored name_column (value.Str (codes "abc")) ≡ Err (too_long (codes "n"))
long_refused = refl

-- ---- INSERT

abbrev insert : Option (List Name) → List (List Value) → Statement
insert names rows = statement.Insert (record { table = here (codes "t"); names = names; rows = rows })

-- s isn't named, so it is NULL; each value goes to its column
two_rows : effect (insert (Some (codes "k" ∷ codes "n" ∷ [])) ((value.Int (pos 7) ∷ value.Str (codes "x") ∷ []) ∷ (value.Int (pos 0) ∷ value.Str [] ∷ []) ∷ [])) d (codes "d") 1
    ≡ Ok (effect_of (op.Put t (row (codes "x") (pos 7) value.Null) ∷ op.Put t (row [] (pos 0) value.Null) ∷ []) 2)
unfolding effect
two_rows = refl

-- a key twice in one statement; the first row is good
key_twice : effect (insert None (row (codes "x") (pos 7) value.Null ∷ row (codes "y") (pos 7) value.Null ∷ [])) d (codes "d") 1 ≡ Err (duplicate_entry (pos 7))
unfolding effect digits
key_twice = refl

key_there : effect (insert None (row (codes "x") (neg_ℤ (pos 1)) value.Null ∷ [])) d (codes "d") 1 ≡ Err (duplicate_entry (neg_ℤ (pos 1)))
unfolding effect digits
key_there = refl

-- the second tuple has a value too few
short_tuple : effect (insert None (row (codes "x") (pos 7) value.Null ∷ (value.Str (codes "y") ∷ value.Int (pos 8) ∷ []) ∷ [])) d (codes "d") 1 ≡ Err (wrong_value_count 2)
unfolding effect digits
short_tuple = refl

-- a name that isn't there comes before one that stands twice, name by name
unknown_name : effect (insert (Some (codes "k" ∷ codes "x" ∷ codes "k" ∷ [])) ([] ∷ [])) d (codes "d") 1 ≡ Err (unknown_column (codes "x"))
unfolding effect
unknown_name = refl

named_twice : effect (insert (Some (codes "k" ∷ codes "k" ∷ codes "x" ∷ [])) ([] ∷ [])) d (codes "d") 1 ≡ Err (column_named_twice (codes "k"))
unfolding effect
named_twice = refl

-- n has to be there, which is seen before the number of values
needed : effect (insert (Some (codes "k" ∷ [])) ([] ∷ [])) d (codes "d") 1 ≡ Err (value_needed (codes "n"))
unfolding effect
needed = refl

-- the key is needed as well: the first column that lacks
key_needed : lacking (key_column ∷ name_column ∷ []) (name_column ∷ []) ≡ Some key_column
key_needed = refl

none_lacks : lacking (key_column ∷ sum_column ∷ []) (key_column ∷ []) ≡ None
none_lacks = refl

-- in the order of the tuple: the number for n is seen before the text for k
mixed : effect (insert None ((value.Int (pos 1) ∷ value.Str [] ∷ value.Null ∷ []) ∷ [])) d (codes "d") 1 ≡ Err (not_supported (codes "mixed value"))
unfolding effect
mixed = refl

-- a value that is too long is seen before a key that is there
long_before_key : effect (insert None (row (codes "abc") (pos 5) value.Null ∷ [])) d (codes "d") 1 ≡ Err (too_long (codes "n"))
unfolding effect
long_before_key = refl

no_database : effect (insert None []) d [] 1 ≡ Err no_database_selected
unfolding effect
no_database = refl

no_table : effect (insert None []) d (codes "e") 1 ≡ Err (no_such_table (record { db = codes "e"; name = codes "t" }))
unfolding effect
no_table = refl

row_is_whole : whole_row (name_column ∷ key_column ∷ sum_column ∷ []) ((codes "s", value.Int (pos 3)) ∷ (codes "k", value.Int (pos 4)) ∷ []) ≡ value.Null ∷ value.Int (pos 4) ∷ value.Int (pos 3) ∷ []
row_is_whole = refl

-- ---- UPDATE and DELETE

abbrev update : List Assignment → Statement
update sets = statement.Update (record { table = here (codes "t"); sets = sets; cond = None })

abbrev set : Name → Value → Assignment
set name v = record { name = name; right = right.Literal v }

-- the second row has this number already
one_changes : effect (update (set (codes "s") (value.Int (pos 9)) ∷ [])) d (codes "d") 1 ≡ Ok (effect_of (op.Put t (row (codes "a") (neg_ℤ (pos 1)) (value.Int (pos 9))) ∷ []) 1)
unfolding effect
one_changes = refl

-- s gets the key of its own row; both rows change
own_key : effect (update (record { name = codes "s"; right = right.Column (codes "k") } ∷ [])) d (codes "d") 1
    ≡ Ok (effect_of (op.Put t (row (codes "a") (neg_ℤ (pos 1)) (value.Int (neg_ℤ (pos 1)))) ∷ op.Put t (row (codes "b") (pos 5) (value.Int (pos 5))) ∷ []) 2)
unfolding effect
own_key = refl

-- from left to right: b gets what a has got, and not what it had
abbrev pair : Database
pair = (codes "d", (codes "t", record { columns = key_column ∷ record { name = codes "a"; kind = kind.Int; not_null = false; primary = false } ∷ record { name = codes "b"; kind = kind.Int; not_null = false; primary = false } ∷ []; rows = (pos 1, value.Int (pos 1) ∷ value.Int (pos 2) ∷ value.Int (pos 3) ∷ []) ∷ [] }) ∷ []) ∷ []

from_left : effect (update (set (codes "a") (value.Int (pos 7)) ∷ record { name = codes "b"; right = right.Column (codes "a") } ∷ [])) pair (codes "d") 1
    ≡ Ok (effect_of (op.Put t (value.Int (pos 1) ∷ value.Int (pos 7) ∷ value.Int (pos 7) ∷ []) ∷ []) 1)
unfolding effect
from_left = refl

-- assigned twice, the last value stays: for the second row it is the one that it had
assigned_twice : effect (update (set (codes "s") (value.Int (pos 1)) ∷ set (codes "s") (value.Int (pos 9)) ∷ [])) d (codes "d") 1
    ≡ Ok (effect_of (op.Put t (row (codes "a") (neg_ℤ (pos 1)) (value.Int (pos 9))) ∷ []) 1)
unfolding effect
assigned_twice = refl

key_change : effect (update (set (codes "k") (value.Int (pos 1)) ∷ [])) d (codes "d") 1 ≡ Err (not_supported (codes "key change"))
unfolding effect
key_change = refl

-- the first assignment is refused in a row, the second by itself: what is validated without rows comes first
validated_first : effect (update (set (codes "n") value.Null ∷ set (codes "x") value.Null ∷ [])) d (codes "d") 1 ≡ Err (unknown_column (codes "x"))
unfolding effect
validated_first = refl

null_in_a_row : effect (update (set (codes "n") value.Null ∷ [])) d (codes "d") 1 ≡ Err (null_column (codes "n"))
unfolding effect
null_in_a_row = refl

mixed_right_side : effect (update (record { name = codes "n"; right = right.Column (codes "s") } ∷ [])) d (codes "d") 1 ≡ Err (not_supported (codes "mixed value"))
unfolding effect
mixed_right_side = refl

same_rows : same_values (value.Null ∷ value.Str (codes "a") ∷ []) (value.Null ∷ value.Str (codes "a") ∷ []) ≡ true
same_rows = refl

-- 0 isn't NULL
other_rows : same_values (value.Null ∷ []) (value.Int (pos 0) ∷ []) ≡ false
other_rows = refl

longer_rows : same_values (value.Null ∷ []) (value.Null ∷ value.Null ∷ []) ≡ false
longer_rows = refl

value_put : with_value (codes "b") value.Null ((codes "a", value.Int (pos 1)) ∷ (codes "b", value.Int (pos 2)) ∷ []) ≡ (codes "a", value.Int (pos 1)) ∷ (codes "b", value.Null) ∷ []
value_put = refl

deleted : effect (statement.Delete (record { table = record { db = Some (codes "d"); name = codes "t" }; cond = None })) d (codes "e") 1 ≡ Ok (effect_of (op.Del t (neg_ℤ (pos 1)) ∷ op.Del t (pos 5) ∷ []) 2)
unfolding effect
deleted = refl

-- ---- CREATE, DROP and TRUNCATE

abbrev big : Name → Part
big name = part.Column name part_kind.BigInt false false

abbrev create : Name → List Part → Statement
create name parts = statement.CreateTable (here name) parts

created : effect (create (codes "w") (part.Column (codes "v") (part_kind.VarChar 65535) true false ∷ part.Column (codes "k") part_kind.BigInt false true ∷ [])) d (codes "e") 1
    ≡ Ok (effect_of (op.CreateTable (record { db = codes "e"; name = codes "w" }) (record { name = codes "v"; kind = kind.Str 65535; not_null = true; primary = false } ∷ key_column ∷ []) ∷ []) 0)
unfolding effect
created = refl

-- the first name from the left that an earlier column has; PRIMARY KEY (z) would come later
repeated : effect (create (codes "w") (big (codes "a") ∷ big (codes "b") ∷ big (codes "b") ∷ big (codes "a") ∷ part.Primary (codes "z") ∷ [])) d (codes "e") 1 ≡ Err (duplicate_column (codes "b"))
unfolding effect
repeated = refl

no_key : effect (create (codes "w") (big (codes "a") ∷ part.Primary (codes "z") ∷ [])) d (codes "e") 1 ≡ Err (no_key_column (codes "z"))
unfolding effect
no_key = refl

-- two keys, and a length that is too large: the key is told
two_keys : effect (create (codes "w") (part.Column (codes "a") part_kind.BigInt false true ∷ part.Column (codes "b") (part_kind.VarChar 0) false false ∷ part.Primary (codes "a") ∷ [])) d (codes "e") 1 ≡ Err (not_supported (codes "primary key"))
unfolding effect
two_keys = refl

text_key : effect (create (codes "w") (part.Column (codes "a") (part_kind.VarChar 5) false true ∷ [])) d (codes "e") 1 ≡ Err (not_supported (codes "primary key"))
unfolding effect
text_key = refl

no_length : effect (create (codes "w") (part.Column (codes "a") part_kind.BigInt false true ∷ part.Column (codes "b") (part_kind.VarChar 0) false false ∷ [])) d (codes "e") 1 ≡ Err (not_supported (codes "VARCHAR length"))
unfolding effect
no_length = refl

-- a table that is there is told before anything of its columns
there_already : effect (create (codes "t") (big (codes "a") ∷ big (codes "a") ∷ [])) d (codes "d") 1 ≡ Err (table_exists t)
unfolding effect
there_already = refl

no_such_database : effect (create (codes "t") []) d (codes "f") 1 ≡ Err (unknown_database (codes "f"))
unfolding effect
no_such_database = refl

length_at_the_limit : bad_length (part.Column (codes "a") (part_kind.VarChar 65535) false false) ≡ false
length_at_the_limit = refl

length_above : bad_length (part.Column (codes "a") (part_kind.VarChar 65536) false false) ≡ true
length_above = refl

number_has_none : bad_length (big (codes "a")) ≡ false
number_has_none = refl

marked_by_name : marked (codes "s" ∷ []) sum_column ≡ record { name = codes "s"; kind = kind.Int; not_null = true; primary = true }
marked_by_name = refl

not_marked : marked (codes "k" ∷ []) sum_column ≡ sum_column
not_marked = refl

one_key : has_one_key (sum_column ∷ []) (codes "s" ∷ []) (marked (codes "s" ∷ []) sum_column ∷ []) ≡ true
one_key = refl

without_key : has_one_key (sum_column ∷ []) [] (sum_column ∷ []) ≡ false
without_key = refl

column_of_part : new_column (part.Primary (codes "a")) ≡ None
column_of_part = refl

key_of_part : new_key (part.Primary (codes "a")) ≡ Some (codes "a")
key_of_part = refl

no_key_of_part : new_key (big (codes "a")) ≡ None
no_key_of_part = refl

-- the table comes back with its columns and without its rows
truncated : effect (statement.Truncate (here (codes "t"))) d (codes "d") 1 ≡ Ok (effect_of (op.DropTable t ∷ op.CreateTable t (name_column ∷ key_column ∷ sum_column ∷ []) ∷ []) 0)
unfolding effect
truncated = refl

truncated_none : effect (statement.Truncate (here (codes "u"))) d (codes "d") 1 ≡ Err (no_such_table (record { db = codes "d"; name = codes "u" }))
unfolding effect
truncated_none = refl

dropped : effect (statement.DropTable (here (codes "t"))) d (codes "d") 1 ≡ Ok (effect_of (op.DropTable t ∷ []) 0)
unfolding effect
dropped = refl

-- to drop a table that isn't there is another error than to read it
dropped_none : effect (statement.DropTable (here (codes "u"))) d (codes "d") 1 ≡ Err (unknown_table (record { db = codes "d"; name = codes "u" }))
unfolding effect
dropped_none = refl

-- the number of its tables is told
database_dropped : effect (statement.DropDb (codes "d")) d [] 1 ≡ Ok (effect_of (op.DropDb (codes "d") ∷ []) 1)
unfolding effect
database_dropped = refl

empty_database_dropped : effect (statement.DropDb (codes "e")) d (codes "e") 1 ≡ Ok (effect_of (op.DropDb (codes "e") ∷ []) 0)
unfolding effect
empty_database_dropped = refl

no_database_dropped : effect (statement.DropDb (codes "f")) d [] 1 ≡ Err (no_database_to_drop (codes "f"))
unfolding effect
no_database_dropped = refl

database_made : effect (statement.CreateDb (codes "D")) d [] 1 ≡ Ok (effect_of (op.CreateDb (codes "D") ∷ []) 1)
unfolding effect
database_made = refl

database_there : effect (statement.CreateDb (codes "e")) d [] 1 ≡ Err (database_exists (codes "e"))
unfolding effect
database_there = refl
