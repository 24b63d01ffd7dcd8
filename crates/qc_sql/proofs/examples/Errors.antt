-- Errors with what they tell: the texts of a name, a key and a place, and a name that is cut.
use Rattle.std.proofs.Common.{◌≡◌, refl}
use Rattle.std.specs.Prelude.{codes, neg_ℤ, pos, replicate, ◌++◌}
use Rattle.std.specs.Fmt.{digits}
use Rattle.qc_types.specs.declared.names.TableName.{TableName}
use Rattle.qc_sql.specs.Errors.{error_of, dotted, unknown_database, duplicate_entry, wrong_value_count, syntax_error, unknown_table, write_conflict, null_column, table_full}

users : TableName
users = record { db = codes "shop"; name = codes "users" }

-- the name of the database, a dot, and the table's own name
name_of_a_table : dotted users ≡ codes "shop.users"
unfolding users
name_of_a_table = refl

-- a dot in a name is a byte like others
name_with_a_dot : dotted (record { db = codes "a.b"; name = codes "c" }) ≡ codes "a.b.c"
name_with_a_dot = refl

-- a name may be empty in the definition: the dot stays
name_of_nothing : dotted (record { db = codes ""; name = codes "" }) ≡ codes "."
name_of_nothing = refl

-- DROP TABLE of a table that isn't there
table_to_drop : unknown_table users ≡ error_of 1051 (codes "42S02") (codes "Unknown table: shop.users")
unfolding users
table_to_drop = refl

-- a table that would have too many rows
full : table_full users ≡ error_of 1114 (codes "HY000") (codes "Table is full: shop.users")
unfolding users
full = refl

-- a name of 64 bytes is told whole
whole_name : unknown_database (replicate 64 120) ≡ error_of 1049 (codes "42000") (codes "Unknown database: " ++ replicate 64 120)
whole_name = refl

-- of a name of 65 bytes the last one is cut off
cut_name : unknown_database (replicate 64 120 ++ codes "y") ≡ error_of 1049 (codes "42000") (codes "Unknown database: " ++ replicate 64 120)
cut_name = refl

-- no name at all
no_name : unknown_database (codes "") ≡ error_of 1049 (codes "42000") (codes "Unknown database: ")
no_name = refl

-- a key is told in decimal, with its sign
negative_key : duplicate_entry (neg_ℤ (pos 120)) ≡ error_of 1062 (codes "23000") (codes "Duplicate entry: -120")
unfolding digits
negative_key = refl

key_zero : duplicate_entry (pos 0) ≡ error_of 1062 (codes "23000") (codes "Duplicate entry: 0")
unfolding digits
key_zero = refl

-- the least number that a BIGINT holds
least_key : duplicate_entry (neg_ℤ (pos 9223372036854775808)) ≡ error_of 1062 (codes "23000") (codes "Duplicate entry: -9223372036854775808")
unfolding digits
least_key = refl

-- rows are counted from 1, and places from 0
tenth_row : wrong_value_count 10 ≡ error_of 1136 (codes "21S01") (codes "Wrong number of values in row 10")
unfolding digits
tenth_row = refl

first_byte : syntax_error 0 ≡ error_of 1064 (codes "42000") (codes "Syntax error at byte 0")
unfolding digits
first_byte = refl

later_byte : syntax_error 1070 ≡ error_of 1064 (codes "42000") (codes "Syntax error at byte 1070")
unfolding digits
later_byte = refl

no_null : null_column (codes "total") ≡ error_of 1048 (codes "23000") (codes "Column cannot be null: total")
no_null = refl

conflict : write_conflict ≡ error_of 1213 (codes "40001") (codes "Write conflict; transaction rolled back")
conflict = refl
