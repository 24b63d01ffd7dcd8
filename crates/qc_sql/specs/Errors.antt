-- The errors of the profile: code, state and text.
use Rattle.std.specs.Prelude.{ℕ, ℤ, List, ◌++◌, codes, take, decimal}
use Rattle.std.specs.Fmt.{signed_decimal}
use Rattle.qc_types.specs.declared.names.TableName.{TableName}
use Rattle.qc_types.specs.declared.sql_error.SqlError.{SqlError}

abbrev pub error_of : ℕ → List ℕ → List ℕ → SqlError
error_of code state message = record { code = code; state = state; message = message }

-- database.table
abbrev pub dotted : TableName → List ℕ
dotted t = t.db ++ codes "." ++ t.name

abbrev pub database_exists : List ℕ → SqlError
database_exists name = error_of 1007 (codes "HY000") (codes "Database exists: " ++ name)

abbrev pub no_database_to_drop : List ℕ → SqlError
no_database_to_drop name = error_of 1008 (codes "HY000") (codes "No such database to drop: " ++ name)

abbrev pub too_many_connections : SqlError
too_many_connections = error_of 1040 (codes "08004") (codes "Too many connections")

abbrev pub no_database_selected : SqlError
no_database_selected = error_of 1046 (codes "3D000") (codes "No database selected")

abbrev pub unknown_command : SqlError
unknown_command = error_of 1047 (codes "08S01") (codes "Unknown command")

abbrev pub unknown_database : List ℕ → SqlError
unknown_database name = error_of 1049 (codes "42000") (codes "Unknown database: " ++ take 64 name)

abbrev pub ambiguous_column : List ℕ → SqlError
ambiguous_column name = error_of 1052 (codes "23000") (codes "Column is ambiguous: " ++ name)

abbrev pub unknown_column : List ℕ → SqlError
unknown_column name = error_of 1054 (codes "42S22") (codes "Unknown column: " ++ name)

abbrev pub syntax_error : ℕ → SqlError
syntax_error at = error_of 1064 (codes "42000") (codes "Syntax error at byte " ++ decimal at)

abbrev pub name_not_unique : List ℕ → SqlError
name_not_unique name = error_of 1066 (codes "42000") (codes "Table name is not unique: " ++ name)

abbrev pub too_many_combinations : SqlError
too_many_combinations = error_of 1104 (codes "42000") (codes "Too many row combinations")

abbrev pub table_full : TableName → SqlError
table_full t = error_of 1114 (codes "HY000") (codes "Table is full: " ++ dotted t)

abbrev pub too_many_tables : SqlError
too_many_tables = error_of 1116 (codes "HY000") (codes "Too many tables")

abbrev pub too_many_columns : SqlError
too_many_columns = error_of 1117 (codes "HY000") (codes "Too many columns")

abbrev pub no_such_table : TableName → SqlError
no_such_table t = error_of 1146 (codes "42S02") (codes "No such table: " ++ dotted t)

abbrev pub unknown_variable : List ℕ → SqlError
unknown_variable name = error_of 1193 (codes "HY000") (codes "Unknown system variable: " ++ name)

abbrev pub write_conflict : SqlError
write_conflict = error_of 1213 (codes "40001") (codes "Write conflict; transaction rolled back")

abbrev pub wrong_value : List ℕ → SqlError
wrong_value name = error_of 1231 (codes "42000") (codes "Wrong value for variable: " ++ name)

abbrev pub not_supported : List ℕ → SqlError
not_supported what = error_of 1235 (codes "42000") (codes "Not supported: " ++ what)

abbrev pub null_column : List ℕ → SqlError
null_column name = error_of 1048 (codes "23000") (codes "Column cannot be null: " ++ name)

abbrev pub table_exists : TableName → SqlError
table_exists t = error_of 1050 (codes "42S01") (codes "Table exists: " ++ dotted t)

abbrev pub unknown_table : TableName → SqlError
unknown_table t = error_of 1051 (codes "42S02") (codes "Unknown table: " ++ dotted t)

abbrev pub duplicate_column : List ℕ → SqlError
duplicate_column name = error_of 1060 (codes "42S21") (codes "Duplicate column: " ++ name)

abbrev pub duplicate_entry : ℤ → SqlError
duplicate_entry key = error_of 1062 (codes "23000") (codes "Duplicate entry: " ++ signed_decimal key)

abbrev pub no_key_column : List ℕ → SqlError
no_key_column name = error_of 1072 (codes "42000") (codes "Key column is not there: " ++ name)

abbrev pub column_named_twice : List ℕ → SqlError
column_named_twice name = error_of 1110 (codes "42000") (codes "Column named twice: " ++ name)

abbrev pub wrong_value_count : ℕ → SqlError
wrong_value_count row = error_of 1136 (codes "21S01") (codes "Wrong number of values in row " ++ decimal row)

abbrev pub value_needed : List ℕ → SqlError
value_needed name = error_of 1364 (codes "HY000") (codes "Column needs a value: " ++ name)

abbrev pub too_long : List ℕ → SqlError
too_long name = error_of 1406 (codes "22001") (codes "Value too long for column: " ++ name)
