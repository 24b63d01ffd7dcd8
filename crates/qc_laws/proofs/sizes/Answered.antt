-- Steps that may be refused: what they give has a property, and a refusal is of bounded size.
use Rattle.std.proofs.Common.{◌≡◌, ℕ, suc, ◌≤◌, Bool, true, false, List, [], ◌∷◌, ◌++◌, length, refl, ap, cond, arith, Option, Some, None, Result, Ok, Err, subst}
use Rattle.std.specs.Prelude.{codes, nat_le, nat_lt, take, ◌^◌, ℤ}
use Rattle.std.specs.Fmt.{decimal, signed_decimal}
use Rattle.std.specs.List.{AllByRecursion}
use Rattle.std.proofs.lemmas.List.{length-map, length-append, length-take}
use Rattle.std.proofs.lemmas.Bool.{leb-true, ltb-true}
use Rattle.qc_types.specs.declared.names.TableName.{TableName}
use Rattle.qc_types.specs.declared.sql_error.SqlError.{SqlError}
use Rattle.qc_sql.specs.Database.{Name}
use Rattle.qc_sql.specs.Rules.{in_capitals, capital}
use Rattle.qc_sql.specs.Errors.{error_of, dotted, no_database_selected, too_many_combinations, too_many_columns, unknown_database, ambiguous_column, unknown_column, name_not_unique, database_exists, no_database_to_drop, null_column, duplicate_column, no_key_column, column_named_twice, value_needed, too_long, no_such_table, table_full, table_exists, unknown_table, duplicate_entry, wrong_value_count, not_supported}
use Rattle.qc_sql.specs.Rows.{◌>>=◌, each, refuse_if, refuse_some}
use Rattle.qc_laws.specs.sizes.Names.{is_short, passes_if_there}
use Rattle.qc_laws.specs.sizes.Replies.{FitsError}
use Rattle.qc_laws.proofs.sizes.Decimals.{decimal_few, signed_few}

-- ---- the errors

pub short_few : (name : Name) → is_short name ≡ true → length name ≤ 64
short_few name h = leb-true (length name) 64 h

-- a fixed text, and something short behind it
named_fits : (code : ℕ) (state text name : List ℕ) → nat_lt code (2 ^ 16) ≡ true → length state ≡ 5 → nat_le (length text) 64 ≡ true → length name ≤ 129 → FitsError (error_of code state (text ++ name))
named_fits code state text name c s t h = record { code = ltb-true code (2 ^ 16) c; state = s; message = simp length-append (omega (arith, leb-true (length text) 64 t)) }

-- a fixed text alone
fixed_fits : (code : ℕ) (state text : List ℕ) → nat_lt code (2 ^ 16) ≡ true → length state ≡ 5 → nat_le (length text) 64 ≡ true → FitsError (error_of code state text)
fixed_fits code state text c s t = record { code = ltb-true code (2 ^ 16) c; state = s; message = omega (arith, leb-true (length text) 64 t) }

name_few : (name : Name) → is_short name ≡ true → length name ≤ 129
name_few name h = omega (arith, short_few name h)

dotted_few : (t : TableName) → is_short t.db ≡ true → is_short t.name ≡ true → length (dotted t) ≤ 129
dotted_few t d n = simp length-append (omega (arith, short_few t.db d, short_few t.name n))

pub no_database_selected_fits : FitsError no_database_selected
no_database_selected_fits = fixed_fits 1046 (codes "3D000") (codes "No database selected") refl refl refl

pub too_many_combinations_fits : FitsError too_many_combinations
too_many_combinations_fits = fixed_fits 1104 (codes "42000") (codes "Too many row combinations") refl refl refl

pub too_many_columns_fits : FitsError too_many_columns
too_many_columns_fits = fixed_fits 1117 (codes "HY000") (codes "Too many columns") refl refl refl

pub unknown_database_fits : (name : Name) → FitsError (unknown_database name)
unknown_database_fits name = named_fits 1049 (codes "42000") (codes "Unknown database: ") (take 64 name) refl refl refl (omega (arith, length-take 64 name))

pub ambiguous_column_fits : (name : Name) → is_short name ≡ true → FitsError (ambiguous_column name)
ambiguous_column_fits name h = named_fits 1052 (codes "23000") (codes "Column is ambiguous: ") name refl refl refl (name_few name h)

pub unknown_column_fits : (name : Name) → is_short name ≡ true → FitsError (unknown_column name)
unknown_column_fits name h = named_fits 1054 (codes "42S22") (codes "Unknown column: ") name refl refl refl (name_few name h)

pub name_not_unique_fits : (name : Name) → is_short name ≡ true → FitsError (name_not_unique name)
name_not_unique_fits name h = named_fits 1066 (codes "42000") (codes "Table name is not unique: ") name refl refl refl (name_few name h)

pub database_exists_fits : (name : Name) → is_short name ≡ true → FitsError (database_exists name)
database_exists_fits name h = named_fits 1007 (codes "HY000") (codes "Database exists: ") name refl refl refl (name_few name h)

pub no_database_to_drop_fits : (name : Name) → is_short name ≡ true → FitsError (no_database_to_drop name)
no_database_to_drop_fits name h = named_fits 1008 (codes "HY000") (codes "No such database to drop: ") name refl refl refl (name_few name h)

pub null_column_fits : (name : Name) → is_short name ≡ true → FitsError (null_column name)
null_column_fits name h = named_fits 1048 (codes "23000") (codes "Column cannot be null: ") name refl refl refl (name_few name h)

pub duplicate_column_fits : (name : Name) → is_short name ≡ true → FitsError (duplicate_column name)
duplicate_column_fits name h = named_fits 1060 (codes "42S21") (codes "Duplicate column: ") name refl refl refl (name_few name h)

pub no_key_column_fits : (name : Name) → is_short name ≡ true → FitsError (no_key_column name)
no_key_column_fits name h = named_fits 1072 (codes "42000") (codes "Key column is not there: ") name refl refl refl (name_few name h)

pub column_named_twice_fits : (name : Name) → is_short name ≡ true → FitsError (column_named_twice name)
column_named_twice_fits name h = named_fits 1110 (codes "42000") (codes "Column named twice: ") name refl refl refl (name_few name h)

pub value_needed_fits : (name : Name) → is_short name ≡ true → FitsError (value_needed name)
value_needed_fits name h = named_fits 1364 (codes "HY000") (codes "Column needs a value: ") name refl refl refl (name_few name h)

pub too_long_fits : (name : Name) → is_short name ≡ true → FitsError (too_long name)
too_long_fits name h = named_fits 1406 (codes "22001") (codes "Value too long for column: ") name refl refl refl (name_few name h)

pub no_such_table_fits : (t : TableName) → is_short t.db ≡ true → is_short t.name ≡ true → FitsError (no_such_table t)
no_such_table_fits t d n = named_fits 1146 (codes "42S02") (codes "No such table: ") (dotted t) refl refl refl (dotted_few t d n)

pub table_full_fits : (t : TableName) → is_short t.db ≡ true → is_short t.name ≡ true → FitsError (table_full t)
table_full_fits t d n = named_fits 1114 (codes "HY000") (codes "Table is full: ") (dotted t) refl refl refl (dotted_few t d n)

pub table_exists_fits : (t : TableName) → is_short t.db ≡ true → is_short t.name ≡ true → FitsError (table_exists t)
table_exists_fits t d n = named_fits 1050 (codes "42S01") (codes "Table exists: ") (dotted t) refl refl refl (dotted_few t d n)

pub unknown_table_fits : (t : TableName) → is_short t.db ≡ true → is_short t.name ≡ true → FitsError (unknown_table t)
unknown_table_fits t d n = named_fits 1051 (codes "42S02") (codes "Unknown table: ") (dotted t) refl refl refl (dotted_few t d n)

pub duplicate_entry_fits : (key : ℤ) → FitsError (duplicate_entry key)
duplicate_entry_fits key = named_fits 1062 (codes "23000") (codes "Duplicate entry: ") (signed_decimal key) refl refl refl (omega (arith, signed_few key))

pub wrong_value_count_fits : (row : ℕ) → FitsError (wrong_value_count row)
wrong_value_count_fits row = named_fits 1136 (codes "21S01") (codes "Wrong number of values in row ") (decimal row) refl refl refl (omega (arith, decimal_few row))

-- a fixed text
pub not_supported_fits : (what : List ℕ) → nat_le (length what) 129 ≡ true → FitsError (not_supported what)
not_supported_fits what h = named_fits 1235 (codes "42000") (codes "Not supported: ") what refl refl refl (leb-true (length what) 129 h)

pub word_not_supported_fits : (word : Name) → is_short word ≡ true → FitsError (not_supported (in_capitals word))
word_not_supported_fits word h = named_fits 1235 (codes "42000") (codes "Not supported: ") (in_capitals word) refl refl refl (omega (arith, length-map word capital, short_few word h))

-- ---- the steps

abbrev pub Answers : {A : Type 0} → (A → Type 0) → Result A SqlError → Type 0
Answers P (Ok x) = P x
Answers P (Err e) = FitsError e

pub record Answered {A : Type 0} (P : A → Type 0) (r : Result A SqlError) : Type 0 where
  pub is : Answers P r

abbrev pub Anything : {A : Type 0} → A → Type 0
Anything x = Unit {0}

pub gives : {A : Type 0} {P : A → Type 0} {x : A} → P x → Answered P (Ok x)
gives h = record { is = h }

pub refuses : {A : Type 0} {P : A → Type 0} {e : SqlError} → FitsError e → Answered P (Err e)
refuses h = record { is = h }

after_answers : {A B : Type 0} (P : A → Type 0) (Q : B → Type 0) (r : Result A SqlError) (f : A → Result B SqlError) → Answers P r → ((x : A) → P x → Answered Q (f x)) → Answered Q (r >>= f)
after_answers P Q (Ok x) f h k = k x h
after_answers P Q (Err e) f h k = record { is = h }

pub after : {A B : Type 0} {P : A → Type 0} {Q : B → Type 0} {r : Result A SqlError} (f : A → Result B SqlError) → Answered P r → ((x : A) → P x → Answered Q (f x)) → Answered Q (r >>= f)
after {P = P} {Q = Q} {r = r} f h k = after_answers P Q r f h.is k

pub chosen : {A : Type 0} {P : A → Type 0} {r s : Result A SqlError} (b : Bool) → Answered P r → Answered P s → Answered P (cond b r s)
chosen true h g = h
chosen false h g = g

weaker_answers : {A : Type 0} (P Q : A → Type 0) → ((x : A) → P x → Q x) → (r : Result A SqlError) → Answers P r → Answers Q r
weaker_answers P Q k (Ok x) h = k x h
weaker_answers P Q k (Err e) h = h

pub weaker : {A : Type 0} {P Q : A → Type 0} {r : Result A SqlError} → ((x : A) → P x → Q x) → Answered P r → Answered Q r
weaker {P = P} {Q = Q} {r = r} k h = record { is = weaker_answers P Q k r h.is }

-- what isn't refused didn't pass the test
pub unless : (b : Bool) (e : SqlError) → FitsError e → Answered (λ _. b ≡ false) (refuse_if b e)
unless true e h = record { is = h }
unless false e h = record { is = refl }

pub unless_some : (o : Option Name) (f : Name → SqlError) → passes_if_there is_short o ≡ true → ((n : Name) → is_short n ≡ true → FitsError (f n)) → Answered Anything (refuse_some o f)
unless_some None f h k = record { is = tt }
unless_some (Some n) f h k = record { is = k n h }

-- as many as there are steps
abbrev pub Counted : {A : Type 0} → ℕ → (A → Type 0) → List A → Type 0
Counted n P xs = (length xs ≡ n) × AllByRecursion P xs

pub each_answered : {A B : Type 0} (P : A → Type 0) (Q : B → Type 0) (f : A → Result B SqlError) → ((x : A) → P x → Answered Q (f x)) → (xs : List A) → AllByRecursion P xs → Answered (Counted (length xs) Q) (each f xs)
each_answered P Q f k [] h = record { is = (refl, tt) }
each_answered P Q f k (x ∷ xs) h =
    after (λ y. each f xs >>= λ ys. Ok (y ∷ ys)) (k x h.0) (λ y g. after (λ ys. Ok (y ∷ ys)) (each_answered P Q f k xs h.1) (λ ys e. record { is = (ap suc e.0, (g, e.1)) }))

pub refusal_fits : {A : Type 0} (P : A → Type 0) (r : Result A SqlError) (e : SqlError) → Answered P r → r ≡ Err e → FitsError e
refusal_fits P r e h same = let g = subst (Answers P) same h.is in g

pub given_has : {A : Type 0} (P : A → Type 0) (r : Result A SqlError) (x : A) → Answered P r → r ≡ Ok x → P x
given_has P r x h same = let g = subst (Answers P) same h.is in g
