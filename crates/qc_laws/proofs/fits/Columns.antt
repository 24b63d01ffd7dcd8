-- Columns by name, and values that fit them.
use Rattle.std.proofs.Common.{◌≡◌, ℕ, Bool, true, false, not, cond, List, [], ◌∷◌, map, length, refl, sym, ap, ◌∙◌, Option, Some, None, Result, Ok, Err, true≢false}
use Rattle.std.specs.Prelude.{◌&&◌, ◌||◌, bytes_eq, find, nat_lt, nat_le, count_by, ◌==◌}
use Rattle.std.specs.List.{list_any, AllByRecursion}
use Rattle.std.proofs.lemmas.Bool.{and_parts, and_from, or_parts, ltb-false, le-leb, not-true}
use Rattle.std.proofs.lemmas.Map.Text.{is_eq-slice_cmp}
use Rattle.qc_types.specs.declared.names.Value.{Value}
use Rattle.qc_types.specs.declared.names.Value.TheVariants as value
use Rattle.qc_types.specs.declared.sql_error.SqlError.{SqlError}
use Rattle.qc_sql.specs.declared.tables.Column.{Column}
use Rattle.qc_sql.specs.declared.tables.Kind.{Kind}
use Rattle.qc_sql.specs.declared.tables.Kind.TheVariants as kind
use Rattle.qc_sql.specs.Database.{Name}
use Rattle.qc_sql.specs.Rows.{mixes, sort_of_kind, sort_of_value, is_null}
use Rattle.qc_sql.specs.Effects.{is_other_sort, is_too_long, may_be_null, stored, column_called}
use Rattle.qc_sql.specs.Errors.{unknown_column, null_column, too_long}
use Rattle.qc_sql.proofs.Untouched.{at_is, bytes_eq_self}
use Rattle.qc_model.specs.Licence.{kind_fits, value_fits, row_fits, differ_in_name, columns_fit, most_columns, is_number_key}
use Rattle.qc_laws.proofs.fits.Maps.{some_is}
use Rattle.qc_laws.proofs.fits.Given.{found_passes, Given, gives, refuses, after, unless}

pub name_is : (n k : Name) → bytes_eq n k ≡ true → n ≡ k
name_is n k h = at_is n k (is_eq-slice_cmp n k ∙ h)

pub names_back : (n k : Name) → bytes_eq n k ≡ false → bytes_eq k n ≡ false
names_back n k h = by (bytes_eq k n) refl
  where
    by : (b : Bool) → bytes_eq k n ≡ b → bytes_eq k n ≡ false
    by false p = p
    by true p = absurd (true≢false (sym (bytes_eq_self k) ∙ ap (λ (m : Name). bytes_eq m k) (name_is k n p) ∙ h))

-- ---- columns by name

-- the column that a name calls
abbrev pub called : Name → List Column → Option Column
called name columns = find (λ c. bytes_eq c.name name) columns

-- a column that its own name calls
abbrev pub IsCalled : List Column → Column → Type 0
IsCalled columns c = called c.name columns ≡ Some c

pub called_has_name : (name : Name) (columns : List Column) (c : Column) → called name columns ≡ Some c → c.name ≡ name
called_has_name name columns c h = name_is c.name name (found_passes (λ c. bytes_eq c.name name) columns c h)

pub called_is : (name : Name) (columns : List Column) (c : Column) → called name columns ≡ Some c → IsCalled columns c
called_is name columns c h = ap (λ n. called n columns) (called_has_name name columns c h) ∙ h

pub same_column : (columns : List Column) (c d : Column) → IsCalled columns c → IsCalled columns d → c.name ≡ d.name → c ≡ d
same_column columns c d h g same = some_is c d (sym h ∙ ap (λ n. called n columns) same ∙ g)

-- where names differ, each column is called by its own
behind : (c : Column) (cs ds : List Column) → list_any (λ other. bytes_eq other.name c.name) ds ≡ false → AllByRecursion (IsCalled cs) ds → AllByRecursion (IsCalled (c ∷ cs)) ds
behind c cs [] h a = tt
behind c cs (d ∷ ds) h a =
    let parts = or_parts (bytes_eq d.name c.name) (list_any (λ other. bytes_eq other.name c.name) ds) h in
    (ap (λ b. cond b (Some c) (called d.name cs)) (names_back d.name c.name parts.0) ∙ a.0, behind c cs ds parts.1 a.1)

pub all_called : (cs : List Column) → differ_in_name cs ≡ true → AllByRecursion (IsCalled cs) cs
all_called [] h = tt
all_called (c ∷ cs) h =
    let parts = and_parts (not (list_any (λ other. bytes_eq other.name c.name) cs)) (differ_in_name cs) h in
    (ap (λ b. cond b (Some c) (called c.name cs)) (bytes_eq_self c.name), behind c cs cs (not-true (list_any (λ other. bytes_eq other.name c.name) cs) parts.0) (all_called cs parts.1))

pub columns_called : (cs : List Column) → columns_fit cs ≡ true → AllByRecursion (IsCalled cs) cs
columns_called cs h =
    let one : Bool = count_by (λ c. c.primary) cs == 1 in
    let narrow : Bool = nat_le (length cs) most_columns in
    let keyed = and_parts (narrow && differ_in_name cs && one) (list_any is_number_key cs) h in
    let counted = and_parts (narrow && differ_in_name cs) one keyed.0 in
    all_called cs (and_parts narrow (differ_in_name cs) counted.0).1

-- the column that was looked for
abbrev called_in : Name → Option Column → Result Column SqlError
called_in name None = Err (unknown_column name)
called_in name (Some c) = Ok c

called_by : (name : Name) (o : Option Column) → Given (λ c. o ≡ Some c) (called_in name o)
called_by name None = refuses
called_by name (Some c) = gives refl

pub called_given : (name : Name) (columns : List Column) → Given (λ c. called name columns ≡ Some c) (column_called name columns)
called_given name columns = called_by name (called name columns)

-- ---- values

fits_by : (k : Kind) (b : Bool) (v : Value) → mixes (sort_of_kind k) (sort_of_value v) ≡ false → (is_null v && not (not b)) ≡ false → is_too_long k v ≡ false → (kind_fits k v && not (b && is_null v)) ≡ true
fits_by k true value.Null m n l = absurd cc
fits_by k false value.Null m n l = refl
fits_by kind.Int true (value.Int i) m n l = refl
fits_by kind.Int false (value.Int i) m n l = refl
fits_by kind.Int b (value.Str t) m n l = absurd cc
fits_by (kind.Str most) b (value.Int i) m n l = absurd cc
fits_by (kind.Str most) true (value.Str t) m n l = and_from (nat_le (length t) most) true (short most t l) refl
  where
    short : (most : ℕ) (t : List ℕ) → nat_lt most (length t) ≡ false → nat_le (length t) most ≡ true
    short most t h = le-leb (length t) most (ltb-false most (length t) h)
fits_by (kind.Str most) false (value.Str t) m n l = and_from (nat_le (length t) most) true (le-leb (length t) most (ltb-false most (length t) l)) refl

-- a value that is stored fits its column
pub stored_given : (c : Column) (v : Value) → is_other_sort c.kind v ≡ false → Given (λ w. value_fits c w ≡ true) (stored c v)
stored_given c v h =
    after _ (unless (is_null v && not (may_be_null c)) (null_column c.name)) (λ _ n.
    after _ (unless (is_too_long c.kind v) (too_long c.name)) (λ _ l.
    gives (fits_by c.kind (c.not_null || c.primary) v h n l)))

-- NULL fits where it may stand
pub null_fits : (c : Column) → may_be_null c ≡ true → value_fits c value.Null ≡ true
null_fits c h = by (c.not_null || c.primary) h
  where
    by : (b : Bool) → not b ≡ true → not (b && true) ≡ true
    by false g = refl
    by true g = absurd cc

-- what fits a column is of its sort
pub fits_sort : (k l : Kind) (v : Value) → mixes (sort_of_kind k) (sort_of_kind l) ≡ false → kind_fits l v ≡ true → is_other_sort k v ≡ false
fits_sort kind.Int l value.Null m h = refl
fits_sort (kind.Str n) l value.Null m h = refl
fits_sort kind.Int l (value.Int i) m h = refl
fits_sort (kind.Str n) kind.Int (value.Int i) m h = absurd cc
fits_sort (kind.Str n) (kind.Str o) (value.Int i) m h = absurd cc
fits_sort kind.Int kind.Int (value.Str t) m h = absurd cc
fits_sort kind.Int (kind.Str o) (value.Str t) m h = absurd cc
fits_sort (kind.Str n) l (value.Str t) m h = refl

-- a row of a value for each column
pub row_from_each : (f : Column → Value) (cs : List Column) → AllByRecursion (λ c. value_fits c (f c) ≡ true) cs → row_fits cs (map f cs) ≡ true
row_from_each f [] h = refl
row_from_each f (c ∷ cs) h = and_from (value_fits c (f c)) (row_fits cs (map f cs)) h.0 (row_from_each f cs h.1)
