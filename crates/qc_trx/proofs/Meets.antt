-- Which own row a commit meets first, by what each of its operations meets.
use Rattle.std.proofs.Common.{◌≡◌, ℕ, ◌+◌, ◌≤◌, ◌<◌, ℤ, Bool, true, false, cond, List, [], ◌∷◌, ◌++◌, refl, sym, ap, ◌∙◌, Option, arith, take, drop, suc, zero, length, add-one}
use Rattle.std.specs.Prelude.{◌&&◌, ◌||◌, Some, None, nat_lt, option_map, option_and_then}
use Rattle.std.specs.List.{list_any, position_from, slice_get}
use Rattle.qc_types.specs.declared.names.TableName.{TableName}
use Rattle.qc_sql.specs.declared.tables.RowOp.{RowOp}
use Rattle.qc_sql.specs.declared.tables.RowOp.TheVariants as op
use Rattle.qc_sql.specs.Database.{Database, apply, apply_one, table_of, columns_of}
use Rattle.qc_sql.specs.Words.{◌or_else◌, when}
use Rattle.qc_model.specs.Conflicts.{Written, Row, Form, Whole, written_by, all_written, changes_form, is_row, key_in, met, first_met}
use Rattle.qc_trx.specs.declared.writes.OwnRow.{OwnRow}
use Rattle.qc_trx.specs.Writes.{own_row, own_rows, is_own, first_own, row_there, least, rows_written, written_on, meets, is_met, told}
use Rattle.qc_trx.proofs.Columns.{any_append, or_assoc, or_false, either_false, same_forms, same_rows, all_keep}

-- ---- the least number

-- a number that is found from i on isn't below i
from_on : {X : Type 0} (test : X → Bool) (i : ℕ) (xs : List X) (n : ℕ) → position_from test i xs ≡ Some n → i ≤ n
from_on test i [] n h = absurd cc
from_on test i (x ∷ xs) n h = by (test x) refl (from_on test (i + 1) xs n)
  where
    by : (b : Bool) → test x ≡ b → (position_from test (i + 1) xs ≡ Some n → i + 1 ≤ n) → i ≤ n
    by true p later = let e : Some i ≡ Some n = rw p at h in let f : i ≡ n = cc in omega arith
    by false p later = let e : position_from test (i + 1) xs ≡ Some n = rw p at h in let k = later e in omega arith

least_first : (i : ℕ) (o : Option ℕ) → ((n : ℕ) → o ≡ Some n → i ≤ n) → least (Some i) o ≡ Some i
least_first i None h = refl
least_first i (Some n) h = by (nat_lt n i) refl
  where
    by : (b : Bool) → nat_lt n i ≡ b → least (Some i) (Some n) ≡ Some i
    by false p = rw p refl
    by true p = let k = h n refl in absurd (grind (arith, p, k))

least_second : (i : ℕ) (o : Option ℕ) → ((n : ℕ) → o ≡ Some n → i + 1 ≤ n) → least o (Some i) ≡ Some i
least_second i None h = refl
least_second i (Some n) h = by (nat_lt i n) refl
  where
    by : (b : Bool) → nat_lt i n ≡ b → least (Some n) (Some i) ≡ Some i
    by true p = rw p refl
    by false p = let k = h n refl in absurd (grind (arith, p, k))

-- the first that passes one of two tests
first_of_either : {X : Type 0} (f g : X → Bool) (i : ℕ) (xs : List X) → position_from (λ x. f x || g x) i xs ≡ least (position_from f i xs) (position_from g i xs)
first_of_either f g i [] = refl
first_of_either f g i (x ∷ xs) = by (f x) (g x) refl refl (first_of_either f g (i + 1) xs)
  where
    by : (a b : Bool) → f x ≡ a → g x ≡ b → position_from (λ y. f y || g y) (i + 1) xs ≡ least (position_from f (i + 1) xs) (position_from g (i + 1) xs) → position_from (λ y. f y || g y) i (x ∷ xs) ≡ least (position_from f i (x ∷ xs)) (position_from g i (x ∷ xs))
    by true true p q later = rw (p, q) (sym (least_first i (Some i) (λ n e. let k : i ≡ n = cc in omega arith)))
    by true false p q later = rw (p, q) (sym (least_first i (position_from g (i + 1) xs) (λ n e. let k = from_on g (i + 1) xs n e in omega arith)))
    by false true p q later = rw (p, q) (sym (least_second i (position_from f (i + 1) xs) (λ n e. from_on f (i + 1) xs n e)))
    by false false p q later = rw (p, q) later

first_same : {X : Type 0} (f g : X → Bool) → ((x : X) → f x ≡ g x) → (i : ℕ) (xs : List X) → position_from f i xs ≡ position_from g i xs
first_same f g h i [] = refl
first_same f g h i (x ∷ xs) = rw (h x) (ap (λ o. cond (g x) (Some i) o) (first_same f g h (i + 1) xs))

-- the first own row of two tests, by what is the same for each row
pub first_own_either : (f g h : OwnRow → Bool) (rows : List (Option OwnRow)) → ((r : OwnRow) → f r ≡ (g r || h r)) → first_own f rows ≡ least (first_own g rows) (first_own h rows)
first_own_either f g h rows e = first_same (is_own f) (λ x. is_own g x || is_own h x) by 0 rows ∙ first_of_either (is_own g) (is_own h) 0 rows
  where
    by : (x : Option OwnRow) → is_own f x ≡ (is_own g x || is_own h x)
    by None = refl
    by (Some r) = e r

pub first_own_same : (f g : OwnRow → Bool) (rows : List (Option OwnRow)) → ((r : OwnRow) → f r ≡ g r) → first_own f rows ≡ first_own g rows
first_own_same f g rows e = first_same (is_own f) (is_own g) by 0 rows
  where
    by : (x : Option OwnRow) → is_own f x ≡ is_own g x
    by None = refl
    by (Some r) = e r

-- none passes a test that fails
pub first_own_none : (f : OwnRow → Bool) (rows : List (Option OwnRow)) → ((r : OwnRow) → f r ≡ false) → first_own f rows ≡ None
first_own_none f rows e = by 0 rows
  where
    by : (i : ℕ) (xs : List (Option OwnRow)) → position_from (is_own f) i xs ≡ None
    by i [] = refl
    by i (None ∷ xs) = by (i + 1) xs
    by i (Some r ∷ xs) = rw (e r) (by (i + 1) xs)

-- ---- the row of that number

shift : {X : Type 0} (test : X → Bool) (i : ℕ) (xs : List X) → position_from test (i + 1) xs ≡ option_map (λ n. n + 1) (position_from test i xs)
shift test i [] = refl
shift test i (x ∷ xs) = by (test x) refl (shift test (i + 1) xs)
  where
    by : (b : Bool) → test x ≡ b → position_from test (i + 1 + 1) xs ≡ option_map (λ n. n + 1) (position_from test (i + 1) xs) → position_from test (i + 1) (x ∷ xs) ≡ option_map (λ n. n + 1) (position_from test i (x ∷ xs))
    by true p later = rw p refl
    by false p later = rw p later

-- the row at a number that may be there
abbrev pub at_number : List (Option OwnRow) → Option ℕ → Option OwnRow
at_number rows o = option_and_then (λ n. option_and_then (λ row. row) (slice_get rows n)) o

behind : (x : Option OwnRow) (rows : List (Option OwnRow)) (o : Option ℕ) → at_number (x ∷ rows) (option_map (λ n. n + 1) o) ≡ at_number rows o
behind x rows None = refl
behind x rows (Some n) = rw add-one refl

pub row_found : (f : OwnRow → Bool) (rows : List (Option OwnRow)) → at_number rows (first_own f rows) ≡ row_there f rows
row_found f [] = refl
row_found f (x ∷ rows) = by (is_own f x) refl (row_found f rows)
  where
    by : (b : Bool) → is_own f x ≡ b → at_number rows (first_own f rows) ≡ row_there f rows → at_number (x ∷ rows) (first_own f (x ∷ rows)) ≡ row_there f (x ∷ rows)
    by true p later = rw p refl
    by false p later = rw p (ap (at_number (x ∷ rows)) (shift (is_own f) 0 rows) ∙ (behind x rows (first_own f rows) ∙ later))

-- ---- what an operation adds

pub met_more : (theirs more : List Written) (r : OwnRow) → is_met (theirs ++ more) r ≡ (is_met theirs r || is_met more r)
met_more theirs more r = any_append (λ w. meets w r) theirs more

-- ---- the first row that a commit meets, in the words of the definition

pub any_or : {X : Type 0} (f g : X → Bool) (xs : List X) → list_any (λ x. f x || g x) xs ≡ (list_any f xs || list_any g xs)
any_or f g [] = refl
any_or f g (x ∷ xs) = ap (λ b. (f x || g x) || b) (any_or f g xs) ∙ shuffle (f x) (g x) (list_any f xs) (list_any g xs)
  where
    shuffle : (a b c d : Bool) → ((a || b) || (c || d)) ≡ ((a || c) || (b || d))
    shuffle true b c d = refl
    shuffle false true true d = refl
    shuffle false true false d = refl
    shuffle false false true d = refl
    shuffle false false false d = refl

one_met : (r : OwnRow) (theirs : List Written) → met (Row r.table r.key) theirs ≡ cond (is_met theirs r) (Some (told theirs r)) None
one_met r theirs = by (list_any (changes_form r.table) theirs) (list_any (is_row r.table r.key) theirs) refl refl
  where
    by : (a b : Bool) → list_any (changes_form r.table) theirs ≡ a → list_any (is_row r.table r.key) theirs ≡ b → met (Row r.table r.key) theirs ≡ cond (is_met theirs r) (Some (told theirs r)) None
    by true b p q = rw (any_or (changes_form r.table) (is_row r.table r.key) theirs, p) refl
    by false true p q = rw (any_or (changes_form r.table) (is_row r.table r.key) theirs, p, q) refl
    by false false p q = rw (any_or (changes_form r.table) (is_row r.table r.key) theirs, p, q) refl

pub first_is : (rows : List (Option OwnRow)) (theirs : List Written) → first_met (rows_written rows) theirs ≡ option_map (told theirs) (row_there (is_met theirs) rows)
first_is [] theirs = refl
first_is (None ∷ rows) theirs = first_is rows theirs
first_is (Some r ∷ rows) theirs = by (is_met theirs r) refl (first_is rows theirs)
  where
    by : (b : Bool) → is_met theirs r ≡ b → first_met (rows_written rows) theirs ≡ option_map (told theirs) (row_there (is_met theirs) rows) → first_met (rows_written (Some r ∷ rows)) theirs ≡ option_map (told theirs) (row_there (is_met theirs) (Some r ∷ rows))
    by true p later = rw (one_met r theirs, p) refl
    by false p later = rw (one_met r theirs, p) later

-- ---- the rows alone can be met

pub rows_alone : (os : List RowOp) (d : Database) (theirs : List Written) → first_met (all_written os d) theirs ≡ first_met (rows_written (own_rows os d)) theirs
rows_alone [] d theirs = refl
rows_alone (op.Put t row ∷ os) d theirs = ap (λ found. met (Row t (key_in (table_of t d) row)) theirs or_else found) (rows_alone os (apply_one (op.Put t row) d) theirs)
rows_alone (op.Del t key ∷ os) d theirs = ap (λ found. met (Row t key) theirs or_else found) (rows_alone os (apply_one (op.Del t key) d) theirs)
rows_alone (op.CreateTable t columns ∷ os) d theirs = rows_alone os (apply_one (op.CreateTable t columns) d) theirs
rows_alone (op.DropTable t ∷ os) d theirs = rows_alone os (apply_one (op.DropTable t) d) theirs
rows_alone (op.CreateDb name ∷ os) d theirs = rows_alone os (apply_one (op.CreateDb name) d) theirs
rows_alone (op.DropDb name ∷ os) d theirs = rows_alone os (apply_one (op.DropDb name) d) theirs

-- ---- a commit on a database whose tables have the columns that they had

-- the tables of the rows have the same columns
abbrev pub AreKept : List (Option OwnRow) → Database → Database → Type 0
AreKept [] d e = Unit {0}
AreKept (None ∷ rows) d e = AreKept rows d e
AreKept (Some r ∷ rows) d e = (columns_of r.table d ≡ columns_of r.table e) × AreKept rows d e

pub all_kept : (rows : List (Option OwnRow)) (d : Database) → AreKept rows d d
all_kept [] d = tt
all_kept (None ∷ rows) d = all_kept rows d
all_kept (Some r ∷ rows) d = (refl, all_kept rows d)

one_same : (r : OwnRow) (os : List RowOp) (d e : Database) → columns_of r.table d ≡ columns_of r.table e → met (Row r.table r.key) (all_written os d) ≡ met (Row r.table r.key) (written_on os e)
one_same r os d e h = by (list_any (changes_form r.table) (all_written os d)) refl
  where
    forms : list_any (changes_form r.table) (all_written os d) ≡ list_any (changes_form r.table) (written_on os e)
    forms = same_forms r.table os d e

    by : (b : Bool) → list_any (changes_form r.table) (all_written os d) ≡ b → met (Row r.table r.key) (all_written os d) ≡ met (Row r.table r.key) (written_on os e)
    by true p = let q : list_any (changes_form r.table) (written_on os e) ≡ true = sym forms ∙ p in rw (p, q) refl
    by false p = let q : list_any (changes_form r.table) (written_on os e) ≡ false = sym forms ∙ p in rw (p, q) (ap (λ b. when b (r.table, Some r.key)) (same_rows r.table r.key os d e h p))

pub same_first : (rows : List (Option OwnRow)) (os : List RowOp) (d e : Database) → AreKept rows d e → first_met (rows_written rows) (all_written os d) ≡ first_met (rows_written rows) (written_on os e)
same_first [] os d e h = refl
same_first (None ∷ rows) os d e h = same_first rows os d e h
same_first (Some r ∷ rows) os d e h =
    let here = one_same r os d e h.0 in
    let there = same_first rows os d e h.1 in
    cc

quiet_form : (r : OwnRow) (theirs : List Written) (others : Option (TableName × Option ℤ)) → (met (Row r.table r.key) theirs or_else others) ≡ None → (list_any (changes_form r.table) theirs ≡ false) × (others ≡ None)
quiet_form r theirs others h = by (list_any (changes_form r.table) theirs) (list_any (is_row r.table r.key) theirs) refl refl
  where
    by : (a b : Bool) → list_any (changes_form r.table) theirs ≡ a → list_any (is_row r.table r.key) theirs ≡ b → (list_any (changes_form r.table) theirs ≡ false) × (others ≡ None)
    by true b p q = let f : Some (r.table, None) ≡ None = rw p at h in absurd cc
    by false true p q = let f : Some (r.table, Some r.key) ≡ None = rw (p, q) at h in absurd cc
    by false false p q = let f : others ≡ None = rw (p, q) at h in (p, f)

-- a commit that meets none of the rows leaves the columns of their tables
pub kept_on : (rows : List (Option OwnRow)) (os : List RowOp) (d e : Database) → AreKept rows d e → first_met (rows_written rows) (all_written os d) ≡ None → AreKept rows (apply os d) e
kept_on [] os d e k h = tt
kept_on (None ∷ rows) os d e k h = kept_on rows os d e k h
kept_on (Some r ∷ rows) os d e k h =
    let parts = quiet_form r (all_written os d) (first_met (rows_written rows) (all_written os d)) h in
    (all_keep r.table os d parts.0 ∙ k.0, kept_on rows os d e k.1 parts.1)

-- nothing that was written meets nothing
pub none_met : (rows : List (Option OwnRow)) → first_met (rows_written rows) [] ≡ None
none_met [] = refl
none_met (None ∷ rows) = none_met rows
none_met (Some r ∷ rows) = none_met rows
