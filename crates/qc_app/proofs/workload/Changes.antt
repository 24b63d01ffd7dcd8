-- What the statements of the workload do to its tables.
use Rattle.std.proofs.Common.{◌≡◌, ℕ, ◌+◌, ◌≤◌, ◌<◌, ℤ, pos, Bool, true, false, not, cond, List, [], ◌∷◌, ◌++◌, map, length, refl, sym, ap, ◌∙◌, arith, Less, Equal, Greater, Ordering, filter, Result, Ok, Some, None, lt-ltb, le-ltb, ne_eqb, eq-eqb, eqb-true, ⊎_elim}
use Rattle.std.specs.Prelude.{◌==◌, ◌&&◌, nat_lt, codes, get_or}
use Rattle.std.specs.Ordering.{nat_cmp, int_cmp, is_eq, is_lt, is_gt, match_ordering}
use Rattle.std.proofs.lemmas.Bool.{cases_order}
use Rattle.std.specs.BTreeMap.{insert_entry, is_at}
use Rattle.std.specs.Map.{lookup}
use Rattle.qc_types.specs.declared.names.Value.{Value}
use Rattle.qc_types.specs.declared.names.Value.TheVariants as value
use Rattle.qc_types.specs.declared.sql_error.SqlError.{SqlError}
use Rattle.qc_sql.specs.declared.tables.Kind.TheVariants as kind
use Rattle.qc_sql.specs.declared.tables.RowOp.{RowOp}
use Rattle.qc_sql.specs.declared.tables.RowOp.TheVariants as op
use Rattle.qc_sql.specs.declared.statements.Op.TheVariants as compare
use Rattle.qc_sql.specs.Database.{MapOf, Database, apply, apply_one, most_rows}
use Rattle.qc_sql.specs.Rows.{each, Combination, compared, both, is_true, ◌>>=◌}
use Rattle.qc_sql.specs.Effects.{Validated, effect, effect_of, Set, assigned, labelled, values_in, same_values}
use Rattle.qc_app.specs.workload.Texts.{number, insertion, setting}
use Rattle.qc_app.specs.workload.Tables.{in_w, columns, row, rows_of, table_of_rows, database}
use Rattle.qc_app.proofs.workload.Maps.{Map, Below, Above, others, put_all, less, greater, equal}

-- ---- numbers as keys

int_is_nat : (x y : ℕ) → int_cmp (pos x) (pos y) ≡ nat_cmp x y
int_is_nat x y = ⊎_elim same (⊎_elim lower higher) (cases_order x y)
  where
    same : x ≡ y → int_cmp (pos x) (pos y) ≡ nat_cmp x y
    same e = rw (le-ltb x y (omega (arith, e)), le-ltb y x (omega (arith, e)), eq-eqb x y e) refl

    lower : x < y → int_cmp (pos x) (pos y) ≡ nat_cmp x y
    lower h = rw (lt-ltb x y h) refl

    higher : y < x → int_cmp (pos x) (pos y) ≡ nat_cmp x y
    higher h = rw (le-ltb x y (omega (arith, h)), lt-ltb y x h, ne_eqb x y (λ e. absurd (omega (arith, h, e)))) refl

pub int_same : (x : ℕ) → int_cmp (pos x) (pos x) ≡ Equal
int_same x = int_is_nat x x ∙ equal x

is_eq_nat : (x y : ℕ) → is_eq (nat_cmp x y) ≡ (x == y)
is_eq_nat x y = ⊎_elim same (⊎_elim lower higher) (cases_order x y)
  where
    same : x ≡ y → is_eq (nat_cmp x y) ≡ (x == y)
    same e = rw (le-ltb x y (omega (arith, e)), eq-eqb x y e) refl

    lower : x < y → is_eq (nat_cmp x y) ≡ (x == y)
    lower h = rw (lt-ltb x y h, ne_eqb x y (λ e. absurd (omega (arith, h, e)))) refl

    higher : y < x → is_eq (nat_cmp x y) ≡ (x == y)
    higher h = rw (le-ltb x y (omega (arith, h)), ne_eqb x y (λ e. absurd (omega (arith, h, e)))) refl

-- ---- a row put in

abbrev Rows : Type 0
Rows = MapOf ℤ (List Value)

abbrev entry : ℕ × ℕ → ℤ × List Value
entry e = (pos e.0, row e.0 e.1)

insert_step : (key m : ℕ) (e : ℕ × ℕ) (es : Map) → insert_entry int_cmp (rows_of es) (pos key) (row key m) ≡ rows_of (insert_entry nat_cmp es key m)
    → (o : Ordering) → nat_cmp key e.0 ≡ o
    → match_ordering o ((pos key, row key m) ∷ entry e ∷ rows_of es) ((pos e.0, row key m) ∷ rows_of es) (entry e ∷ insert_entry int_cmp (rows_of es) (pos key) (row key m))
    ≡ rows_of (match_ordering o ((key, m) ∷ e ∷ es) ((e.0, m) ∷ es) (e ∷ insert_entry nat_cmp es key m))
insert_step key m e es later Less q = refl
insert_step key m e es later Equal q =
    let is : key ≡ e.0 = eqb-true key e.0 (sym (is_eq_nat key e.0) ∙ ap is_eq q) in
    ap (λ k. let l : Rows = (pos e.0, row k m) ∷ rows_of es in l) is
insert_step key m e es later Greater q = ap (λ (l : Rows). entry e ∷ l) later

insert_rows : (key m : ℕ) (es : Map) → insert_entry int_cmp (rows_of es) (pos key) (row key m) ≡ rows_of (insert_entry nat_cmp es key m)
insert_rows key m [] = refl
insert_rows key m (e ∷ es) =
    ap (λ o. match_ordering o ((pos key, row key m) ∷ entry e ∷ rows_of es) ((pos e.0, row key m) ∷ rows_of es) (entry e ∷ insert_entry int_cmp (rows_of es) (pos key) (row key m))) (int_is_nat key e.0)
    ∙ insert_step key m e es (insert_rows key m es) (nat_cmp key e.0) refl

pub put_a : (a b : Map) (key m : ℕ) → apply_one (op.Put (in_w (codes "a")) (row key m)) (database a b) ≡ database (insert_entry nat_cmp a key m) b
put_a a b key m = ap (λ (r : Rows). let d : Database = (codes "w", (codes "a", record { columns = columns; rows = r }) ∷ (codes "b", table_of_rows b) ∷ []) ∷ [] in d) (insert_rows key m a)

pub put_b : (a b : Map) (key m : ℕ) → apply_one (op.Put (in_w (codes "b")) (row key m)) (database a b) ≡ database a (insert_entry nat_cmp b key m)
put_b a b key m = ap (λ (r : Rows). let d : Database = (codes "w", (codes "a", table_of_rows a) ∷ (codes "b", record { columns = columns; rows = r }) ∷ []) ∷ [] in d) (insert_rows key m b)

-- ---- INSERT

missed : (key : ℕ) (e : ℕ × ℕ) (es : Map) (o : Ordering) → nat_cmp key e.0 ≡ o → is_eq o ≡ false → lookup (is_at (int_cmp (pos key))) (rows_of es) ≡ None
    → lookup (is_at (int_cmp (pos key))) (rows_of (e ∷ es)) ≡ None
missed key e es o q other later =
    ap (λ t. cond t (Some (row e.0 e.1)) (lookup (is_at (int_cmp (pos key))) (rows_of es))) (ap is_eq (int_is_nat key e.0 ∙ q) ∙ other) ∙ later

absent_above : (key : ℕ) (ys : Map) → Above key ys → lookup (is_at (int_cmp (pos key))) (rows_of ys) ≡ None
absent_above key [] a = refl
absent_above key (e ∷ ys) a = missed key e ys Less (less key e.0 a.0) refl (absent_above key ys a.1)

-- no row has the key
pub absent : (key : ℕ) (xs ys : Map) → Below key xs → Above key ys → lookup (is_at (int_cmp (pos key))) (rows_of (xs ++ ys)) ≡ None
absent key [] ys b a = absent_above key ys a
absent key (e ∷ xs) ys b a = missed key e (xs ++ ys) Greater (greater key e.0 b.0) refl (absent key xs ys b.1 a)

not_full : (n : ℕ) → n < most_rows → nat_lt most_rows (n + 1) ≡ false
not_full n h = le-ltb most_rows (n + 1) (omega (arith, h))

pub insert_a : (a b : Map) (key m session : ℕ) → lookup (is_at (int_cmp (pos key))) (rows_of a) ≡ None → length (rows_of a) < most_rows
    → effect (insertion (codes "a") key m) (database a b) (codes "w") session ≡ Ok (effect_of (op.Put (in_w (codes "a")) (row key m) ∷ []) 1)
unfolding effect
insert_a a b key m session free small = rw (free, not_full (length (rows_of a)) small) refl

pub insert_b : (a b : Map) (key m session : ℕ) → lookup (is_at (int_cmp (pos key))) (rows_of b) ≡ None → length (rows_of b) < most_rows
    → effect (insertion (codes "b") key m) (database a b) (codes "w") session ≡ Ok (effect_of (op.Put (in_w (codes "b")) (row key m) ∷ []) 1)
unfolding effect
insert_b a b key m session free small = rw (free, not_full (length (rows_of b)) small) refl

-- ---- UPDATE

-- the rows that the condition keeps
abbrev pub keeps : ℕ → ℕ → Combination → Bool
keeps first last c =
    is_true (both (compared compare.Ge (get_or (get_or c 0 []) 0 value.Null) (number first)) (compared compare.Le (get_or (get_or c 0 []) 0 value.Null) (number last)))

not_less : (x y : ℕ) → y ≤ x → is_lt (nat_cmp x y) ≡ false
not_less x y h = rw (le-ltb x y h) (by (x == y))
  where
    by : (t : Bool) → is_lt (cond t Equal Greater) ≡ false
    by true = refl
    by false = refl

not_greater : (x y : ℕ) → x ≤ y → is_gt (nat_cmp x y) ≡ false
not_greater x y h = ⊎_elim same (⊎_elim lower higher) (cases_order x y)
  where
    same : x ≡ y → is_gt (nat_cmp x y) ≡ false
    same e = rw (le-ltb x y (omega (arith, e)), eq-eqb x y e) refl

    lower : x < y → is_gt (nat_cmp x y) ≡ false
    lower l = rw (lt-ltb x y l) refl

    higher : y < x → is_gt (nat_cmp x y) ≡ false
    higher l = absurd (omega (arith, h, l))

pub keeps_in : (first last k v : ℕ) → first ≤ k → k ≤ last → keeps first last (row k v ∷ []) ≡ true
keeps_in first last k v h g =
    rw (ap is_lt (int_is_nat k first) ∙ not_less k first h, ap is_gt (int_is_nat k last) ∙ not_greater k last g) refl

pub keeps_low : (first last k v : ℕ) → k < first → keeps first last (row k v ∷ []) ≡ false
keeps_low first last k v h = rw (ap is_lt (int_is_nat k first ∙ less k first h)) refl

pub keeps_high : (first last k v : ℕ) → first ≤ k → last < k → keeps first last (row k v ∷ []) ≡ false
keeps_high first last k v h g =
    rw (ap is_lt (int_is_nat k first) ∙ not_less k first h, ap is_gt (int_is_nat k last ∙ greater k last g)) refl

abbrev pub kept : ℕ → ℕ → ℕ × ℕ → Bool
kept first last e = keeps first last (row e.0 e.1 ∷ [])

matching_rows : (first last : ℕ) (es : Map) → filter (λ (x : ℤ × List Value). keeps first last (x.1 ∷ [])) (rows_of es) ≡ rows_of (filter (kept first last) es)
matching_rows first last [] = refl
matching_rows first last (e ∷ es) = by (kept first last e) (matching_rows first last es)
  where
    by : (t : Bool) → filter (λ (x : ℤ × List Value). keeps first last (x.1 ∷ [])) (rows_of es) ≡ rows_of (filter (kept first last) es)
        → cond t (entry e ∷ filter (λ (x : ℤ × List Value). keeps first last (x.1 ∷ [])) (rows_of es)) (filter (λ (x : ℤ × List Value). keeps first last (x.1 ∷ [])) (rows_of es))
        ≡ rows_of (cond t (e ∷ filter (kept first last) es) (filter (kept first last) es))
    by true h = ap (λ (l : Rows). entry e ∷ l) h
    by false h = h

-- a row, and what it becomes
abbrev pub Pair : Type 0
Pair = List Value × List Value

abbrev pub pair : ℕ → ℕ × ℕ → Pair
pair m e = (row e.0 e.1, row e.0 m)

abbrev the_set : ℕ → Set
the_set m = record { column = record { name = codes "v"; kind = kind.Int; not_null = true; primary = false }; value_in = λ r. number m }

abbrev assigned_row : ℕ → ℤ × List Value → Result Pair SqlError
assigned_row m x = assigned (the_set m ∷ []) (labelled columns x.1) >>= λ r. Ok (x.1, values_in r)

each_row : (m : ℕ) (es : Map) → each (assigned_row m) (rows_of es) ≡ Ok (map (pair m) es)
each_row m [] = refl
each_row m (e ∷ es) = ap (λ (r : Result (List Pair) SqlError). r >>= λ ys. Ok (pair m e ∷ ys)) (each_row m es)

changes : Pair → Bool
changes p = not (same_values p.0 p.1)

changes_value : (m : ℕ) (e : ℕ × ℕ) → changes (pair m e) ≡ not (e.1 == m)
unfolding changes
changes_value m e = rw (int_same e.0, int_is_nat e.1 m, is_eq_nat e.1 m) (by (e.1 == m))
  where
    by : (t : Bool) → not (true && (t && true)) ≡ not t
    by true = refl
    by false = refl

changed_pairs : (m : ℕ) (es : Map) → filter changes (map (pair m) es) ≡ map (pair m) (others m es)
changed_pairs m [] = refl
changed_pairs m (e ∷ es) =
    ap (λ t. cond t (pair m e ∷ filter changes (map (pair m) es)) (filter changes (map (pair m) es))) (changes_value m e) ∙ by (not (e.1 == m)) (changed_pairs m es)
  where
    by : (t : Bool) → filter changes (map (pair m) es) ≡ map (pair m) (others m es)
        → cond t (pair m e ∷ filter changes (map (pair m) es)) (filter changes (map (pair m) es)) ≡ map (pair m) (cond t (e ∷ others m es) (others m es))
    by true h = ap (λ (l : List Pair). pair m e ∷ l) h
    by false h = h

abbrev pub puts : ℕ → Map → List RowOp
puts m es = map (λ (e : ℕ × ℕ). op.Put (in_w (codes "a")) (row e.0 m)) es

abbrev put_second : Pair → RowOp
put_second p = op.Put (in_w (codes "a")) p.1

puts_are : (m : ℕ) (es : Map) → map put_second (map (pair m) es) ≡ puts m es
puts_are m [] = refl
puts_are m (e ∷ es) = ap (λ (l : List RowOp). op.Put (in_w (codes "a")) (row e.0 m) ∷ l) (puts_are m es)

abbrev finished : Result (List Pair) SqlError → Validated
finished r = r >>= λ pairs. Ok (effect_of (map put_second (filter changes pairs)) (length (filter changes pairs)))

update_is : (a b : Map) (first last m session : ℕ) → effect (setting first last m) (database a b) (codes "w") session
    ≡ finished (each (assigned_row m) (filter (λ (x : ℤ × List Value). keeps first last (x.1 ∷ [])) (rows_of a)))
unfolding effect changes
update_is a b first last m session = refl

pub update_a : (a b : Map) (first last m session : ℕ) → let es = others m (filter (kept first last) a) in
    effect (setting first last m) (database a b) (codes "w") session ≡ Ok (effect_of (puts m es) (length (map (pair m) es)))
update_a a b first last m session =
    let es : Map = others m (filter (kept first last) a) in
    update_is a b first last m session
    ∙ (ap (λ (r : Rows). finished (each (assigned_row m) r)) (matching_rows first last a)
    ∙ (ap finished (each_row m (filter (kept first last) a))
    ∙ (ap (λ (l : List Pair). Ok (effect_of (map put_second l) (length l))) (changed_pairs m (filter (kept first last) a))
    ∙ ap (λ (l : List RowOp). Ok (effect_of l (length (map (pair m) es)))) (puts_are m es))))

pub apply_puts : (m : ℕ) (es a b : Map) → apply (puts m es) (database a b) ≡ database (put_all m es a) b
apply_puts m [] a b = refl
apply_puts m (e ∷ es) a b = ap (apply (puts m es)) (put_a a b e.0 m) ∙ apply_puts m es (insert_entry nat_cmp a e.0 m) b
