-- CREATE, DROP and TRUNCATE: what they do fits, and the columns of a new table do.
use Rattle.std.proofs.Common.{◌≡◌, ℕ, ◌+◌, ◌<◌, ◌≤◌, Bool, true, false, not, cond, List, [], ◌∷◌, map, length, refl, sym, ap, ◌∙◌, subst, Option, Some, None, true≢false, arith}
use Rattle.std.specs.Prelude.{◌&&◌, ◌||◌, ◌==◌, bytes_eq, codes, find, nat_lt, nat_le, count_by, is_some, is_none, option_map, option_and_then}
use Rattle.std.specs.List.{list_all, list_any, filter_map, AllByRecursion}
use Rattle.std.specs.Map.{remove_entry}
use Rattle.std.proofs.lemmas.Bool.{and_parts, and_from, or_parts, or_from, ltb-false, le-leb, not-false, not_from_false, eqb-true, eq-eqb}
use Rattle.std.proofs.lemmas.List.{length-map}
use Rattle.std.proofs.lemmas.List.Recursion.{is_count_by}
use Rattle.qc_types.specs.declared.names.TableName.{TableName}
use Rattle.qc_sql.specs.declared.tables.Column.{Column}
use Rattle.qc_sql.specs.declared.tables.RowOp.{RowOp}
use Rattle.qc_sql.specs.declared.tables.RowOp.TheVariants as op
use Rattle.qc_sql.specs.declared.statements.Part.{Part}
use Rattle.qc_sql.specs.declared.statements.TableRef.{TableRef}
use Rattle.qc_sql.specs.Database.{Name, Table, Tables, Database, at_name, table_of, tables_of, apply_one, is_int}
use Rattle.qc_sql.specs.Rules.{full_name}
use Rattle.qc_sql.specs.Rows.{first_repeated, refuse_if}
use Rattle.qc_sql.specs.Effects.{Effect, new_column, new_key, marked, has_one_key, known_database, create_effect, drop_effect, truncate_effect, create_db_effect, drop_db_of}
use Rattle.qc_sql.specs.Errors.{no_database_selected, unknown_database, table_exists, unknown_table, duplicate_column, no_key_column, too_many_columns, not_supported, database_exists}
use Rattle.qc_sql.proofs.Untouched.{at, changed_same}
use Rattle.qc_model.specs.Licence.{columns_fit, most_columns, differ_in_name, is_number_key, op_fits, ops_fit}
use Rattle.qc_model.specs.Sound.{IsSoundDatabase}
use Rattle.qc_laws.proofs.fits.Maps.{name_gone}
use Rattle.qc_laws.proofs.fits.Given.{each_weaker, Given, gives, refuses, after, unless, unless_some, anyway}
use Rattle.qc_laws.proofs.fits.Columns.{name_is}
use Rattle.qc_laws.proofs.fits.Stays.{in_database, tables_are_sound}
use Rattle.qc_laws.proofs.fits.Inserts.{bound_given}

-- ---- the columns of CREATE TABLE

abbrev column_names : List Column → List Name
column_names cs = map (λ c. c.name) cs

none_called : (keys : List Name) (name : Name) (cs : List Column) → AllByRecursion (λ c. bytes_eq c.name name ≡ false) cs → list_any (λ other. bytes_eq other.name name) (map (marked keys) cs) ≡ false
none_called keys name [] h = refl
none_called keys name (c ∷ cs) h = or_from (bytes_eq c.name name) (list_any (λ other. bytes_eq other.name name) (map (marked keys) cs)) h.0 (none_called keys name cs h.1)

-- columns of which no name is repeated
record AreNew (keys seen : List Name) (cs : List Column) : Type 0 where
  differ : differ_in_name (map (marked keys) cs) ≡ true
  unseen : AllByRecursion (λ c. list_any (bytes_eq c.name) seen ≡ false) cs

none_repeated : (keys seen : List Name) (cs : List Column) → first_repeated seen (column_names cs) ≡ None → AreNew keys seen cs
none_repeated keys seen [] h = record { differ = refl; unseen = tt }
none_repeated keys seen (c ∷ cs) h =
    elim (list_any (bytes_eq c.name) seen) as (λ b. list_any (bytes_eq c.name) seen ≡ b → AreNew keys seen (c ∷ cs)) [
      | true ↦ λ p. absurd (true≢false (ap is_some (sym (ap (λ b. cond b (Some c.name) (first_repeated (c.name ∷ seen) (column_names cs))) p) ∙ h)))
      | false ↦ λ p.
          let rest = none_repeated keys (c.name ∷ seen) cs (sym (ap (λ b. cond b (Some c.name) (first_repeated (c.name ∷ seen) (column_names cs))) p) ∙ h) in
          let apart = λ (d : Column) (q : list_any (bytes_eq d.name) (c.name ∷ seen) ≡ false). or_parts (bytes_eq d.name c.name) (list_any (bytes_eq d.name) seen) q in
          let none : list_any (λ other. bytes_eq other.name c.name) (map (marked keys) cs) ≡ false
          = none_called keys c.name cs (each_weaker (λ d. list_any (bytes_eq d.name) (c.name ∷ seen) ≡ false) (λ d. bytes_eq d.name c.name ≡ false) (λ d q. (apart d q).0) cs rest.unseen) in
          record {
            differ = and_from (not (list_any (λ other. bytes_eq other.name c.name) (map (marked keys) cs))) (differ_in_name (map (marked keys) cs))
                (not_from_false (list_any (λ other. bytes_eq other.name c.name) (map (marked keys) cs)) none) rest.differ;
            unseen = (p, each_weaker (λ d. list_any (bytes_eq d.name) (c.name ∷ seen) ≡ false) (λ d. list_any (bytes_eq d.name) seen ≡ false) (λ d q. (apart d q).1) cs rest.unseen);
          }
    ] refl

-- ---- the primary column

-- how many columns are primary
abbrev keyed : List Column → ℕ
keyed [] = 0
keyed (c ∷ cs) = cond c.primary (1 + keyed cs) (keyed cs)

keyed_is : (cs : List Column) → keyed cs ≡ count_by (λ c. c.primary) cs
keyed_is cs = is_count_by keyed (λ c. c.primary) refl (λ c cs. refl) cs

or_none : (b : Bool) → (b || false) ≡ b
or_none true = refl
or_none false = refl

-- no key is named apart
keyed_alone : (cs : List Column) → keyed (map (marked []) cs) ≡ keyed cs
keyed_alone [] = refl
keyed_alone (c ∷ cs) =
    ap (λ b. cond b (1 + keyed (map (marked []) cs)) (keyed (map (marked []) cs))) (or_none c.primary) ∙ ap (λ n. cond c.primary (1 + n) n) (keyed_alone cs)

abbrev is_marked : Name → Column → Bool
is_marked k c = c.primary || (bytes_eq c.name k || false)

marked_count : (k : Name) (c : Column) (cs : List Column) (b : Bool) → c.primary ≡ false → bytes_eq c.name k ≡ b → keyed (map (marked (k ∷ [])) (c ∷ cs)) ≡ cond b (1 + keyed (map (marked (k ∷ [])) cs)) (keyed (map (marked (k ∷ [])) cs))
marked_count k c cs b plain is =
    ap (λ (b : Bool). cond b (1 + keyed (map (marked (k ∷ [])) cs)) (keyed (map (marked (k ∷ [])) cs)))
    (ap (λ p. p || (bytes_eq c.name k || false)) plain ∙ (or_none (bytes_eq c.name k) ∙ is))

none_marked : (k : Name) (cs : List Column) → AllByRecursion (λ c. c.primary ≡ false) cs → AllByRecursion (λ c. bytes_eq c.name k ≡ false) cs → keyed (map (marked (k ∷ [])) cs) ≡ 0
none_marked k [] h g = refl
none_marked k (c ∷ cs) h g = marked_count k c cs false h.0 g.0 ∙ none_marked k cs h.1 g.1

-- one that is named is marked
one_marked : (k : Name) (seen : List Name) (cs : List Column) → AllByRecursion (λ c. c.primary ≡ false) cs → AreNew (k ∷ []) seen cs → first_repeated seen (column_names cs) ≡ None → list_any (λ c. bytes_eq c.name k) cs ≡ true → keyed (map (marked (k ∷ [])) cs) ≡ 1
one_marked k seen [] h new once g = absurd (true≢false (sym g))
one_marked k seen (c ∷ cs) h new once g =
    let none : list_any (bytes_eq c.name) seen ≡ false = new.unseen.0 in
    let later : first_repeated (c.name ∷ seen) (column_names cs) ≡ None = sym (ap (λ b. cond b (Some c.name) (first_repeated (c.name ∷ seen) (column_names cs))) none) ∙ once in
    let rest = none_repeated (k ∷ []) (c.name ∷ seen) cs later in
    elim (bytes_eq c.name k) as (λ b. bytes_eq c.name k ≡ b → keyed (map (marked (k ∷ [])) (c ∷ cs)) ≡ 1) [
      | true ↦ λ p.
          let others = each_weaker (λ d. list_any (bytes_eq d.name) (c.name ∷ seen) ≡ false) (λ d. bytes_eq d.name k ≡ false)
          (λ d q. subst (λ (n : Name). bytes_eq d.name n ≡ false) (name_is c.name k p) (or_parts (bytes_eq d.name c.name) (list_any (bytes_eq d.name) seen) q).0) cs rest.unseen in
          marked_count k c cs true h.0 p ∙ ap (λ n. 1 + n) (none_marked k cs h.1 others)
      | false ↦ λ p. marked_count k c cs false h.0 p ∙ one_marked k (c.name ∷ seen) cs h.1 rest later (sym (ap (λ b. b || list_any (λ c. bytes_eq c.name k) cs) p) ∙ g)
    ] refl

none_keyed : (cs : List Column) → keyed cs ≡ 0 → AllByRecursion (λ c. c.primary ≡ false) cs
none_keyed [] h = tt
none_keyed (c ∷ cs) h =
    elim c.primary as (λ b. c.primary ≡ b → AllByRecursion (λ c. c.primary ≡ false) (c ∷ cs)) [
      | true ↦ λ p. let more : 1 + keyed cs ≡ 0 = sym (ap (λ b. cond b (1 + keyed cs) (keyed cs)) p) ∙ h in absurd (omega (arith, more))
      | false ↦ λ p. (p, none_keyed cs (sym (ap (λ b. cond b (1 + keyed cs) (keyed cs)) p) ∙ h))
    ] refl

abbrev is_unknown : List Column → Name → Bool
is_unknown cs k = not (list_any (λ c. bytes_eq c.name k) cs)

one_keyed : (keys : List Name) (cs : List Column) → keyed cs + length keys ≡ 1 → first_repeated [] (column_names cs) ≡ None → find (is_unknown cs) keys ≡ None → keyed (map (marked keys) cs) ≡ 1
one_keyed [] cs one once known = keyed_alone cs ∙ omega (arith, one)
one_keyed (k ∷ []) cs one once known =
    let none : keyed cs ≡ 0 = omega (arith, one) in
    one_marked k [] cs (none_keyed cs none) (none_repeated (k ∷ []) [] cs once) once (there (list_any (λ c. bytes_eq c.name k) cs) known)
  where
    there : (b : Bool) → cond (not b) (Some k) None ≡ None → b ≡ true
    there true h = refl
    there false h = absurd (true≢false (ap is_some h))
one_keyed (k ∷ l ∷ ks) cs one once known = absurd (omega (arith, one))

has_number : (cs : List Column) → 1 ≤ keyed cs → list_all (λ c. not c.primary || is_int c.kind) cs ≡ true → list_any is_number_key cs ≡ true
has_number [] low h = absurd (omega (arith, low))
has_number (c ∷ cs) low h =
    let parts = and_parts (not c.primary || is_int c.kind) (list_all (λ c. not c.primary || is_int c.kind) cs) h in
    elim c.primary as (λ b. c.primary ≡ b → list_any is_number_key (c ∷ cs) ≡ true) [
      | true ↦ λ p.
          let number : is_int c.kind ≡ true = ap (λ b. not b || is_int c.kind) (sym p) ∙ parts.0 in
          let key : is_number_key c ≡ true = and_from c.primary (is_int c.kind) p number in
          ap (λ b. b || list_any is_number_key cs) key
      | false ↦ λ p.
          let later : 1 ≤ keyed cs = subst (λ b. 1 ≤ cond b (1 + keyed cs) (keyed cs)) p low in
          either (is_number_key c) (list_any is_number_key cs) (has_number cs later parts.1)
    ] refl
  where
    either : (a b : Bool) → b ≡ true → (a || b) ≡ true
    either true b g = refl
    either false b g = g

new_columns_fit : (keys : List Name) (cs : List Column) → nat_lt 64 (length cs) ≡ false → first_repeated [] (column_names cs) ≡ None → find (is_unknown cs) keys ≡ None → has_one_key cs keys (map (marked keys) cs) ≡ true
    → columns_fit (map (marked keys) cs) ≡ true
new_columns_fit keys cs few once known key =
    let columns : List Column = map (marked keys) cs in
    let written : ℕ = count_by (λ c. c.primary) cs in
    let primary : ℕ = count_by (λ c. c.primary) columns in
    let parts = and_parts (written + length keys == 1) (list_all (λ c. not c.primary || is_int c.kind) columns) key in
    let one : keyed columns ≡ 1 = one_keyed keys cs (ap (λ n. n + length keys) (keyed_is cs) ∙ eqb-true (written + length keys) 1 parts.0) once known in
    let narrow : nat_le (length columns) most_columns ≡ true = le-leb (length columns) 64 (omega (arith, length-map cs (marked keys), ltb-false 64 (length cs) few)) in
    let counted : (primary == 1) ≡ true = eq-eqb primary 1 (sym (keyed_is columns) ∙ one) in
    and_from (nat_le (length columns) most_columns && differ_in_name columns && primary == 1) (list_any is_number_key columns)
    (and_from (nat_le (length columns) most_columns && differ_in_name columns) (primary == 1)
    (and_from (nat_le (length columns) most_columns) (differ_in_name columns) narrow (none_repeated keys [] cs once).differ) counted)
    (has_number columns (omega (arith, one)) parts.1)

-- ---- the operations

abbrev pub is_put : RowOp → Bool
is_put (op.Put t row) = true
is_put _ = false

-- operations that fit, and put no row
pub record IsOfForm (d : Database) (x : Effect) : Type 0 where
  pub fit : ops_fit x.operations d ≡ true
  pub none : AllByRecursion (λ o. is_put o ≡ false) x.operations
  pub some : 0 < length x.operations

none_some : {X : Type 0} (o : Option X) → is_none o ≡ false → is_some o ≡ true
none_some None h = absurd (true≢false h)
none_some (Some x) h = refl

some_none : {X : Type 0} (o : Option X) → is_some o ≡ false → is_none o ≡ true
some_none None h = refl
some_none (Some x) h = absurd (true≢false h)

-- one operation that fits
one_fits : (o : RowOp) (d : Database) → op_fits o d ≡ true → ops_fit (o ∷ []) d ≡ true
one_fits o d h = and_from (op_fits o d) true h refl

known_given : (d : Database) (t : TableName) → Given (λ _. is_some (tables_of t.db d) ≡ true) (known_database d t)
known_given d t =
    after _ (unless (length t.db == 0) no_database_selected) (λ _ _.
    by (tables_of t.db d))
  where
    by : (o : Option Tables) → Given (λ _. is_some o ≡ true) (refuse_if (is_none o) (unknown_database t.db))
    by None = refuses
    by (Some ts) = gives refl

pub create_given : (d : Database) (db : Name) (table : TableRef) (parts : List Part) → Given (IsOfForm d) (create_effect d db table parts)
create_given d db table parts =
    let t = full_name db table in
    let written = filter_map new_column parts in
    let keys = filter_map new_key parts in
    let columns = map (marked keys) written in
    after _ (known_given d t) (λ _ known.
    after _ (unless (is_some (table_of t d)) (table_exists t)) (λ _ new.
    after _ (unless (nat_lt 64 (length written)) too_many_columns) (λ _ few.
    after _ (unless_some (first_repeated [] (column_names written)) duplicate_column) (λ _ once.
    after _ (unless_some (find (is_unknown written) keys) no_key_column) (λ _ named.
    after _ (unless (not (has_one_key written keys columns)) (not_supported (codes "primary key"))) (λ _ key.
    after _ (anyway _) (λ _ _.
    gives (record {
      fit = one_fits (op.CreateTable t columns) d (and_from (is_some (tables_of t.db d) && is_none (table_of t d)) (columns_fit columns)
          (and_from (is_some (tables_of t.db d)) (is_none (table_of t d)) known (some_none (table_of t d) new))
          (new_columns_fit keys written few once named (not-false (has_one_key written keys columns) key)));
      none = (refl, tt);
      some = omega arith;
    }))))))))

pub drop_given : (d : Database) (db : Name) (table : TableRef) → Given (IsOfForm d) (drop_effect d db table)
drop_given d db table =
    let t = full_name db table in
    after _ (known_given d t) (λ _ _.
    after _ (unless (is_none (table_of t d)) (unknown_table t)) (λ _ there.
    gives (record { fit = one_fits (op.DropTable t) d (none_some (table_of t d) there); none = (refl, tt); some = omega arith })))

pub truncate_given : (d : Database) (db : Name) (table : TableRef) → IsSoundDatabase d → ((x : Table) → table_of (full_name db table) d ≡ Some x → columns_fit x.columns ≡ true) → Given (IsOfForm d) (truncate_effect d db table)
truncate_given d db table s sound =
    let t = full_name db table in
    after _ (bound_given d t t.name) (λ b there.
    let i = in_database t b.table d there in
    let fall : Tables → Tables = remove_entry (at t.name) in
    let emptied : Database = apply_one (op.DropTable t) d in
    let still : tables_of t.db emptied ≡ Some (fall i.0) = changed_same t.db fall d ∙ ap (option_map fall) i.1 in
    let gone : table_of t emptied ≡ None = ap (option_and_then (at_name t.name)) still ∙ name_gone t.name i.0 (tables_are_sound t.db i.0 d s i.1).apart in
    let again : op_fits (op.CreateTable t b.table.columns) emptied ≡ true = and_from (is_some (tables_of t.db emptied) && is_none (table_of t emptied)) (columns_fit b.table.columns)
    (and_from (is_some (tables_of t.db emptied)) (is_none (table_of t emptied)) (ap is_some still) (ap is_none gone)) (sound b.table there) in
    gives (record {
      fit = and_from (is_some (table_of t d)) (ops_fit (op.CreateTable t b.table.columns ∷ []) emptied) (ap is_some there) (one_fits (op.CreateTable t b.table.columns) emptied again);
      none = (refl, (refl, tt));
      some = omega arith;
    }))

pub create_db_given : (d : Database) (name : Name) → Given (IsOfForm d) (create_db_effect d name)
create_db_given d name =
    after _ (unless (is_some (tables_of name d)) (database_exists name)) (λ _ new.
    gives (record { fit = one_fits (op.CreateDb name) d (some_none (tables_of name d) new); none = (refl, tt); some = omega arith }))

pub drop_db_given : (d : Database) (name : Name) → Given (IsOfForm d) (drop_db_of name (tables_of name d))
drop_db_given d name = by (tables_of name d) refl
  where
    by : (o : Option Tables) → tables_of name d ≡ o → Given (IsOfForm d) (drop_db_of name o)
    by None h = refuses
    by (Some tables) h = gives (record { fit = one_fits (op.DropDb name) d (ap is_some h); none = (refl, tt); some = omega arith })
