-- The names of databases and tables stay short.
use Rattle.std.proofs.Common.{◌≡◌, Bool, true, false, cond, List, [], ◌∷◌, refl, sym, ap, ◌∙◌, subst, length, Some, None}
use Rattle.std.specs.Prelude.{◌&&◌, is_some, if◌then◌else◌, nat_lt}
use Rattle.std.specs.List.{list_all}
use Rattle.std.specs.Ordering.{match_ordering}
use Rattle.std.specs.declared.cmp.Ordering.TheVariants.{Less, Equal, Greater}
use Rattle.std.specs.BTreeMap.{insert_entry, is_at}
use Rattle.std.specs.Map.{lookup, remove_entry}
use Rattle.std.proofs.lemmas.Bool.{and_parts, and_from}
use Rattle.qc_types.specs.declared.names.TableName.{TableName}
use Rattle.qc_sql.specs.declared.tables.RowOp.{RowOp}
use Rattle.qc_sql.specs.declared.tables.RowOp.TheVariants as op
use Rattle.qc_sql.specs.Database.{Name, name_cmp, MapOf, Database, Table, Tables, no_tables, change_at, tables_of, with_row, without_row, apply_one, apply, most_rows}
use Rattle.qc_sql.specs.Words.{◌or_else◌, when}
use Rattle.qc_sql.proofs.Untouched.{at, at_is}
use Rattle.qc_model.specs.Machine.{full_in, full_table}
use Rattle.qc_laws.specs.sizes.Names.{is_short}
use Rattle.qc_laws.proofs.fits.Maps.{some_is}
use Rattle.qc_statements.specs.Sound.{are_named, have_short_names, are_short}
use Rattle.qc_laws.specs.sizes.Operations.{makes_short_name}

-- ---- maps whose names are short

module _ {X : Type 0} (test : X → Bool) where
  abbrev here : Name → X → Bool
  here n x = is_short n && test x

  changed_named : (n : Name) (f : X → X) → ((x : X) → test x ≡ true → test (f x) ≡ true) → (m : MapOf Name X) → are_named test m ≡ true → are_named test (change_at n f m) ≡ true
  changed_named n f k [] h = refl
  changed_named n f k (e ∷ m) h =
      let p = and_parts (here e.0 e.1) (are_named test m) h in
      let q = and_parts (is_short e.0) (test e.1) p.0 in
      let later = changed_named n f k m p.1 in
      elim (is_at (name_cmp n) e.0) as (λ b. are_named test ((cond b (e.0, f e.1) e) ∷ change_at n f m) ≡ true) [
        | true ↦ and_from (here e.0 (f e.1)) (are_named test (change_at n f m)) (and_from (is_short e.0) (test (f e.1)) q.0 (k e.1 q.1)) later
        | false ↦ and_from (here e.0 e.1) (are_named test (change_at n f m)) p.0 later
      ]

  inserted_named : (n : Name) (x : X) (m : MapOf Name X) → is_short n ≡ true → test x ≡ true → are_named test m ≡ true → are_named test (insert_entry name_cmp m n x) ≡ true
  inserted_named n x [] h t g = and_from (here n x) true (and_from (is_short n) (test x) h t) refl
  inserted_named n x (e ∷ m) h t g =
      let p = and_parts (here e.0 e.1) (are_named test m) g in
      let q = and_parts (is_short e.0) (test e.1) p.0 in
      let later = inserted_named n x m h t p.1 in
      elim (name_cmp n e.0) as (λ r. are_named test (match_ordering r ((n, x) ∷ e ∷ m) ((e.0, x) ∷ m) (e ∷ insert_entry name_cmp m n x)) ≡ true) [
        | Less ↦ and_from (here n x) (are_named test (e ∷ m)) (and_from (is_short n) (test x) h t) g
        | Equal ↦ and_from (here e.0 x) (are_named test m) (and_from (is_short e.0) (test x) q.0 t) p.1
        | Greater ↦ and_from (here e.0 e.1) (are_named test (insert_entry name_cmp m n x)) p.0 later
      ]

  removed_named : (n : Name) (m : MapOf Name X) → are_named test m ≡ true → are_named test (remove_entry (is_at (name_cmp n)) m) ≡ true
  removed_named n [] h = refl
  removed_named n (e ∷ m) h =
      let p = and_parts (here e.0 e.1) (are_named test m) h in
      let later = removed_named n m p.1 in
      elim (is_at (name_cmp n) e.0) as (λ b. are_named test (cond b m (e ∷ remove_entry (is_at (name_cmp n)) m)) ≡ true) [
        | true ↦ p.1
        | false ↦ and_from (here e.0 e.1) (are_named test (remove_entry (is_at (name_cmp n)) m)) p.0 later
      ]

-- ---- operations

kept_names : (n : Name) (f : Table → Table) (ts : Tables) → have_short_names ts ≡ true → have_short_names (change_at n f ts) ≡ true
kept_names n f ts h = changed_named {X = Table} (λ x. true) n f (λ x g. refl) ts h

created_short : (n : Name) (b : Bool) (d : Database) → is_short n ≡ true → are_short d ≡ true → are_short (if b then d else insert_entry name_cmp d n no_tables) ≡ true
created_short n true d h g = g
created_short n false d h g = inserted_named have_short_names n no_tables d h refl g

one_short : (o : RowOp) (d : Database) → makes_short_name o ≡ true → are_short d ≡ true → are_short (apply_one o d) ≡ true
one_short (op.Put t row) d h g = changed_named have_short_names t.db (change_at t.name (with_row row)) (kept_names t.name (with_row row)) d g
one_short (op.Del t key) d h g = changed_named have_short_names t.db (change_at t.name (without_row key)) (kept_names t.name (without_row key)) d g
one_short (op.CreateTable t columns) d h g =
    let empty : Table = record { columns = columns; rows = [] } in
    changed_named have_short_names t.db (λ ts. insert_entry name_cmp ts t.name empty) (λ ts k. inserted_named {X = Table} (λ x. true) t.name empty ts h refl k) d g
one_short (op.DropTable t) d h g = changed_named have_short_names t.db (remove_entry (is_at (name_cmp t.name))) (removed_named {X = Table} (λ x. true) t.name) d g
one_short (op.CreateDb name) d h g = created_short name (is_some (tables_of name d)) d h g
one_short (op.DropDb name) d h g = removed_named have_short_names name d g

pub stay_short : (ops : List RowOp) (d : Database) → list_all makes_short_name ops ≡ true → are_short d ≡ true → are_short (apply ops d) ≡ true
stay_short [] d h g = g
stay_short (o ∷ os) d h g =
    let p = and_parts (makes_short_name o) (list_all makes_short_name os) h in
    stay_short os (apply_one o d) p.1 (one_short o d p.0 g)

-- ---- what is there

-- a database that is there has a short name
pub short_there : (n : Name) (ts : Tables) (d : Database) → tables_of n d ≡ Some ts → are_short d ≡ true → is_short n ≡ true
short_there n ts [] there all = absurd cc
short_there n ts (e ∷ d) there all =
    let q = and_parts (is_short e.0 && have_short_names e.1) (are_short d) all in
    let name = and_parts (is_short e.0) (have_short_names e.1) q.0 in
    elim (at n e.0) as (λ b. at n e.0 ≡ b → is_short n ≡ true) [
      | true ↦ λ z. ap is_short (at_is n e.0 z) ∙ name.0
      | false ↦ λ z. short_there n ts d (sym (ap (λ b. cond b (Some e.1) (lookup (at n) d)) z) ∙ there) q.1
    ] refl

-- ---- a table that is too full

abbrev pub IsShortTable : TableName → Type 0
IsShortTable t = (is_short t.db ≡ true) × (is_short t.name ≡ true)

full_short_in : (db : Name) (ts : Tables) (t : TableName) → is_short db ≡ true → full_in db ts ≡ Some t → have_short_names ts ≡ true → IsShortTable t
full_short_in db [] t s h all = absurd cc
full_short_in db (e ∷ ts) t s h all =
    let q = and_parts (is_short e.0 && true) (have_short_names ts) all in
    let name = and_parts (is_short e.0) true q.0 in
    let called : TableName = record { db = db; name = e.0 } in
    elim (nat_lt most_rows (length e.1.rows)) as (λ b. (when b called or_else full_in db ts) ≡ Some t → IsShortTable t) [
      | true ↦ λ z. subst IsShortTable (some_is called t z) (s, name.0)
      | false ↦ λ z. full_short_in db ts t s z q.1
    ] h

pub full_short : (d : Database) (t : TableName) → full_table d ≡ Some t → are_short d ≡ true → IsShortTable t
full_short [] t h all = absurd cc
full_short (e ∷ d) t h all =
    let q = and_parts (is_short e.0 && have_short_names e.1) (are_short d) all in
    let named = and_parts (is_short e.0) (have_short_names e.1) q.0 in
    elim (full_in e.0 e.1) as (λ o. full_in e.0 e.1 ≡ o → (o or_else full_table d) ≡ Some t → IsShortTable t) [
      | Some u ↦ λ z y. full_short_in e.0 e.1 t named.0 (z ∙ y) named.1
      | None ↦ λ z y. full_short d t y q.1
    ] refl h
