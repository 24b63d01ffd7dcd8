-- A database that fits is within rows.
use Rattle.std.proofs.Common.{◌≡◌, true, false, List, [], ◌∷◌, length, refl, ap, sym, arith, Option, Some, None}
use Rattle.std.specs.Prelude.{◌&&◌, ◌==◌, Ok, nat_le, nat_lt}
use Rattle.std.proofs.lemmas.Bool.Decides.{nat_tests}
use Rattle.std.specs.List.{list_all}
use Rattle.qc_types.specs.declared.names.TableName.{TableName}
use Rattle.qc_sql.specs.declared.tables.RowOp.{RowOp}
use Rattle.qc_sql.specs.Database.{Name, Database, Tables, apply, most_rows}
use Rattle.qc_sql.specs.Words.{◌or_else◌, when}
use Rattle.qc_model.specs.Licence.{is_within_rows}
use Rattle.qc_model.specs.Machine.{full_in, full_table}
use Rattle.qc_table.specs.Fitting.{fitting, unless}
use Rattle.qc_table.proofs.Rows.{both}

not_more : (n m : _) → nat_lt m n ≡ false → nat_le n m ≡ true
not_more n m h = grind (arith, nat_tests)

abbrev table_name : Name → Name → TableName
table_name db name = record { db = db; name = name }

tables_within : (db : Name) (ts : Tables) → full_in db ts ≡ None → list_all (λ entry. nat_le (length entry.1.rows) most_rows) ts ≡ true
tables_within db [] none = refl
tables_within db (t ∷ ts) none =
    elim (nat_lt most_rows (length t.1.rows)) as (λ b. nat_lt most_rows (length t.1.rows) ≡ b → ((when b (table_name db t.0)) or_else full_in db ts) ≡ None
    → (nat_le (length t.1.rows) most_rows && list_all (λ entry. nat_le (length entry.1.rows) most_rows) ts) ≡ true) [
      | true ↦ λ p q. absurd cc
      | false ↦ λ p q. rw (not_more _ _ p) (tables_within db ts q)
    ] refl none

none_more : (n m : _) → nat_le n m ≡ true → nat_lt m n ≡ false
none_more n m h = grind (arith, nat_tests)

none_full_in : (db : Name) (ts : Tables) → list_all (λ entry. nat_le (length entry.1.rows) most_rows) ts ≡ true → full_in db ts ≡ None
none_full_in db [] all = refl
none_full_in db (t ∷ ts) all = let here = both _ _ all in rw (none_more _ _ here.0) (none_full_in db ts here.1)

-- no table of a database within rows is too full
pub none_full : (d : Database) → is_within_rows d ≡ true → full_table d ≡ None
none_full [] all = refl
none_full (t ∷ ts) all = let here = both _ _ all in rw (none_full_in t.0 t.1 here.0) (none_full ts here.1)

pub within_rows : (d : Database) → full_table d ≡ None → is_within_rows d ≡ true
within_rows [] none = refl
within_rows (t ∷ ts) none =
    elim (full_in t.0 t.1) as (λ o. full_in t.0 t.1 ≡ o → (o or_else full_table ts) ≡ None → is_within_rows (t ∷ ts) ≡ true) [
      | None ↦ λ p q. rw (tables_within t.0 t.1 p) (within_rows ts q)
      | Some name ↦ λ p q. absurd cc
    ] refl none

pub unless_ok : {X : Type 0} (full : Option TableName) (d x : X) → unless full d ≡ Ok x → (full ≡ None) × (x ≡ d)
unless_ok None d x is = (refl, cc)
unless_ok (Some t) d x is = absurd cc

pub fitted : (d x : Database) → fitting d ≡ Ok x → (full_table d ≡ None) × (x ≡ d)
fitted d x is = unless_ok (full_table d) d x is

is_zero : (n : _) → (n == 0) ≡ true → n ≡ 0
is_zero n h = grind (arith, nat_tests)

-- no operation leaves a database within rows as it is
pub none_made : (ops : List RowOp) (d x : Database) → (length ops == 0) ≡ true → x ≡ d → is_within_rows d ≡ true → fitting (apply ops d) ≡ Ok x
none_made [] d x none same within = rw (none_full d within) (ap Ok (sym same))
none_made (o ∷ ops) d x none same within = absurd (omega (arith, is_zero (length (o ∷ ops)) none))
