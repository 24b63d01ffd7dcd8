-- DELETE by indexes does what it does by rows.
use Rattle.std.proofs.Common.{◌≡◌, ℕ, List, length, map, refl, sym, ap, ◌∙◌, Option, Bool, Result, Ok, Err}
use Rattle.qc_types.specs.declared.names.TableName.{TableName}
use Rattle.qc_types.specs.declared.sql_error.SqlError.{SqlError}
use Rattle.qc_sql.specs.declared.statements.Cond.{Cond}
use Rattle.qc_sql.specs.declared.statements.TableRef.{TableRef}
use Rattle.qc_sql.specs.Database.{Name, Database, Table}
use Rattle.qc_sql.specs.Effects.{Validated, delete_effect, effect_of, matching, scope_of}
use Rattle.qc_sql.specs.Rows.{◌>>=◌, Bound, Combination, condition}
use Rattle.qc_sql.specs.Rules.{full_name}
use Rattle.qc_resolve.specs.Kept.{under_its_name}
use Rattle.qc_write.specs.Removing.{del_of, delete_validated}
use Rattle.qc_write.specs.Targets.{target_in}

-- what DELETE is meant to do to a table
abbrev meant_by : TableName → Bound → Name → ℕ → Option Cond → Validated
meant_by t b db session cond =
    condition (scope_of b db session) cond >>= λ keeps.
    Ok (effect_of (map (del_of t) (matching b.table keeps)) (length (matching b.table keeps)))

delete_same : (t : TableName) (table : Table) (r : Result (Combination → Bool) SqlError)
    → (r >>= λ keeps. Ok (effect_of (map (del_of t) (matching table keeps)) (length (matching table keeps)))) ≡ ((r >>= λ keeps. Ok (matching table keeps)) >>= λ gone. Ok (effect_of (map (del_of t) gone) (length gone)))
delete_same t table (Ok keeps) = refl
delete_same t table (Err e) = refl

-- the table is found
pub delete_found : (d : Database) (db : Name) (session : ℕ) (ref : TableRef) (cond : Option Cond) (t : TableName) (table : Table) → target_in d db ref ≡ Ok (under_its_name t table) → t ≡ full_name db ref
    → delete_effect d db session ref cond ≡ delete_validated (under_its_name t table) db session cond
delete_found d db session ref cond t table found named =
    ap (λ (r : Result Bound SqlError). r >>= λ b. meant_by (full_name db ref) b db session cond) found
    ∙ ap (λ (n : TableName). meant_by n (under_its_name t table) db session cond) (sym named)
    ∙ delete_same t table (condition (scope_of (under_its_name t table) db session) cond)

pub delete_lost : (d : Database) (db : Name) (session : ℕ) (ref : TableRef) (cond : Option Cond) (e : SqlError) → target_in d db ref ≡ Err e → delete_effect d db session ref cond ≡ Err e
delete_lost d db session ref cond e lost = ap (λ (r : Result Bound SqlError). r >>= λ b. meant_by (full_name db ref) b db session cond) lost
