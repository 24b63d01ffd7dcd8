-- What UPDATE and DELETE do to a table, by the indexes of the rows that are kept.
use Rattle.std.proofs.Common.{◌≡◌, ℕ, ℤ, List, [], ◌∷◌, length, map, refl, sym, ap, ◌∙◌, subst, Option, Result, Ok, Err}
use Rattle.std.specs.List.{AllByRecursion}
use Rattle.std.proofs.lemmas.List.{length-map}
use Rattle.qc_types.specs.declared.names.TableName.{TableName}
use Rattle.qc_types.specs.declared.names.Value.{Value}
use Rattle.qc_types.specs.declared.sql_error.SqlError.{SqlError}
use Rattle.qc_sql.specs.declared.tables.Column.{Column}
use Rattle.qc_sql.specs.declared.tables.RowOp.{RowOp}
use Rattle.qc_sql.specs.declared.statements.Assignment.{Assignment}
use Rattle.qc_sql.specs.declared.statements.Cond.{Cond}
use Rattle.qc_sql.specs.declared.statements.Update.{Update}
use Rattle.qc_sql.specs.Database.{Name, MapOf}
use Rattle.qc_sql.specs.Effects.{Validated, Set, assignment, effect_of}
use Rattle.qc_sql.specs.Rows.{◌>>=◌, Bound, each}
use Rattle.qc_resolve.specs.Kept.{kept_rows}
use Rattle.qc_resolve.specs.Steps.{run}
use Rattle.qc_eval.specs.Entries.{entry_at}
use Rattle.qc_write.specs.Placing.{Placing, IsPlacingIn, assignment_placed, put_row, put_step, update_validated}
use Rattle.qc_write.specs.Removing.{del_of, delete_validated}
use Rattle.qc_write.proofs.Named.{Differ}
use Rattle.qc_write.proofs.Placings.{SameSets, all_within, sets_same}

abbrev Entry : Type 0
Entry = ℤ × List Value

-- ---- DELETE

mapped_twice : {A B C : Type 0} (f : B → C) (g : A → B) (xs : List A) → map f (map g xs) ≡ map (λ x. f (g x)) xs
mapped_twice f g [] = refl
mapped_twice f g (x ∷ xs) = ap (λ ys. f (g x) ∷ ys) (mapped_twice f g xs)

pub rows_gone : (b : Bound) (db : Name) (session : ℕ) (cond : Option Cond) (is : List ℕ) (ops : List RowOp) → kept_rows b.name b.table cond db session ≡ Ok (map (entry_at b.table.rows) is)
    → ops ≡ map (λ i. del_of b.name (entry_at b.table.rows i)) is → delete_validated b db session cond ≡ Ok (effect_of ops (length ops))
rows_gone b db session cond is ops kept made =
    let f : Entry → RowOp = del_of b.name in
    let g : ℕ → Entry = entry_at b.table.rows in
    let same : map f (map g is) ≡ ops = mapped_twice f g is ∙ sym made in
    let many : length (map g is) ≡ length ops = length-map is g ∙ sym (length-map is (λ i. f (g i))) ∙ sym (ap length made) in
    ap (λ (r : Result (List Entry) SqlError). r >>= λ gone. Ok (effect_of (map f gone) (length gone))) kept ∙ (λ i. Ok (effect_of (same i) (many i)))

-- ---- UPDATE

pub places_within : (cs : List Column) → Differ cs → (all : List Assignment) (ps : List Placing) → each (assignment_placed cs) all ≡ Ok ps → AllByRecursion (IsPlacingIn (length cs)) ps
places_within cs differ all ps placed = by (each (assignment cs) all) (subst (SameSets cs (each (assignment cs) all)) placed (sets_same cs differ all))
  where
    by : (r : Result (List Set) SqlError) → SameSets cs r (Ok ps) → AllByRecursion (IsPlacingIn (length cs)) ps
    by (Ok ss) same = all_within cs ss ps same
    by (Err e) same = absurd same

run_indexes : (t : TableName) (ps : List Placing) (rows : MapOf ℤ (List Value)) (is : List ℕ) (ops : List RowOp)
    → run (λ (entry : Entry). put_row t ps entry.1) (map (entry_at rows) is) ops ≡ run (put_step t ps rows) is ops
run_indexes t ps rows [] ops = refl
run_indexes t ps rows (i ∷ is) ops = (λ n. put_step t ps rows i ops >>= λ more. run_indexes t ps rows is more n)

-- what the rows come to, where the assignments and the condition are good
abbrev of_ops : Result (List RowOp) SqlError → Validated
of_ops r = r >>= λ ops. Ok (effect_of ops (length ops))

pub sets_refused : (b : Bound) (db : Name) (session : ℕ) (update : Update) (e : SqlError) → each (assignment_placed b.table.columns) update.sets ≡ Err e → update_validated b db session update ≡ Err e
sets_refused b db session update e placed =
    ap (λ (r : Result (List Placing) SqlError). r >>= λ ps. kept_rows b.name b.table update.cond db session >>= λ entries. of_ops (run (λ (entry : Entry). put_row b.name ps entry.1) entries [])) placed

module _ (b : Bound) (db : Name) (session : ℕ) (update : Update) (ps : List Placing) (placed : each (assignment_placed b.table.columns) update.sets ≡ Ok ps) where
  sets_good : update_validated b db session update ≡ (kept_rows b.name b.table update.cond db session >>= λ entries. of_ops (run (λ (entry : Entry). put_row b.name ps entry.1) entries []))
  sets_good =
      ap (λ (r : Result (List Placing) SqlError). r >>= λ ps. kept_rows b.name b.table update.cond db session >>= λ entries. of_ops (run (λ (entry : Entry). put_row b.name ps entry.1) entries [])) placed

  pub cond_refused : (e : SqlError) → kept_rows b.name b.table update.cond db session ≡ Err e → update_validated b db session update ≡ Err e
  cond_refused e kept = sets_good ∙ ap (λ (r : Result (List Entry) SqlError). r >>= λ entries. of_ops (run (λ (entry : Entry). put_row b.name ps entry.1) entries [])) kept

  pub rows_run : (is : List ℕ) → kept_rows b.name b.table update.cond db session ≡ Ok (map (entry_at b.table.rows) is) → update_validated b db session update ≡ of_ops (run (put_step b.name ps b.table.rows) is [])
  rows_run is kept =
      sets_good ∙ ap (λ (r : Result (List Entry) SqlError). r >>= λ entries. of_ops (run (λ (entry : Entry). put_row b.name ps entry.1) entries [])) kept
      ∙ ap of_ops (run_indexes b.name ps b.table.rows is [])

  pub rows_refused : (is : List ℕ) (e : SqlError) → kept_rows b.name b.table update.cond db session ≡ Ok (map (entry_at b.table.rows) is) → run (put_step b.name ps b.table.rows) is [] ≡ Err e → update_validated b db session update ≡ Err e
  rows_refused is e kept run_is = rows_run is kept ∙ ap of_ops run_is

  pub rows_changed : (is : List ℕ) (ops : List RowOp) → kept_rows b.name b.table update.cond db session ≡ Ok (map (entry_at b.table.rows) is) → run (put_step b.name ps b.table.rows) is [] ≡ Ok ops → update_validated b db session update ≡ Ok (effect_of ops (length ops))
  rows_changed is ops kept run_is = rows_run is kept ∙ ap of_ops run_is
