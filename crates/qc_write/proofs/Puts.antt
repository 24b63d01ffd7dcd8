-- UPDATE by indexes and places does what it does by rows and names.
use Rattle.std.proofs.Common.{◌≡◌, ℕ, ℤ, ◌+◌, Bool, true, false, cond, List, [], ◌∷◌, ◌++◌, length, map, filter, refl, sym, ap, ◌∙◌, subst, arith, Option, Some, None, Result, Ok, Err, append_assoc, append-nil}
use Rattle.std.specs.Prelude.{not}
use Rattle.std.specs.List.{AllByRecursion}
use Rattle.std.proofs.lemmas.List.{length-map}
use Rattle.qc_types.specs.declared.names.TableName.{TableName}
use Rattle.qc_types.specs.declared.names.Value.{Value}
use Rattle.qc_types.specs.declared.sql_error.SqlError.{SqlError}
use Rattle.qc_sql.specs.declared.tables.Column.{Column}
use Rattle.qc_sql.specs.declared.tables.RowOp.{RowOp}
use Rattle.qc_sql.specs.declared.tables.RowOp.TheVariants as op
use Rattle.qc_sql.specs.declared.statements.Cond.{Cond}
use Rattle.qc_sql.specs.declared.statements.Update.{Update}
use Rattle.qc_sql.specs.Database.{Name, Database, Table}
use Rattle.qc_sql.specs.Effects.{Validated, Set, assigned, assignment, effect_of, labelled, matching, same_values, scope_of, update_effect, values_in}
use Rattle.qc_sql.specs.Rows.{◌>>=◌, Bound, Combination, condition, each}
use Rattle.qc_sql.specs.Rules.{full_name}
use Rattle.qc_model.specs.Licence.{row_fits, value_fits}
use Rattle.qc_table.specs.Tables.{IsSound}
use Rattle.qc_model.specs.Sound.{IsRow}
use Rattle.qc_resolve.specs.Kept.{under_its_name}
use Rattle.qc_resolve.specs.Steps.{run}
use Rattle.qc_resolve.proofs.Fits.{all_filter}
use Rattle.qc_write.specs.Placing.{Placing, assignment_placed, placed, changed_row, put_of, put_row, update_validated}
use Rattle.qc_write.specs.Targets.{target_in}
use Rattle.qc_write.proofs.KeyColumns.{names_differ}
use Rattle.qc_write.proofs.Named.{Differ, and_parts}
use Rattle.qc_write.proofs.Placings.{AreSame, SameSets, paired, row_same, sets_same}

abbrev Entry : Type 0
Entry = ℤ × List Value

abbrev Pair : Type 0
Pair = List Value × List Value

abbrev changed : List Pair → List Pair
changed pairs = filter (λ (p : Pair). not (same_values p.0 p.1)) pairs

abbrev puts_of : TableName → List Pair → List RowOp
puts_of t pairs = map (λ (p : Pair). op.Put t p.1) (changed pairs)

-- ---- the rows of a sound table

row_long : (cs : List Column) (row : List Value) → row_fits cs row ≡ true → length row ≡ length cs
row_long [] [] h = refl
row_long [] (v ∷ vs) h = absurd cc
row_long (c ∷ cs) [] h = absurd cc
row_long (c ∷ cs) (v ∷ vs) h = let rest = row_long cs vs (and_parts (value_fits c v) (row_fits cs vs) h).1 in omega arith

rows_long : (cs : List Column) (rows : List Entry) → AllByRecursion (IsRow cs) rows → AllByRecursion (λ e. length e.1 ≡ length cs) rows
rows_long cs [] h = tt
rows_long cs (e ∷ es) h = (row_long cs e.1 h.0.0, rows_long cs es h.1)

-- ---- row by row

module _ (cs : List Column) (differ : Differ cs) (t : TableName) (ss : List Set) (ps : List Placing) (same : AreSame cs ss ps) where
  abbrev changes : Entry → Result Pair SqlError
  changes entry = assigned ss (labelled cs entry.1) >>= λ row. paired entry.1 (values_in row)

  pair_put : (done : List RowOp) (old new : List Value) (pairs : List Pair) (b : Bool)
      → done ++ map (λ (p : Pair). op.Put t p.1) (cond (not b) ((old, new) ∷ changed pairs) (changed pairs)) ≡ (done ++ put_of t (cond b None (Some new))) ++ puts_of t pairs
  pair_put done old new pairs true = ap (λ ops. ops ++ puts_of t pairs) (sym (append-nil done))
  pair_put done old new pairs false = sym (append_assoc done (op.Put t new ∷ []) (puts_of t pairs))

  pairs_put : (done : List RowOp) (old new : List Value) (r : Result (List Pair) SqlError)
      → ((r >>= λ pairs. Ok ((old, new) ∷ pairs)) >>= λ pairs. Ok (done ++ puts_of t pairs)) ≡ (r >>= λ pairs. Ok ((done ++ put_of t (cond (same_values old new) None (Some new))) ++ puts_of t pairs))
  pairs_put done old new (Ok pairs) = ap Ok (pair_put done old new pairs (same_values old new))
  pairs_put done old new (Err e) = refl

  row_case : (e : Entry) (es : List Entry) (done : List RowOp) (r : Result (List Value) SqlError)
      → ((more : List RowOp) → (each changes es >>= λ pairs. Ok (more ++ puts_of t pairs)) ≡ run (λ (e : Entry). put_row t ps e.1) es more)
      → (((r >>= paired e.1) >>= λ y. each changes es >>= λ ys. Ok (y ∷ ys)) >>= λ pairs. Ok (done ++ puts_of t pairs))
      ≡ (((r >>= λ new. Ok (cond (same_values e.1 new) None (Some new))) >>= λ new. Ok (done ++ put_of t new)) >>= run (λ (e : Entry). put_row t ps e.1) es)
  row_case e es done (Ok new) ih = pairs_put done e.1 new (each changes es) ∙ ih (done ++ put_of t (cond (same_values e.1 new) None (Some new)))
  row_case e es done (Err x) ih = refl

  rows_same : (es : List Entry) (done : List RowOp) → AllByRecursion (λ e. length e.1 ≡ length cs) es
      → (each changes es >>= λ pairs. Ok (done ++ puts_of t pairs)) ≡ run (λ (e : Entry). put_row t ps e.1) es done
  rows_same [] done h = ap Ok (append-nil done)
  rows_same (e ∷ es) done h =
      ap (λ (r : Result Pair SqlError). (r >>= λ y. each changes es >>= λ ys. Ok (y ∷ ys)) >>= λ pairs. Ok (done ++ puts_of t pairs)) (row_same cs differ e.1 ss ps e.1 same h.0)
      ∙ row_case e es done (placed ps e.1) (λ more. rows_same es more h.1)

  counted : (r : Result (List Pair) SqlError)
      → (r >>= λ pairs. Ok (effect_of (puts_of t pairs) (length (changed pairs)))) ≡ ((r >>= λ pairs. Ok ([] ++ puts_of t pairs)) >>= λ ops. Ok (effect_of ops (length ops)))
  counted (Ok pairs) = ap (λ n. Ok (effect_of (puts_of t pairs) n)) (sym (length-map (changed pairs) (λ (p : Pair). op.Put t p.1)))
  counted (Err e) = refl

  pub entries_same : (es : List Entry) → AllByRecursion (λ e. length e.1 ≡ length cs) es
      → (each changes es >>= λ pairs. Ok (effect_of (puts_of t pairs) (length (changed pairs)))) ≡ (run (λ (e : Entry). put_row t ps e.1) es [] >>= λ ops. Ok (effect_of ops (length ops)))
  entries_same es h = counted (each changes es) ∙ ap (λ (r : Result (List RowOp) SqlError). r >>= λ ops. Ok (effect_of ops (length ops))) (rows_same es [] h)

-- ---- the steps

-- what UPDATE is meant to do to a table
abbrev pub meant_by : TableName → Bound → Name → ℕ → Update → Validated
meant_by t b db session update =
    each (assignment b.table.columns) update.sets >>= λ sets.
    condition (scope_of b db session) update.cond >>= λ keeps.
    each (λ (entry : Entry). assigned sets (labelled b.table.columns entry.1) >>= λ row. Ok (entry.1, values_in row)) (matching b.table keeps) >>= λ pairs.
    Ok (effect_of (puts_of t pairs) (length (changed pairs)))

module _ (t : TableName) (table : Table) (sound : IsSound table) where
  -- what the assignments make of the rows that a condition keeps
  abbrev by_names : List Set → Result (Combination → Bool) SqlError → Validated
  by_names ss r =
      r >>= λ keeps. each (λ (entry : Entry). assigned ss (labelled table.columns entry.1) >>= λ row. Ok (entry.1, values_in row)) (matching table keeps) >>= λ pairs.
      Ok (effect_of (puts_of t pairs) (length (changed pairs)))

  abbrev by_places : List Placing → Result (Combination → Bool) SqlError → Validated
  by_places ps r =
      (r >>= λ keeps. Ok (matching table keeps)) >>= λ entries. run (λ (entry : Entry). put_row t ps entry.1) entries [] >>= λ ops.
      Ok (effect_of ops (length ops))

  kept_case : (ss : List Set) (ps : List Placing) (r : Result (Combination → Bool) SqlError) → AreSame table.columns ss ps → by_names ss r ≡ by_places ps r
  kept_case ss ps (Ok keeps) same =
      entries_same table.columns (names_differ table.columns sound.columns) t ss ps same (matching table keeps)
      (all_filter (λ (e : Entry). length e.1 ≡ length table.columns) (λ (e : Entry). keeps (e.1 ∷ [])) table.rows (rows_long table.columns table.rows sound.rows))
  kept_case ss ps (Err e) same = refl

  sets_case : (r : Result (List Set) SqlError) (w : Result (List Placing) SqlError) (k : Result (Combination → Bool) SqlError) → SameSets table.columns r w
      → (r >>= λ ss. by_names ss k) ≡ (w >>= λ ps. by_places ps k)
  sets_case (Ok ss) (Ok ps) k same = kept_case ss ps k same
  sets_case (Err e) (Err f) k same = ap Err same
  sets_case (Ok ss) (Err e) k same = absurd same
  sets_case (Err e) (Ok ps) k same = absurd same

  pub update_same : (db : Name) (session : ℕ) (update : Update) → meant_by t (under_its_name t table) db session update ≡ update_validated (under_its_name t table) db session update
  update_same db session update =
      sets_case (each (assignment table.columns) update.sets) (each (assignment_placed table.columns) update.sets) (condition (scope_of (under_its_name t table) db session) update.cond)
      (sets_same table.columns (names_differ table.columns sound.columns) update.sets)

-- the table is found
pub update_found : (d : Database) (db : Name) (session : ℕ) (update : Update) (t : TableName) (table : Table) → IsSound table → target_in d db update.table ≡ Ok (under_its_name t table) → t ≡ full_name db update.table
    → update_effect d db session update ≡ update_validated (under_its_name t table) db session update
update_found d db session update t table sound found named =
    ap (λ (r : Result Bound SqlError). r >>= λ b. meant_by (full_name db update.table) b db session update) found
    ∙ ap (λ (n : TableName). meant_by n (under_its_name t table) db session update) (sym named)
    ∙ update_same t table sound db session update

pub update_lost : (d : Database) (db : Name) (session : ℕ) (update : Update) (e : SqlError) → target_in d db update.table ≡ Err e → update_effect d db session update ≡ Err e
update_lost d db session update e lost = ap (λ (r : Result Bound SqlError). r >>= λ b. meant_by (full_name db update.table) b db session update) lost
