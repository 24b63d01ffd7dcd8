use Rattle.std.proofs.Common.{◌≡◌, ◌∙◌, sym, ap, [], Ok, List, ℕ, ℤ, Result, length, map, subst, Vec, Global}
use Rattle.std.specs.List.{AllByRecursion}
use Rattle.std.proofs.lemmas.Result.{err_from_is_err_and}
use Rattle.qc_types.specs.declared.names.TableName.{TableName}
use Rattle.qc_types.specs.declared.names.Value.{Value}
use Rattle.qc_types.specs.declared.sql_error.SqlError.{SqlError}
use Rattle.qc_sql.specs.declared.tables.Column.{Column}
use Rattle.qc_sql.specs.declared.tables.RowOp.{RowOp}
use Rattle.qc_sql.specs.declared.statements.Assignment.{Assignment}
use Rattle.qc_sql.specs.Database.{MapOf}
use Rattle.qc_sql.specs.Effects.{Effect, effect_of}
use Rattle.qc_sql.specs.Rows.{each}
use Rattle.qc_resolve.specs.Kept.{kept_rows}
use Rattle.qc_resolve.specs.Steps.{run}
use Rattle.qc_eval.specs.Entries.{entry_at}
use Rattle.qc_write.specs.declared.assignments.Placed.{Placed}
use Rattle.qc_write.specs.Placing.{IsPlacingIn, Placing, assignment_placed, placing_of, put_step, update_validated}
use Rattle.qc_write.specs.Targets.{bound_of}
use Rattle.qc_resolve.proofs.Exits.{refused_too}
use Rattle.qc_write.proofs.KeyColumns.{names_differ}
use Rattle.qc_write.proofs.KeptEntries.{cond_refused, places_within, rows_changed, rows_refused, sets_refused}
use Rattle.qc_write.proofs.update.update_in.Goals as goal

same_sets : (cs ds : List Column) (xs ys : List Assignment) → cs ≡ ds → xs ≡ ys → each (assignment_placed ds) ys ≡ each (assignment_placed cs) xs
same_sets cs ds xs ys h k = (λ j. each (assignment_placed (sym h j)) (sym k j))

same_run : (t : TableName) (rows : MapOf ℤ (List Value)) (ps qs : List Placed) (is js : List ℕ) → ps ≡ qs → is ≡ js
    → run (put_step t (map placing_of qs) rows) js [] ≡ run (put_step t (map placing_of ps) rows) is []
same_run t rows ps qs is js h k = (λ j. run (put_step t (map placing_of (sym h j)) rows) (sym k j) [])

pub returns-in_err-sets : goal.returns-in_err-sets
returns-in_err-sets g c =
    let p = err_from_is_err_and c.from_residual.result c.from_residual.ensures.1 in
    let b = bound_of c.args.target.now in
    let update = c.args.update.now in
    rw (p.1, p.2)
    (refused_too (λ (ps : Vec Placed Global). map placing_of ps.items) (λ (e : Effect). e) c.in_err-sets.field-0.0 (each (assignment_placed c.items.result.now) c.items-2.result.now) (update_validated b c.args.db.now c.args.session update)
    (λ e h. sets_refused b c.args.db.now c.args.session update e (same_sets c.items.result.now b.table.columns c.items-2.result.now update.sets (c.items.ensures ∙ c.columns.ensures.value) c.items-2.ensures ∙ h))
    c.in_err-sets.ensures)

pub returns-in_err-rows : goal.returns-in_err-rows
returns-in_err-rows g c =
    let p = err_from_is_err_and c.from_residual-in_err-rows.result c.from_residual-in_err-rows.ensures.1 in
    let b = bound_of c.args.target.now in
    let update = c.args.update.now in
    rw (p.1, p.2)
    (refused_too (λ (is : List ℕ). map (entry_at b.table.rows) is) (λ (e : Effect). e) c.in_err-rows.field-0.0 (kept_rows b.name b.table update.cond c.args.db.now c.args.session) (update_validated b c.args.db.now c.args.session update)
    (λ e h. cond_refused b c.args.db.now c.args.session update (map placing_of c.in_ok-sets.sets.items)
    (same_sets c.items.result.now b.table.columns c.items-2.result.now update.sets (c.items.ensures ∙ c.columns.ensures.value) c.items-2.ensures ∙ c.in_ok-sets.ensures) e h)
    c.in_err-rows.ensures.gives)

pub returns-in_err-ops : goal.returns-in_err-ops
returns-in_err-ops g c =
    let p = err_from_is_err_and c.from_residual-in_err-ops.result c.from_residual-in_err-ops.ensures.1 in
    let b = bound_of c.args.target.now in
    let update = c.args.update.now in
    rw (p.1, p.2)
    (refused_too (λ (ops : List RowOp). ops) (λ (e : Effect). e) c.in_err-ops.field-0.0 (run (put_step b.name (map placing_of c.deref.result.now) b.table.rows) c.items-3.result.now []) (update_validated b c.args.db.now c.args.session update)
    (λ e h. rows_refused b c.args.db.now c.args.session update (map placing_of c.in_ok-sets.sets.items)
    (same_sets c.items.result.now b.table.columns c.items-2.result.now update.sets (c.items.ensures ∙ c.columns.ensures.value) c.items-2.ensures ∙ c.in_ok-sets.ensures) c.in_ok-rows.rows e c.in_ok-rows.ensures.gives
    (same_run b.name b.table.rows c.deref.result.now c.in_ok-sets.sets.items c.items-3.result.now c.in_ok-rows.rows c.deref.ensures.value c.items-3.ensures ∙ h))
    c.in_err-ops.ensures)

pub put_rows-requires-clause-places : goal.put_rows-requires-clause-places
put_rows-requires-clause-places g c =
    let b = bound_of c.args.target.now in
    let update = c.args.update.now in
    subst (λ (ps : List Placed). AllByRecursion (IsPlacingIn (length b.table.columns)) (map placing_of ps)) (sym c.deref.ensures.value)
    (places_within b.table.columns (names_differ b.table.columns c.columns.ensures.sound.columns) update.sets (map placing_of c.in_ok-sets.sets.items)
    (same_sets c.items.result.now b.table.columns c.items-2.result.now update.sets (c.items.ensures ∙ c.columns.ensures.value) c.items-2.ensures ∙ c.in_ok-sets.ensures))

pub returns : goal.returns
returns g c =
    let b = bound_of c.args.target.now in
    let update = c.args.update.now in
    let ops = c.in_ok-ops.ops in
    rows_changed b c.args.db.now c.args.session update (map placing_of c.in_ok-sets.sets.items)
    (same_sets c.items.result.now b.table.columns c.items-2.result.now update.sets (c.items.ensures ∙ c.columns.ensures.value) c.items-2.ensures ∙ c.in_ok-sets.ensures) c.in_ok-rows.rows ops c.in_ok-rows.ensures.gives
    (same_run b.name b.table.rows c.deref.result.now c.in_ok-sets.sets.items c.items-3.result.now c.in_ok-rows.rows c.deref.ensures.value c.items-3.ensures ∙ c.in_ok-ops.ensures)
    ∙ ap (λ (e : Effect). Ok e) (sym c.of_rows.ensures)
