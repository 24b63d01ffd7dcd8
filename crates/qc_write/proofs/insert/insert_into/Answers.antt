use Rattle.std.proofs.Common.{◌≡◌, ◌∙◌, sym, ap, ℕ, List, length, Ok, Err, Result}
use Rattle.std.proofs.lemmas.Result.{err_from_is_err_and}
use Rattle.qc_types.specs.Answers.{Gives}
use Rattle.qc_types.specs.declared.sql_error.SqlError.{SqlError}
use Rattle.qc_sql.specs.declared.tables.Column.{Column}
use Rattle.qc_sql.specs.declared.tables.RowOp.{RowOp}
use Rattle.qc_sql.specs.Rows.{◌>>=◌, Bound}
use Rattle.qc_sql.specs.declared.statements.Insert.{Insert}
use Rattle.qc_sql.specs.Effects.{Effect, Validated, effect_of}
use Rattle.qc_write.specs.Inserts.{named_in, places, shape_validated, rows_validated, insert_validated}
use Rattle.qc_write.specs.Targets.{bound_of}
use Rattle.qc_resolve.proofs.Exits.{refused_too}
use Rattle.qc_write.proofs.insert.insert_into.Goals as goal

abbrev of_named : Bound → Insert → List Column → Validated
of_named b insert named = rows_validated b named insert.rows >>= λ ops. Ok (effect_of ops (length ops))

abbrev of_columns : Insert → List Column → Result (List Column) SqlError
of_columns insert columns = shape_validated columns insert.names

pub returns-in_err-shape : goal.returns-in_err-shape
returns-in_err-shape g c =
    let p = err_from_is_err_and c.from_residual.result c.from_residual.ensures.1 in
    let b = bound_of c.args.target.now in
    let insert = c.args.insert.now in
    let columns = c.items-columns.result.now in
    let same : columns ≡ b.table.columns = c.items-columns.ensures ∙ c.columns.ensures.value in
    let told : Gives named_in (λ (e : SqlError). e) (Err c.in_err-shape.field-0.0) (of_columns insert columns) = c.in_err-shape.ensures.gives in
    rw (p.1, p.2)
    (refused_too named_in (λ (e : Effect). e) c.in_err-shape.field-0.0 (of_columns insert columns) (insert_validated b insert)
    (λ e h. ap (λ (r : Result (List Column) SqlError). r >>= of_named b insert) (ap (of_columns insert) (sym same) ∙ h)) told)

pub returns-in_err-ops : goal.returns-in_err-ops
returns-in_err-ops g c =
    let p = err_from_is_err_and c.from_residual-in_err-ops.result c.from_residual-in_err-ops.ensures.1 in
    let b = bound_of c.args.target.now in
    let insert = c.args.insert.now in
    let named = named_in c.in_ok-shape.shape in
    let same : c.items-columns.result.now ≡ b.table.columns = c.items-columns.ensures ∙ c.columns.ensures.value in
    let shaped : of_columns insert b.table.columns ≡ Ok named = ap (of_columns insert) (sym same) ∙ c.in_ok-shape.ensures.gives in
    let told : Gives (λ (ops : List RowOp). ops) (λ (e : SqlError). e) (Err c.in_err-ops.field-0.0) (rows_validated b named c.items.result.now) = c.in_err-ops.ensures in
    rw (p.1, p.2)
    (refused_too (λ (ops : List RowOp). ops) (λ (e : Effect). e) c.in_err-ops.field-0.0 (rows_validated b named c.items.result.now) (insert_validated b insert)
    (λ e h. ap (λ (r : Result (List Column) SqlError). r >>= of_named b insert) shaped
    ∙ ap (λ (r : Result (List RowOp) SqlError). r >>= λ ops. Ok (effect_of ops (length ops))) (ap (rows_validated b named) (sym c.items.ensures) ∙ h)) told)

pub put_rows-requires : goal.put_rows-requires
put_rows-requires g c = c.in_ok-shape.ensures.shape ∙ ap (places (named_in c.in_ok-shape.shape)) (c.items-columns.ensures ∙ c.columns.ensures.value)

pub returns : goal.returns
returns g c =
    let b = bound_of c.args.target.now in
    let insert = c.args.insert.now in
    let named = named_in c.in_ok-shape.shape in
    let ops = c.in_ok-ops.ops in
    let same : c.items-columns.result.now ≡ b.table.columns = c.items-columns.ensures ∙ c.columns.ensures.value in
    let shaped : of_columns insert b.table.columns ≡ Ok named = ap (of_columns insert) (sym same) ∙ c.in_ok-shape.ensures.gives in
    let put : rows_validated b named insert.rows ≡ Ok ops = ap (rows_validated b named) (sym c.items.ensures) ∙ c.in_ok-ops.ensures in
    ap (λ (r : Result (List Column) SqlError). r >>= of_named b insert) shaped
    ∙ ap (λ (r : Result (List RowOp) SqlError). r >>= λ os. Ok (effect_of os (length os))) put
    ∙ ap (λ (e : Effect). Ok e) (sym c.of_rows.ensures)
