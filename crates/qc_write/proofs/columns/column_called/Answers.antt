-- The column is found with its index, or the same is refused.
use Rattle.std.proofs.Common.{◌∙◌, ℕ, ap, Bor, Result, Ok}
use Rattle.std.proofs.lemmas.Result.{err_from_is_err_and}
use Rattle.qc_types.specs.declared.sql_error.SqlError.{SqlError}
use Rattle.qc_sql.specs.declared.tables.Column.{Column}
use Rattle.qc_sql.specs.Effects.{column_called}
use Rattle.qc_sql.specs.Rows.{◌>>=◌}
use Rattle.qc_resolve.proofs.Exits.{refused_too}
use Rattle.qc_write.specs.Placing.{found_of, place_called}
use Rattle.qc_write.proofs.Placings.{called_same}
use Rattle.qc_write.proofs.columns.column_called.Goals as goal

pub returns : goal.returns
returns c =
    called_same c.args.name.now c.args.columns.now
    ∙ ap (λ (r : Result (ℕ × Column) SqlError). r >>= λ f. Ok f.1) c.in_ok-find_column.ensures

pub returns-in_err-find_column : goal.returns-in_err-find_column
returns-in_err-find_column c =
    let p = err_from_is_err_and c.from_residual.result c.from_residual.ensures.1 in
    let name = c.args.name.now in
    let columns = c.args.columns.now in
    rw (p.1, p.2)
    (refused_too found_of (λ (x : Bor Column). x.now) c.in_err-find_column.field-0.0 (place_called name 0 columns) (column_called name columns)
    (λ e h. called_same name columns ∙ ap (λ (r : Result (ℕ × Column) SqlError). r >>= λ f. Ok f.1) h) c.in_err-find_column.ensures)
