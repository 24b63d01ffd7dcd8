-- A column has of each row what the row has there.
use Rattle.std.proofs.Common.{◌≡◌, ◌<◌, ◌∙◌, sym, ap, length}
use Rattle.std.specs.Prelude.{option_copied}
use Rattle.qc_table.specs.Columns.{texts_of}
use Rattle.qc_table.specs.Stored.{values_of}
use Rattle.qc_table.specs.Views.{value_at}
use Rattle.qc_table.proofs.Rows.{column_shows, text_fits}
use Rattle.qc_table.proofs.Stores.{column_length}
use Rattle.qc_table.proofs.TextSteps.{texts_length}
use Rattle.qc_table.proofs.table_rows.TableRows.text.Goals as goal

pub get-requires-clause-row : goal.get-requires-clause-row
get-requires-clause-row c =
    let t = c.in-Texts.texts in
    let rows = c.args.self.now.rows in
    let many : length (texts_of t) ≡ length rows = ap length (sym (ap values_of c.in-Texts.is) ∙ c.cells.ensures.values) ∙ column_length c.args.column rows in
    let low : c.args.row < length (texts_of t) = rw many c.requires.row in
    rw (texts_length 0 0 t.ends.items t.bytes.items t.nulls.items) at low

pub returns-clause-value : goal.returns-clause-value
returns-clause-value c =
    c.get.ensures ∙ (ap (λ vs. value_at vs c.args.row) (sym (ap values_of c.in-Texts.is) ∙ c.cells.ensures.values) ∙ column_shows c.args.self.now.rows c.args.row c.args.column)

pub returns-clause-within : goal.returns-clause-within
returns-clause-within c = text_fits c.args.self.now.columns c.args.self.now.rows c.args.row c.args.column (option_copied c.get.result) c.cells.ensures.sound.rows c.requires.row (returns-clause-value c)
