-- As many values as there are texts.
use Rattle.qc_table.proofs.TextSteps.{texts_length}
use Rattle.qc_table.proofs.cells.Cells.remove.Goals as goal

pub remove-requires-in-Texts-clause-row : goal.remove-requires-in-Texts-clause-row
remove-requires-in-Texts-clause-row c =
    let t = c.in-Texts.texts in
    rw (c.in-Texts.is, texts_length 0 0 t.ends.items t.bytes.items t.nulls.items) at c.requires.row
