-- As many values as there are numbers, or texts.
use Rattle.qc_table.proofs.TextSteps.{texts_length}
use Rattle.qc_table.proofs.cells.Cells.push_from.Goals as goal

pub get-requires-in-Texts-Texts-clause-row : goal.get-requires-in-Texts-Texts-clause-row
get-requires-in-Texts-Texts-clause-row c =
    let t = c.in-Texts-Texts.other in
    rw (c.in-Texts-Texts.is-1, texts_length 0 0 t.ends.items t.bytes.items t.nulls.items) at c.requires.row
