-- The bits of a column.
use Rattle.qc_table.proofs.IntSteps.{int_nulls}
use Rattle.qc_table.proofs.TextSteps.{text_nulls}
use Rattle.qc_table.proofs.cells.Cells.nulls.Goals as goal

pub returns-in-Ints : goal.returns-in-Ints
returns-in-Ints c =
    let t = c.in-Ints.ints in
    let ready = rw c.in-Ints.is at c.requires in
    rw (c.as_slice.ensures.value, c.in-Ints.is) (int_nulls t.values.items t.nulls.items ready.packed)

pub returns-in-Texts : goal.returns-in-Texts
returns-in-Texts c =
    let t = c.in-Texts.texts in
    let ready = rw c.in-Texts.is at c.requires in
    rw (c.as_slice-in-Texts.ensures.value, c.in-Texts.is) (text_nulls t.ends.items t.bytes.items t.nulls.items ready.packed)
