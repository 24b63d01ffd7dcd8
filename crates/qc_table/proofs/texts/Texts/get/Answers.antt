-- A text, or NULL where its bit is set.
use Rattle.std.proofs.Common.{◌∙◌, sym, ap}
use Rattle.qc_table.specs.Columns.{part_at}
use Rattle.qc_table.proofs.TextSteps.{text_at, text_cell}
use Rattle.qc_table.proofs.texts.Texts.get.Goals as goal

pub returns-then-has_bit : goal.returns-then-has_bit
returns-then-has_bit c =
    let t = c.args.self.now in
    let bit = rw c.deref.ensures.value at c.has_bit.ensures in
    sym (text_at c.args.row t.ends.items t.bytes.items t.nulls.items c.requires.row ∙ ap (λ b. text_cell b (part_at t.ends.items t.bytes.items c.args.row)) (sym bit ∙ c.if-has_bit.true))

pub returns-else-has_bit : goal.returns-else-has_bit
returns-else-has_bit c =
    let t = c.args.self.now in
    let bit = rw c.deref.ensures.value at c.has_bit.ensures in
    rw c.part.ensures
    (sym (text_at c.args.row t.ends.items t.bytes.items t.nulls.items c.requires.row ∙ ap (λ b. text_cell b (part_at t.ends.items t.bytes.items c.args.row)) (sym bit ∙ c.if-has_bit.false)))
