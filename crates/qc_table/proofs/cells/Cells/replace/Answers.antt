-- A text takes its part of the room.
use Rattle.std.proofs.Common.{◌+◌, length, suc, subst, sym}
use Rattle.std.specs.Prelude.{sum_by}
use Rattle.std.proofs.lemmas.List.Sums.{sum_by-cons}
use Rattle.qc_table.specs.Columns.{text_length, HasTextRoom}
use Rattle.qc_table.proofs.TextSteps.{texts_length}
use Rattle.qc_table.proofs.cells.Cells.replace.Goals as goal

pub replace-requires-clause-row : goal.replace-requires-clause-row
replace-requires-clause-row c =
    let t = c.in-Texts.texts in
    rw (c.in-Texts.is, texts_length 0 0 t.ends.items t.bytes.items t.nulls.items) at c.requires.row

pub returns-in-Texts-clause-room : goal.returns-in-Texts-clause-room
returns-in-Texts-clause-room c = λ rest room.
    let texts = c.in-Texts.texts in
    let left = sum_by text_length rest in
    let has = rw c.in-Texts.is at room in
    let counted = subst (λ n. HasTextRoom (suc (length rest)) n texts) (sum_by-cons text_length c.args.value.now rest) has in
    c.replace.ensures.room (length rest) left (subst (λ v. HasTextRoom (suc (length rest)) (text_length v + left) texts) (sym c.bytes.ensures) counted)
