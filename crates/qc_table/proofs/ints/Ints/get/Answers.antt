-- A number, or NULL where its bit is set.
use Rattle.std.proofs.Common.{◌<◌, ◌∙◌, get_or, length, pos, false, sym, ap, rules, w64, FitsSigned}
use Rattle.std.proofs.lemmas.Int.{to_z-of_z}
use Rattle.qc_table.proofs.IntSteps.{int_at, int_cell}
use Rattle.qc_table.proofs.ints.Ints.get.Goals as goal

pub returns-then-has_bit : goal.returns-then-has_bit
returns-then-has_bit c =
    let ns = c.args.self.now.values.items in
    let ws = c.args.self.now.nulls.items in
    let low : c.args.row < length ns = c.requires.row in
    let bit = rw c.deref.ensures.value at c.has_bit.ensures in
    sym (int_at c.args.row ns ws (pos 0) low ∙ ap (λ b. int_cell b (get_or ns c.args.row (pos 0))) (sym bit ∙ c.if-has_bit.true))

pub returns : goal.returns
returns c =
    let ns = c.args.self.now.values.items in
    let ws = c.args.self.now.nulls.items in
    let low : c.args.row < length ns = c.requires.row in
    let bit = rw c.deref.ensures.value at c.has_bit.ensures in
    let fits : FitsSigned w64 c.index.result.now = search rules in
    rw (to_z-of_z w64 c.index.result.now fits)
    (sym (int_at c.args.row ns ws c.index.result.now low ∙ (ap (λ b. int_cell b (get_or ns c.args.row c.index.result.now)) (sym bit ∙ c.if-has_bit.false) ∙ ap (int_cell false) (sym c.index.ensures))))
