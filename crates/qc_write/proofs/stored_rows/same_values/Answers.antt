use Rattle.std.proofs.Common.{◌≡◌, ◌∙◌, sym, arith}
use Rattle.qc_write.proofs.Turns.{values_agree, values_differ, values_ended}
use Rattle.qc_write.proofs.stored_rows.same_values.Goals as goal

pub returns-then-not-is_same : goal.returns-then-not-is_same
returns-then-not-is_same c =
    sym (c.loop-index.invariant
    ∙ values_differ c.args.old.now c.args.new.now c.loop-index.index c.index-old-index.result c.index-new-index.result c.loop-index-test.true (let long = c.requires in let below = c.loop-index-test.true in omega arith)
    c.index-old-index.is c.index-new-index.is (sym c.if-not-is_same.ensures))

pub loop-index-preserved : goal.loop-index-preserved
loop-index-preserved c =
    c.loop-index.invariant
    ∙ values_agree c.args.old.now c.args.new.now c.loop-index.index c.index-old-index.result c.index-new-index.result c.loop-index-test.true (let long = c.requires in let below = c.loop-index-test.true in omega arith)
    c.index-old-index.is c.index-new-index.is (sym c.if-not-is_same.ensures)

pub returns : goal.returns
returns c = sym (c.loop-index.invariant ∙ values_ended c.args.old.now c.args.new.now c.loop-index.index c.loop-index-test.false c.requires)
