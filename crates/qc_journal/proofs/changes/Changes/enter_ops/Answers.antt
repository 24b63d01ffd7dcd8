-- One operation more.
use Rattle.std.proofs.Common.{ap, cond, sym, ◌∙◌, ◌||◌, take}
use Rattle.std.specs.List.{list_any}
use Rattle.std.proofs.lemmas.List.Folds.{list_any_more}
use Rattle.qc_sql.specs.Database.{touches}
use Rattle.qc_journal.specs.Indexed.{found}
use Rattle.qc_journal.proofs.Numbers.{cond-cond, none_in_prefix}
use Rattle.qc_journal.proofs.changes.Changes.enter_ops.Goals as goal

pub loop-op-preserved : goal.loop-op-preserved
loop-op-preserved c =
    let ops = c.args.ops.now in
    let i = c.loop-op.op-index in
    let op = c.op-item.result in
    let number = c.args.number in
    record {
      found = λ t.
          let before = list_any (touches t) (take i ops) in
          let old = found t c.args.self.now in
          c.in_ok-enter_op.ensures.ok t
          ∙ (ap (cond (touches t op) number) (c.loop-op.invariant.found t)
          ∙ (cond-cond before (touches t op) number old
          ∙ ap (λ b. cond b number old) (ap (λ o. before || touches t o) c.op-item.is ∙ sym (list_any_more (touches t) ops i op c.loop-op-test.true))));
      same = c.in_ok-enter_op.ensures.same ∙ c.loop-op.invariant.same;
    }

pub returns-in_err-enter_op-clause-others : goal.returns-in_err-enter_op-clause-others
returns-in_err-enter_op-clause-others c = λ t none.
    ap (found t) c.in_err-enter_op.ensures.err
    ∙ (c.loop-op.invariant.found t
    ∙ ap (λ b. cond b c.args.number (found t c.args.self.now)) (none_in_prefix (touches t) c.args.ops.now c.loop-op.op-index none))
