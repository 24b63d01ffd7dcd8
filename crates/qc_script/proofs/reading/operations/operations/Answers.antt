use Rattle.std.proofs.Common.{ap, sym, subst, ◌∙◌}
use Rattle.std.proofs.lemmas.List.Elements.{All-push}
use Rattle.std.proofs.lemmas.Result.{err_from_is_err_and}
use Rattle.qc_script.specs.ShortNames.{MakesShortColumns}
use Rattle.qc_script.specs.Told.{each, op_told}
use Rattle.qc_script.proofs.Loops.{Fails, texts, each_goes_on, each_fails, each_done}
use Rattle.qc_script.proofs.reading.operations.operations.Goals as goal

pub returns-in_err-operation-clause-told : goal.returns-in_err-operation-clause-told
returns-in_err-operation-clause-told c =
    let p = err_from_is_err_and c.from_residual-in_err-operation.result c.from_residual-in_err-operation.ensures.1 in
    let ms = c.deref-member-items.result.now in
    let is = ap texts c.deref-member-items.ensures.value ∙ c.in_ok-members_of.ensures in
    rw (p.1, p.2) (subst (λ xs. Fails c.in_err-operation.field-0.0 (each op_told c.args.made.now xs)) is
    (each_fails op_told c.in_err-operation.field-0.0 c.loop-member.ops ms c.loop-member.member-index _ c.loop-member.made (each op_told c.args.made.now (texts ms)) c.loop-member-test.true c.in_err-operation.ensures.told c.loop-member.invariant.told))

pub loop-member-preserved : goal.loop-member-preserved
loop-member-preserved c =
    let ms = c.deref-member-items.result.now in record {
      short = rw c.in_ok-push.ensures.ok (All-push MakesShortColumns c.loop-member.ops c.in_ok-operation.field-0 c.loop-member.invariant.short c.in_ok-operation.ensures.short);
      told = rw c.in_ok-push.ensures.ok (each_goes_on op_told c.loop-member.ops ms c.loop-member.member-index _ c.loop-member.made _ c.in_ok-operation.field-0 (each op_told c.args.made.now (texts ms)) c.loop-member-test.true c.in_ok-operation.ensures.told c.loop-member.invariant.told);
    }

pub returns-clause-told : goal.returns-clause-told
returns-clause-told c =
    let ms = c.deref-member-items.result.now in
    let is = ap texts c.deref-member-items.ensures.value ∙ c.in_ok-members_of.ensures in
    ap (each op_told c.args.made.now) (sym is) ∙ each_done op_told c.loop-member.ops ms c.loop-member.member-index c.loop-member.made (each op_told c.args.made.now (texts ms)) c.loop-member-test.false c.loop-member.invariant.told
