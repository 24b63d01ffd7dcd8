-- One more operation may meet a row in front of the one so far.
use Rattle.std.proofs.Common.{◌≡◌, ◌∙◌, sym, ap, refl, [], arith}
use Rattle.qc_model.specs.Conflicts.{written_by}
use Rattle.qc_trx.specs.Writes.{is_met, first_own, least}
use Rattle.qc_trx.proofs.Meets.{first_own_none}
use Rattle.qc_trx.proofs.Walks.{at_index, met_next}
use Rattle.qc_trx.proofs.conflict.first_met.Goals as goal

pub loop-op-init : goal.loop-op-init
loop-op-init c = sym (first_own_none (is_met []) c.args.writes.now (λ r. refl))

pub loop-op-preserved : goal.loop-op-preserved
loop-op-preserved c =
    let at = at_index c.args.ops.now c.loop-op.op-index c.op-item.result (omega arith) c.op-item.is in
    let next = met_next c.args.ops.now c.loop-op.op-index c.op-item.result c.args.origin.now c.args.writes.now at in
    c.least-first.ensures
    ∙ (ap (least c.loop-op.first) c.in_ok-first_met_by.ensures
    ∙ (ap (λ o. least o (first_own (is_met (written_by c.op-item.result c.args.origin.now)) c.args.writes.now)) c.loop-op.invariant ∙ sym next))
