use Rattle.qc_select.proofs.Composing.{outside_early}
use Rattle.qc_select.proofs.selects.outside_reason.Goals as goal

pub returns-in-Some-clause-reason : goal.returns-in-Some-clause-reason
returns-in-Some-clause-reason c =
    outside_early c.args.held.now.value c.value.result.now c.args.state.now.state c.args.asked c.args.select.now c.args.tables.now c.args.key.now c.in_ok-reason.reason c.in-Some.reason c.value.ensures.value c.in_ok-reason.ensures c.in-Some.is
