use Rattle.qc_script.proofs.SessionDraws.{four_sent}
use Rattle.qc_script.proofs.workload_script.setup_input.Goals as goal

pub returns : goal.returns
returns c = four_sent _ _ _ _ _ _ _ _ _ c.in_ok-input.ensures c.in_ok-put_query.ensures c.in_ok-put_init.ensures c.in_ok-put_query-2.ensures c.in_ok-put_query-3.ensures
