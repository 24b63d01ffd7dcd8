use Rattle.qc_app.proofs.workload.Whole.{workload_counts}
use Rattle.qc_app.proofs.workload_laws.workload_counts.Goals as goal

pub returns : goal.returns
returns c = workload_counts
