use Rattle.qc_app.proofs.workload.Whole.{prefixes_stand}
use Rattle.qc_app.proofs.workload_laws.prefixes_stand.Goals as goal

pub returns : goal.returns
returns c = prefixes_stand
