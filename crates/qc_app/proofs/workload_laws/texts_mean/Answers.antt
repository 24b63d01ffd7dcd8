use Rattle.qc_app.proofs.workload.Fixed.{fixed_texts_mean}
use Rattle.qc_app.proofs.workload_laws.texts_mean.Goals as goal

pub returns : goal.returns
returns c = fixed_texts_mean
