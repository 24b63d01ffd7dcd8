use Rattle.qc_flow.proofs.Hits.{hits_answer}
use Rattle.qc_flow.proofs.laws.hits_answer.Goals as goal

pub returns : goal.returns
returns c = hits_answer
