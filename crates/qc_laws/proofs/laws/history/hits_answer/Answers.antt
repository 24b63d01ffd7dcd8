use Rattle.qc_laws.proofs.history.Answers.{hits_answer}
use Rattle.qc_laws.proofs.laws.history.hits_answer.Goals as goal

pub returns : goal.returns
returns c = hits_answer
