use Rattle.qc_laws.proofs.history.Answers.{starts_answer}
use Rattle.qc_laws.proofs.laws.history.starts_answer.Goals as goal

pub returns : goal.returns
returns c = starts_answer
