use Rattle.qc_flow.proofs.Begins.{fills_answer}
use Rattle.qc_flow.proofs.laws.fills_answer.Goals as goal

pub returns : goal.returns
returns c = fills_answer
