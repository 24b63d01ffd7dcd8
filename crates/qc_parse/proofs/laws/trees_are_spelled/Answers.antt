use Rattle.qc_parse.proofs.SoundStatements.{trees_are_spelled}
use Rattle.qc_parse.proofs.laws.trees_are_spelled.Goals as goal

pub returns : goal.returns
returns c = record { spelled = trees_are_spelled }
