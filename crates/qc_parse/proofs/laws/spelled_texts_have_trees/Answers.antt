use Rattle.qc_parse.proofs.CompleteStatements.{spelled_are_trees}
use Rattle.qc_parse.proofs.laws.spelled_texts_have_trees.Goals as goal

pub returns : goal.returns
returns c = record { read = spelled_are_trees }
