use Rattle.qc_parse.proofs.Complete.{one_condition}
use Rattle.qc_parse.proofs.CompleteStatements.{one_statement}
use Rattle.qc_parse.proofs.laws.texts_have_one_tree.Goals as goal

pub returns-clause-statement : goal.returns-clause-statement
returns-clause-statement c = one_statement

pub returns-clause-condition : goal.returns-clause-condition
returns-clause-condition c = one_condition
