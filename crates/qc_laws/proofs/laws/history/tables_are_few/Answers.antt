use Rattle.qc_laws.proofs.history.Few.{tables_are_apart, tables_are_few}
use Rattle.qc_laws.proofs.laws.history.tables_are_few.Goals as goal

pub returns-clause-few : goal.returns-clause-few
returns-clause-few c = tables_are_few

pub returns-clause-apart : goal.returns-clause-apart
returns-clause-apart c = tables_are_apart
