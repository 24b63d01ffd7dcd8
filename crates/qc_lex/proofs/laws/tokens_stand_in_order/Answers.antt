use Rattle.qc_lex.proofs.Places.{all_rise, all_mean}
use Rattle.qc_lex.proofs.laws.tokens_stand_in_order.Goals as goal

pub returns-clause-spans : goal.returns-clause-spans
returns-clause-spans c = all_rise

pub returns-clause-meanings : goal.returns-clause-meanings
returns-clause-meanings c = all_mean
