use Rattle.qc_laws.proofs.runs.Cutting.{cuts_none, takes_one, takes_more, takes_all}
use Rattle.qc_laws.proofs.laws.runs.cuts.Goals as goal

pub returns-clause-none : goal.returns-clause-none
returns-clause-none c = cuts_none

pub returns-clause-one : goal.returns-clause-one
returns-clause-one c = takes_one

pub returns-clause-more : goal.returns-clause-more
returns-clause-more c = takes_more

pub returns-clause-all : goal.returns-clause-all
returns-clause-all c = takes_all
