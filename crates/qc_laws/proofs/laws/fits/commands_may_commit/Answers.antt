use Rattle.qc_laws.proofs.fits.Machines.{commands_may_commit, commands_rest, locals_rest, others_rest}
use Rattle.qc_laws.proofs.laws.fits.commands_may_commit.Goals as goal

pub returns-clause-commits : goal.returns-clause-commits
returns-clause-commits c = commands_may_commit

pub returns-clause-rest : goal.returns-clause-rest
returns-clause-rest c = commands_rest

pub returns-clause-locals : goal.returns-clause-locals
returns-clause-locals c = locals_rest

pub returns-clause-others : goal.returns-clause-others
returns-clause-others c = others_rest
