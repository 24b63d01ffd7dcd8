use Rattle.qc_laws.proofs.runs.Whole.{place_new}
use Rattle.qc_model.specs.Agrees.{machine_taking, whole_machine}
use Rattle.qc_laws.proofs.runs.Composes.{compose, quiet, answered}
use Rattle.qc_laws.proofs.laws.runs.runs.Goals as goal

pub returns-clause-one : goal.returns-clause-one
returns-clause-one c = (answered whole_machine, λ takes. answered (machine_taking takes))

pub returns-clause-none : goal.returns-clause-none
returns-clause-none c = (quiet whole_machine, λ takes. quiet (machine_taking takes))

pub returns-clause-compose : goal.returns-clause-compose
returns-clause-compose c = (compose whole_machine, λ takes. compose (machine_taking takes))

pub returns-clause-place : goal.returns-clause-place
returns-clause-place c = (place_new whole_machine, λ takes. place_new (machine_taking takes))
