use Rattle.qc_laws.proofs.runs.Whole.{runs_agree}
use Rattle.qc_model.specs.Agrees.{machine_taking, whole_machine}
use Rattle.qc_laws.proofs.runs.Ends.{ends, agrees}
use Rattle.qc_laws.proofs.laws.runs.one_agrees.Goals as goal

pub returns-clause-lines : goal.returns-clause-lines
returns-clause-lines c = (ends whole_machine, λ takes. ends (machine_taking takes))

pub returns-clause-agrees : goal.returns-clause-agrees
returns-clause-agrees c = (agrees whole_machine, λ takes. agrees (machine_taking takes))

pub returns-clause-whole : goal.returns-clause-whole
returns-clause-whole c = (runs_agree whole_machine, λ takes. runs_agree (machine_taking takes))
