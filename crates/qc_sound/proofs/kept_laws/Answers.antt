use Rattle.qc_sound.specs.Moment.{at_rest}
use Rattle.qc_sound.proofs.Laws.{within, fits_on, fills_apart, once}
use Rattle.qc_sound.proofs.Frees.{fills_free}
use Rattle.qc_sound.proofs.Apart.{tasks_apart}
use Rattle.qc_sound.proofs.kept_laws.Goals as goal

pub returns-clause-within : goal.returns-clause-within
returns-clause-within c = λ hash. within (at_rest hash)

pub returns-clause-fits_on : goal.returns-clause-fits_on
returns-clause-fits_on c = λ hash. fits_on (at_rest hash)

pub returns-clause-fills_free : goal.returns-clause-fills_free
returns-clause-fills_free c = λ hash. fills_free (at_rest hash)

pub returns-clause-fills_apart : goal.returns-clause-fills_apart
returns-clause-fills_apart c = λ hash. fills_apart (at_rest hash)

pub returns-clause-tasks_apart : goal.returns-clause-tasks_apart
returns-clause-tasks_apart c = λ hash. tasks_apart (at_rest hash)

pub returns-clause-once : goal.returns-clause-once
returns-clause-once c = λ hash. once (at_rest hash)
