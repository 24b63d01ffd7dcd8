use Rattle.qc_key.specs.Hash.{hash}
use Rattle.qc_turn.specs.Seats.{words, holder}
use Rattle.qc_sound.specs.Moment.{at_rest}
use Rattle.qc_core.proofs.Resting.{may_rest}
use Rattle.qc_core.proofs.task_end.reap_own_stream.Goals as goal

pub reap_task-requires-clause-may : goal.reap_task-requires-clause-may
reap_task-requires-clause-may c =
    let h = c.args.held.now in
    let sound = c.requires.stands.sound in
    may_rest (at_rest hash) sound.0 (words h) h.value (holder h).number sound.1 c.requires.rests
