use Rattle.std.proofs.Common.{sym, subst}
use Rattle.qc_key.specs.Hash.{hash}
use Rattle.qc_turn.specs.Seats.{words, holder}
use Rattle.qc_sound.specs.Moment.{at_rest}
use Rattle.qc_core.specs.declared.server_state.ServerState.{ServerState}
use Rattle.qc_core.specs.TaskEnd.{MayRest}
use Rattle.qc_core.specs.OvertakenFill.{WasOvertaken}
use Rattle.qc_core.proofs.Filling.{fills_of, was_overtaken, may_rest_fill}
use Rattle.qc_core.proofs.fill_end.end_overtaken.Goals as goal

pub overtaken-by-requires : goal.overtaken-by-requires
overtaken-by-requires c =
    let h = c.args.held.now in
    let n = (holder h).number in
    let sound = c.requires.stands.sound in
    let f = fills_of h.value n c.args.serial c.requires.fills.0 c.requires.fills.1 in
    subst (λ (s : ServerState). WasOvertaken s.journal.events c.args.serial) (sym c.value.ensures.value) (was_overtaken (at_rest hash) sound.0 (words h) h.value n c.args.serial sound.1 f c.requires.left)

pub reap_task-requires-clause-may : goal.reap_task-requires-clause-may
reap_task-requires-clause-may c =
    let h = c.args.held.now in
    let n = (holder h).number in
    let sound = c.requires.stands.sound in
    let f = fills_of h.value n c.args.serial c.requires.fills.0 c.requires.fills.1 in
    subst (MayRest n) (sym c.value.ensures.value) (may_rest_fill (at_rest hash) sound.0 (words h) h.value n c.args.serial sound.1 f c.requires.left)
