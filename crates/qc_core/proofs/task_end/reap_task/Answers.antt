use Rattle.std.proofs.Common.{◌≡◌, ℕ, sym, ap, subst, ◌∙◌}
use Rattle.qc_key.specs.Hash.{hash}
use Rattle.qc_dir.specs.Directory.{IsDirectory}
use Rattle.qc_turn.specs.Views.{idle_of}
use Rattle.qc_turn.specs.Tasks.{listed_for}
use Rattle.qc_turn.specs.Seats.{words, holder, MayRelease, SameHolder, with_value}
use Rattle.qc_sound.specs.Moment.{at_rest}
use Rattle.qc_core.specs.declared.server_state.ServerState.{ServerState}
use Rattle.qc_core.specs.Whole.{tasks_of}
use Rattle.qc_core.specs.TaskEnd.{MayRest, rested}
use Rattle.qc_core.proofs.Standing.{value_stands}
use Rattle.qc_core.proofs.Resting.{rested_sound, rested_follows}
use Rattle.qc_core.proofs.task_end.reap_task.Goals as goal

pub rest-requires-clause-may : goal.rest-requires-clause-may
rest-requires-clause-may c =
    let h = c.args.held.now in
    let sound = c.requires.stands.sound in
    let may = c.requires.may in
    subst (λ (p : ℕ × ServerState). MayRest p.0 p.1) (λ i. (sym c.number-seat.ensures i, sym c.value.ensures.value i)) may

pub rest-requires-clause-valid : goal.rest-requires-clause-valid
rest-requires-clause-valid c = subst (λ (s : ServerState). IsDirectory s.dir) (sym c.value.ensures.value) c.requires.stands.sound.1.directory

pub returns-clause-stands : goal.returns-clause-stands
returns-clause-stands c =
    let h = c.args.held.now in
    let n = (holder h).number in
    let sound = c.requires.stands.sound in
    let may = c.requires.may in
    let is : c.rest.new.self ≡ rested n h.value = c.rest.ensures.rested ∙ (λ i. rested (c.number-seat.ensures i) (c.value.ensures.value i)) in
    let r = rested_sound (words h) h.value n sound may (subst (λ (s : ServerState). IsDirectory s.dir) is c.rest.ensures.valid) in
    subst (λ x. MayRelease (with_value h x) × SameHolder h (with_value h x)) (sym is)
    (value_stands h (rested n h.value) c.requires.stands r.1 (rested_follows (at_rest hash) (words h) n h.value (rested n h.value) (idle_of (holder h).found) r.0))

pub returns-clause-struck : goal.returns-clause-struck
returns-clause-struck c = c.rest.ensures.rested ∙ (λ i. rested (c.number-seat.ensures i) (c.value.ensures.value i))

pub returns-clause-rests : goal.returns-clause-rests
returns-clause-rests c =
    let h = c.args.held.now in
    let n = (holder h).number in
    let sound = c.requires.stands.sound in
    let may = c.requires.may in
    let is : c.rest.new.self ≡ rested n h.value = c.rest.ensures.rested ∙ (λ i. rested (c.number-seat.ensures i) (c.value.ensures.value i)) in
    let r = rested_sound (words h) h.value n sound may (subst (λ (s : ServerState). IsDirectory s.dir) is c.rest.ensures.valid) in
    ap (λ (s : ServerState). listed_for n (tasks_of s)) is ∙ r.0.rests

pub returns-clause-connected : goal.returns-clause-connected
returns-clause-connected c =
    let h = c.args.held.now in
    let n = (holder h).number in
    let sound = c.requires.stands.sound in
    let may = c.requires.may in
    let is : c.rest.new.self ≡ rested n h.value = c.rest.ensures.rested ∙ (λ i. rested (c.number-seat.ensures i) (c.value.ensures.value i)) in
    let r = rested_sound (words h) h.value n sound may (subst (λ (s : ServerState). IsDirectory s.dir) is c.rest.ensures.valid) in
    ap (λ (s : ServerState). s.connected) is ∙ r.0.connected
