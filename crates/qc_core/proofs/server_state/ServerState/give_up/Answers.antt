use Rattle.std.proofs.Common.{◌≤◌, sym, ap, subst, ◌∙◌}
use Rattle.qc_dir.specs.Directory.{IsDirectory}
use Rattle.qc_model.specs.declared.events.Event.TheVariants as event
use Rattle.qc_core.specs.declared.server_state.ServerState.{ServerState}
use Rattle.qc_core.specs.Whole.{with_event}
use Rattle.qc_core.specs.FillEnd.{EndsFill}
use Rattle.qc_core.proofs.GivingUp.{may_leave, may_rest, room, gives_up}
use Rattle.qc_core.proofs.Sparing.{room_for_none, all_left}
use Rattle.qc_core.proofs.server_state.ServerState.give_up.Goals as goal

pub drop_entry-requires-clause-may : goal.drop_entry-requires-clause-may
drop_entry-requires-clause-may c = may_leave c.args.seat c.args.serial c.args.why c.args.self.now c.requires

pub drop_entry-requires-clause-keeps : goal.drop_entry-requires-clause-keeps
drop_entry-requires-clause-keeps c = room_for_none c.args.serial c.args.self.now c.none.result c.none.ensures

pub rest-requires-clause-may : goal.rest-requires-clause-may
rest-requires-clause-may c =
    let u = c.requires in
    let d = all_left c.args.serial c.args.self.now c.drop_entry.new.self c.none.result c.drop_entry.new.hand c.none.ensures c.drop_entry.ensures.left (may_leave c.args.seat c.args.serial c.args.why c.args.self.now u) in
    may_rest c.args.seat c.args.serial c.args.why c.args.self.now u c.drop_entry.new.self d.0 d.1 c.drop_entry.ensures.valid

pub push-requires : goal.push-requires
push-requires c =
    let u = c.requires in
    let d = all_left c.args.serial c.args.self.now c.drop_entry.new.self c.none.result c.drop_entry.new.hand c.none.ensures c.drop_entry.ensures.left (may_leave c.args.seat c.args.serial c.args.why c.args.self.now u) in
    let valid = subst (λ (x : ServerState). IsDirectory x.dir) c.rest.ensures.rested c.rest.ensures.valid in
    subst (λ (x : ServerState). 1 ≤ x.journal.spare) (sym c.rest.ensures.rested) (room c.args.seat c.args.serial c.args.why c.args.self.now u c.drop_entry.new.self d.0 d.1 c.drop_entry.ensures.valid valid)

pub returns-clause-gone : goal.returns-clause-gone
returns-clause-gone c =
    let may = may_leave c.args.seat c.args.serial c.args.why c.args.self.now c.requires in
    let d = all_left c.args.serial c.args.self.now c.drop_entry.new.self c.none.result c.drop_entry.new.hand c.none.ensures c.drop_entry.ensures.left may in
    record { may = may; freed = d.0; mid = c.drop_entry.new.self; left = d.1; server = c.push.ensures.pushed ∙ ap (with_event (event.Gone c.args.serial c.args.why)) c.rest.ensures.rested }

pub returns-clause-ends : goal.returns-clause-ends
returns-clause-ends c = λ u.
    let d = all_left c.args.serial c.args.self.now c.drop_entry.new.self c.none.result c.drop_entry.new.hand c.none.ensures c.drop_entry.ensures.left (may_leave c.args.seat c.args.serial c.args.why c.args.self.now u) in
    let valid = subst (λ (x : ServerState). IsDirectory x.dir) c.rest.ensures.rested c.rest.ensures.valid in
    let ev = event.Gone c.args.serial c.args.why in
    subst (EndsFill ev c.args.seat u.words c.args.self.now) (sym (c.push.ensures.pushed ∙ ap (with_event ev) c.rest.ensures.rested)) (gives_up c.args.seat c.args.serial c.args.why c.args.self.now u c.drop_entry.new.self d.0 d.1 c.drop_entry.ensures.valid valid)
