use Rattle.std.proofs.Common.{◌≡◌, ◌≤◌, sym, ap, subst, ◌∙◌}
use Rattle.std.proofs.lemmas.Option.{same_Some}
use Rattle.qc_key.specs.Hash.{hash}
use Rattle.qc_model.specs.declared.events.Event.TheVariants as event
use Rattle.qc_dir.specs.Directory.{IsDirectory}
use Rattle.qc_sound.specs.Moment.{at_rest}
use Rattle.qc_core.specs.declared.server_state.RunningTask.{RunningTask}
use Rattle.qc_core.specs.declared.server_state.ServerState.{ServerState}
use Rattle.qc_core.specs.Whole.{with_event}
use Rattle.qc_core.specs.TaskEnd.{without_task_of}
use Rattle.qc_core.specs.FillEnd.{MayCut, cut_to, with_complete, EndsFill}
use Rattle.qc_core.proofs.Struck.{once_each}
use Rattle.qc_core.proofs.Completing.{may_cut, some_room, completed, cut_journal}
use Rattle.qc_core.proofs.server_state.ServerState.complete.Goals as goal

pub take_task-requires : goal.take_task-requires
take_task-requires c = once_each (at_rest hash) c.requires.names c.requires.words c.args.self.now c.requires.whole

pub cut_chain-requires : goal.cut_chain-requires
cut_chain-requires c =
    let u = c.requires in
    let ended : c.in-Some.ended ≡ u.fills.work = same_Some c.in-Some.ended u.fills.work (sym c.in-Some.is ∙ (c.take_task.ensures.found ∙ u.fills.at)) in
    let same : c.take_task.new.self ≡ without_task_of c.args.seat c.args.self.now = (c.in-Some.ensures {u = tt}).some in
    subst (λ (p : RunningTask × ServerState). MayCut p.0.chain.number c.args.bytes p.1) (λ i. (sym ended i, sym same i)) (may_cut c.args.seat c.args.serial c.args.bytes c.args.self.now u)

pub push-requires : goal.push-requires
push-requires c =
    let s = c.args.self.now in
    let same : c.take_task.new.self ≡ without_task_of c.args.seat s = (c.in-Some.ensures {u = tt}).some in
    let journal = ap (λ (x : ServerState). x.journal) c.cut_chain.ensures ∙ (cut_journal c.in-Some.ended.chain.number c.args.bytes c.take_task.new.self ∙ ap (λ (x : ServerState). x.journal) same) in
    subst (λ j. 1 ≤ j.spare) (sym journal) (some_room c.args.seat c.args.serial c.args.bytes s c.requires)

pub returns-clause-ends : goal.returns-clause-ends
returns-clause-ends c = λ u.
    let s = c.args.self.now in
    let x = c.cut_chain.new.self in
    let ev = event.Done c.args.serial in
    let ended : c.in-Some.ended ≡ u.fills.work = same_Some c.in-Some.ended u.fills.work (sym c.in-Some.is ∙ (c.take_task.ensures.found ∙ u.fills.at)) in
    let same : c.take_task.new.self ≡ without_task_of c.args.seat s = (c.in-Some.ensures {u = tt}).some in
    let is : x ≡ cut_to u.fills.work.chain.number c.args.bytes (without_task_of c.args.seat s) = c.cut_chain.ensures ∙ (λ i. cut_to (ended i).chain.number c.args.bytes (same i)) in
    let ends = completed c.args.seat c.args.serial c.args.bytes s u x is (subst IsDirectory c.complete.ensures.entries c.complete.ensures.valid) in
    subst (EndsFill ev c.args.seat u.words s) (sym (c.push.ensures.pushed ∙ (λ i. with_event ev (record x { dir = c.complete.ensures.entries i })))) ends

pub returns-clause-done : goal.returns-clause-done
returns-clause-done c =
    let n = c.args.serial in
    let x = c.cut_chain.new.self in
    let ev = event.Done n in
    let ended = c.in-Some.ended in
    let same : c.take_task.new.self ≡ without_task_of c.args.seat c.args.self.now = (c.in-Some.ensures {u = tt}).some in
    record {
      work = ended;
      at = sym c.take_task.ensures.found ∙ c.in-Some.is;
      server = c.push.ensures.pushed ∙ ((λ i. with_event ev (record x { dir = c.complete.ensures.entries i })) ∙ ap (λ (z : ServerState). with_event ev (with_complete n z)) (c.cut_chain.ensures ∙ ap (cut_to ended.chain.number c.args.bytes) same));
    }
