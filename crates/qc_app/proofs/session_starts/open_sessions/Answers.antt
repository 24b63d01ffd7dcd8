use Rattle.std.proofs.Common.{ℕ, [], length, refl, sym, subst, ◌∙◌, length-append, ◌∷◌}
use Rattle.std.proofs.lemmas.Iterator.Consumers.{YieldsList-turn}
use Rattle.std.proofs.lemmas.Iterator.Adapters.{YieldsList-from_vec}
use Rattle.qc_app.specs.SessionStarts.{IsOpening}
use Rattle.qc_app.proofs.Opening.{may_open, opening_more, opening_none}
use Rattle.qc_app.proofs.session_starts.open_sessions.Goals as goal

pub loop-input-init : goal.loop-input-init
loop-input-init g c = (opening_none c.args.turn.now c.args.options.now c.args.first.now c.args.inputs.items c.args.slots.now.items c.requires.first c.requires.room.0, refl)

pub open-requires : goal.open-requires
open-requires g c =
    let gives = c.into_iter-input-iterator.ensures.into_iter_gives in
    let road = YieldsList-from_vec {s = c.into_iter-input-iterator.result} c.args.inputs.items gives.0 (gives.1 ∙ c.args.inputs.ok.0) in
    let t = YieldsList-turn road c.loop-input.yielded c.loop-input.input-iterator c.loop-input.yielded_by _ c.next.new.self c.in-Some.input c.in-Some.is c.next.ensures.steps in
    may_open c.args.turn.now c.args.options.now c.args.first.now c.loop-input.first c.args.inputs.items c.loop-input.slots.items (length c.loop-input.yielded) c.loop-input.invariant.0 t.0 c.requires.few

pub loop-input-preserved : goal.loop-input-preserved
loop-input-preserved g c =
    let gives = c.into_iter-input-iterator.ensures.into_iter_gives in
    let road = YieldsList-from_vec {s = c.into_iter-input-iterator.result} c.args.inputs.items gives.0 (gives.1 ∙ c.args.inputs.ok.0) in
    let t = YieldsList-turn road c.loop-input.yielded c.loop-input.input-iterator c.loop-input.yielded_by _ c.next.new.self c.in-Some.input c.in-Some.is c.next.ensures.steps in
    let i = c.loop-input.invariant in
    let n = length c.loop-input.yielded in
    let more = opening_more c.args.turn.now c.args.options.now c.args.first.now c.loop-input.first c.open.new.first c.args.inputs.items c.loop-input.slots.items c.push_reserved.new.self.items n c.in-Some.input c.in_ok-slot.slot i.0 t.0 t.1
    c.open.ensures.same.0 c.in_ok-slot.ensures.split c.in_ok-slot.ensures.opens c.push_reserved.ensures.items in (
      subst (λ (k : ℕ). IsOpening c.args.turn.now c.args.options.now c.args.first.now c.open.new.first c.args.inputs.items c.push_reserved.new.self.items k) (sym (length-append c.loop-input.yielded (c.in-Some.input ∷ []))) more,
      c.push_reserved.ensures.capacity ∙ i.1,
    )
