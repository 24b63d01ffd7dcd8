use Rattle.std.proofs.Common.{rules, ◌≡◌, true, false, [], refl, ap, sym, subst, ◌∙◌}
use Rattle.std.specs.Prelude.{IfErr}
use Rattle.qc_model.specs.Agrees.{is_ended}
use Rattle.qc_chain.specs.Chains.{Ranged}
use Rattle.qc_turn.specs.Seats.{view, words, holder}
use Rattle.qc_turn.specs.Tasks.{listed_for, own, HasBlocks}
use Rattle.qc_turn.specs.Words.{StartsWith}
use Rattle.qc_turn.specs.declared.task.Task.TheVariants as task
use Rattle.qc_core.specs.Whole.{tasks_of}
use Rattle.qc_flow.specs.Growths.{HoldFewer, Widens, WasShort, GrowsShort}
use Rattle.qc_flow.proofs.Holdings.{continues_both, number_on, grown_front}
use Rattle.qc_flow.proofs.Takings.{took_fill, fills_for, fill_content, seat_fills, seat_rests, widens_short, is_full, took_once}
use Rattle.qc_flow.proofs.Told.{has_ended}
use Rattle.qc_flow.proofs.growths.widen.Goals as goal

pub grow_to-requires-clause-stands : goal.grow_to-requires-clause-stands
grow_to-requires-clause-stands g c =
    let t = c.take-held.ensures in
    (took_fill (view c.args.seat.now) c.take-held.result c.args.serial t.held.0 t.taken t.holds c.requires.seated.1).stands

pub grow_to-requires-clause-fills : goal.grow_to-requires-clause-fills
grow_to-requires-clause-fills g c =
    let t = c.take-held.ensures in
    let v = view c.args.seat.now in
    let h = c.take-held.result in
    fills_for v h c.args.seat.now.ranges c.args.serial c.args.total (took_fill v h c.args.serial t.held.0 t.taken t.holds c.requires.seated.1) t.taken c.requires.seated.1 c.requires.seated.0.ranges t.ranges c.requires.wants c.requires.room

pub end_short-step-requires-clause-full : goal.end_short-step-requires-clause-full
end_short-step-requires-clause-full g c =
    let n = c.args.serial in
    let k = c.grow_to.new.held in
    let e = c.grow_to.ensures in
    is_full n c.args.total k c.in-Err.short e.fills (subst (λ r. IfErr r (λ x. WasShort n k.value x × HoldFewer k.ranges.blocks c.args.total)) c.in-Err.is e.err)

pub returns-in-Err-clause-goes_on : goal.returns-in-Err-clause-goes_on
returns-in-Err-clause-goes_on g c =
    let n = c.args.serial in
    let t = c.take-held.ensures in
    let v = view c.args.seat.now in
    let h = c.take-held.result in
    let k = c.grow_to.new.held in
    let m = c.end_short-step.new.held in
    let f = took_fill v h n t.held.0 t.taken t.holds c.requires.seated.1 in
    let both = continues_both h k m c.grow_to.ensures.stands.1 c.end_short-step.ensures.stands.1 in
    let none = subst (λ i. listed_for i (tasks_of m.value) ≡ []) (number_on h k c.grow_to.ensures.stands.1) c.end_short-step.ensures.rests in
    let q = (seat_rests v _ h m n f t.taken c.requires.seated.0.free both.view both.value none c.release.ensures.view).goes_on in
    search (rules, q)

pub release-requires-2-clause-content : goal.release-requires-2-clause-content
release-requires-2-clause-content g c =
    let n = c.args.serial in
    let t = c.take-held.ensures in
    let v = view c.args.seat.now in
    let h = c.take-held.result in
    let k = c.grow_to.new.held in
    let e = c.grow_to.ensures in
    let f = took_fill v h n t.held.0 t.taken t.holds c.requires.seated.1 in
    fill_content v h k c.args.seat.now.ranges n c.args.total f t.taken c.requires.seated.1 e.stands.1 e.fills e.stands.0 c.requires.seated.0.ranges t.ranges c.requires.wants e.words (grown_front c.args.total h.ranges.blocks k.ranges.blocks e.blocks)

pub returns-clause-goes_on : goal.returns-clause-goes_on
returns-clause-goes_on g c =
    let n = c.args.serial in
    let t = c.take-held.ensures in
    let v = view c.args.seat.now in
    let h = c.take-held.result in
    let k = c.grow_to.new.held in
    let e = c.grow_to.ensures in
    let f = took_fill v h n t.held.0 t.taken t.holds c.requires.seated.1 in
    let q = (seat_fills v h k c.args.seat.now.ranges n c.args.total f t.taken c.requires.seated.1 e.stands.1 e.fills _ c.requires.seated.0.free c.release-2.ensures.view).0 in
    search (rules, q)

pub returns-in-Err-clause-step : goal.returns-in-Err-clause-step
returns-in-Err-clause-step g c =
    let n = c.args.serial in
    let t = c.take-held.ensures in
    let v = view c.args.seat.now in
    let h = c.take-held.result in
    let k = c.grow_to.new.held in
    let m = c.end_short-step.new.held in
    let e = c.grow_to.ensures in
    let s = c.end_short-step.ensures in
    let f = took_fill v h n t.held.0 t.taken t.holds c.requires.seated.1 in
    let both = continues_both h k m e.stands.1 s.stands.1 in
    let none = subst (λ i. listed_for i (tasks_of m.value) ≡ []) (number_on h k e.stands.1) s.rests in
    let q = seat_rests v _ h m n f t.taken c.requires.seated.0.free both.view both.value none c.release.ensures.view in
    let listed = subst (λ i. listed_for i (tasks_of k.value) ≡ own i (task.Fill n) k.ranges.blocks) (number_on h k e.stands.1 ∙ ap (λ u. u.number) f.view) e.fills.listed in
    let blocks : h.ranges.blocks ≡ v.blocks = ap (λ (r : Ranged). r.blocks) t.ranges ∙ subst (λ u. HasBlocks u v.blocks c.args.seat.now.ranges.blocks) c.requires.seated.1 c.requires.seated.0.ranges in
    let longer = subst (λ bs. StartsWith k.ranges.blocks bs) blocks (grown_front c.args.total h.ranges.blocks k.ranges.blocks e.blocks) in
    let was = subst (λ r. IfErr r (λ x. WasShort n k.value x × HoldFewer k.ranges.blocks c.args.total)) c.in-Err.is e.err in
    let once = took_once v _ h m n false f both.turns c.release.ensures.view in
    let number : (holder h).number ≡ v.number = ap (λ u. u.number) f.view in
    let grown = subst (λ i. GrowsShort i n h.value h.ranges k.value k.ranges c.in-Err.short) number (subst (λ r. IfErr r (GrowsShort (holder h).number n h.value h.ranges k.value k.ranges)) c.in-Err.is e.grown) in
    let ended = has_ended n _ q.rests (subst (λ j. is_ended n [] j ≡ true) (sym q.seen) s.ended) in
    let told = subst (Widens n c.args.total v _) (sym s.step) (widens_short n c.args.total v _ k.value m.value k.ranges.blocks c.in-Err.short h.value h.ranges k.ranges once grown blocks refl c.requires.fewer (words k, e.stands.0.sound) listed longer was s.events q.seen ended) in
    search (rules, told)
