use Rattle.std.proofs.Common.{arith, sym, subst, ◌∙◌}
use Rattle.qc_chain.specs.Chains.{Ranged}
use Rattle.qc_turn.specs.Views.{idle_of}
use Rattle.qc_turn.specs.Seats.{words, holder}
use Rattle.qc_core.specs.declared.server_state.ServerState.{ServerState}
use Rattle.qc_core.specs.FillGrowth.{MayGrowOn, StaysFilling, TellsGrowth}
use Rattle.qc_core.proofs.Standing.{both_stand}
use Rattle.qc_core.proofs.Growing.{may_grow_on, grow_follows}
use Rattle.qc_core.proofs.fill_growth.grow_chain.Goals as goal

pub grow-grown-requires : goal.grow-grown-requires
grow-grown-requires c =
    let h = c.args.held.now in
    let u = may_grow_on (words h) h.value (holder h).number c.args.serial h.ranges c.requires.stands.sound (omega (arith, c.requires.stands.held.width, h.turn.now.small)) c.requires.fills in
    subst (λ (p : ServerState × Ranged). MayGrowOn c.args.serial p.0 p.1) (λ i. (sym (c.value-2.ensures.value ∙ c.value.ensures.value) i, sym (c.replace-ranges.ensures.value ∙ c.ranges-2.ensures.value) i)) u

pub returns-clause-stands : goal.returns-clause-stands
returns-clause-stands c =
    let h = c.args.held.now in
    let n = c.args.serial in
    let same = c.value-2.ensures.value ∙ c.value.ensures.value in
    let hand = c.replace-ranges.ensures.value ∙ c.ranges-2.ensures.value in
    let u = may_grow_on (words h) h.value (holder h).number n h.ranges c.requires.stands.sound (omega (arith, c.requires.stands.held.width, h.turn.now.small)) c.requires.fills in
    let new = c.grow-grown.new.self in
    let st = subst (λ (p : ServerState × Ranged). (u : MayGrowOn n p.0 p.1) → StaysFilling n p.0 new c.grow-grown.new.ranges u.words u.seat) (λ i. (same i, hand i)) c.grow-grown.ensures.stays u in
    let told = subst (λ (p : ServerState × Ranged). TellsGrowth n p.0 p.1 new c.grow-grown.new.ranges c.grow-grown.result) (λ i. (same i, hand i)) c.grow-grown.ensures.told in
    both_stand h c.grow-grown.new.ranges new c.requires.stands (st.names, st.whole) (grow_follows n (holder h).number (idle_of (holder h).found) h.value new c.grow-grown.new.ranges (words h) _ _ c.grow-grown.result told.ok told.err st)

pub returns-clause-listed : goal.returns-clause-listed
returns-clause-listed c =
    let h = c.args.held.now in
    let n = c.args.serial in
    let same = c.value-2.ensures.value ∙ c.value.ensures.value in
    let hand = c.replace-ranges.ensures.value ∙ c.ranges-2.ensures.value in
    let u = may_grow_on (words h) h.value (holder h).number n h.ranges c.requires.stands.sound (omega (arith, c.requires.stands.held.width, h.turn.now.small)) c.requires.fills in
    let st = subst (λ (p : ServerState × Ranged). (u : MayGrowOn n p.0 p.1) → StaysFilling n p.0 c.grow-grown.new.self c.grow-grown.new.ranges u.words u.seat) (λ i. (same i, hand i)) c.grow-grown.ensures.stays u in
    st.alone

pub returns-clause-told : goal.returns-clause-told
returns-clause-told c =
    let h = c.args.held.now in
    let n = c.args.serial in
    let same = c.value-2.ensures.value ∙ c.value.ensures.value in
    let hand = c.replace-ranges.ensures.value ∙ c.ranges-2.ensures.value in
    subst (λ (p : ServerState × Ranged). TellsGrowth n p.0 p.1 c.grow-grown.new.self c.grow-grown.new.ranges c.grow-grown.result) (λ i. (same i, hand i)) c.grow-grown.ensures.told
