use Rattle.std.proofs.Common.{◌≡◌, ◌+◌, true, false, List, [], ◌∷◌, length, refl, ap, sym, subst, ◌∙◌, arith, length-append, true≢false, Option}
use Rattle.std.specs.Prelude.{IfSome}
use Rattle.qc_model.specs.declared.events.Event.{Event}
use Rattle.qc_turn.specs.declared.seat.Seat.{Seat}
use Rattle.qc_turn.specs.Seats.{IsSeatOf, view}
use Rattle.qc_turn.specs.Views.{after_meet}
use Rattle.qc_core.specs.contracts.server.ServerKept.TheImpl.{ghosts}
use Rattle.qc_core.specs.declared.server_state.ServerState.{ServerState}
use Rattle.qc_app.specs.declared.outcomes.Outcome.{Outcome}
use Rattle.qc_app.specs.SessionEnds.{HasMetBehind, IsOutcomeOf}
use Rattle.qc_app.proofs.Meeting.{met_more, met_none, popped_from}
use Rattle.qc_app.proofs.session_ends.join_sessions.Goals as goal

pub loop-slot-init : goal.loop-slot-init
loop-slot-init c = (
  subst (λ (os : List Outcome). HasMetBehind c.args.turn.now c.args.first.now c.args.first.now c.args.slots.items c.args.slots.items true os) (sym c.requires.room.0)
      (met_none c.args.turn.now c.args.first.now c.args.slots.items c.requires.first.0),
  refl,
)

pub into_parts-seat-requires : goal.into_parts-seat-requires
into_parts-seat-requires c =
    let m = popped_from c.args.turn.now c.args.first.now c.loop-slot.first c.args.slots.items c.loop-slot.slots.items c.pop.new.self.items c.in-Some.slot c.loop-slot.served c.loop-slot.outcomes.items c.requires.met c.loop-slot.invariant.0 c.in-Some.ensures.items in m.ended

pub meet-requires-clause-seated : goal.meet-requires-clause-seated
meet-requires-clause-seated c =
    let m = popped_from c.args.turn.now c.args.first.now c.loop-slot.first c.args.slots.items c.loop-slot.slots.items c.pop.new.self.items c.in-Some.slot c.loop-slot.served c.loop-slot.outcomes.items c.requires.met c.loop-slot.invariant.0 c.in-Some.ensures.items in
    let left = m.left in
    let apart = left.apart in
    let i = c.loop-slot.invariant.0 in
    let first = i.first in
    (first.seated, subst (λ (s : Seat ServerState Event ghosts). IsSeatOf c.args.turn.now s) (sym c.into_parts-seat.ensures.seat) apart.seated)

pub meet-requires-clause-first : goal.meet-requires-clause-first
meet-requires-clause-first c =
    let m = popped_from c.args.turn.now c.args.first.now c.loop-slot.first c.args.slots.items c.loop-slot.slots.items c.pop.new.self.items c.in-Some.slot c.loop-slot.served c.loop-slot.outcomes.items c.requires.met c.loop-slot.invariant.0 c.in-Some.ensures.items in
    let left = m.left in
    let i = c.loop-slot.invariant.0 in
    let first = i.first in
    let number : (view c.into_parts-seat.result.0).number ≡ length c.pop.new.self.items + 1 + 1 = ap (λ (s : Seat ServerState Event ghosts). (view s).number) c.into_parts-seat.ensures.seat ∙ left.number in
    (first.number, omega (arith, number))

pub meet-requires-clause-rests : goal.meet-requires-clause-rests
meet-requires-clause-rests c =
    let m = popped_from c.args.turn.now c.args.first.now c.loop-slot.first c.args.slots.items c.loop-slot.slots.items c.pop.new.self.items c.in-Some.slot c.loop-slot.served c.loop-slot.outcomes.items c.requires.met c.loop-slot.invariant.0 c.in-Some.ensures.items in
    let left = m.left in
    let apart = left.apart in
    ap (λ (s : Seat ServerState Event ghosts). (view s).task) c.into_parts-seat.ensures.seat ∙ apart.task

pub loop-slot-preserved-in-Some-outcome : goal.loop-slot-preserved-in-Some-outcome
loop-slot-preserved-in-Some-outcome c =
    let i = c.loop-slot.invariant in
    let slot = c.in-Some.slot in
    let outcomes = c.loop-slot.outcomes.items in
    let outcome = c.in-Some-outcome.outcome in
    let pushed = c.push_reserved.ensures.items in (
      met_more c.args.turn.now c.args.first.now c.loop-slot.first c.meet.new.self c.args.slots.items c.pop.new.self.items c.loop-slot.slots.items slot c.loop-slot.served c.loop-slot.served outcomes c.push_reserved.new.self.items c.requires.met c.requires.first.1 c.in-Some.ensures.items i.0 c.meet.ensures.seated
          (c.meet.ensures.view ∙ ap (λ (s : Seat ServerState Event ghosts). after_meet (view c.loop-slot.first) (view s)) c.into_parts-seat.ensures.seat)
          (let l = ap length pushed in let a = length-append outcomes (outcome ∷ []) in omega (arith, l, a))
          (λ e. (e, (outcome, subst (λ (o : Option Outcome). IfSome o (IsOutcomeOf slot)) c.in-Some-outcome.is c.into_parts-seat.ensures.outcome, pushed))),
      c.push_reserved.ensures.capacity ∙ i.1,
    )

pub loop-slot-preserved : goal.loop-slot-preserved
loop-slot-preserved c =
    let i = c.loop-slot.invariant in (
      met_more c.args.turn.now c.args.first.now c.loop-slot.first c.meet.new.self c.args.slots.items c.pop.new.self.items c.loop-slot.slots.items c.in-Some.slot c.loop-slot.served false c.loop-slot.outcomes.items c.loop-slot.outcomes.items c.requires.met c.requires.first.1 c.in-Some.ensures.items i.0 c.meet.ensures.seated
          (c.meet.ensures.view ∙ ap (λ (s : Seat ServerState Event ghosts). after_meet (view c.loop-slot.first) (view s)) c.into_parts-seat.ensures.seat)
          (omega arith)
          (λ e. absurd (true≢false (sym e))),
      i.1,
    )
