use Rattle.std.proofs.Common.{◌≡◌, ap, subst, ◌∙◌, refl}
use Rattle.qc_chain.specs.Chains.{Ranged}
use Rattle.qc_turn.specs.Tasks.{listed_for, own}
use Rattle.qc_turn.specs.declared.task.Task.TheVariants as task
use Rattle.qc_turn.specs.Seats.{holder, with_ranges}
use Rattle.qc_core.specs.declared.server_state.ServerState.{ServerState}
use Rattle.qc_core.specs.Whole.{tasks_of}
use Rattle.qc_core.specs.FillGrowth.{TellsGrowth}
use Rattle.qc_core.specs.EndedStreams.{Finds}
use Rattle.qc_core.proofs.Sweeping.{finds_same}
use Rattle.qc_core.proofs.Growing.{swept_fills}
use Rattle.qc_core.proofs.fill_growth.grow.Goals as goal

pub grow_chain-requires-clause-fills : goal.grow_chain-requires-clause-fills
grow_chain-requires-clause-fills c =
    let h = c.args.held.now in
    let k = c.reap_ended_streams.new.held in
    let w = c.reap_ended_streams.ensures.swept in
    swept_fills (holder h).number (holder k).number c.args.serial h.value k.value h.ranges k.ranges w.0 (ap (λ v. v.number) w.1.holder) w.1.ranges w.2 c.requires.fills

pub returns-clause-listed : goal.returns-clause-listed
returns-clause-listed c =
    let w = c.reap_ended_streams.ensures.swept in
    subst (λ n. listed_for n (tasks_of c.grow_chain.new.held.value) ≡ own n (task.Fill c.args.serial) c.grow_chain.new.held.ranges.blocks) (ap (λ v. v.number) w.1.holder) c.grow_chain.ensures.listed

pub returns-clause-found : goal.returns-clause-found
returns-clause-found c =
    let h = c.args.held.now in
    let k = c.reap_ended_streams.new.held in
    let m = c.grow_chain.new.held in
    let w = c.reap_ended_streams.ensures.swept in
    let p = c.grow_chain.ensures.stands.1 in (
      w.0,
      w.3,
      subst (λ (r : Ranged). Finds h (with_ranges m r) w.0) w.1.ranges (finds_same h k (with_ranges m k.ranges) w.0 w.1 (record { seat = p.seat; turn = p.turn; holder = p.holder }) refl),
      subst (λ (p : ServerState × Ranged). TellsGrowth c.args.serial p.0 p.1 m.value m.ranges c.grow_chain.result) (λ i. (w.2.value i, w.1.ranges i)) c.grow_chain.ensures.told,
    )

pub returns-clause-words : goal.returns-clause-words
returns-clause-words c = c.grow_chain.ensures.words ∙ c.reap_ended_streams.ensures.words
