use Rattle.std.proofs.Common.{ℕ, List, ◌++◌, sym, ap, subst, ◌∙◌}
use Rattle.std.specs.Prelude.{IsPermutation}
use Rattle.qc_model.specs.declared.events.Event.TheVariants as event
use Rattle.qc_model.specs.declared.events.How.TheVariants as how
use Rattle.qc_chain.specs.Chains.{Ranged}
use Rattle.qc_dir.specs.declared.tables.TableBlock.{TableBlock}
use Rattle.qc_core.specs.declared.server_state.ServerState.{ServerState}
use Rattle.qc_core.specs.Whole.{with_event}
use Rattle.qc_core.specs.EntryInsertion.{MayAdd, IsAdded}
use Rattle.qc_core.proofs.Starting.{may_put, put_adds, put_listed, put_stands}
use Rattle.qc_core.proofs.entry_start.put_in.Goals as goal

pub add_entry-requires-clause-may : goal.add_entry-requires-clause-may
add_entry-requires-clause-may c =
    let h = c.args.held.now in
    subst (λ (q : ServerState × Ranged). MayAdd c.args.serial c.args.hand c.args.taken q.0 q.1.room) (λ i. (sym (c.value-2.ensures.value ∙ c.value.ensures.value) i, sym (c.replace-ranges.ensures.value ∙ c.ranges-2.ensures.value) i))
    (may_put c.args.who c.args.serial c.args.key c.args.tables c.args.hand c.args.taken h c.requires)

pub returns-clause-stands : goal.returns-clause-stands
returns-clause-stands c =
    let h = c.args.held.now in
    let new = c.add_entry.new.self in
    let a = subst (λ (q : ℕ × List ℕ × ServerState). IsAdded q.0 c.args.serial q.1 c.args.hand c.args.taken q.2 new) (λ i. (c.number-seat.ensures i, c.bytes.ensures i, (c.value-2.ensures.value ∙ c.value.ensures.value) i)) c.add_entry.ensures.added in
    let is = c.push.ensures.pushed ∙ ap (with_event (event.Run c.args.who (how.Start c.args.serial c.args.key c.args.tables))) c.value-3.ensures.value in
    put_stands c.args.who c.args.serial c.args.key c.args.tables c.args.hand c.args.taken h c.requires new c.push.new.self c.add_entry.new.ranges a is

pub returns-clause-adds : goal.returns-clause-adds
returns-clause-adds c =
    let h = c.args.held.now in
    let new = c.add_entry.new.self in
    let a = subst (λ (q : ℕ × List ℕ × ServerState). IsAdded q.0 c.args.serial q.1 c.args.hand c.args.taken q.2 new) (λ i. (c.number-seat.ensures i, c.bytes.ensures i, (c.value-2.ensures.value ∙ c.value.ensures.value) i)) c.add_entry.ensures.added in
    let is = c.push.ensures.pushed ∙ ap (with_event (event.Run c.args.who (how.Start c.args.serial c.args.key c.args.tables))) c.value-3.ensures.value in
    put_adds c.args.who c.args.serial c.args.key c.args.tables c.args.hand c.args.taken h c.requires new c.push.new.self c.add_entry.new.ranges a is

pub returns-clause-blocks : goal.returns-clause-blocks
returns-clause-blocks c =
    let h = c.args.held.now in
    let new = c.add_entry.new.self in
    let a = subst (λ (q : ℕ × List ℕ × ServerState). IsAdded q.0 c.args.serial q.1 c.args.hand c.args.taken q.2 new) (λ i. (c.number-seat.ensures i, c.bytes.ensures i, (c.value-2.ensures.value ∙ c.value.ensures.value) i)) c.add_entry.ensures.added in
    let is = c.push.ensures.pushed ∙ ap (with_event (event.Run c.args.who (how.Start c.args.serial c.args.key c.args.tables))) c.value-3.ensures.value in
    subst (λ (ts : List TableBlock). IsPermutation ts (c.args.hand.fresh ++ h.value.dir.tables)) (sym (ap (λ (x : ServerState). x.dir.tables) is)) a.dir.tables

pub returns-clause-listed : goal.returns-clause-listed
returns-clause-listed c =
    let h = c.args.held.now in
    let new = c.add_entry.new.self in
    let a = subst (λ (q : ℕ × List ℕ × ServerState). IsAdded q.0 c.args.serial q.1 c.args.hand c.args.taken q.2 new) (λ i. (c.number-seat.ensures i, c.bytes.ensures i, (c.value-2.ensures.value ∙ c.value.ensures.value) i)) c.add_entry.ensures.added in
    let is = c.push.ensures.pushed ∙ ap (with_event (event.Run c.args.who (how.Start c.args.serial c.args.key c.args.tables))) c.value-3.ensures.value in
    put_listed c.args.who c.args.serial c.args.key c.args.tables c.args.hand c.args.taken h c.requires new c.push.new.self c.add_entry.new.ranges a is
