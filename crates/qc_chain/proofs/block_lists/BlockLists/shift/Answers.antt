use Rattle.std.proofs.Common.{◌≡◌, ◌∙◌, ap, map, arith}
use Rattle.std.specs.Vec.{with_items}
use Rattle.std.proofs.lemmas.List.{with_items_is}
use Rattle.qc_chain.specs.Listed.{moved_in}
use Rattle.qc_chain.proofs.BlockSteps.{lists-moved, listed-shifted}
use Rattle.qc_chain.proofs.block_lists.BlockLists.shift.Goals as goal

pub move_all-requires-clause-placed : goal.move_all-requires-clause-placed
move_all-requires-clause-placed c = rw c.deref_mut.ensures.value c.self.invariant.0.placed

pub invariant_of-self : goal.invariant_of-self
invariant_of-self c =
    let i = c.self.inside in
    let is : (with_items i.slots c.move_all.new.slots).items ≡ c.move_all.new.slots = with_items_is i.slots c.move_all.new.slots (omega (arith, c.move_all.auto.slots, c.deref_mut.ensures.len, i.slots.ok.0)) in
    (rw is (listed-shifted c.args.change i.slots.items c.move_all.new.slots i.by_chain i.by_place c.move_all.new.by_place i.mask i.room c.self.invariant.0 (c.move_all.ensures.slots ∙ ap (map (moved_in c.args.change)) c.deref_mut.ensures.value) c.move_all.ensures.placed), c.self.invariant.1)

pub returns-clause-lists : goal.returns-clause-lists
returns-clause-lists c =
    let i = c.self.inside in
    let is : (with_items i.slots c.move_all.new.slots).items ≡ c.move_all.new.slots = with_items_is i.slots c.move_all.new.slots (omega (arith, c.move_all.auto.slots, c.deref_mut.ensures.len, i.slots.ok.0)) in
    rw (is, c.move_all.ensures.slots, c.deref_mut.ensures.value, ← c.self.view_is) (lists-moved c.args.change i.slots.items i.by_chain.lists)
