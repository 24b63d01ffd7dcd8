use Rattle.std.proofs.Common.{◌<◌, ◌∙◌, ap, length, set, None, arith}
use Rattle.std.proofs.lemmas.List.{get_or_read, length-set}
use Rattle.qc_chain.specs.Filed.{in_slot}
use Rattle.qc_dir.proofs.EntrySteps.{entries-put}
use Rattle.qc_dir.proofs.entry_slots.EntrySlots.take.Goals as goal

pub put_last-requires-clause-node : goal.put_last-requires-clause-node
put_last-requires-clause-node c = omega (arith, c.requires, ap length c.self.view_is, c.self.invariant.0.by_serial.nodes)

pub put_last-requires-clause-list : goal.put_last-requires-clause-list
put_last-requires-clause-list c = omega (arith, c.self.invariant.0.by_serial.lists)

pub put_last-requires-2-clause-node : goal.put_last-requires-2-clause-node
put_last-requires-2-clause-node c = omega (arith, c.requires, ap length c.self.view_is, c.self.invariant.0.by_hash.nodes)

pub put_last-requires-2-clause-list : goal.put_last-requires-2-clause-list
put_last-requires-2-clause-list c = omega (arith, c.self.invariant.0.by_hash.lists)

pub put_last-requires-3-clause-node : goal.put_last-requires-3-clause-node
put_last-requires-3-clause-node c = omega (arith, c.requires, ap length c.self.view_is, c.self.invariant.0.by_place.nodes)

pub put_last-requires-3-clause-list : goal.put_last-requires-3-clause-list
put_last-requires-3-clause-list c = omega (arith, c.self.invariant.0.by_place.lists)

pub index_mut-requires : goal.index_mut-requires
index_mut-requires c = omega (arith, c.requires, ap length c.self.view_is, c.self.inside.slots.ok.0)

pub invariant_of-self : goal.invariant_of-self
invariant_of-self c =
    let i = c.self.inside in
    let low : c.args.slot < length i.slots.items = omega (arith, c.requires, ap length c.self.view_is) in
    rw c.take.ensures.after (
      entries-put None c.args.slot i.mask i.slots.items i.serials i.hashes i.places c.put_last.new.self c.put_last-2.new.self c.put_last-3.new.self c.self.invariant.0 low c.put_last.ensures.moved c.put_last-2.ensures.moved c.put_last-3.ensures.moved,
      c.self.invariant.1,
      omega (arith, c.self.invariant.2, length-set i.slots.items c.args.slot None),
    )

pub returns-clause-entry : goal.returns-clause-entry
returns-clause-entry c =
    let i = c.self.inside in
    c.take.ensures.value ∙ (get_or_read i.slots.items c.args.slot c.index_mut.result.now (omega (arith, c.requires, ap length c.self.view_is)) c.index_mut.ensures.value None ∙ ap (in_slot c.args.slot) c.self.view_is)

pub returns-clause-slots : goal.returns-clause-slots
returns-clause-slots c = rw c.take.ensures.after (ap (λ xs. set xs c.args.slot None) c.self.view_is)
