use Rattle.std.proofs.Common.{◌<◌, ap, length, set, Some, arith}
use Rattle.std.proofs.lemmas.List.{length-set}
use Rattle.qc_chain.proofs.FiledSteps.{bucket-low}
use Rattle.qc_dir.proofs.EntrySteps.{entries-put}
use Rattle.qc_dir.proofs.entry_slots.EntrySlots.put.Goals as goal

pub put_last-requires-clause-node : goal.put_last-requires-clause-node
put_last-requires-clause-node c = omega (arith, c.requires, ap length c.self.view_is, c.self.invariant.0.by_serial.nodes)

pub put_last-requires-clause-list : goal.put_last-requires-clause-list
put_last-requires-clause-list c = omega (arith, c.bucket.ensures, bucket-low c.self.inside.mask c.args.entry.serial, c.self.invariant.0.by_serial.lists)

pub put_last-requires-2-clause-node : goal.put_last-requires-2-clause-node
put_last-requires-2-clause-node c = omega (arith, c.requires, ap length c.self.view_is, c.self.invariant.0.by_hash.nodes)

pub put_last-requires-2-clause-list : goal.put_last-requires-2-clause-list
put_last-requires-2-clause-list c = omega (arith, c.bucket-2.ensures, bucket-low c.self.inside.mask c.args.entry.hash, c.self.invariant.0.by_hash.lists)

pub put_last-requires-3-clause-node : goal.put_last-requires-3-clause-node
put_last-requires-3-clause-node c = omega (arith, c.requires, ap length c.self.view_is, c.self.invariant.0.by_place.nodes)

pub put_last-requires-3-clause-list : goal.put_last-requires-3-clause-list
put_last-requires-3-clause-list c = omega (arith, c.bucket-3.ensures, c.from.ensures, bucket-low c.self.inside.mask c.from.result, c.self.invariant.0.by_place.lists)

pub index_mut-requires : goal.index_mut-requires
index_mut-requires c = omega (arith, c.requires, ap length c.self.view_is, c.self.inside.slots.ok.0)

pub invariant_of-self : goal.invariant_of-self
invariant_of-self c =
    let i = c.self.inside in
    let low : c.args.slot < length i.slots.items = omega (arith, c.requires, ap length c.self.view_is) in (
      entries-put (Some c.args.entry) c.args.slot i.mask i.slots.items i.serials i.hashes i.places c.put_last.new.self c.put_last-2.new.self c.put_last-3.new.self c.self.invariant.0 low
          (rw c.bucket.ensures at c.put_last.ensures.moved) (rw c.bucket-2.ensures at c.put_last-2.ensures.moved) (rw (c.bucket-3.ensures, c.from.ensures) at c.put_last-3.ensures.moved),
      c.self.invariant.1,
      omega (arith, c.self.invariant.2, length-set i.slots.items c.args.slot (Some c.args.entry)),
    )

pub returns : goal.returns
returns c = ap (λ xs. set xs c.args.slot (Some c.args.entry)) c.self.view_is
