use Rattle.std.proofs.Common.{◌<◌, ap, refl, sym, subst, length, List, Option, arith}
use Rattle.std.proofs.lemmas.List.{length-set}
use Rattle.std.specs.Option.{option_map, IsSome}
use Rattle.qc_dir.specs.declared.entries.Entry.{Entry}
use Rattle.qc_chain.specs.Filed.{in_slot}
use Rattle.qc_dir.specs.Uses.{placed_text}
use Rattle.qc_chain.proofs.FiledSteps.{bucket-low}
use Rattle.qc_dir.proofs.EntrySteps.{read, entries-placed}
use Rattle.qc_dir.proofs.entry_slots.EntrySlots.place.Goals as goal

pub put_last-requires-clause-node : goal.put_last-requires-clause-node
put_last-requires-clause-node c = omega (arith, c.requires.within, ap length c.self.view_is, c.self.invariant.0.by_place.nodes)

pub put_last-requires-clause-list : goal.put_last-requires-clause-list
put_last-requires-clause-list c = omega (arith, c.bucket.ensures, c.from.ensures, bucket-low c.self.inside.mask c.from.result, c.self.invariant.0.by_place.lists)

pub index_mut-requires : goal.index_mut-requires
index_mut-requires c = omega (arith, c.requires.within, ap length c.self.view_is, c.self.inside.slots.ok.0)

pub invariant_of-self : goal.invariant_of-self
invariant_of-self c =
    let i = c.self.inside in
    let low : c.args.slot < length i.slots.items = omega (arith, c.requires.within, ap length c.self.view_is) in
    rw (c.place_in.ensures, read i.slots.items i.slots.items low refl c.index_mut.result.now c.index_mut.ensures.value) (
      entries-placed c.args.first c.args.slot i.mask i.slots.items i.serials i.hashes i.places c.put_last.new.self c.self.invariant.0 low
          (subst (λ (xs : List (Option Entry)). IsSome (in_slot c.args.slot xs)) (sym c.self.view_is) c.requires.entry) (rw (c.bucket.ensures, c.from.ensures) at c.put_last.ensures.moved),
      c.self.invariant.1,
      omega (arith, c.self.invariant.2, length-set i.slots.items c.args.slot (option_map (placed_text c.args.first) (in_slot c.args.slot i.slots.items))),
    )

pub returns : goal.returns
returns c = rw (c.place_in.ensures, read _ _ c.requires.within c.self.view_is c.index_mut.result.now c.index_mut.ensures.value, ← c.self.view_is) refl
