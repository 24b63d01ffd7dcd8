use Rattle.std.proofs.Common.{◌<◌, true, ap, refl, length, arith}
use Rattle.std.proofs.lemmas.List.{length-set}
use Rattle.std.specs.Option.{option_map}
use Rattle.qc_dir.specs.declared.entries.Entry.{Entry}
use Rattle.qc_chain.specs.Filed.{in_slot}
use Rattle.qc_dir.proofs.EntrySteps.{read, entries-altered}
use Rattle.qc_dir.proofs.entry_slots.EntrySlots.complete.Goals as goal

pub index_mut-requires : goal.index_mut-requires
index_mut-requires c = omega (arith, c.requires, ap length c.self.view_is, c.self.inside.slots.ok.0)

pub invariant_of-self : goal.invariant_of-self
invariant_of-self c =
    let i = c.self.inside in
    let low : c.args.slot < length i.slots.items = omega (arith, c.requires, ap length c.self.view_is) in
    rw (c.complete_in.ensures, read i.slots.items i.slots.items low refl c.index_mut.result.now c.index_mut.ensures.value) (
      entries-altered (λ (e : Entry). record e { complete = true }) c.args.slot i.mask i.slots.items i.serials i.hashes i.places c.self.invariant.0 low (λ e. refl) (λ e. refl) (λ e. refl),
      c.self.invariant.1,
      omega (arith, c.self.invariant.2, length-set i.slots.items c.args.slot (option_map (λ (e : Entry). record e { complete = true }) (in_slot c.args.slot i.slots.items))),
    )

pub returns : goal.returns
returns c =
    let i = c.self.inside in
    rw (c.complete_in.ensures, read _ _ c.requires c.self.view_is c.index_mut.result.now c.index_mut.ensures.value, ← c.self.view_is) refl
