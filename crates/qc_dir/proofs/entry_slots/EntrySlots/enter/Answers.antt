use Rattle.std.proofs.Common.{◌<◌, ◌+◌, ◌-◌, ◌^◌, ap, refl, sym, subst, length, Option, arith}
use Rattle.std.specs.Option.{IsSomeAnd}
use Rattle.std.proofs.lemmas.List.{length-set}
use Rattle.std.specs.Option.{option_map}
use Rattle.qc_dir.specs.declared.entries.Entry.{Entry}
use Rattle.qc_chain.specs.Filed.{in_slot}
use Rattle.qc_dir.proofs.EntrySteps.{read, entries-altered}
use Rattle.qc_dir.proofs.entry_slots.EntrySlots.enter.Goals as goal

pub index_mut-requires : goal.index_mut-requires
index_mut-requires c = omega (arith, c.requires.within, ap length c.self.view_is, c.self.inside.slots.ok.0)

pub enter_in-requires : goal.enter_in-requires
enter_in-requires c = subst (λ (o : Option Entry). IsSomeAnd o (λ (e : Entry). e.users < 2 ^ 32 - 1)) (sym (read _ _ c.requires.within c.self.view_is c.index_mut.result.now c.index_mut.ensures.value)) c.requires.few

pub invariant_of-self : goal.invariant_of-self
invariant_of-self c =
    let i = c.self.inside in
    let low : c.args.slot < length i.slots.items = omega (arith, c.requires.within, ap length c.self.view_is) in
    rw (c.enter_in.ensures, read i.slots.items i.slots.items low refl c.index_mut.result.now c.index_mut.ensures.value) (
      entries-altered (λ (e : Entry). record e { users = e.users + 1 }) c.args.slot i.mask i.slots.items i.serials i.hashes i.places c.self.invariant.0 low (λ e. refl) (λ e. refl) (λ e. refl),
      c.self.invariant.1,
      omega (arith, c.self.invariant.2, length-set i.slots.items c.args.slot (option_map (λ (e : Entry). record e { users = e.users + 1 }) (in_slot c.args.slot i.slots.items))),
    )

pub returns : goal.returns
returns c =
    let i = c.self.inside in
    rw (c.enter_in.ensures, read _ _ c.requires.within c.self.view_is c.index_mut.result.now c.index_mut.ensures.value, ← c.self.view_is) refl
