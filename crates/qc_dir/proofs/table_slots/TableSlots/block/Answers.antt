use Rattle.std.proofs.Common.{◌≡◌, ◌∙◌, sym, ap, subst, refl, Some, arith}
use Rattle.qc_dir.specs.Directory.{block_of}
use Rattle.qc_dir.specs.Slots.{Tabled, tables_of, number_of}
use Rattle.qc_dir.proofs.SlotSteps.{slot_of, get-within}
use Rattle.qc_dir.proofs.SlotCalls.{block_is, number_there, no_block, slot_full}
use Rattle.qc_dir.proofs.table_slots.TableSlots.block.Goals as goal

pub returns-in_default : goal.returns-in_default
returns-in_default c = no_block c.args.table.now c.args.self.now.held (c.in_default.ensures {u = tt}).number

pub index-requires : goal.index-requires
index-requires c =
    let xs = c.self.inside.slots.items in
    let is = subst (λ (d : Tabled). Some c.in-Some.number ≡ number_of c.args.table.now d.held) (sym c.self.view_is) (c.in-Some.ensures {u = tt}).number in
    let slot = slot_of c.in-Some.number xs (number_there c.args.table.now c.in-Some.number xs is) in
    omega (arith, get-within xs c.in-Some.number (Some slot.0) slot.1, c.self.inside.slots.ok.0)

pub returns-in-Some-index : goal.returns-in-Some-index
returns-in-Some-index c =
    let is = subst (λ (d : Tabled). Some c.in-Some.number ≡ number_of c.args.table.now d.held) (sym c.self.view_is) (c.in-Some.ensures {u = tt}).number in
    block_is c.args.table.now c.in-Some.number c.self.inside.slots.items c.index.result.now c.in-Some-index.item is c.index.ensures c.in-Some-index.is
    ∙ ap (λ (d : Tabled). block_of c.args.table.now (tables_of d)) c.self.view_is

pub returns-in-None : goal.returns-in-None
returns-in-None c =
    let xs = c.self.inside.slots.items in
    let is = subst (λ (d : Tabled). Some c.in-Some.number ≡ number_of c.args.table.now d.held) (sym c.self.view_is) (c.in-Some.ensures {u = tt}).number in
    absurd (slot_full c.in-Some.number xs c.index.result.now c.index.result.now (number_there c.args.table.now c.in-Some.number xs is) c.index.ensures refl (λ t e. absurd (cc (e, c.in-None.is))))
