use Rattle.std.proofs.Common.{◌≡◌, ◌∙◌, refl, sym, ap, subst, arith, Some}
use Rattle.std.specs.List.{AllByRecursion}
use Rattle.std.specs.Option.{IsSome}
use Rattle.qc_sql.specs.Database.{same_table}
use Rattle.qc_dir.specs.declared.tables.TableBlock.{TableBlock}
use Rattle.qc_dir.specs.Slots.{Tabled, Numbered, is_of, held_from, numbered_at}
use Rattle.qc_dir.proofs.SlotSteps.{slot_of, get-within, each_numbered, each_map}
use Rattle.qc_dir.proofs.SlotCalls.{slot_item, slot_full}
use Rattle.qc_dir.proofs.table_slots.TableSlots.is_at.Goals as goal

pub index-requires : goal.index-requires
index-requires c =
    let there = subst (λ (d : Tabled). IsSome (numbered_at c.args.number d.held)) (sym c.self.view_is) c.requires in
    let slot = slot_of c.args.number c.self.inside.slots.items there in
    omega (arith, get-within c.self.inside.slots.items c.args.number (Some slot.0) slot.1, c.self.inside.slots.ok.0)

pub returns-in-Some : goal.returns-in-Some
returns-in-Some c =
    let xs = c.self.inside.slots.items in
    let there = subst (λ (d : Tabled). IsSome (numbered_at c.args.number d.held)) (sym c.self.view_is) c.requires in
    let slot = slot_item c.args.number xs c.index.result.now c.index.result.now c.in-Some.item there c.index.ensures refl c.in-Some.is in
    subst (λ (d : Tabled). AllByRecursion (λ (h : Numbered). h.number ≡ c.args.number → c.is_same_table.result ≡ is_of c.args.table.now h) d.held) c.self.view_is
    (each_map (λ h. h.number ≡ c.args.number → h.table ≡ c.in-Some.item) (λ h. h.number ≡ c.args.number → c.is_same_table.result ≡ is_of c.args.table.now h) (held_from 0 xs)
    (λ h same e. c.is_same_table.ensures ∙ ap (λ (b : TableBlock). same_table c.args.table.now b.table) (sym (same e))) (each_numbered c.args.number xs c.in-Some.item slot))

pub returns-in-None : goal.returns-in-None
returns-in-None c =
    let there = subst (λ (d : Tabled). IsSome (numbered_at c.args.number d.held)) (sym c.self.view_is) c.requires in
    absurd (slot_full c.args.number c.self.inside.slots.items c.index.result.now c.index.result.now there c.index.ensures refl (λ t e. absurd (cc (e, c.in-None.is))))
