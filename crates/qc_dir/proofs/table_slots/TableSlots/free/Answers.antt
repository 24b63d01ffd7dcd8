use Rattle.std.proofs.Common.{ℕ, ◌≡◌, ◌∷◌, set, refl, sym, subst, arith, Some, None}
use Rattle.std.specs.List.{slice_get}
use Rattle.std.specs.List.Sorted.{IsPermutation}
use Rattle.std.specs.Option.{IsSome}
use Rattle.std.specs.Vec.{vec_capacity}
use Rattle.qc_chain.specs.declared.keys.Key.{Key}
use Rattle.qc_dir.specs.Slots.{Tabled, Numbered, held_from, numbered_at, name_key, place_key}
use Rattle.qc_dir.proofs.SlotSteps.{slot_of, get-within, slots-emptied, held-take, length-held}
use Rattle.qc_dir.proofs.SlotCalls.{slot_item, slot_full, key_counts}
use Rattle.qc_dir.proofs.table_slots.TableSlots.free.Goals.{In-Some}
use Rattle.qc_dir.proofs.table_slots.TableSlots.free.Goals as goal

abbrev key : ℕ → ℕ → Key
key major n = record { major = major; minor = n }

pub index_mut-requires : goal.index_mut-requires
index_mut-requires c =
    let at = slot_of c.args.number c.self.inside.slots.items (subst (λ (d : Tabled). IsSome (numbered_at c.args.number d.held)) (sym c.self.view_is) c.requires) in
    omega (arith, get-within c.self.inside.slots.items c.args.number (Some at.0) at.1, c.self.inside.slots.ok.0)

pub unreachable-requires : goal.unreachable-requires
unreachable-requires c =
    let there = subst (λ (d : Tabled). IsSome (numbered_at c.args.number d.held)) (sym c.self.view_is) c.requires in
    slot_full c.args.number c.self.inside.slots.items c.index_mut.result.now c.take.result there c.index_mut.ensures.value c.take.ensures.value c.in_default.not-Some

slot : (c : In-Some) → slice_get c.self.inside.slots.items c.args.number ≡ Some (Some c.in-Some.item)
slot c =
    let there = subst (λ (d : Tabled). IsSome (numbered_at c.args.number d.held)) (sym c.self.view_is) c.requires in
    slot_item c.args.number c.self.inside.slots.items c.index_mut.result.now c.take.result c.in-Some.item there c.index_mut.ensures.value c.take.ensures.value c.in-Some.is

pub remove-requires : goal.remove-requires
remove-requires c = key_counts (key c.table_hash.result c.from.result) name_key c.args.number c.self.inside.slots.items c.in-Some.item c.self.inside.names c.self.invariant.by_name (slot (goal.at.remove-requires c).In-Some) (rw (c.table_hash.ensures, c.from.ensures) refl)

pub remove-requires-2 : goal.remove-requires-2
remove-requires-2 c = key_counts (key c.from-2.result c.from-3.result) place_key c.args.number c.self.inside.slots.items c.in-Some.item c.self.inside.places c.self.invariant.by_place (slot (goal.at.remove-requires-2 c).In-Some) (rw (c.from-2.ensures, c.from-3.ensures) refl)

pub push_reserved-requires : goal.push_reserved-requires
push_reserved-requires c =
    let moves = held-take 0 c.args.number c.args.number c.self.inside.slots.items c.in-Some.item (omega arith) (slot (goal.at.push_reserved-requires c).In-Some) in
    omega (arith, length-held (held_from 0 c.self.inside.slots.items) _ _ moves, c.self.invariant.whole, c.self.invariant.fits, c.self.inside.free.ok.0)

pub invariant_of-self : goal.invariant_of-self
invariant_of-self c =
    let i = c.self.inside in
    rw (c.take.ensures.after, c.push_reserved.ensures.items, c.push_reserved.ensures.capacity)
    (slots-emptied c.args.number (vec_capacity i.free) i.slots.items i.free.items c.in-Some.item i.names i.places c.remove.new.self c.remove-2.new.self c.self.invariant (slot (goal.at.invariant_of-self c).In-Some)
    (rw (c.table_hash.ensures, c.from.ensures) at c.remove.ensures.keys) c.remove.ensures.room
    (rw (c.from-2.ensures, c.from-3.ensures) at c.remove-2.ensures.keys) c.remove-2.ensures.room)

pub returns-clause-held : goal.returns-clause-held
returns-clause-held c =
    let xs = c.self.inside.slots.items in
    let x : Numbered = record { number = c.args.number; table = c.in-Some.item } in
    rw c.take.ensures.after
    (subst (λ (d : Tabled). IsPermutation d.held (x ∷ held_from 0 (set xs c.args.number None))) c.self.view_is (held-take 0 c.args.number c.args.number xs c.in-Some.item (omega arith) (slot (goal.at.returns-clause-held c).In-Some)))
