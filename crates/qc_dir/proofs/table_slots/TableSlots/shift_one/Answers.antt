use Rattle.std.proofs.Common.{ℕ, ◌≡◌, ◌<◌, ◌+◌, ◌==◌, map, sym, ap, ◌∙◌, subst, arith, Some}
use Rattle.std.specs.List.{slice_get}
use Rattle.std.specs.Vec.{vec_capacity}
use Rattle.std.proofs.lemmas.Bool.Decides.{nat_tests}
use Rattle.qc_chain.specs.declared.keys.Key.{Key}
use Rattle.qc_dir.specs.Keys.{times, bit, same_key}
use Rattle.qc_dir.specs.Slots.{Tabled, held_from, place_key, moved_numbered, blocks_at}
use Rattle.qc_dir.proofs.SlotSteps.{slot_of, get-within, slots-placed, held-map, total-set}
use Rattle.qc_dir.proofs.SlotCalls.{slot_item, slot_full, placed_there, placed_first, none_placed, moved_same}
use Rattle.qc_dir.proofs.table_slots.TableSlots.shift_one.Goals.{In-Some-take}
use Rattle.qc_dir.proofs.table_slots.TableSlots.shift_one.Goals as goal

abbrev place_at : ℕ → ℕ → Key
place_at place number = record { major = place; minor = number }

pub returns-in_default-clause-none : goal.returns-in_default-clause-none
returns-in_default-clause-none c = λ _.
    let i = c.self.inside in
    ap (λ (d : Tabled). blocks_at c.args.change.from d.held) (sym c.self.view_is)
    ∙ none_placed c.args.change.from i.places (held_from 0 i.slots.items) c.self.invariant.by_place (rw c.from.ensures at (c.in_default.ensures {u = tt}))

pub index_mut-requires : goal.index_mut-requires
index_mut-requires c =
    let i = c.self.inside in
    let stands : 0 < times (place_at c.args.change.from c.in-Some.number) i.places.keys = rw c.from.ensures at (c.in-Some.ensures {u = tt}) in
    let at = slot_of c.in-Some.number i.slots.items (placed_there (place_at c.args.change.from c.in-Some.number) i.places (held_from 0 i.slots.items) c.self.invariant.by_place stands) in
    omega (arith, get-within i.slots.items c.in-Some.number (Some at.0) at.1, i.slots.ok.0)

pub unreachable-requires : goal.unreachable-requires
unreachable-requires c =
    let i = c.self.inside in
    let stands : 0 < times (place_at c.args.change.from c.in-Some.number) i.places.keys = rw c.from.ensures at (c.in-Some.ensures {u = tt}) in
    let there = placed_there (place_at c.args.change.from c.in-Some.number) i.places (held_from 0 i.slots.items) c.self.invariant.by_place stands in
    slot_full c.in-Some.number i.slots.items c.index_mut.result.now c.take.result there c.index_mut.ensures.value c.take.ensures.value c.in_default-take.not-Some

-- what stands in the slot, and that its block is at the place
slot : (c : In-Some-take) → (slice_get c.self.inside.slots.items c.in-Some.number ≡ Some (Some c.in-Some-take.item)) × (place_key (record { number = c.in-Some.number; table = c.in-Some-take.item }) ≡ place_at c.args.change.from c.in-Some.number)
slot c =
    let i = c.self.inside in
    let key = place_at c.args.change.from c.in-Some.number in
    let stands : 0 < times key i.places.keys = rw c.from.ensures at (c.in-Some.ensures {u = tt}) in
    let there = placed_there key i.places (held_from 0 i.slots.items) c.self.invariant.by_place stands in
    let is = slot_item c.in-Some.number i.slots.items c.index_mut.result.now c.take.result c.in-Some-take.item there c.index_mut.ensures.value c.take.ensures.value c.in-Some-take.is in
    (is, placed_first key i.places i.slots.items c.in-Some-take.item c.self.invariant.by_place stands is)

pub index_mut-requires-2 : goal.index_mut-requires-2
index_mut-requires-2 c =
    let is = slot (goal.at.index_mut-requires-2 c).In-Some-take in
    omega (arith, get-within c.self.inside.slots.items c.in-Some.number (Some c.in-Some-take.item) is.0, c.self.inside.slots.ok.0)

pub invariant_of-self : goal.invariant_of-self
invariant_of-self c =
    let i = c.self.inside in
    let is = slot (goal.at.invariant_of-self c).In-Some-take in
    rw c.take.ensures.after
    (slots-placed c.in-Some.number (vec_capacity i.free) c.args.change.to i.slots.items i.free.items c.in-Some-take.item i.names i.places c.remove.new.self c.insert.new.self c.self.invariant is.0
    (subst (λ q. (k : Key) → times k c.remove.new.self.keys + bit (same_key k q) ≡ times k i.places.keys) (sym is.1) (rw c.from-2.ensures at c.remove.ensures.keys)) c.remove.ensures.room
    (rw c.from-3.ensures at c.insert.ensures.keys) c.insert.ensures.room)

pub returns-clause-held : goal.returns-clause-held
returns-clause-held c =
    let i = c.self.inside in
    let is = slot (goal.at.returns-clause-held c).In-Some-take in
    rw c.take.ensures.after
    (held-map (moved_numbered c.args.change) 0 c.in-Some.number i.slots.items c.in-Some-take.item _ is.0 (λ n. moved_same c.args.change c.in-Some-take.item n (ap (λ (k : Key). k.major) is.1) c.requires)
    ∙ ap (λ (d : Tabled). map (moved_numbered c.args.change) d.held) c.self.view_is)

stood : (a b : ℕ) → a ≡ b → bit (a == b) ≡ 1
stood a b e = grind (arith, nat_tests)

stands_not : (a b : ℕ) → (a ≡ b → ⊥) → bit (b == a) ≡ 0
stands_not a b e = grind (arith, nat_tests)

pub returns-clause-one : goal.returns-clause-one
returns-clause-one c = λ _.
    let is = slot (goal.at.returns-clause-one c).In-Some-take in
    let counts = total-set (λ h. bit (h.table.block.first == c.args.change.from)) c.in-Some.number c.self.inside.slots.items c.in-Some-take.item
    (record { table = c.in-Some-take.item.table; block = record { first = c.args.change.to; words = c.in-Some-take.item.block.words } }) is.0 in
    rw (c.take.ensures.after, ← c.self.view_is) (omega (arith, counts, stood c.in-Some-take.item.block.first c.args.change.from (ap (λ (k : Key). k.major) is.1), stands_not c.args.change.from c.args.change.to c.requires))

pub remove-requires : goal.remove-requires
remove-requires c = rw (c.from.ensures, ← c.from-2.ensures) at (c.in-Some.ensures {u = tt})
