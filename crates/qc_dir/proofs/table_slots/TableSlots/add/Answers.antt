use Rattle.std.proofs.Common.{◌∷◌, set, subst, arith, Some}
use Rattle.std.specs.List.Sorted.{IsPermutation}
use Rattle.std.specs.Vec.{vec_capacity}
use Rattle.qc_dir.specs.Slots.{Tabled, Numbered, IsSlots, held_from}
use Rattle.qc_dir.proofs.SlotSteps.{slots-filled, last_empty, held-put}
use Rattle.qc_dir.proofs.table_slots.TableSlots.add.Goals as goal

pub invariant_of-self : goal.invariant_of-self
invariant_of-self c =
    let i = c.self.inside in
    let holds = subst (λ free. IsSlots i.slots.items free (vec_capacity i.free) i.names i.places) (c.in-Some.ensures {u = tt}).items c.self.invariant in
    rw c.pop.ensures.capacity
    (slots-filled c.in-Some.number (vec_capacity i.free) i.slots.items c.pop.new.self.items c.args.item i.names i.places c.insert.new.self c.insert-2.new.self holds
    (rw (c.table_hash.ensures, c.from.ensures) at c.insert.ensures.keys) c.insert.ensures.room
    (rw (c.from-2.ensures, c.from-3.ensures) at c.insert-2.ensures.keys) c.insert-2.ensures.room)

pub returns-clause-held : goal.returns-clause-held
returns-clause-held c =
    let i = c.self.inside in
    let holds = subst (λ free. IsSlots i.slots.items free (vec_capacity i.free) i.names i.places) (c.in-Some.ensures {u = tt}).items c.self.invariant in
    let x : Numbered = record { number = c.in-Some.number; table = c.args.item } in
    subst (λ (d : Tabled). IsPermutation (held_from 0 (set i.slots.items c.in-Some.number (Some c.args.item))) (x ∷ d.held)) c.self.view_is
    (held-put 0 c.in-Some.number c.in-Some.number i.slots.items c.args.item (omega arith) (last_empty c.in-Some.number (vec_capacity i.free) i.slots.items c.pop.new.self.items i.names i.places holds))
