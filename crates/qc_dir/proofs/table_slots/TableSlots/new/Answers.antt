use Rattle.std.proofs.Common.{◌≡◌, subst, arith}
use Rattle.std.specs.Vec.{vec_capacity}
use Rattle.qc_dir.proofs.SlotCalls.{IsFresh, fresh_more, slots-fresh, fresh_held}
use Rattle.qc_dir.proofs.table_slots.TableSlots.new.Goals as goal

pub loop-number-preserved : goal.loop-number-preserved
loop-number-preserved c =
    let l = c.loop-number in
    let one = c.push_reserved.ensures in
    let two = c.push_reserved-in-loop-number.ensures in
    record {
      fresh = rw (one.items, two.items) (fresh_more l.number l.slots.items l.free.items l.invariant.fresh);
      slots_fit = omega (arith, one.capacity, l.invariant.slots_fit);
      free_fit = omega (arith, two.capacity, l.invariant.free_fit);
    }

pub invariant_of-result : goal.invariant_of-result
invariant_of-result c =
    let l = c.loop-number in
    let all : l.number ≡ c.args.room = omega arith in
    let fresh = subst (λ n. IsFresh n l.slots.items l.free.items) all l.invariant.fresh in
    slots-fresh c.args.room (vec_capacity l.free) l.slots.items l.free.items c.in_ok-names.names c.in_ok-places.places fresh l.invariant.free_fit (omega arith) (c.in_ok-names.ensures {u = tt}) (c.in_ok-places.ensures {u = tt})

pub returns : goal.returns
returns c =
    let l = c.loop-number in
    let all : l.number ≡ c.args.room = omega arith in
    fresh_held c.args.room l.slots.items l.free.items (subst (λ n. IsFresh n l.slots.items l.free.items) all l.invariant.fresh)
