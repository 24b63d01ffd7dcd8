use Rattle.std.proofs.Common.{◌<◌, subst, arith}
use Rattle.std.specs.List.{AllByRecursion}
use Rattle.qc_dir.specs.declared.entry_slots.By.TheVariants.{Place}
use Rattle.qc_chain.proofs.FiledSteps.{bucket-low}
use Rattle.qc_dir.proofs.EntrySteps.{none-numbered}
use Rattle.qc_dir.proofs.entry_slots.EntrySlots.text_at.Goals as goal

pub walk-list-requires : goal.walk-list-requires
walk-list-requires c = omega (arith, c.bucket.ensures, bucket-low c.self.inside.mask c.from-number.result, c.self.invariant.0.by_place.lists)

pub next_with-requires : goal.next_with-requires
next_with-requires c = rw c.deref.ensures.value (subst (λ m. AllByRecursion (λ n. n < m) c.walk-list.result) c.self.invariant.0.by_place.nodes c.walk-list.ensures.below)

pub returns-clause-none : goal.returns-clause-none
returns-clause-none c = λ none.
    let i = c.self.inside in
    let next = rw (none, c.deref.ensures.value, c.walk-list.ensures.nodes, c.bucket.ensures, c.from-number.ensures) at c.next_with.ensures.next in
    rw (← c.self.view_is) (none-numbered Place c.args.place i.mask i.slots.items i.places c.self.invariant.0.by_place next.0)

pub returns-clause-some : goal.returns-clause-some
returns-clause-some c = rw (← c.self.view_is) (rw (c.deref.ensures.value, c.from-number.ensures) at c.next_with.ensures.entry)
