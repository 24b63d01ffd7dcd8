use Rattle.std.proofs.Common.{◌<◌, subst, arith}
use Rattle.std.specs.List.{AllByRecursion}
use Rattle.qc_chain.proofs.FiledSteps.{bucket-low}
use Rattle.qc_dir.proofs.EntrySteps.{candidates-are}
use Rattle.qc_dir.proofs.entry_slots.EntrySlots.candidates.Goals as goal

pub walk-list-requires : goal.walk-list-requires
walk-list-requires c = omega (arith, c.bucket.ensures, bucket-low c.self.inside.mask c.args.hash, c.self.invariant.0.by_hash.lists)

pub new-requires : goal.new-requires
new-requires c = rw c.deref.ensures.value (subst (λ m. AllByRecursion (λ n. n < m) c.walk-list.result) c.self.invariant.0.by_hash.nodes c.walk-list.ensures.below)

pub returns : goal.returns
returns c =
    let i = c.self.inside in
    rw (c.new.ensures, c.deref.ensures.value, c.walk-list.ensures.nodes, c.bucket.ensures, ← c.self.view_is) (candidates-are c.args.hash i.mask i.slots.items i.hashes c.self.invariant.0.by_hash)
