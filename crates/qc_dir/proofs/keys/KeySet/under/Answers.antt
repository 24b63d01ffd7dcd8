use Rattle.std.proofs.Common.{◌<◌, ◌∙◌, ap, subst, arith}
use Rattle.std.specs.List.{AllByRecursion}
use Rattle.qc_dir.specs.Keys.{Keys, times}
use Rattle.qc_chain.proofs.FiledSteps.{bucket-low}
use Rattle.qc_dir.proofs.KeyCounts.{minors-are}
use Rattle.qc_dir.proofs.keys.KeySet.under.Goals as goal

pub walk-list-requires : goal.walk-list-requires
walk-list-requires c = omega (arith, c.bucket.ensures, bucket-low c.self.inside.mask c.args.major, c.self.invariant.0.by_major.lists)

pub new-requires : goal.new-requires
new-requires c = rw c.deref.ensures.value (subst (λ m. AllByRecursion (λ n. n < m) c.walk-list.result) c.self.invariant.0.by_major.nodes c.walk-list.ensures.below)

pub returns : goal.returns
returns c = λ n.
    let i = c.self.inside in
    rw (c.new.ensures, c.deref.ensures.value, c.walk-list.ensures.nodes, c.bucket.ensures)
    (minors-are c.args.major n i.slots.items i.by_major i.mask c.self.invariant.0.by_major ∙ ap (λ (s : Keys). times (record { major = c.args.major; minor = n }) s.keys) c.self.view_is)
