use Rattle.std.proofs.Common.{◌<◌, ap, subst}
use Rattle.std.specs.List.{AllByRecursion, slice_index}
use Rattle.qc_chain.specs.Linked.{Linked, walk}
use Rattle.qc_chain.proofs.ListWalks.{below}
use Rattle.qc_chain.proofs.lists.Lists.walk.Goals as goal

pub returns-clause-below : goal.returns-clause-below
returns-clause-below c =
    let v = c.self.inside in
    subst (λ m. AllByRecursion (λ z. z < m) (walk (slice_index c.deref.result.now) v.nodes v.nodes c.index.result.now)) (ap (λ (l : Linked). l.nodes) c.self.view_is)
    (below (slice_index c.deref.result.now) v.nodes v.nodes c.index.result.now)
