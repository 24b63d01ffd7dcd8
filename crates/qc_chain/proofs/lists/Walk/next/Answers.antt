use Rattle.std.proofs.Common.{◌∙◌, sym}
use Rattle.std.specs.List.{slice_index}
use Rattle.qc_chain.proofs.ListWalks.{step}
use Rattle.qc_chain.proofs.lists.Walk.next.Goals as goal

pub invariant_of-self : goal.invariant_of-self
invariant_of-self c =
    let w = c.self.inside in
    let i = c.self.invariant in
    (i.2 w.place i.0, i.1, i.2, (step (slice_index w.next.now) w.nodes w.nodes w.place c.if-self.false i.3).1)

pub returns : goal.returns
returns c =
    let w = c.self.inside in
    sym c.self.view_is ∙ (step (slice_index w.next.now) w.nodes w.nodes w.place c.if-self.false c.self.invariant.3).0
