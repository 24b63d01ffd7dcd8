use Rattle.std.proofs.Common.{◌++◌, ◌∷◌, [], sym, ap, ◌∙◌, arith, set, ◌-◌, None}
use Rattle.qc_dir.proofs.Places.{Pops, popped, stay_in_place, members_at}
use Rattle.qc_dir.proofs.tables.TableBlocks.pop.Goals as goal

pub invariant_of-self : goal.invariant_of-self
invariant_of-self c =
    let d = c.self.inside in
    let out : Pops d.places d.count = popped d.places d.count c.self.invariant.0 c.self.invariant.1 c.self.invariant.2 c.if-self-eq0.false in
    rw c.take.ensures.after (stay_in_place out.front (set d.places (d.count - 1) None) (d.count - 1) out.left out.counts (omega (arith, c.self.invariant.2)))

pub returns : goal.returns
returns c =
    let d = c.self.inside in
    let out : Pops d.places d.count = popped d.places d.count c.self.invariant.0 c.self.invariant.1 c.self.invariant.2 c.if-self-eq0.false in
    rw (c.take.ensures.after, c.take.ensures.value ∙ out.taken _)
    (sym c.self.view_is ∙ (out.members ∙ ap (λ front. front ++ out.last ∷ []) (sym (members_at out.front (set d.places (d.count - 1) None) out.left))))
