use Rattle.std.proofs.Common.{ap, subst}
use Rattle.std.specs.List.Sorted.{IsPermutation}
use Rattle.std.proofs.lemmas.List.Sorted.{IsPermutation-trans}
use Rattle.qc_dir.specs.Directory.{serials_under}
use Rattle.qc_chain.specs.Filed.{contents}
use Rattle.qc_dir.specs.Uses.{entries_of}
use Rattle.qc_dir.proofs.UseSteps.{used, used-candidates}
use Rattle.qc_dir.proofs.uses.Uses.candidates.Goals as goal

pub returns : goal.returns
returns c =
    let i = c.self.inside in
    let h = c.args.hash in
    subst (λ es. IsPermutation c.candidates.result (serials_under h es)) (ap entries_of c.self.view_is)
    (IsPermutation-trans c.candidates.result (serials_under h (contents i.slots)) (serials_under h (used i.slots i.order)) c.candidates.ensures (used-candidates h i.slots i.order c.self.invariant.ordered))
