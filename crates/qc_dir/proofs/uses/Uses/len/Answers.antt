use Rattle.std.proofs.Common.{◌∙◌, sym, ap, length}
use Rattle.qc_dir.specs.Uses.{Used, entries_of}
use Rattle.qc_dir.proofs.UseSteps.{length-used}
use Rattle.qc_dir.proofs.uses.Uses.len.Goals as goal

pub returns : goal.returns
returns c =
    let u = c.self.invariant in
    u.all ∙ (sym (length-used c.self.inside.slots c.self.inside.order u.ordered) ∙ ap (λ (d : Used). length (entries_of d)) c.self.view_is)
