use Rattle.std.proofs.Common.{◌∙◌, sym, ap}
use Rattle.qc_dir.specs.Directory.{incomplete}
use Rattle.qc_dir.specs.Uses.{Used, entries_of}
use Rattle.qc_dir.proofs.UseSteps.{missing-used}
use Rattle.qc_dir.proofs.uses.Uses.incomplete.Goals as goal

pub returns : goal.returns
returns c =
    let u = c.self.invariant in
    u.missing ∙ (sym (missing-used c.self.inside.slots c.self.inside.order u.ordered) ∙ ap (λ (d : Used). incomplete (entries_of d)) c.self.view_is)
