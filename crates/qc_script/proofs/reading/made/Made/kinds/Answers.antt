use Rattle.std.proofs.Common.{◌∙◌}
use Rattle.qc_script.proofs.HeldKinds.{kinds_some, kinds_none}
use Rattle.qc_script.proofs.reading.made.Made.kinds.Goals as goal

pub returns-in-Some : goal.returns-in-Some
returns-in-Some c =
    c.as_slice.ensures.value ∙ rw (← c.self.view_is) (kinds_some (λ k. k.items) (λ v. v.items) c.args.table.now c.self.inside.held.entries c.in-Some.kinds.now c.in-Some.ensures.value)

pub returns-in-None : goal.returns-in-None
returns-in-None c = rw (← c.self.view_is) (kinds_none (λ k. k.items) (λ v. v.items) c.args.table.now c.self.inside.held.entries c.in-None.ensures.value)
