use Rattle.std.proofs.Common.{ap, map, ◌∙◌}
use Rattle.qc_script.proofs.HeldKinds.{insert_named}
use Rattle.qc_script.proofs.reading.made.Made.make.Goals as goal

pub returns : goal.returns
returns c =
    rw (c.in_ok-insert.ensures.entries, ← c.self.view_is, ← c.in_ok-name.ensures.items, ← (c.in_ok-kinds.ensures ∙ ap (map (λ k. k.kind)) c.items.ensures))
    (insert_named (λ k. k.items) (λ v. v.items) c.self.inside.held.entries c.in_ok-name.name c.in_ok-kinds.kinds)
