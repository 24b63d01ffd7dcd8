use Rattle.std.proofs.Common.{◌≡◌, sym, ◌∙◌, ap}
use Rattle.std.specs.Prelude.{bytes_eq}
use Rattle.qc_sql.specs.Rows.{Bound}
use Rattle.qc_sql.specs.Database.{Name}
use Rattle.qc_resolve.proofs.Lists.{mapped_met}
use Rattle.qc_resolve.proofs.bind.is_called.Goals as goal

pub returns-then-eq : goal.returns-then-eq
returns-then-eq c =
    let called : Bound → Name = λ b. b.called in
    sym (mapped_met (bytes_eq c.args.name.now) called c.args.bounds.now c.loop-bound.bound-index c.bound-item.result c.loop-bound-test.true c.bound-item.is
    (sym (c.if-eq.ensures ∙ (λ j. bytes_eq (c.bytes.ensures j) ((c.bytes-in-loop-bound.ensures ∙ ap called c.bound.view_is) j))))) ∙ c.loop-bound.invariant
