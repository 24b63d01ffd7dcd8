-- The operations were carried out.
use Rattle.std.proofs.Common.{ap, sym, ◌∙◌}
use Rattle.std.specs.Prelude.{Ok}
use Rattle.qc_sql.specs.Database.{apply}
use Rattle.qc_table.specs.Fitting.{fitting}
use Rattle.qc_table.proofs.InPlace.{carried_fits}
use Rattle.qc_table.proofs.database.Database.change.Goals as goal

pub returns-then-branch-clause-made : goal.returns-then-branch-clause-made
returns-then-branch-clause-made c =
    ap (λ ops. fitting (apply ops c.args.self.now)) (sym c.items.ensures)
    ∙ carried_fits c.items.result.now c.args.self.now c.change_in_place.new.self c.change_in_place.result (c.in_ok-change_in_place.was ∙ ap Ok c.if-branch.true) c.change_in_place.ensures
