use Rattle.std.proofs.Common.{◌≡◌, sym, ◌∙◌, ap, ◌++◌, ◌∷◌, [], map, drop, List, ◌+◌}
use Rattle.qc_sql.specs.Rows.{Bound}
use Rattle.qc_sql.specs.Database.{Table}
use Rattle.qc_resolve.proofs.Lists.{map_on}
use Rattle.qc_resolve.proofs.select.versions.Goals as goal

pub loop-bound-preserved : goal.loop-bound-preserved
loop-bound-preserved c =
    let table_of : Bound → Table = λ b. b.table in
    ap (λ (vs : List Table). vs ++ map table_of (drop (c.loop-bound.bound-index + 1) c.args.bounds.now)) (c.in_ok-push.ensures.ok ∙ ap (λ (t : Table). c.loop-bound.versions ++ t ∷ []) (c.in_ok-share.ensures.same ∙ ap table_of c.bound.view_is))
    ∙ map_on table_of c.loop-bound.versions c.args.bounds.now c.loop-bound.bound-index c.bound-item.result c.loop-bound-test.true c.bound-item.is
    ∙ c.loop-bound.invariant
