use Rattle.std.proofs.Common.{sym, ◌∙◌, ap, map, drop, ◌+◌, ◌∷◌, ◌++◌}
use Rattle.qc_sql.specs.Rules.{full_name, each_once}
use Rattle.qc_parse.proofs.EachOnce.{once_more, taken_up}
use Rattle.qc_parse.proofs.named.tables.Goals as goal

pub loop-source-preserved : goal.loop-source-preserved
loop-source-preserved c =
    let seen = c.loop-source.tables in
    let rest = map (λ source. full_name c.args.db.now source.table) (drop (c.loop-source.source-index + 1) c.args.select.now.from) in
    rw c.in_ok-add.ensures
    (sym (once_more seen c.in_ok-table.table rest) ∙ ap (λ ts. seen ++ each_once seen ts) (ap (λ t. t ∷ rest) c.in_ok-table.ensures ∙ taken_up (λ source. full_name c.args.db.now source.table) c.args.select.now.from c.items-source-items.result.now c.loop-source.source-index c.source-item.result c.items-source-items.ensures c.source-item.is c.loop-source-test.true) ∙ c.loop-source.invariant)
