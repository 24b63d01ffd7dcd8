use Rattle.std.proofs.Common.{◌≡◌, ◌∙◌, sym, ap, List, ◌+◌, ◌∷◌, [], drop, Bor}
use Rattle.std.proofs.lemmas.List.{map-append}
use Rattle.qc_sql.specs.declared.tables.Column.{Column}
use Rattle.qc_write.specs.Lists.{borrowed}
use Rattle.qc_write.proofs.Names.{named_on, named_once, seen_next}
use Rattle.qc_write.proofs.shape.named_columns.Goals as goal

pub loop-i-preserved : goal.loop-i-preserved
loop-i-preserved c =
    let v = c.loop-i.invariant in
    let columns = c.args.columns.now in
    let names = c.args.names.now in
    let i = c.loop-i.i in
    let name = c.index-names-i.result in (
      name ∷ v.0,
      v.1
          ∙ named_once columns (borrowed c.loop-i.named.items) v.0 names i name c.loop-i-test.true c.index-names-i.is v.2 c.in_ok-column.column.now c.in_ok-column.ensures (sym c.if-is_among.ensures)
          ∙ ap (λ (ns : List Column). named_on (name ∷ v.0) columns ns (drop (i + 1) names)) (sym (ap borrowed c.in_ok-push.ensures.items ∙ map-append (λ (x : Bor Column). x.now) c.loop-i.named.items (c.in_ok-column.column ∷ []))),
      seen_next v.0 names i name c.loop-i-test.true c.index-names-i.is v.2,
    )
