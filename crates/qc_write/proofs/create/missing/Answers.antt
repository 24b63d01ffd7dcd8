use Rattle.std.proofs.Common.{◌≡◌, ◌∙◌, sym, ap, Bool, Bor}
use Rattle.std.specs.Prelude.{bytes_eq, not}
use Rattle.std.specs.List.{list_any}
use Rattle.qc_types.specs.declared.text.Text.{Text}
use Rattle.qc_sql.specs.declared.tables.Column.{Column}
use Rattle.qc_sql.specs.Database.{Name}
use Rattle.qc_write.specs.Parts.{columns_of}
use Rattle.qc_write.proofs.Lists.{find_map_met, find_map_passed}
use Rattle.qc_write.proofs.create.missing.Goals as goal

pub returns-then-not-is_column : goal.returns-then-not-is_column
returns-then-not-is_column c =
    let absent : Name → Bool = λ k. not (list_any (λ (d : Column). bytes_eq d.name k) (columns_of c.args.written.now)) in
    sym (find_map_met (λ (k : Bor Name). k.now) absent c.args.keys.now c.loop-key.key-index c.key-item.result c.loop-key-test.true c.key-item.is (ap not (sym c.if-not-is_column.ensures)))
    ∙ c.loop-key.invariant

pub loop-key-preserved : goal.loop-key-preserved
loop-key-preserved c =
    let absent : Name → Bool = λ k. not (list_any (λ (d : Column). bytes_eq d.name k) (columns_of c.args.written.now)) in
    sym (find_map_passed (λ (k : Bor Name). k.now) absent c.args.keys.now c.loop-key.key-index c.key-item.result c.loop-key-test.true c.key-item.is (ap not (sym c.if-not-is_column.ensures)))
    ∙ c.loop-key.invariant
