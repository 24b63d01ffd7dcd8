use Rattle.std.proofs.Common.{◌≡◌, ◌∙◌, sym, ap, Err}
use Rattle.std.specs.Prelude.{bytes_eq}
use Rattle.qc_sql.specs.Errors.{unknown_column}
use Rattle.qc_write.proofs.Turns.{place_met, place_passed, place_missed}
use Rattle.qc_write.proofs.columns.find_column.Goals as goal

pub returns-then-eq : goal.returns-then-eq
returns-then-eq c =
    c.loop-index.invariant
    ∙ place_met c.args.name.now c.args.columns.now c.loop-index.index c.index-columns-index.result c.loop-index-test.true c.index-columns-index.is
    (sym (sym c.if-eq.true ∙ c.eq.ensures ∙ (λ j. bytes_eq (c.bytes.ensures j) (c.bytes-in-loop-index.ensures j))))

pub loop-index-preserved : goal.loop-index-preserved
loop-index-preserved c =
    c.loop-index.invariant
    ∙ place_passed c.args.name.now c.args.columns.now c.loop-index.index c.index-columns-index.result c.loop-index-test.true c.index-columns-index.is
    (sym (sym c.if-eq.false ∙ c.eq.ensures ∙ (λ j. bytes_eq (c.bytes.ensures j) (c.bytes-in-loop-index.ensures j))))

pub returns : goal.returns
returns c = c.loop-index.invariant ∙ place_missed c.args.name.now c.args.columns.now c.loop-index.index c.loop-index-test.false ∙ ap Err (ap unknown_column (sym c.bytes-2.ensures) ∙ sym c.in_ok-unknown_column.ensures)
