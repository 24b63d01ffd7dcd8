use Rattle.std.proofs.Common.{◌≡◌, ◌∙◌, ap, arith, ◌*◌, ◌+◌, ◌^◌, drop, length, ℕ}
use Rattle.std.specs.Prelude.{min}
use Rattle.qc_sql.specs.Rows.{Bound, combination_count}
use Rattle.qc_resolve.proofs.Counts.{count_on}
use Rattle.qc_resolve.proofs.bind.combination_count.Goals as goal

pub loop-bound-preserved : goal.loop-bound-preserved
loop-bound-preserved c =
    let rest = combination_count (drop (c.loop-bound.bound-index + 1) c.args.bounds.now) in (
      omega arith,
      ap (λ (n : ℕ). min (n * rest) (2 ^ 40 + 1)) (c.min-count.ensures ∙ ap (λ (n : ℕ). min (c.loop-bound.count * n) (2 ^ 40 + 1)) (c.from.ensures ∙ c.count.ensures.value ∙ ap (λ (b : Bound). length b.table.rows) c.bound.view_is))
          ∙ count_on (2 ^ 40 + 1) c.loop-bound.count c.args.bounds.now c.loop-bound.bound-index c.bound-item.result c.loop-bound-test.true c.bound-item.is
          ∙ c.loop-bound.invariant.1,
    )
