use Rattle.std.proofs.Common.{◌≡◌, ℕ, ◌<◌, filter, get_or, length}
use Rattle.qc_sql.specs.declared.cells.StoredCell.TheVariants as stored
use Rattle.qc_resolve.specs.declared.resolved.Fold.TheVariants as aggregate
use Rattle.qc_resolve.specs.Meaning.{fold_value}
use Rattle.qc_eval.specs.Lanes.{IsMask, singles, window_rows}
use Rattle.qc_eval.specs.Values.{stored_value}
use Rattle.qc_eval.specs.Walk.{Keeping}
use Rattle.qc_eval.proofs.lane_totals.fold_each.Given as goal

-- of the aggregates so far
abbrev pub invariant-loop-fold : goal.invariant-loop-fold
invariant-loop-fold g l = record {
  long : length l.totals.items ≡ l.fold-index;
  values : (keep : Keeping) → IsMask (window_rows l.table l.window) keep l.mask → (k : ℕ) → k < l.fold-index → stored_value (get_or l.totals.items k stored.Null) ≡ fold_value (filter keep (singles (window_rows l.table l.window))) (get_or l.folds k aggregate.CountAll);
}
