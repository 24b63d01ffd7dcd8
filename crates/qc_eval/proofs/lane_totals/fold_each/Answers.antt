use Rattle.std.proofs.Common.{◌≡◌, ℕ, ◌+◌, ◌<◌, ◌∷◌, [], filter, length, get_or, sym, ap, ◌∙◌, subst, arith, length-append}
use Rattle.std.proofs.lemmas.List.{get_or_default}
use Rattle.qc_sql.specs.declared.cells.StoredCell.TheVariants as stored
use Rattle.qc_resolve.specs.declared.resolved.Fold.TheVariants as aggregate
use Rattle.qc_resolve.specs.Meaning.{fold_value}
use Rattle.qc_eval.specs.Lanes.{singles, window_rows}
use Rattle.qc_eval.specs.Values.{stored_value}
use Rattle.qc_eval.proofs.Gathers.{each_more, same_by_index}
use Rattle.qc_eval.proofs.lane_totals.fold_each.Goals as goal

pub fold_one-requires-clause-masks : goal.fold_one-requires-clause-masks
fold_one-requires-clause-masks g c = record { few = c.requires.masks.few; words = c.requires.masks.words; room = (let o = c.requires.masks.room in omega (arith, o)); ends = c.requires.masks.ends }

pub loop-fold-preserved : goal.loop-fold-preserved
loop-fold-preserved g c =
    let n = c.loop-fold.fold-index in
    let folds = c.args.folds.now in
    let pushed = c.in_ok-push.ensures.items in
    let total = c.in-Some.total in
    let is = c.fold-item.is ∙ get_or_default folds n c.fold-item.result aggregate.CountAll c.loop-fold-test.true in
    record {
      long = ap length pushed ∙ length-append c.loop-fold.totals.items (total ∷ []) ∙ ap (λ k. k + 1) c.loop-fold.invariant.long;
      values = λ keep m.
          (let group = filter keep (singles (window_rows c.args.table.now c.args.window)) in
          subst (λ xs. (k : ℕ) → k < n + 1 → stored_value (get_or xs k stored.Null) ≡ fold_value group (get_or folds k aggregate.CountAll)) (sym pushed)
          (each_more (λ k v. stored_value v ≡ fold_value group (get_or folds k aggregate.CountAll)) c.loop-fold.totals.items total stored.Null n c.loop-fold.invariant.long (c.loop-fold.invariant.values keep m) (c.in-Some.ensures keep m ∙ ap (fold_value group) is)));
    }

pub returns : goal.returns
returns g c keep m =
    let folds = c.args.folds.now in
    let group = filter keep (singles (window_rows c.args.table.now c.args.window)) in
    same_by_index stored_value (fold_value group) stored.Null aggregate.CountAll c.loop-fold.totals.items folds (let long = c.loop-fold.invariant.long in omega (arith, long)) (λ k low. c.loop-fold.invariant.values keep m k (let past = c.loop-fold-test.false in omega (arith, low, past)))
