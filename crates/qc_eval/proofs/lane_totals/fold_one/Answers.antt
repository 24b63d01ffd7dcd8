use Rattle.std.proofs.Common.{arith, pos, sym, subst, ap, ◌∙◌}
use Rattle.qc_types.specs.declared.names.Value.TheVariants as value
use Rattle.qc_lane.specs.Lanes.{words_for, EndsAt}
use Rattle.qc_eval.specs.Lanes.{cells_of, window_rows}
use Rattle.qc_eval.proofs.LaneFolds.{many_by_mask, many_in_window}
use Rattle.qc_eval.proofs.lane_totals.fold_one.Goals as goal

pub counted-requires : goal.counted-requires
counted-requires g c = let w = c.requires.masks.words in let few = c.requires.masks.few in omega (arith, w, few)

pub returns-in-CountAll : goal.returns-in-CountAll
returns-in-CountAll g c keep m =
    let rows = window_rows c.args.table.now c.args.window in
    let many = many_in_window c.args.table.now c.args.window (λ x. value.Null) c.requires.window in
    rw c.in-CountAll.is
    (c.counted.ensures (cells_of (λ x. value.Null) rows) (c.requires.masks.words ∙ ap words_for (sym many)) (subst (EndsAt c.args.mask.now) (sym many) c.requires.masks.ends)
    ∙ ap (λ n. value.Int (pos n)) (many_by_mask keep c.args.mask.now rows m))

pub returns-in-Count : goal.returns-in-Count
returns-in-Count g c = rw c.in-Count.is c.count_at.ensures

pub returns-in-Sum : goal.returns-in-Sum
returns-in-Sum g c = rw c.in-Sum.is c.sum_at.ensures

pub returns-in-Least : goal.returns-in-Least
returns-in-Least g c = rw c.in-Least.is c.least_at.ensures

pub returns-in-Greatest : goal.returns-in-Greatest
returns-in-Greatest g c = rw c.in-Greatest.is c.greatest_at.ensures
