use Rattle.qc_eval.proofs.SortKeys.{all_shown}
use Rattle.qc_eval.proofs.sorting.keys.SortKeys.new.Goals as goal

pub invariant_of-result : goal.invariant_of-result
invariant_of-result g c = all_shown c.args.tables.now c.args.order.now c.in_ok-keys.keys.items c.in_ok-keys.ensures
