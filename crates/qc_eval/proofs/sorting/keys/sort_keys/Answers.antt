use Rattle.std.proofs.Common.{false}
use Rattle.std.proofs.lemmas.List.{take_more}
use Rattle.qc_eval.proofs.SortKeys.{keys_more}
use Rattle.qc_eval.proofs.sorting.keys.sort_keys.Goals as goal

pub loop-key-preserved : goal.loop-key-preserved
loop-key-preserved g c =
    rw (take_more c.args.order.now c.loop-key.key-index (record { desc = false; place = record { slot = 0; column = 0 } }) c.loop-key-test.true, c.in_ok-push.ensures.items)
    (keys_more c.args.tables.now _ c.loop-key.keys.items _ c.sort_key.result c.loop-key.invariant c.sort_key.ensures)
