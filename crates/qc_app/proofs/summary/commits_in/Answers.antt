use Rattle.std.proofs.lemmas.Grind.{common_steps}
use Rattle.std.proofs.lemmas.List.Sums.{count_by-le-length, count_by_more_no, count_by_more_yes}
use Rattle.std.proofs.Common.{arith}
use Rattle.qc_app.proofs.summary.commits_in.Goals as goal

pub overflow_add-commits : goal.overflow_add-commits
overflow_add-commits c = grind (arith, common_steps, count_by-le-length)

pub loop-event-preserved : goal.loop-event-preserved
loop-event-preserved c = grind (arith, common_steps, count_by_more_yes, count_by_more_no)
