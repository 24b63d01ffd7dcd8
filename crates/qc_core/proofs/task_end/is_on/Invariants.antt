use Rattle.std.proofs.Common.{◌≡◌, drop}
use Rattle.std.specs.List.{list_any}
use Rattle.qc_core.specs.TaskEnd.{is_on}
use Rattle.qc_core.proofs.task_end.is_on.Given as goal

abbrev pub invariant-loop-task : goal.invariant-loop-task
invariant-loop-task l = list_any (is_on l.serial) (drop l.task-index l.tasks) ≡ list_any (is_on l.serial) l.tasks
