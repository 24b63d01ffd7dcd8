use Rattle.std.proofs.Common.{◌≡◌, drop}
use Rattle.std.specs.List.{list_any}
use Rattle.qc_core.specs.TaskEnd.{is_of}
use Rattle.qc_core.proofs.task_end.task_of.Given as goal

abbrev pub invariant-loop-task : goal.invariant-loop-task
invariant-loop-task l = (l.index ≡ l.task-index) × (list_any (is_of l.seat) (drop l.task-index l.tasks) ≡ list_any (is_of l.seat) l.tasks)
