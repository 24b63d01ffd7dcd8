use Rattle.std.proofs.Common.{append_assoc}
use Rattle.qc_script.specs.WorkloadScript.{statement}
use Rattle.qc_script.proofs.workload_script.statement.Goals as goal

pub returns-in-0 : goal.returns-in-0
unfolding statement
returns-in-0 c = rw c.in-0.is (simp append_assoc c.format.ensures.ok)

pub returns-in-1 : goal.returns-in-1
unfolding statement
returns-in-1 c = rw c.in-1.is (simp append_assoc c.format-in-1.ensures.ok)

pub returns-in-2 : goal.returns-in-2
unfolding statement
returns-in-2 c = rw c.in-2.is (simp append_assoc c.format-in-2.ensures.ok)
