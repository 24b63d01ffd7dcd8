use Rattle.std.proofs.Common.{◌≡◌, ◌-◌, map}
use Rattle.std.specs.List.{range_with_len}
use Rattle.qc_script.specs.WorkloadScript.{session_of, before_session}
use Rattle.qc_script.proofs.workload_script.workload.Given as goal

abbrev pub invariant-loop-session : goal.invariant-loop-session
invariant-loop-session l = record {
  state : l.generator.state ≡ before_session l.fn.number l.session;
  inputs : l.sessions ≡ map (session_of l.fn.number) (range_with_len 1 (l.session - 1));
}
