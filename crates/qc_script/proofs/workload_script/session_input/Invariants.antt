use Rattle.std.proofs.Common.{◌≡◌, ℕ, ◌-◌, ◌++◌}
use Rattle.qc_model.specs.Workload.{drawn_often}
use Rattle.qc_script.specs.WorkloadScript.{statements, sent, session_commands, behind_session}
use Rattle.qc_script.proofs.workload_script.session_input.Given as goal

abbrev pub invariant-loop-number : goal.invariant-loop-number
invariant-loop-number l = record {
  sent : l.input ++ sent (statements (2001 - l.number) l.session l.number l.generator.state) ≡ sent (session_commands l.session l.fn.generator.state);
  drawn : (left : ℕ) → left ≡ 2001 - l.number → drawn_often left l.generator.state ≡ behind_session l.fn.generator.state;
}
