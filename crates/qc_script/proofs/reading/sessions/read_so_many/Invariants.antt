use Rattle.std.proofs.Common.{◌≡◌, ◌++◌, ◌-◌, length}
use Rattle.std.specs.List.{flat_map}
use Rattle.qc_model.specs.ReportText.{lines, session_lines}
use Rattle.qc_script.specs.Told.{unread, times, session_at}
use Rattle.qc_script.proofs.Loops.{with_prefix}
use Rattle.qc_script.proofs.reading.sessions.read_so_many.Given as goal

abbrev pub invariant-loop : goal.invariant-loop
invariant-loop l = record {
  text : l.initial.lines.left.now ≡ lines (flat_map session_lines l.sessions) ++ l.lines.left.now;
  count : length l.sessions ≡ l.counter;
  told : with_prefix l.sessions (times session_at (l.count - l.counter) (unread l.lines)) ≡ times session_at l.count (unread l.initial.lines);
}
