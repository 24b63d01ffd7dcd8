use Rattle.std.proofs.Common.{◌≡◌, ◌++◌, ◌-◌, length, map}
use Rattle.qc_model.specs.ReportText.{lines, line_text}
use Rattle.qc_script.specs.Told.{unread, times, command_at}
use Rattle.qc_script.proofs.Loops.{with_prefix}
use Rattle.qc_script.proofs.reading.sessions.read_commands.Given as goal

abbrev pub invariant-loop : goal.invariant-loop
invariant-loop l = record {
  text : l.initial.lines.left.now ≡ lines (map line_text l.commands) ++ l.lines.left.now;
  count : length l.commands ≡ l.counter;
  told : with_prefix l.commands (times command_at (l.count - l.counter) (unread l.lines)) ≡ times command_at l.count (unread l.initial.lines);
}
