use Rattle.std.proofs.Common.{◌≡◌, ◌++◌, ◌-◌, [], length}
use Rattle.std.specs.List.{All}
use Rattle.qc_model.specs.ReportText.{lines, event_lines}
use Rattle.qc_script.specs.ShortNames.{HasShortColumns}
use Rattle.qc_script.specs.Told.{unread, times, event_at, behind_event}
use Rattle.qc_script.proofs.Loops.{with_prefix}
use Rattle.qc_script.proofs.reading.journal.read_events.Given as goal

abbrev pub invariant-loop-place : goal.invariant-loop-place
invariant-loop-place l = record {
  short : All HasShortColumns l.events;
  text : l.initial.lines.left.now ≡ lines (event_lines 1 l.events) ++ l.lines.left.now;
  count : length l.events ≡ l.place;
  told : with_prefix l.events (times event_at (l.count - l.place) (behind_event l.place l.made (unread l.lines))) ≡ times event_at l.count (behind_event 0 [] (unread l.initial.lines));
}
