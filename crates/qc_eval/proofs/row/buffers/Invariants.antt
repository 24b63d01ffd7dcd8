use Rattle.std.proofs.Common.{◌≡◌, ◌<◌, ◌≤◌, length, get_or}
use Rattle.qc_eval.specs.Buffers.{no_buffer, no_formula}
use Rattle.qc_eval.specs.Chosen.{folded_of}
use Rattle.qc_eval.specs.Rooms.{text_room}
use Rattle.qc_eval.proofs.row.buffers.Given as goal

abbrev pub invariant-loop-item : goal.invariant-loop-item
invariant-loop-item l = record {
  long : length l.row.items ≡ l.item-index;
  room : (k : _) → k < l.item-index → text_room l.scene.tables.now (folded_of l.scene) (get_or l.items k no_formula) ≤ (get_or l.row.items k no_buffer).capacity;
}
