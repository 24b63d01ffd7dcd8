use Rattle.std.proofs.Common.{◌≡◌, ◌<◌, get_or}
use Rattle.qc_eval.specs.Buffers.{Hold, no_buffer, no_formula}
use Rattle.qc_eval.specs.Chosen.{folded_of, value_in}
use Rattle.qc_eval.proofs.row.fill.Given as goal

abbrev pub invariant-loop-index : goal.invariant-loop-index
invariant-loop-index g l = record {
  hold : Hold l.scene.tables.now (folded_of l.scene) l.items l.row.items;
  done : (k : _) → k < l.index → (get_or l.row.items k no_buffer).value ≡ value_in l.scene (get_or l.items k no_formula);
}
