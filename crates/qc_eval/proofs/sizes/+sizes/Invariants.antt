use Rattle.std.proofs.Common.{◌≡◌, ◌≤◌, length, map, take, Some}
use Rattle.std.specs.Prelude.{option_map}
use Rattle.qc_sql.specs.Rows.{concat_texts}
use Rattle.qc_eval.specs.Chosen.{value_in}
use Rattle.qc_eval.proofs.sizes.+sizes.Given as goal

-- the texts so far are there, and are so long together
abbrev pub invariant-joined_size-loop-part : goal.invariant-joined_size-loop-part
invariant-joined_size-loop-part g l = (l.total ≤ 65535) × (option_map length (concat_texts (map (value_in l.scene) (take l.part-index l.parts))) ≡ Some l.total)
