use Rattle.std.proofs.Common.{map, take}
use Rattle.qc_sql.specs.Rows.{concat_texts}
use Rattle.qc_eval.specs.Chosen.{value_in}
use Rattle.qc_eval.specs.Texts.{HasPut}
use Rattle.qc_eval.proofs.texts.+texts.Given as goal

-- the texts so far stand behind what was there
abbrev pub invariant-append_all-loop-part : goal.invariant-append_all-loop-part
invariant-append_all-loop-part g l = HasPut (concat_texts (map (value_in l.scene) (take l.part-index l.parts))) l.room l.left l.initial.out l.out
