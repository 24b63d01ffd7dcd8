use Rattle.std.proofs.Common.{◌≡◌, map, drop}
use Rattle.std.specs.List.{All}
use Rattle.qc_script.specs.ShortNames.{MakesShortColumns}
use Rattle.qc_script.specs.Told.{each, op_told}
use Rattle.qc_script.proofs.Loops.{with_prefix}
use Rattle.qc_script.proofs.reading.operations.operations.Given as goal

abbrev pub invariant-loop-member : goal.invariant-loop-member
invariant-loop-member l = record {
  short : All MakesShortColumns l.ops;
  told : with_prefix l.ops (each op_told l.made (drop l.member-index (map (λ m. m.now) l.member-items))) ≡ each op_told l.fn.made (map (λ m. m.now) l.member-items);
}
