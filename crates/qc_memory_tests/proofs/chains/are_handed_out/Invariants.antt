use Rattle.std.proofs.Common.{drop}
use Rattle.qc_chain.specs.Chains.{AreHandedOut}
use Rattle.qc_memory_tests.proofs.Checks.{BeginsFrom}
use Rattle.qc_memory_tests.proofs.chains.are_handed_out.Given as goal

abbrev pub invariant-loop-index : goal.invariant-loop-index
invariant-loop-index g l = record {
  handed : AreHandedOut l.tiles (drop l.index l.ranges.blocks);
  lowest : BeginsFrom l.ranges.blocks l.index l.above;
}
