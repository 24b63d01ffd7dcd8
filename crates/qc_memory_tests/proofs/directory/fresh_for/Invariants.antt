use Rattle.std.proofs.Common.{◌≤◌, length, take}
use Rattle.qc_memory_tests.proofs.Fresh.{IsFreshFor}
use Rattle.qc_memory_tests.proofs.directory.fresh_for.Given as goal

abbrev pub invariant-loop-at : goal.invariant-loop-at
invariant-loop-at l = record {
  fresh : IsFreshFor (take l.at l.tables) l.dir.tables l.fresh;
  few : length l.fresh ≤ l.at;
}
