use Prim.Native.Nat.{◌+◌, ◌*◌}
use Rattle.qc_memory_tests.proofs.lock.shares.+beside.Given as goal

abbrev pub decreases-add_beside : goal.decreases-add_beside
decreases-add_beside g l = 4 * l.threads

abbrev pub decreases-add_both : goal.decreases-add_both
decreases-add_both g l = 4 * l.threads + 2

abbrev pub decreases-add_both-others : goal.decreases-add_both-others
decreases-add_both-others g l = 4 * l.threads + 1
