use Rattle.std.proofs.Common.{◌≡◌, take}
use Rattle.qc_trx.specs.Writes.{first_own, is_met, written_on}
use Rattle.qc_trx.proofs.conflict.first_met.Given as goal

-- it is the first row that the operations so far meet
abbrev pub invariant-loop-op : goal.invariant-loop-op
invariant-loop-op l = l.first ≡ first_own (is_met (written_on (take l.op-index l.ops) l.origin)) l.writes
