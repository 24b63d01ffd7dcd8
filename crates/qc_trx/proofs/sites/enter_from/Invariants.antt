use Rattle.qc_trx.specs.Sites.{IsIndex}
use Rattle.qc_trx.proofs.sites.enter_from.Given as goal

-- the rows so far are entered
abbrev pub invariant-loop-number : goal.invariant-loop-number
invariant-loop-number l = IsIndex l.firsts.entries l.number l.rows
