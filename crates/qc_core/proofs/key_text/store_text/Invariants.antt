use Rattle.qc_core.proofs.Storing.{IsStoring}
use Rattle.qc_core.proofs.key_text.store_text.Given as goal

abbrev pub invariant-loop-index : goal.invariant-loop-index
invariant-loop-index l = IsStoring l.fn.held l.held l.block l.key l.index
