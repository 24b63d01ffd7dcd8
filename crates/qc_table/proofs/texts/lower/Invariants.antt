use Rattle.std.proofs.Common.{◌≡◌, ◌-◌}
use Rattle.qc_table.proofs.TextMoves.{partly}
use Rattle.qc_table.proofs.texts.lower.Given as goal

abbrev pub invariant-loop-index : goal.invariant-loop-index
invariant-loop-index l = l.ends ≡ partly (λ end. end - l.less) l.from (l.index - l.from) l.fn.ends
