use Rattle.qc_wire.proofs.Behind.{more_is_refused}
use Rattle.qc_wire.proofs.Cut.{cut_is_refused}
use Rattle.qc_wire.proofs.laws.reply_ends.Goals as goal

pub returns-clause-behind : goal.returns-clause-behind
returns-clause-behind c = more_is_refused

pub returns-clause-cut : goal.returns-clause-cut
returns-clause-cut c = cut_is_refused
