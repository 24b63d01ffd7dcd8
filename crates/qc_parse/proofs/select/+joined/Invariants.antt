use Rattle.qc_parse.proofs.select.+joined.Given as goal

abbrev pub decreases-joined : goal.decreases-joined
decreases-joined l = l.most
