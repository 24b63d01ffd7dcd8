use Rattle.qc_fault_tests.proofs.player.+visit_among.Given as goal

abbrev pub decreases-visit_among : goal.decreases-visit_among
decreases-visit_among g l = l.others
