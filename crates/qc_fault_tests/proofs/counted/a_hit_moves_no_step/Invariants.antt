use Rattle.qc_fault_tests.proofs.counted.a_hit_moves_no_step.Given as goal

abbrev pub ghosts-play : goal.ghosts-play
ghosts-play g a = record { name = a.blank.name; parts = a.blank.parts }
