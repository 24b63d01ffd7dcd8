use Rattle.qc_fault_tests.proofs.seats.part.Given as goal

abbrev pub ghosts-dismiss_by : goal.ghosts-dismiss_by
ghosts-dismiss_by g a = record { name = a.blank.name; parts = a.blank.parts }
