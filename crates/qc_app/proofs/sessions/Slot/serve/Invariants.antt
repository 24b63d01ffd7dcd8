use Rattle.qc_app.proofs.sessions.Slot.serve.Given as goal

abbrev pub ghosts-serve_input : goal.ghosts-serve_input
ghosts-serve_input g a = record { name = a.blank.name; parts = a.blank.parts }
