use Rattle.qc_app.specs.SessionInput.{HasGone}
use Rattle.qc_app.proofs.session_input.serve_input.Given as goal

abbrev pub invariant-loop : goal.invariant-loop
invariant-loop g l = HasGone l.turn l.fn.session l.session l.fn.input l.left l.lines
