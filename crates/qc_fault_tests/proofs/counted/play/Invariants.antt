use Rattle.std.proofs.Common.{◌≡◌, None}
use Rattle.qc_serve.specs.Going.{IsAtRest, number_of}
use Rattle.qc_fault_tests.proofs.counted.play.Given as goal

abbrev pub invariant-loop-text : goal.invariant-loop-text
invariant-loop-text g l = IsAtRest l.turn l.session × (l.session.end ≡ None) × (number_of l.session ≡ number_of l.initial.session)
