use Rattle.std.proofs.Common.{◌≡◌, length, vec_capacity}
use Rattle.qc_app.specs.SessionStarts.{IsOpening}
use Rattle.qc_app.proofs.session_starts.open_sessions.Given as goal

abbrev pub invariant-loop-input : goal.invariant-loop-input
invariant-loop-input g l = IsOpening l.turn l.options l.fn.first l.first l.fn.inputs.items l.slots.items (length l.yielded) × (vec_capacity l.slots ≡ vec_capacity l.fn.slots)
