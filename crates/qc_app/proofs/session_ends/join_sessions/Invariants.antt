use Rattle.std.proofs.Common.{◌≡◌, vec_capacity}
use Rattle.qc_app.specs.SessionEnds.{HasMetBehind}
use Rattle.qc_app.proofs.session_ends.join_sessions.Given as goal

abbrev pub invariant-loop-slot : goal.invariant-loop-slot
invariant-loop-slot l = HasMetBehind l.turn l.fn.first l.first l.fn.slots.items l.slots.items l.served l.outcomes.items × (vec_capacity l.outcomes ≡ vec_capacity l.fn.outcomes)

abbrev pub decreases-loop-slot : goal.decreases-loop-slot
decreases-loop-slot l = goal.left-loop-slot l
