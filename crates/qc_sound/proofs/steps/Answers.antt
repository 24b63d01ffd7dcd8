use Rattle.qc_sound.proofs.Pushes.{quiet_step}
use Rattle.qc_sound.proofs.Leaves.{commit_step, leave_step, prune_step, reset_step}
use Rattle.qc_sound.proofs.Hits.{hit_step}
use Rattle.qc_sound.proofs.Ending.{strike_step, seat_step}
use Rattle.qc_sound.proofs.Holding.{hold_step}
use Rattle.qc_sound.proofs.Frees.{store_step}
use Rattle.qc_sound.proofs.Starts.{start_step}
use Rattle.qc_sound.proofs.Growing.{grow_step}
use Rattle.qc_sound.proofs.Done.{done_step}
use Rattle.qc_sound.proofs.Gone.{gone_step}
use Rattle.qc_sound.proofs.Moving.{move_step}
use Rattle.qc_sound.proofs.steps.Goals as goal

pub returns-clause-quiet : goal.returns-clause-quiet
returns-clause-quiet c = quiet_step

pub returns-clause-leaves : goal.returns-clause-leaves
returns-clause-leaves c = leave_step

pub returns-clause-commits : goal.returns-clause-commits
returns-clause-commits c = commit_step

pub returns-clause-prunes : goal.returns-clause-prunes
returns-clause-prunes c = prune_step

pub returns-clause-resets : goal.returns-clause-resets
returns-clause-resets c = reset_step

pub returns-clause-hits : goal.returns-clause-hits
returns-clause-hits c = hit_step

pub returns-clause-strikes : goal.returns-clause-strikes
returns-clause-strikes c = strike_step

pub returns-clause-seats : goal.returns-clause-seats
returns-clause-seats c = seat_step

pub returns-clause-holds : goal.returns-clause-holds
returns-clause-holds c = hold_step

pub returns-clause-stores : goal.returns-clause-stores
returns-clause-stores c = store_step

pub returns-clause-starts : goal.returns-clause-starts
returns-clause-starts c = start_step

pub returns-clause-grows : goal.returns-clause-grows
returns-clause-grows c = grow_step

pub returns-clause-done : goal.returns-clause-done
returns-clause-done c = done_step

pub returns-clause-gone : goal.returns-clause-gone
returns-clause-gone c = gone_step

pub returns-clause-moves : goal.returns-clause-moves
returns-clause-moves c = move_step
