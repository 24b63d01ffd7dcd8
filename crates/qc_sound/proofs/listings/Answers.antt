use Rattle.qc_sound.proofs.Leaves.{leave_tasks}
use Rattle.qc_sound.proofs.Starts.{hit_lists, start_lists}
use Rattle.qc_sound.proofs.Ending.{strike_lists}
use Rattle.qc_sound.proofs.Growing.{grow_lists}
use Rattle.qc_sound.proofs.Done.{done_lists}
use Rattle.qc_sound.proofs.Gone.{gone_lists}
use Rattle.qc_sound.proofs.Moving.{move_lists}
use Rattle.qc_sound.proofs.listings.Goals as goal

pub returns-clause-leaves : goal.returns-clause-leaves
returns-clause-leaves c = leave_tasks

pub returns-clause-hits : goal.returns-clause-hits
returns-clause-hits c = hit_lists

pub returns-clause-strikes : goal.returns-clause-strikes
returns-clause-strikes c = strike_lists

pub returns-clause-starts : goal.returns-clause-starts
returns-clause-starts c = start_lists

pub returns-clause-grows : goal.returns-clause-grows
returns-clause-grows c = grow_lists

pub returns-clause-done : goal.returns-clause-done
returns-clause-done c = done_lists

pub returns-clause-gone : goal.returns-clause-gone
returns-clause-gone c = gone_lists

pub returns-clause-moves : goal.returns-clause-moves
returns-clause-moves c = move_lists
