-- What a step makes of the tasks that the lock sees.
use Rattle.std.specs.Prelude.{◌≡◌, ◌≢◌, ℕ}
use Rattle.qc_turn.specs.declared.task.Task.{Task}
use Rattle.qc_turn.specs.Tasks.{listed_for, own}
use Rattle.qc_sound.specs.PlainServer.{PlainServer, blocks_of, listed_tasks}

-- What is listed for the other seats stays, and for this one it is this task alone.
pub record ListsAlone (seat : ℕ) (t : Task) (old new : PlainServer) : Type 0 where
  pub others : (k : ℕ) → k ≢ seat → listed_for k (listed_tasks new) ≡ listed_for k (listed_tasks old)
  pub alone : listed_for seat (listed_tasks new) ≡ own seat t (blocks_of new.chains t)
