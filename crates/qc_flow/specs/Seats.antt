-- What becomes of a seat by calls on its fill.
use Rattle.std.specs.Prelude.{◌≡◌, ◌⊎◌, ℕ, true, [], ◌∷◌, ◌++◌}
use Rattle.qc_model.specs.declared.events.Event.{Event}
use Rattle.qc_model.specs.Agrees.{is_ended}
use Rattle.qc_model.specs.Journal.{Journal}
use Rattle.qc_turn.specs.declared.task.Task.TheVariants as task
use Rattle.qc_turn.specs.declared.view.View.{View}
use Rattle.qc_turn.specs.Views.{of_seat}
use Rattle.qc_turn.specs.Words.{StartsWith}
use Rattle.qc_core.specs.contracts.server.ServerKept.TheImpl.{ghosts}
use Rattle.qc_core.specs.declared.server_state.ServerState.{ServerState}

-- The seat has seen more, may have another task, and may have taken the turn. All else of it stays: it is connected as before, and its session has the same events. Where it knew
-- those of its events that are in what it had seen, it knows those that are in what it has seen now.
pub record GoesOn (old new : View ServerState Event) : Type 0 where
  pub seen : StartsWith new.seen old.seen
  pub same : new ≡ record old { seen = new.seen; task = new.task; blocks = new.blocks; content = new.content; turns = new.turns }
  pub told : old.events ≡ of_seat ghosts old.number old.seen → new.events ≡ of_seat ghosts new.number new.seen

-- the seat took the turn once, with this server
abbrev pub TookOnce : ServerState → View ServerState Event → View ServerState Event → Type 0
TookOnce s old new = new.turns ≡ s ∷ old.turns

-- The seat took the turn once. The journal is as it was then with this event and no other, or, where the entry had left, as it was.
abbrev pub EndsAlone : Event → View ServerState Event → View ServerState Event → Type 0
EndsAlone e old new = (s : ServerState) × TookOnce s old new × ((new.seen ≡ s.journal.events ++ e ∷ []) ⊎ (new.seen ≡ s.journal.events))

-- the seat has no task
pub record IsAtRest (v : View ServerState Event) : Type 0 where
  pub task : v.task ≡ task.Rest
  pub blocks : v.blocks ≡ []
  pub content : v.content ≡ []

-- the journal's last event
abbrev pub EndsIn : Event → Journal → Type 0
EndsIn e journal = (earlier : Journal) × (journal ≡ earlier ++ e ∷ [])

-- The seat rests, and in what it has then seen the fill has ended: the entry is done or gone, but not by the end of its session, or a commit or a reset
-- took it out before.
pub record HasEnded (serial : ℕ) (v : View ServerState Event) : Type 0 where
  pub rests : IsAtRest v
  pub ended : is_ended serial [] v.seen ≡ true
