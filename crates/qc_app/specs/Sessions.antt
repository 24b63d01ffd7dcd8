-- The sessions of a script.
use Rattle.std.specs.Prelude.{◌≡◌, ℕ, List, [], None, IfSome}
use Rattle.qc_model.specs.declared.events.Event.{Event}
use Rattle.qc_turn.specs.declared.turn.Turn.{Turn}
use Rattle.qc_core.specs.declared.server_state.ServerState.{ServerState}
use Rattle.qc_serve.specs.declared.session.Session.{Session}
use Rattle.qc_serve.specs.Going.{IsAtRest}
use Rattle.qc_app.specs.declared.sessions.Slot.{Slot}
use Rattle.qc_app.specs.SessionInput.{HasAnswered, HasEnded}

-- a session that has answered nothing
abbrev pub new_slot : Session → List ℕ → Slot
new_slot session input = record { session = session; input = input; lines = []; ending = None }

-- it may be served
pub record MayServe (t : Turn ServerState Event) (s : Slot) : Type 0 where
  pub rest : IsAtRest t s.session
  pub going : s.session.end ≡ None
  pub none : s.lines ≡ []
  pub unended : s.ending ≡ None

-- it was served: it has ended, and where its input has an ending here, all of it was answered
pub record IsServed (t : Turn ServerState Event) (old new : Slot) : Type 0 where
  pub ended : HasEnded t old.session new.session
  pub input : new.input ≡ old.input
  pub answered : IfSome new.ending (HasAnswered old.session new.session old.input new.lines)
