-- A request that pushes one event or none, by calls that say so.
use Rattle.std.proofs.Common.{refl, sym, subst, Result, Ok, Err, OnErr}
use Rattle.std.specs.Result.{IsErrAnd}
use Rattle.qc_model.specs.declared.events.Event.{Event}
use Rattle.qc_model.specs.declared.events.Who.{Who}
use Rattle.qc_model.specs.Session.{snapshot_of}
use Rattle.qc_trx.specs.SnapshotStates.{SnapshotState}
use Rattle.qc_statements.specs.Sound.{IsFitState, IsPast}
use Rattle.qc_turn.specs.declared.task.Task.{Task}
use Rattle.qc_turn.specs.Seats.{Held, holder}
use Rattle.qc_core.specs.contracts.server.ServerKept.TheImpl.{ghosts}
use Rattle.qc_core.specs.declared.server_state.ServerState.{ServerState}
use Rattle.qc_serve.specs.Holding.{IsPrepared, TurnsHeld, next_task}
use Rattle.qc_serve.specs.Seats.{GoesOn, IsSameSeat, PushesNone}
use Rattle.qc_serve.proofs.Deciding.{fit_taken}
use Rattle.qc_serve.proofs.Turning.{turns_to_rest}

same_self : (h : Held ServerState Event ghosts) → IsSameSeat h h
same_self h = record { seat = refl; turn = refl; number = refl; seen = refl; fixed = refl; registry = refl; word_set = refl; task = refl; ranges = refl }

-- a state that fits what the session has seen fits the journal as it was taken
pub fit_prepared : (who : Who) (h : Held ServerState Event ghosts) (x : SnapshotState) → IsPrepared who h → IsFitState (holder h).seen x → IsPast (holder h).seen (snapshot_of x.state) → IsFitState h.value.journal.events x
fit_prepared who h x p fit past = fit_taken who.session who h h x (same_self h) refl p.ready past fit

-- ---- none was pushed

pub none_turns : {A E : Type 0} (who : Who) (h k : Held ServerState Event ghosts) (r : Result (A × Task) E) (P : E → Type 0) → IsErrAnd r P → IsPrepared who h → PushesNone h k → TurnsHeld (next_task r) h k
none_turns who h k (Ok a) P is p none = absurd is
none_turns who h k (Err e) P is p none = turns_to_rest h k p.rested p.few none.same none.rest

pub none_given : {A E : Type 0} (who : Who) (h k : Held ServerState Event ghosts) (r : Result A E) → IsPrepared who h → PushesNone h k → OnErr r (GoesOn who.session (holder h).seen k.value.journal.events)
none_given who h k (Ok a) p none = tt
none_given who h k (Err e) p none = subst (GoesOn who.session (holder h).seen) (sym none.events) p.ready.goes_on
