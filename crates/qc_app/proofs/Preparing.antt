-- The setup part is run on a new seat.
use Rattle.std.proofs.Common.{◌≡◌, ℕ, ◌+◌, List, [], length, Option, Some, None, sym, ap, ◌∙◌, subst}
use Rattle.qc_types.specs.declared.options.Options.{Options}
use Rattle.qc_model.specs.declared.events.Event.{Event}
use Rattle.qc_turn.specs.declared.seat.Seat.{Seat}
use Rattle.qc_turn.specs.declared.turn.Turn.{Turn}
use Rattle.qc_turn.specs.declared.view.MetSeat.{MetSeat}
use Rattle.qc_turn.specs.declared.view.View.{View}
use Rattle.qc_turn.specs.Seats.{view}
use Rattle.qc_core.specs.contracts.server.ServerKept.TheImpl.{ghosts}
use Rattle.qc_core.specs.declared.server_state.ServerState.{ServerState}
use Rattle.qc_serve.specs.declared.session.Session.{Session}
use Rattle.qc_serve.specs.declared.connecting.NotConnected.{NotConnected}
use Rattle.qc_serve.specs.declared.connecting.NotConnected.TheVariants as refusal
use Rattle.qc_serve.specs.Connecting.{HandsBack, HasBegun, MayConnect}
use Rattle.qc_serve.specs.Going.{as_fixed, number_of}
use Rattle.qc_app.specs.declared.outcomes.Outcome.{Outcome}
use Rattle.qc_app.specs.declared.sessions.Slot.{Slot}
use Rattle.qc_app.specs.SessionEnds.{IsOutcomeOf}
use Rattle.qc_app.specs.SessionStarts.{HasSplit, IsOpen, handed_back}
use Rattle.qc_app.specs.SetupPart.{HasPrepared, IsFresh, IsPrepared}
use Rattle.qc_app.specs.Sessions.{IsServed, MayServe, new_slot}
use Rattle.qc_app.proofs.Opening.{is_open}
use Rattle.qc_app.proofs.Running.{one_may_serve}

module _ (t : Turn ServerState Event) (o : Options) (s : Seat ServerState Event ghosts) (fresh : IsFresh t o s) where
  pub fresh_split : HasSplit t o s 0
  fresh_split =
      let none : length (view s).registry ≡ 0 = ap (λ (v : View ServerState Event). length v.registry) fresh.is in
      record {
        first = record { seated = fresh.seated; number = ap (λ (v : View ServerState Event). v.number) fresh.is };
        fixed = ap (λ (v : View ServerState Event). v.fixed) fresh.is;
        registry = none;
        made = s.counted ∙ ap (λ (n : ℕ). n + 1) none;
      }

  pub fresh_may_connect : MayConnect t o s
  fresh_may_connect = record {
    apart = record { seated = fresh.seated; task = ap (λ (v : View ServerState Event). v.task) fresh.is; connected = ap (λ (v : View ServerState Event). v.connected) fresh.is };
    fixed = ap (λ (v : View ServerState Event). v.fixed) fresh.is;
  }

  pub setup_open : (session : Session) (input : List ℕ) → HasBegun t o s session → IsOpen t o [] (0, input) (new_slot session input)
  setup_open session input begun =
      is_open t o [] 0 s session input begun (ap (λ (v : View ServerState Event). v.number) fresh.is) (ap (λ (v : View ServerState Event). v.events) fresh.is) (ap (λ (v : View ServerState Event). v.registry) fresh.is) (ap (λ (v : View ServerState Event). v.seen) fresh.is)

pub setup_may_serve : (t : Turn ServerState Event) (o : Options) (input : List ℕ) (s : Slot) → IsOpen t o [] (0, input) s → MayServe t s
setup_may_serve t o input s opened = one_may_serve t o [] (0, input) s opened

-- the seat of a session that has ended there
setup_split_at : (t : Turn ServerState Event) (o : Options) (input : List ℕ) (begun over : Slot) → IsOpen t o [] (0, input) begun → IsServed t begun over → HasSplit t o over.session.seat 0
setup_split_at t o input begun over opened served =
    let ended = served.ended in
    let left = ended.left in
    let apart = left.apart in
    let rest = opened.rest in
    let number : (view over.session.seat).number ≡ number_of begun.session + 1 = left.number in
    let none : (view over.session.seat).registry ≡ [] = ap (λ (p : List ℕ × List (Option (MetSeat Event))). p.1) ended.standing ∙ opened.alone in
    record {
      first = record { seated = apart.seated; number = number ∙ ap (λ (n : ℕ). n + 1) opened.number };
      fixed = ap (λ (p : List ℕ × List (Option (MetSeat Event))). p.0) ended.standing ∙ (rest.options ∙ ap as_fixed opened.options);
      registry = ap (λ (r : List (Option (MetSeat Event))). length r) none;
      made = over.session.seat.counted ∙ ap (λ (r : List (Option (MetSeat Event))). length r + 1) none;
    }

pub setup_split : (t : Turn ServerState Event) (o : Options) (input : List ℕ) (begun over : Slot) (s : Seat ServerState Event ghosts) → IsOpen t o [] (0, input) begun → IsServed t begun over → s ≡ over.session.seat → HasSplit t o s 0
setup_split t o input begun over s opened served is = subst (λ (x : Seat ServerState Event ghosts). HasSplit t o x 0) (sym is) (setup_split_at t o input begun over opened served)

pub setup_prepared : (t : Turn ServerState Event) (o : Options) (input : List ℕ) (begun over : Slot) (s : Seat ServerState Event ghosts) (outcome : Outcome) → IsOpen t o [] (0, input) begun → IsServed t begun over → s ≡ over.session.seat → IsOutcomeOf over outcome → IsPrepared t o input (view s) outcome
setup_prepared t o input begun over s outcome opened served is left = record { begun = begun; over = over; opened = opened; served = served; left = left; seat = ap (λ (x : Seat ServerState Event ghosts). view x) (sym is) }

-- the seat is handed back
pub handed_split : (t : Turn ServerState Event) (o : Options) (s : Seat ServerState Event ghosts) (r : NotConnected) → IsFresh t o s → HandsBack t o s r → HasSplit t o (handed_back r) 0
handed_split t o s (refusal.Memory back) fresh (may, same) = let apart = may.apart in fresh_split t o back (record { seated = apart.seated; size = fresh.size; is = same ∙ fresh.is })
handed_split t o s (refusal.Refused back e) fresh (may, same, large, why) = let apart = may.apart in fresh_split t o back (record { seated = apart.seated; size = fresh.size; is = same ∙ fresh.is })

-- ---- whether there is a setup part

pub prepared_none : (t : Turn ServerState Event) (o : Options) (s : Seat ServerState Event ghosts) (setup : Option (List ℕ)) → IsFresh t o s → setup ≡ None → HasPrepared t o setup (view s) None
prepared_none t o s setup fresh is = subst (λ (x : Option (List ℕ)). HasPrepared t o x (view s) None) (sym is) (ap (λ (v : View ServerState Event). v.seen) fresh.is, ap (λ (v : View ServerState Event). v.events) fresh.is)

pub prepared_some : (t : Turn ServerState Event) (o : Options) (v : View ServerState Event) (setup : Option (List ℕ)) (input : List ℕ) (outcome : Outcome) → setup ≡ Some input → IsPrepared t o input v outcome → HasPrepared t o setup v (Some outcome)
prepared_some t o v setup input outcome is prepared = subst (λ (x : Option (List ℕ)). HasPrepared t o x v (Some outcome)) (sym is) prepared
