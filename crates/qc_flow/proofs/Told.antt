-- What the answer of a call that ends a fill tells.
use Rattle.std.proofs.Common.{◌≡◌, ℕ, eq-eqb, true, false, true≢false, [], length, refl, sym, subst, inl, inr, Result, Ok, Err}
use Rattle.std.specs.Prelude.{IfOk, IfErr, is_ok, is_some, Option, Some, None, IsSomeAnd}
use Rattle.qc_model.specs.declared.events.Event.{Event}
use Rattle.qc_model.specs.declared.events.Event.TheVariants as event
use Rattle.qc_model.specs.declared.events.GoneWhy.TheVariants as gone
use Rattle.qc_model.specs.Agrees.{ends_fill, is_ended}
use Rattle.qc_model.specs.Journal.{Journal}
use Rattle.qc_turn.specs.declared.view.View.{View}
use Rattle.qc_core.specs.OvertakenFill.{IsOvertaken}
use Rattle.qc_core.specs.declared.server_state.ServerState.{ServerState}
use Rattle.qc_flow.specs.Fills.{IsLargeIn, Abandons}
use Rattle.qc_flow.specs.Seats.{IsAtRest, HasEnded, EndsIn}
use Rattle.qc_flow.proofs.Removals.{last_ends}

-- a journal that ends in an event which ends the fill
pub in_last : (n : ℕ) (e : Event) (seen : Journal) → ends_fill n e ≡ true → EndsIn e seen → is_ended n [] seen ≡ true
in_last n e seen h t = subst (λ j. is_ended n [] j ≡ true) (sym t.1) (last_ends n t.0 e h)

pub large_told : (seen : Journal) (n total limit : ℕ) (r : Result ℕ ℕ) → IfOk r (λ place. EndsIn (event.Gone n (gone.TooLarge total limit)) seen) → IfErr r (λ by. IsOvertaken seen n by × (is_ended n [] seen ≡ true)) → (is_ended n [] seen ≡ true) × IsLargeIn n total limit seen
large_told seen n total limit (Ok place) ok err = (in_last n (event.Gone n (gone.TooLarge total limit)) seen (eq-eqb n n refl) ok, inl ok)
large_told seen n total limit (Err by) ok err = (err.1, inr (by, err.0))

pub abandon_told : (v : View ServerState Event) (n : ℕ) (r : Result ℕ ℕ) → IfOk r (λ place. EndsIn (event.Gone n gone.Ended) v.seen) → IfErr r (λ by. IsOvertaken v.seen n by × (is_ended n [] v.seen ≡ true)) → Abandons n v
abandon_told v n (Ok place) ok err = inl ok
abandon_told v n (Err by) ok err = inr (by, err.0)

pub whole_told : (seen : Journal) (n : ℕ) (r : Result ℕ ℕ) → IfOk r (λ place. (place ≡ length seen) × EndsIn (event.Done n) seen) → IfErr r (λ by. IsOvertaken seen n by × (is_ended n [] seen ≡ true)) → is_ended n [] seen ≡ true
whole_told seen n (Ok place) ok err = in_last n (event.Done n) seen (eq-eqb n n refl) ok.1
whole_told seen n (Err by) ok err = err.1

-- ---- where the entry is there, the fill ends by its event

pub by_event : (r : Result ℕ ℕ) (P : ℕ → Type 0) → is_ok r ≡ true → IfOk r P → (place : ℕ) × P place
by_event (Ok place) P h ok = (place, ok)
by_event (Err by) P h ok = absurd (true≢false (sym h))

pub by_removal : (r : Result ℕ ℕ) (P : ℕ → Type 0) → is_ok r ≡ false → IfErr r P → (by : ℕ) × P by
by_removal (Ok place) P h err = absurd (true≢false h)
by_removal (Err by) P h err = (by, err)

pub is_there : {A : Type 0} (o : Option A) (P : A → Type 0) → IsSomeAnd o P → is_some o ≡ true
is_there None P h = absurd h
is_there (Some x) P h = refl

pub has_ended : (n : ℕ) (w : View ServerState Event) → IsAtRest w → is_ended n [] w.seen ≡ true → HasEnded n w
has_ended n w rests ended = record { rests = rests; ended = ended }
