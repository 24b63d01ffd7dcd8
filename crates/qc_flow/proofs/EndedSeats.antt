-- What a seat knows after it took the turn and ended its fill.
use Rattle.std.proofs.Common.{◌≡◌, ◌⊎◌, inl, inr, ℕ, true, false, [], ◌∷◌, ◌++◌, ◌∙◌, length, sym, subst, Result, Ok, Err}
use Rattle.std.specs.Prelude.{IfOk, IfErr, is_ok, is_some}
use Rattle.qc_model.specs.declared.events.Event.{Event}
use Rattle.qc_model.specs.declared.events.Event.TheVariants as event
use Rattle.qc_model.specs.Agrees.{is_ended}
use Rattle.qc_model.specs.Cache.{cache, entry_of}
use Rattle.qc_turn.specs.Seats.{Held, holder, words}
use Rattle.qc_turn.specs.Steps.{Taken}
use Rattle.qc_turn.specs.Tasks.{listed_for}
use Rattle.qc_turn.specs.Views.{of_seat, with_word_set, after_release}
use Rattle.qc_turn.specs.declared.view.Holding.TheVariants.{Free}
use Rattle.qc_turn.specs.declared.view.View.{View}
use Rattle.qc_core.specs.FillEnd.{EndsBy, IsDone}
use Rattle.qc_core.specs.OvertakenFill.{IsOvertaken}
use Rattle.qc_core.specs.TaskEnd.{rested}
use Rattle.qc_core.specs.Whole.{tasks_of}
use Rattle.qc_core.specs.contracts.server.ServerKept.TheImpl.{ghosts}
use Rattle.qc_core.specs.declared.server_state.ServerState.{ServerState}
use Rattle.qc_flow.specs.Growths.{settled}
use Rattle.qc_model.specs.Journal.{Journal}
use Rattle.qc_flow.specs.Seats.{GoesOn, IsAtRest, EndsIn, EndsAlone}
use Rattle.qc_flow.proofs.Holdings.{ended_so}
use Rattle.qc_flow.proofs.Takings.{TookFill, seat_rests, took_once}

-- by this event, or it was overtaken
pub record EndedSeat (e : Event) (n : ℕ) (v w : View ServerState Event) (r : Result ℕ ℕ) : Type 0 where
  pub goes_on : GoesOn v w
  pub rests : IsAtRest w
  pub alone : EndsAlone e v w
  pub ok : IfOk r (λ place. (place ≡ length w.seen) × EndsIn e w.seen)
  pub err : IfErr r (λ by. IsOvertaken w.seen n by × (is_ended n [] w.seen ≡ true))

alone_by : (e : Event) (s t : ServerState) (seen : Journal) (r : Result ℕ ℕ) → seen ≡ t.journal.events → IfOk r (λ place. (place ≡ length t.journal.events) × EndsBy e s t) → IfErr r (λ by. t.journal.events ≡ s.journal.events) → (seen ≡ s.journal.events ++ e ∷ []) ⊎ (seen ≡ s.journal.events)
alone_by e s t seen (Ok place) is ok kept = inl (is ∙ ok.1.events)
alone_by e s t seen (Err by) is ok kept = inr (is ∙ kept)

pub ended_seat : (e : Event) (n : ℕ) (v w : View ServerState Event) (h k : Held ServerState Event ghosts) (r : Result ℕ ℕ) → ((m : ℕ) → of_seat ghosts m (e ∷ []) ≡ []) → TookFill v h n → Taken ghosts v h.value (words h) → v.holding ≡ Free → settled (holder k) ≡ settled (holder h) → (holder k).turns ≡ (holder h).turns
    → is_ok r ≡ is_some (entry_of n (cache h.value.journal.events)) → IfOk r (λ place. (place ≡ length k.value.journal.events) × EndsBy e h.value k.value) → IfErr r (λ by. IsOvertaken h.value.journal.events n by × (k.value ≡ rested (holder h).number h.value))
    → listed_for (holder h).number (tasks_of k.value) ≡ [] → w ≡ after_release ghosts (with_word_set (holder k) false) k.value (words k) → EndedSeat e n v w r
ended_seat e n v w h k r quiet f t free same turns there ok err none is =
    let so = ended_so e n (holder h).number (words h) h.value k.value v.blocks r quiet f.stands.sound f.listed there ok err in
    let q = seat_rests v w h k n f t free same so.onward none is in
    record {
      goes_on = q.goes_on;
      rests = q.rests;
      alone = (h.value, took_once v w h k n false f turns is, alone_by e h.value k.value w.seen r q.seen ok so.kept);
      ok = subst (λ j. IfOk r (λ place. (place ≡ length j) × EndsIn e j)) (sym q.seen) so.ok;
      err = subst (λ j. IfErr r (λ by. IsOvertaken j n by × (is_ended n [] j ≡ true))) (sym q.seen) so.err;
    }

-- of what is told of an entry that is done
pub done_by : (n seat bytes : ℕ) (s t : ServerState) (r : Result ℕ ℕ) → IfOk r (λ place. (place ≡ length t.journal.events) × EndsBy (event.Done n) s t × IsDone seat n bytes s t) → IfOk r (λ place. (place ≡ length t.journal.events) × EndsBy (event.Done n) s t)
done_by n seat bytes s t (Ok place) told = (told.0, told.1)
done_by n seat bytes s t (Err by) told = tt
