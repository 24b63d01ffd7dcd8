-- A rival is filled by another session.
use Rattle.std.proofs.Common.{◌≡◌, ℕ, ◌+◌, ◌-◌, ◌<◌, Bool, true, false, List, [], ◌∷◌, refl, sym, subst, ◌∙◌, true≢false}
use Rattle.std.specs.Prelude.{Some, not, ◌&&◌, IsSomeAnd}
use Rattle.std.specs.List.{list_any, AllByRecursion}
use Rattle.std.proofs.lemmas.Bool.{and_parts}
use Rattle.qc_key.specs.Hash.{hash}
use Rattle.qc_model.specs.declared.events.Who.{Who}
use Rattle.qc_model.specs.declared.events.Event.TheVariants as event
use Rattle.qc_model.specs.Journal.{event_count, last_event}
use Rattle.qc_model.specs.Cache.{cache}
use Rattle.qc_model.specs.Cache.{Entry as Cached}
use Rattle.qc_model.specs.Choice.{has_key, rival}
use Rattle.qc_model.specs.Licence.{IsRivalOf, starts_serial}
use Rattle.qc_laws.specs.history.Fillings.{IsFilled}
use Rattle.qc_laws.proofs.history.Events.{found_all}
use Rattle.qc_laws.proofs.history.Fillings.{fills_are_last}
use Rattle.qc_laws.proofs.history.Serials.{neither, opposite, serials_apart}
use Rattle.qc_turn.specs.Tasks.{listed_for}
use Rattle.qc_sound.specs.Moment.{at_rest}
use Rattle.qc_core.specs.declared.server_state.ServerState.{ServerState}
use Rattle.qc_core.specs.Whole.{Sound, tasks_of}
use Rattle.qc_core.proofs.Noting.{alone}
use Rattle.qc_core.proofs.Seeking.{own_serial}

none_each : {A : Type 0} (p : A → Bool) (xs : List A) → list_any p xs ≡ false → AllByRecursion (λ x. p x ≡ false) xs
none_each p [] h = tt
none_each p (x ∷ xs) h = let parts = neither (p x) (list_any p xs) h in (parts.0, none_each p xs parts.1)

both : (a b : Bool) → a ≡ false → b ≡ true → (not a && b) ≡ true
both false true h k = refl
both false false h k = absurd (true≢false (sym k))
both true b h k = absurd (true≢false h)

pub is_rival : (words : List ℕ) (s : ServerState) (who : Who) (seat : ℕ) (key : List ℕ) (y : Cached) → Sound words s → 0 < seat → who.session ≡ seat - 1 → who.number ≡ event_count s.journal.events who.session + 1
    → listed_for seat (tasks_of s) ≡ [] → rival s.journal.events key ≡ Some y → IsRivalOf s.journal.events who y.serial
is_rival words s who seat key y sound ps is number free found =
    let w = sound.1 in
    let J = s.journal.events in
    let own = own_serial (λ e. not e.complete && has_key key e) (cache J) y (serials_apart s.options J w.sound.journal.lawful) found in
    let parts = and_parts (not y.complete) (has_key key y) own.1 in
    let incomplete : y.complete ≡ false = opposite y.complete parts.0 in
    let a = alone words sound.0 (at_rest hash) s who (event.Reset who) seat w ps refl is number free in
    let test : Cached → Bool = λ e. not e.complete && has_key key e in
    let filled = (found_all (IsFilled J) test (cache J) y (fills_are_last s.options J w.sound.journal.lawful) found).0 incomplete in
    let else : (not y.complete && starts_serial y.serial (last_event J who.session)) ≡ false = (found_all _ test (cache J) y (none_each (λ e. not e.complete && starts_serial e.serial (last_event J who.session)) (cache J) a.decides.not_filling) found).0 in
    record {
      filling = subst (λ o. IsSomeAnd o (λ (e : Cached). e.complete ≡ false)) (sym own.0) incomplete;
      other = (
        filled.0,
        λ same. true≢false (sym (both y.complete _ incomplete (subst (λ k. starts_serial y.serial (last_event J k) ≡ true) same filled.1)) ∙ else),
        filled.1,
      );
    }
