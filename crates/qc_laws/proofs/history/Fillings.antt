-- The start of an entry that isn't complete is its session's last event.
use Rattle.std.proofs.Common.{◌≡◌, ℕ, Bool, true, false, cond, List, [], ◌∷◌, ◌++◌, refl, sym, ap, subst, ◌∙◌, true≢false, append_assoc, append-nil, eq-eqb, eqb-true}
use Rattle.std.specs.Prelude.{Option, Some, None, not, ◌&&◌, ◌==◌, if◌then◌else◌}
use Rattle.std.specs.List.{list_any, AllByRecursion}
use Rattle.qc_types.specs.declared.options.Options.{Options}
use Rattle.qc_model.specs.declared.events.Who.{Who}
use Rattle.qc_model.specs.declared.events.Event.{Event}
use Rattle.qc_model.specs.declared.events.Event.TheVariants as event
use Rattle.qc_model.specs.declared.events.How.{How}
use Rattle.qc_model.specs.declared.events.How.TheVariants as how
use Rattle.qc_model.specs.Journal.{Journal, decider, is_by, is_of_session, last_event, last_of}
use Rattle.qc_model.specs.Cache.{Entry, after_event, after_run, cache, completed, entry_of, is_entry, moved, without}
use Rattle.qc_model.specs.Licence.{IsLawfulAfter, IsLicensed, MayDecide, starts_serial}
use Rattle.qc_laws.proofs.history.Events.{all_append, all_filter, all_on, cache_push, found_all}
use Rattle.qc_laws.proofs.history.Serials.{neither}
use Rattle.qc_laws.specs.history.Fillings.{FillsAreLast, IsFilled}

-- ---- the last event, with one more

last_push : (found : Option Event) (s : ℕ) (j : Journal) (e : Event) → last_of found s (j ++ e ∷ []) ≡ (if is_by s e then Some e else last_of found s j)
last_push found s [] e = refl
last_push found s (x ∷ j) e = last_push (if is_by s x then Some x else found) s j e

-- of an event that isn't the session's
kept_by : (j : Journal) (e : Event) (s n : ℕ) → is_by s e ≡ false → starts_serial n (last_event j s) ≡ true → starts_serial n (last_event (j ++ e ∷ []) s) ≡ true
kept_by j e s n other h = ap (starts_serial n) (last_push None s j e ∙ ap (λ b. cond b (Some e) (last_event j s)) other) ∙ h

-- ---- an event of no session

quiet_stays : (j : Journal) (e : Event) (x : Entry) → decider e ≡ None → IsFilled j x → IsFilled (j ++ e ∷ []) x
quiet_stays j e x none f c = let at = f c in (at.0, kept_by j e at.0 x.serial (ap (is_of_session at.0) none) at.1)

-- ---- an event of a session that fills nothing

-- and the session whose event comes next doesn't fill it
abbrev IsFilledElse : Journal → Who → Entry → Type 0
IsFilledElse j who x = IsFilled j x × ((not x.complete && starts_serial x.serial (last_event j who.session)) ≡ false)

none_each : {A : Type 0} (p : A → Bool) (xs : List A) → list_any p xs ≡ false → AllByRecursion (λ x. p x ≡ false) xs
none_each p [] h = tt
none_each p (x ∷ xs) h = let parts = neither (p x) (list_any p xs) h in (parts.0, none_each p xs parts.1)

all_both : {A : Type 0} (P Q : A → Type 0) (xs : List A) → AllByRecursion P xs → AllByRecursion Q xs → AllByRecursion (λ x. P x × Q x) xs
all_both P Q [] h k = tt
all_both P Q (x ∷ xs) h k = ((h.0, k.0), all_both P Q xs h.1 k.1)

filled_else : (j : Journal) (who : Who) → MayDecide j who → AllByRecursion (IsFilled j) (cache j) → AllByRecursion (IsFilledElse j who) (cache j)
filled_else j who d all = all_both (IsFilled j) _ (cache j) all (none_each (λ entry. not entry.complete && starts_serial entry.serial (last_event j who.session)) (cache j) d.not_filling)

decided_stays : (j : Journal) (e : Event) (who : Who) (x : Entry) → decider e ≡ Some who → IsFilledElse j who x → IsFilled (j ++ e ∷ []) x
decided_stays j e who x is f c =
    let at = f.0 c in
    let by : is_by at.0 e ≡ (who.session == at.0) = ap (is_of_session at.0) is in
    elim (who.session == at.0) as (λ b. (who.session == at.0) ≡ b → (session : ℕ) × (starts_serial x.serial (last_event (j ++ e ∷ []) session) ≡ true)) [
      | true ↦ λ same. absurd (true≢false (sym (both x.complete _ c (subst (λ s. starts_serial x.serial (last_event j s) ≡ true) (sym (eqb-true who.session at.0 same)) at.1)) ∙ f.1))
      | false ↦ λ other. (at.0, kept_by j e at.0 x.serial (by ∙ other) at.1)
    ] refl
  where
    both : (a b : Bool) → a ≡ false → b ≡ true → (not a && b) ≡ true
    both false true h k = refl
    both false false h k = absurd (true≢false (sym k))
    both true b h k = absurd (true≢false h)

-- ---- entries that move

moved_filled : (j k : Journal) (n : ℕ) (f : Entry → Entry) (P : Entry → Type 0) (o : Option Entry) (es : List Entry) → entry_of n es ≡ o → AllByRecursion P es → ((x : Entry) → P x → IsFilled k x) → ((x : Entry) → P x → IsFilled k (f x)) → AllByRecursion (IsFilled k) (moved f o es)
moved_filled j k n f P None es is h on to = all_on P (IsFilled k) es on h
moved_filled j k n f P (Some x) es is h on to =
    let found = found_all P (is_entry n) es x h is in
    all_append (IsFilled k) (without x.serial es) (f x ∷ []) (all_filter P (IsFilled k) _ es (λ y _. on y) h) (to x found.0, tt)

-- ---- one event

started_here : (j : Journal) (who : Who) (n : ℕ) (key : List ℕ) (tables : _) → starts_serial n (last_event (j ++ event.Run who (how.Start n key tables) ∷ []) who.session) ≡ true
started_here j who n key tables =
    let e = event.Run who (how.Start n key tables) in
    ap (starts_serial n) (last_push None who.session j e ∙ ap (λ b. cond b (Some e) (last_event j who.session)) (eq-eqb who.session who.session refl)) ∙ eq-eqb n n refl

run_fills : (o : Options) (j : Journal) (who : Who) (h : How) → AllByRecursion (IsFilledElse j who) (cache j) → AllByRecursion (IsFilled (j ++ event.Run who h ∷ [])) (after_run h (cache j))
run_fills o j who (how.Start n key tables) all =
    let e = event.Run who (how.Start n key tables) in
    all_append (IsFilled (j ++ e ∷ [])) (cache j) _ (all_on (IsFilledElse j who) (IsFilled (j ++ e ∷ [])) (cache j) (λ x. decided_stays j e who x refl) all) ((λ c. (who.session, started_here j who n key tables)), tt)
run_fills o j who (how.Hit n) all =
    let e = event.Run who (how.Hit n) in
    moved_filled j (j ++ e ∷ []) n (λ x. x) (IsFilledElse j who) (entry_of n (cache j)) (cache j) refl all (λ x. decided_stays j e who x refl) (λ x. decided_stays j e who x refl)
run_fills o j who (how.Plain why) all = all_on (IsFilledElse j who) _ (cache j) (λ x. decided_stays j (event.Run who (how.Plain why)) who x refl) all
run_fills o j who how.Other all = all_on (IsFilledElse j who) _ (cache j) (λ x. decided_stays j (event.Run who how.Other) who x refl) all
run_fills o j who (how.Status t) all = all_on (IsFilledElse j who) _ (cache j) (λ x. decided_stays j (event.Run who (how.Status t)) who x refl) all
run_fills o j who (how.Conflict t key by) all = all_on (IsFilledElse j who) _ (cache j) (λ x. decided_stays j (event.Run who (how.Conflict t key by)) who x refl) all

event_fills : (o : Options) (j : Journal) (e : Event) → AllByRecursion (IsFilled j) (cache j) → IsLicensed o j e → AllByRecursion (IsFilled (j ++ e ∷ [])) (after_event e (cache j))
event_fills o j (event.Run who h) all l = run_fills o j who h (filled_else j who l.0 all)
event_fills o j (event.Commit who ops) all l = all_filter (IsFilledElse j who) _ _ (cache j) (λ x _. decided_stays j (event.Commit who ops) who x refl) (filled_else j who l.0 all)
event_fills o j (event.Reset who) all l = tt
event_fills o j (event.Flush who) all l = all_on (IsFilledElse j who) _ (cache j) (λ x. decided_stays j (event.Flush who) who x refl) (filled_else j who l all)
event_fills o j (event.Done n) all l =
    moved_filled j (j ++ event.Done n ∷ []) n completed (IsFilled j) (entry_of n (cache j)) (cache j) refl all (λ x. quiet_stays j (event.Done n) x refl) (λ x f c. absurd (true≢false c))
event_fills o j (event.Gone n why) all l = all_filter (IsFilled j) _ _ (cache j) (λ x _. quiet_stays j (event.Gone n why) x refl) all
event_fills o j (event.Prune n need largest) all l = all_filter (IsFilled j) _ _ (cache j) (λ x _. quiet_stays j (event.Prune n need largest) x refl) all

after_fills : (o : Options) (a j : Journal) → AllByRecursion (IsFilled a) (cache a) → IsLawfulAfter o a j → AllByRecursion (IsFilled (a ++ j)) (cache (a ++ j))
after_fills o a [] all h = subst (λ z. AllByRecursion (IsFilled z) (cache z)) (sym (append-nil a)) all
after_fills o a (e ∷ j) all h =
    let one : AllByRecursion (IsFilled (a ++ e ∷ [])) (cache (a ++ e ∷ [])) = subst (λ z. AllByRecursion (IsFilled (a ++ e ∷ [])) z) (sym (cache_push a e)) (event_fills o a e all h.0) in
    subst (λ z. AllByRecursion (IsFilled z) (cache z)) (append_assoc a (e ∷ []) j) (after_fills o (a ++ e ∷ []) j one h.1)

pub fills_are_last : FillsAreLast
fills_are_last o j h = after_fills o [] j tt h
