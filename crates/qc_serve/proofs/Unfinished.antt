-- An entry that isn't complete was never completed, nor one that was given up.
use Rattle.std.proofs.Common.{◌≡◌, ℕ, ◌+◌, Bool, true, false, List, [], ◌∷◌, ◌++◌, refl, sym, ap, ◌∙◌, subst, arith, append_assoc, append-nil, true≢false, eq-eqb, eqb-true, ne_eqb}
use Rattle.std.specs.Prelude.{Option, Some, None, ◌||◌, not, IsSomeAnd}
use Rattle.std.specs.List.{AllByRecursion, list_any}
use Rattle.qc_types.specs.declared.options.Options.{Options}
use Rattle.qc_model.specs.declared.events.Event.{Event}
use Rattle.qc_model.specs.declared.events.Event.TheVariants as event
use Rattle.qc_model.specs.declared.events.GoneWhy.{GoneWhy}
use Rattle.qc_model.specs.declared.events.How.{How}
use Rattle.qc_model.specs.declared.events.How.TheVariants as how
use Rattle.qc_model.specs.declared.events.Who.{Who}
use Rattle.qc_model.specs.Cache.{Entry, after_event, after_run, cache, completed, entry_of, is_entry, moved, without}
use Rattle.qc_model.specs.Journal.{Journal}
use Rattle.qc_model.specs.Licence.{IsFilling, IsLawful, IsLawfulAfter, IsLicensed}
use Rattle.qc_laws.specs.history.Runs.{completes, is_completed}
use Rattle.qc_laws.proofs.history.Events.{all_append, all_filter, all_on, cache_push, found_all, lawful_back, lawful_prefix, lawful_push}
use Rattle.qc_sound.specs.Ended.{is_ended}
use Rattle.qc_sound.proofs.Fresh.{not_ended}
use Rattle.qc_sound.proofs.Laws.{completed_ended}
use Rattle.qc_flow.specs.Seats.{EndsIn}

abbrev IsOpen : Journal → Entry → Type 0
IsOpen j x = x.complete ≡ false → is_completed x.serial j ≡ false

-- ---- one event

none_more : (p : Event → Bool) (j : Journal) (e : Event) → list_any p j ≡ false → p e ≡ false → list_any p (j ++ e ∷ []) ≡ false
none_more p [] e h k = ap (λ b. b || false) k
none_more p (x ∷ j) e h k = let parts = neither (p x) (list_any p j) h in (λ i. parts.0 i || none_more p j e parts.1 k i)
  where
    neither : (a b : Bool) → (a || b) ≡ false → (a ≡ false) × (b ≡ false)
    neither false b h = (refl, h)
    neither true b h = absurd (true≢false h)

stays_open : (j : Journal) (e : Event) (x : Entry) → completes x.serial e ≡ false → IsOpen j x → IsOpen (j ++ e ∷ []) x
stays_open j e x k h = λ c. none_more (completes x.serial) j e (h c) k

-- what has ended was started
pub not_completed : (j : Journal) (n : ℕ) → is_ended n j ≡ false → is_completed n j ≡ false
not_completed j n h = by (is_completed n j) refl
  where
    by : (b : Bool) → is_completed n j ≡ b → is_completed n j ≡ false
    by true e = absurd (true≢false (sym (completed_ended n j e) ∙ h))
    by false e = e

same_moved : (P Q : Entry → Type 0) (n : ℕ) (o : Option Entry) (es : List Entry) → entry_of n es ≡ o → ((x : Entry) → P x → Q x) → AllByRecursion P es → AllByRecursion Q (moved (λ x. x) o es)
same_moved P Q n None es is on h = all_on P Q es on h
same_moved P Q n (Some y) es is on h =
    let found = found_all P (is_entry n) es y h is in
    all_append Q (without y.serial es) (y ∷ []) (all_filter P Q _ es (λ x _. on x) h) (on y found.0, tt)

run_opens : (o : Options) (j : Journal) (who : Who) (h : How) → IsLawful o j → AllByRecursion (IsOpen j) (cache j) → IsLicensed o j (event.Run who h) → AllByRecursion (IsOpen (j ++ event.Run who h ∷ [])) (after_run h (cache j))
run_opens o j who (how.Start n key tables) lawful all l =
    let e = event.Run who (how.Start n key tables) in
    let new : is_completed n j ≡ false = not_completed j n (not_ended o j n lawful (omega (arith, l.1.next))) in
    all_append (IsOpen (j ++ e ∷ [])) (cache j) _ (all_on (IsOpen j) (IsOpen (j ++ e ∷ [])) (cache j) (λ x. stays_open j e x refl) all) ((λ c. none_more (completes n) j e new refl), tt)
run_opens o j who (how.Hit n) lawful all l = let e = event.Run who (how.Hit n) in same_moved (IsOpen j) (IsOpen (j ++ e ∷ [])) n (entry_of n (cache j)) (cache j) refl (λ x. stays_open j e x refl) all
run_opens o j who (how.Plain why) lawful all l = all_on (IsOpen j) _ (cache j) (λ x. stays_open j (event.Run who (how.Plain why)) x refl) all
run_opens o j who how.Other lawful all l = all_on (IsOpen j) _ (cache j) (λ x. stays_open j (event.Run who how.Other) x refl) all
run_opens o j who (how.Status t) lawful all l = all_on (IsOpen j) _ (cache j) (λ x. stays_open j (event.Run who (how.Status t)) x refl) all
run_opens o j who (how.Conflict t key by) lawful all l = all_on (IsOpen j) _ (cache j) (λ x. stays_open j (event.Run who (how.Conflict t key by)) x refl) all

-- the others stay open where one is completed
done_opens : (j : Journal) (n : ℕ) (P : Entry → Type 0) (f : Option Entry) → entry_of n (cache j) ≡ f → IsSomeAnd f P → AllByRecursion (IsOpen j) (cache j) → AllByRecursion (IsOpen (j ++ event.Done n ∷ [])) (moved completed f (cache j))
done_opens j n P None is may all = absurd may
done_opens j n P (Some y) is may all =
    let Q = IsOpen (j ++ event.Done n ∷ []) in
    all_append Q (without y.serial (cache j)) (completed y ∷ []) (all_filter (IsOpen j) Q _ (cache j) (λ x other. stays_open j (event.Done n) x (differs x other)) all) ((λ c. absurd (true≢false c)), tt)
  where
    serial : y.serial ≡ n
    serial = eqb-true y.serial n (found_all (IsOpen j) (is_entry n) (cache j) y all is).1

    differs : (x : Entry) → not (is_entry y.serial x) ≡ true → completes x.serial (event.Done n) ≡ false
    differs x other = ne_eqb n x.serial (λ same. true≢false (sym other ∙ ap not (eq-eqb x.serial y.serial (sym same ∙ sym serial))))

event_opens : (o : Options) (j : Journal) (e : Event) → IsLawful o j → AllByRecursion (IsOpen j) (cache j) → IsLicensed o j e → AllByRecursion (IsOpen (j ++ e ∷ [])) (after_event e (cache j))
event_opens o j (event.Run who h) lawful all l = run_opens o j who h lawful all l
event_opens o j (event.Commit who ops) lawful all l = all_filter (IsOpen j) _ _ (cache j) (λ x _. stays_open j (event.Commit who ops) x refl) all
event_opens o j (event.Reset who) lawful all l = tt
event_opens o j (event.Flush who) lawful all l = all_on (IsOpen j) _ (cache j) (λ x. stays_open j (event.Flush who) x refl) all
event_opens o j (event.Done n) lawful all l = done_opens j n _ (entry_of n (cache j)) refl l all
event_opens o j (event.Gone n why) lawful all l = all_filter (IsOpen j) _ _ (cache j) (λ x _. stays_open j (event.Gone n why) x refl) all
event_opens o j (event.Prune n need largest) lawful all l = all_filter (IsOpen j) _ _ (cache j) (λ x _. stays_open j (event.Prune n need largest) x refl) all

-- ---- a journal

after_opens : (o : Options) (a j : Journal) → IsLawful o a → AllByRecursion (IsOpen a) (cache a) → IsLawfulAfter o a j → AllByRecursion (IsOpen (a ++ j)) (cache (a ++ j))
after_opens o a [] lawful all h = subst (λ z. AllByRecursion (IsOpen z) (cache z)) (sym (append-nil a)) all
after_opens o a (e ∷ j) lawful all h =
    let one : AllByRecursion (IsOpen (a ++ e ∷ [])) (cache (a ++ e ∷ [])) = subst (λ z. AllByRecursion (IsOpen (a ++ e ∷ [])) z) (sym (cache_push a e)) (event_opens o a e lawful all h.0) in
    subst (λ z. AllByRecursion (IsOpen z) (cache z)) (append_assoc a (e ∷ []) j) (after_opens o (a ++ e ∷ []) j (lawful_push o a e lawful h.0) one h.1)

pub filling_undone : (o : Options) (j : Journal) (n : ℕ) → IsLawful o j → IsFilling j n → is_completed n j ≡ false
filling_undone o j n lawful filling = by (entry_of n (cache j)) refl filling
  where
    by : (f : Option Entry) → entry_of n (cache j) ≡ f → IsSomeAnd f (λ x. x.complete ≡ false) → is_completed n j ≡ false
    by None is may = absurd may
    by (Some y) is may = let found = found_all (IsOpen j) (is_entry n) (cache j) y (after_opens o [] j tt tt lawful) is in subst (λ k. is_completed k j ≡ false) (eqb-true y.serial n found.1) (found.0 may)

-- an entry that was given up
pub gone_undone : (o : Options) (j : Journal) (n : ℕ) (why : GoneWhy) → IsLawful o j → EndsIn (event.Gone n why) j → is_completed n j ≡ false
gone_undone o j n why lawful (earlier, split) =
    let whole : IsLawful o (earlier ++ event.Gone n why ∷ []) = subst (IsLawful o) split lawful in
    let back : IsLawfulAfter o earlier (event.Gone n why ∷ []) = lawful_back o [] earlier (event.Gone n why ∷ []) whole in
    let before = filling_undone o earlier n (lawful_prefix o [] earlier (event.Gone n why ∷ []) whole) back.0.0 in
    subst (λ z. is_completed n z ≡ false) (sym split) (none_more (completes n) earlier (event.Gone n why) before refl)
