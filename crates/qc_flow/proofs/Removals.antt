-- A fill that was overtaken has ended: the entry was there, and not complete, when the commit or the reset took it out.
use Rattle.std.proofs.Common.{◌≡◌, ℕ, eq-eqb, Bool, true, false, cond, List, [], ◌∷◌, ◌++◌, refl, sym, ap, subst, ◌∙◌, true≢false, append_assoc, append-nil}
use Rattle.std.specs.Prelude.{not, ◌||◌, ◌&&◌, ◌==◌, Some, None, find, option_map, unwrap_or}
use Rattle.std.specs.List.{list_any}
use Rattle.std.proofs.lemmas.Option.{none-some}
use Rattle.std.proofs.lemmas.List.Folds.{list_any-append}
use Rattle.qc_types.specs.declared.names.TableName.{TableName}
use Rattle.qc_types.specs.declared.options.Options.{Options}
use Rattle.qc_model.specs.declared.events.Who.{Who}
use Rattle.qc_model.specs.declared.events.Event.{Event}
use Rattle.qc_model.specs.declared.events.Event.TheVariants as event
use Rattle.qc_model.specs.declared.events.How.TheVariants as how
use Rattle.qc_model.specs.Agrees.{ends_fill, removes, is_ended}
use Rattle.qc_model.specs.Journal.{Journal, touches_table}
use Rattle.qc_model.specs.Cache.{Entry, cache, entry_of, is_entry, uses_touched}
use Rattle.qc_model.specs.Licence.{IsLicensed, IsLawful, IsLawfulAfter}
use Rattle.qc_laws.specs.history.Runs.{serials}
use Rattle.qc_laws.proofs.history.Events.{cache_push, lawful_prefix, lawful_back}
use Rattle.qc_laws.proofs.history.Serials.{neither, none_new}
use Rattle.qc_laws.proofs.history.Stays.{answers_stay}
use Rattle.qc_sound.specs.Ended.{ends_fill as ends, is_ended as was_ended}
use Rattle.qc_core.specs.OvertakenFill.{overtakes, WasOvertaken}
use Rattle.qc_core.proofs.Overtaking.{IsThere, stays_all}

-- ---- just after its start it is there

pub find_last : {A : Type 0} (p : A → Bool) (xs : List A) (y : A) → list_any p xs ≡ false → p y ≡ true → find p (xs ++ y ∷ []) ≡ Some y
find_last p [] y h is = ap (λ b. cond b (Some y) None) is
find_last p (x ∷ xs) y h is = let t = neither (p x) (list_any p xs) h in ap (λ b. cond b (Some x) (find p (xs ++ y ∷ []))) t.0 ∙ find_last p xs y t.1 is

any_serial : (n : ℕ) (es : List Entry) → list_any (λ m. m == n) (serials es) ≡ list_any (is_entry n) es
any_serial n [] = refl
any_serial n (e ∷ es) = ap (λ b. (e.serial == n) || b) (any_serial n es)

starts_there : (o : Options) (a : Journal) (n : ℕ) (who : Who) (key : List ℕ) (tables : List TableName) → IsLawful o a → IsLicensed o a (event.Run who (how.Start n key tables)) → IsThere n tables (cache (a ++ event.Run who (how.Start n key tables) ∷ []))
starts_there o a n who key tables h l =
    let e = event.Run who (how.Start n key tables) in
    let fresh = subst (λ i. list_any (λ m. m == i) (serials (cache a)) ≡ false) (sym l.1.next) (none_new o a (cache a) h (answers_stay o a h)) in
    let x : Entry = record { serial = n; key = key; tables = tables; complete = false } in
    subst (IsThere n tables) (sym (cache_push a e)) (record { entry = x; at = find_last (is_entry n) (cache a) x (sym (any_serial n (cache a)) ∙ fresh) (eq-eqb n n refl); partial = refl; named = refl })

-- ---- what takes it out

or_first : (a b : Bool) → a ≡ true → (a || b) ≡ true
or_first true b h = refl
or_first false b h = absurd (true≢false (sym h))

or_last : (a b : Bool) → b ≡ true → (a || b) ≡ true
or_last true b h = refl
or_last false b h = h

not_removed : (a : Journal) (n : ℕ) (e : Event) (tables : List TableName) → IsThere n tables (cache a) → removes a n e ≡ false → overtakes tables e ≡ false
not_removed a n (event.Run who h) tables t k = refl
not_removed a n (event.Commit who ops) tables t k =
    let e = event.Commit who ops in
    let told : removes a n e ≡ (not t.entry.complete && uses_touched e t.entry) = ap (λ o. unwrap_or (option_map (λ (entry : Entry). not entry.complete && uses_touched e entry) o) false) t.at in
    let uses : (not t.entry.complete && uses_touched e t.entry) ≡ uses_touched e t.entry = ap (λ b. not b && uses_touched e t.entry) t.partial in
    sym (ap (λ ts. list_any (λ u. touches_table u e) ts) t.named) ∙ (sym uses ∙ (sym told ∙ k))
not_removed a n (event.Reset who) tables t k =
    let told : removes a n (event.Reset who) ≡ not t.entry.complete = ap (λ o. unwrap_or (option_map (λ (entry : Entry). not entry.complete) o) false) t.at in
    sym (ap not t.partial) ∙ (sym told ∙ k)
not_removed a n (event.Flush who) tables t k = refl
not_removed a n (event.Done m) tables t k = refl
not_removed a n (event.Gone m why) tables t k = refl
not_removed a n (event.Prune m need largest) tables t k = refl

ends_by : (o : Options) (n : ℕ) (tables : List TableName) (a later : Journal) → IsLawfulAfter o a later → IsThere n tables (cache a) → list_any (ends n) later ≡ false → entry_of n (cache (a ++ later)) ≡ None → is_ended n a later ≡ true
ends_by o n tables a [] l t f left = absurd (none-some t.entry (sym left ∙ subst (λ j. entry_of n (cache j) ≡ Some t.entry) (sym (append-nil a)) t.at))
ends_by o n tables a (e ∷ later) l t f left =
    let fs = neither (ends n e) (list_any (ends n) later) f in
    let rest = is_ended n (a ++ e ∷ []) later in
    elim (removes a n e) as (λ b. removes a n e ≡ b → ((ends_fill n e || removes a n e) || rest) ≡ true) [
      | true ↦ λ k. or_first (ends_fill n e || removes a n e) rest (or_last (ends_fill n e) (removes a n e) k)
      | false ↦ λ k.
          let past : overtakes tables e ≡ false = not_removed a n e tables t k in
          let one : IsThere n tables (cache (a ++ e ∷ [])) = stays_all o n tables a (e ∷ []) (l.0, tt) t (ap (λ b. b || false) fs.0) (ap (λ b. b || false) past) in
          or_last (ends_fill n e || removes a n e) rest (ends_by o n tables (a ++ e ∷ []) later l.1 one fs.1 (ap (λ j. entry_of n (cache j)) (append_assoc a (e ∷ []) later) ∙ left))
    ] refl

-- ---- the whole journal

ended_back : (n : ℕ) (a xs ys : Journal) → is_ended n (a ++ xs) ys ≡ true → is_ended n a (xs ++ ys) ≡ true
ended_back n a [] ys h = subst (λ j. is_ended n j ys ≡ true) (append-nil a) h
ended_back n a (x ∷ xs) ys h = or_last (ends_fill n x || removes a n x) (is_ended n (a ++ x ∷ []) (xs ++ ys)) (ended_back n (a ++ x ∷ []) xs ys (subst (λ j. is_ended n j ys ≡ true) (sym (append_assoc a (x ∷ []) xs)) h))

pub overtaken_ends : (j : Journal) (n : ℕ) → WasOvertaken j n → is_ended n [] j ≡ true
overtaken_ends j n w =
    let s = w.start in
    let e = event.Run s.who (how.Start n s.key s.tables) in
    let all = subst (λ z. IsLawful w.options z) s.split w.lawful in
    let front = lawful_prefix w.options [] s.earlier (e ∷ s.later) all in
    let back = lawful_back w.options [] s.earlier (e ∷ s.later) all in
    let there = starts_there w.options s.earlier n s.who s.key s.tables front back.0 in
    let unended : list_any (ends n) s.later ≡ false =
    (neither (ends n e) (list_any (ends n) s.later) (neither (list_any (ends n) s.earlier) (list_any (ends n) (e ∷ s.later)) (sym (list_any-append (ends n) s.earlier (e ∷ s.later)) ∙ (ap (was_ended n) (sym s.split) ∙ w.filling))).1).1 in
    let joined = append_assoc s.earlier (e ∷ []) s.later in
    let left : entry_of n (cache ((s.earlier ++ e ∷ []) ++ s.later)) ≡ None = ap (λ z. entry_of n (cache z)) (joined ∙ sym s.split) ∙ w.left in
    let later = ends_by w.options n s.tables (s.earlier ++ e ∷ []) s.later back.1 there unended left in
    subst (λ z. is_ended n [] z ≡ true) (joined ∙ sym s.split) (ended_back n [] (s.earlier ++ e ∷ []) s.later later)

-- a journal whose last event ends the fill
pub last_ends : (n : ℕ) (xs : Journal) (e : Event) → ends_fill n e ≡ true → is_ended n [] (xs ++ e ∷ []) ≡ true
last_ends n xs e h = ended_back n [] xs (e ∷ []) (or_first (ends_fill n e || removes xs n e) false (or_first (ends_fill n e) (removes xs n e) h))
