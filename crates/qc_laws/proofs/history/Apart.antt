-- No two entries of the cache have one key.
use Rattle.std.proofs.Common.{◌≡◌, ℕ, eqb-true, Bool, true, false, cond, List, [], ◌∷◌, ◌++◌, refl, sym, ap, subst, ◌∙◌, append_assoc, append-nil, true≢false}
use Rattle.std.specs.Prelude.{not, ◌&&◌, ◌||◌, Option, Some, None, bytes_eq}
use Rattle.std.specs.List.{list_any, filter}
use Rattle.std.proofs.lemmas.Slice.Eq.{bytes_eq-Decides}
use Rattle.qc_types.specs.declared.options.Options.{Options}
use Rattle.qc_model.specs.declared.events.Event.{Event}
use Rattle.qc_model.specs.declared.events.Event.TheVariants as event
use Rattle.qc_model.specs.declared.events.How.TheVariants as how
use Rattle.qc_model.specs.Journal.{Journal}
use Rattle.qc_model.specs.Cache.{Entry, cache, entry_of, is_entry, without, completed, moved, after_event}
use Rattle.qc_model.specs.Choice.{has_key}
use Rattle.qc_model.specs.Licence.{IsLicensed, IsLawfulAfter}
use Rattle.qc_laws.specs.history.Runs.{are_apart, KeysAreApart}
use Rattle.qc_laws.proofs.history.Events.{cache_push}
use Rattle.qc_laws.proofs.history.Serials.{both_true, opposite, neither}

none_filter : (p q : Entry → Bool) (es : List Entry) → list_any p es ≡ false → list_any p (filter q es) ≡ false
none_filter p q [] h = refl
none_filter p q (e ∷ es) h =
    let parts = neither (p e) (list_any p es) h in
    elim (q e) as (λ b. list_any p (cond b (e ∷ filter q es) (filter q es)) ≡ false) [
      | true ↦ ap (λ b. b || list_any p (filter q es)) parts.0 ∙ none_filter p q es parts.1
      | false ↦ none_filter p q es parts.1
    ]

apart_filter : (q : Entry → Bool) (es : List Entry) → are_apart es ≡ true → are_apart (filter q es) ≡ true
apart_filter q [] h = refl
apart_filter q (e ∷ es) h =
    let parts = both_true (not (list_any (has_key e.key) es)) (are_apart es) h in
    let rest = apart_filter q es parts.1 in
    elim (q e) as (λ b. are_apart (cond b (e ∷ filter q es) (filter q es)) ≡ true) [
      | true ↦ ap (λ b. not b && are_apart (filter q es)) (none_filter (has_key e.key) q es (opposite _ parts.0)) ∙ rest
      | false ↦ rest
    ]

-- an entry has another key than each of those behind it
other_key : (k m : List ℕ) → bytes_eq k m ≡ false → bytes_eq m k ≡ false
other_key k m h = elim (bytes_eq m k) as (λ b. bytes_eq m k ≡ b → b ≡ false) [
  | true ↦ λ e. absurd (true≢false (sym ((bytes_eq-Decides k m).1 (sym ((bytes_eq-Decides m k).0 e))) ∙ h))
  | false ↦ λ e. refl
] refl

none_push : (p : Entry → Bool) (es : List Entry) (x : Entry) → list_any p es ≡ false → p x ≡ false → list_any p (es ++ x ∷ []) ≡ false
none_push p [] x h g = ap (λ b. b || false) g
none_push p (e ∷ es) x h g = let parts = neither (p e) (list_any p es) h in ap (λ b. b || list_any p (es ++ x ∷ [])) parts.0 ∙ none_push p es x parts.1 g

apart_push : (es : List Entry) (x : Entry) → are_apart es ≡ true → list_any (has_key x.key) es ≡ false → are_apart (es ++ x ∷ []) ≡ true
apart_push [] x h g = refl
apart_push (e ∷ es) x h g =
    let parts = both_true (not (list_any (has_key e.key) es)) (are_apart es) h in
    let apart = neither (has_key x.key e) (list_any (has_key x.key) es) g in
    ap (λ b. not b && are_apart (es ++ x ∷ [])) (none_push (has_key e.key) es x (opposite _ parts.0) (other_key e.key x.key apart.0)) ∙ apart_push es x parts.1 apart.1

-- none other has the key of an entry that is found by its serial
found_key : (n : ℕ) (es : List Entry) (x : Entry) (k : List ℕ) → entry_of n es ≡ Some x → list_any (has_key k) es ≡ false → bytes_eq x.key k ≡ false
found_key n [] x k f h = absurd cc
found_key n (e ∷ es) x k f h =
    let parts = neither (has_key k e) (list_any (has_key k) es) h in
    elim (is_entry n e) as (λ b. cond b (Some e) (entry_of n es) ≡ Some x → bytes_eq x.key k ≡ false) [
      | true ↦ λ g. let same : e ≡ x = cc in subst (λ (y : Entry). bytes_eq y.key k ≡ false) same parts.0
      | false ↦ λ g. found_key n es x k g parts.1
    ] f

none_other : (n : ℕ) (es : List Entry) (x : Entry) → entry_of n es ≡ Some x → are_apart es ≡ true → list_any (has_key x.key) (without n es) ≡ false
none_other n [] x f h = refl
none_other n (e ∷ es) x f h =
    let parts = both_true (not (list_any (has_key e.key) es)) (are_apart es) h in
    elim (is_entry n e) as (λ b. cond b (Some e) (entry_of n es) ≡ Some x → list_any (has_key x.key) (cond (not b) (e ∷ without n es) (without n es)) ≡ false) [
      | true ↦ λ g. let same : e ≡ x = cc in none_filter (has_key x.key) (λ y. not (is_entry n y)) es (subst (λ (y : Entry). list_any (has_key y.key) es ≡ false) same (opposite _ parts.0))
      | false ↦ λ g. ap (λ b. b || list_any (has_key x.key) (without n es)) (other_key x.key e.key (found_key n es x e.key g (opposite _ parts.0))) ∙ none_other n es x g parts.1
    ] f

found_serial : (n : ℕ) (es : List Entry) (x : Entry) → entry_of n es ≡ Some x → x.serial ≡ n
found_serial n [] x f = absurd cc
found_serial n (e ∷ es) x f = elim (is_entry n e) as (λ b. is_entry n e ≡ b → cond b (Some e) (entry_of n es) ≡ Some x → x.serial ≡ n) [
  | true ↦ λ k g. let same : e ≡ x = cc in subst (λ (y : Entry). y.serial ≡ n) same (eqb-true e.serial n k)
  | false ↦ λ k g. found_serial n es x g
] refl f

moved_apart : (n : ℕ) (f : Entry → Entry) (o : Option Entry) (es : List Entry) → entry_of n es ≡ o → ((x : Entry) → (f x).key ≡ x.key) → are_apart es ≡ true → are_apart (moved f o es) ≡ true
moved_apart n f None es is same h = h
moved_apart n f (Some x) es is same h =
    let none : list_any (has_key x.key) (without x.serial es) ≡ false = subst (λ m. list_any (has_key x.key) (without m es) ≡ false) (sym (found_serial n es x is)) (none_other n es x is h) in
    apart_push (without x.serial es) (f x) (apart_filter _ es h) (subst (λ (k : List ℕ). list_any (has_key k) (without x.serial es) ≡ false) (sym (same x)) none)

event_apart : (o : Options) (j : Journal) (e : Event) → IsLicensed o j e → are_apart (cache j) ≡ true → are_apart (after_event e (cache j)) ≡ true
event_apart o j (event.Run who (how.Start n key tables)) l h = apart_push (cache j) _ h l.1.no_other
event_apart o j (event.Run who (how.Hit n)) l h = moved_apart n (λ x. x) (entry_of n (cache j)) (cache j) refl (λ x. refl) h
event_apart o j (event.Run who w) l h = h
event_apart o j (event.Commit who ops) l h = apart_filter _ (cache j) h
event_apart o j (event.Reset who) l h = refl
event_apart o j (event.Flush who) l h = h
event_apart o j (event.Done n) l h = moved_apart n completed (entry_of n (cache j)) (cache j) refl (λ x. refl) h
event_apart o j (event.Gone n why) l h = apart_filter _ (cache j) h
event_apart o j (event.Prune n need largest) l h = apart_filter _ (cache j) h

after_apart : (o : Options) (a j : Journal) → are_apart (cache a) ≡ true → IsLawfulAfter o a j → are_apart (cache (a ++ j)) ≡ true
after_apart o a [] h l = subst (λ (z : Journal). are_apart (cache z) ≡ true) (sym (append-nil a)) h
after_apart o a (e ∷ j) h l =
    let one : are_apart (cache (a ++ e ∷ [])) ≡ true = ap are_apart (cache_push a e) ∙ event_apart o a e l.0 h in
    subst (λ (z : Journal). are_apart (cache z) ≡ true) (append_assoc a (e ∷ []) j) (after_apart o (a ++ e ∷ []) j one l.1)

pub keys_apart : KeysAreApart
keys_apart o j h = after_apart o [] j refl h
