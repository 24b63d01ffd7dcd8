-- The needs of a run without room, and of the prunes before it.
use Rattle.std.proofs.Common.{◌≡◌, ℕ, Bool, true, false, List, [], ◌∷◌, ◌++◌, reverse, length, refl, sym, ap, subst, ◌∙◌, true≢false, eq-eqb}
use Rattle.std.specs.Prelude.{None, ◌&&◌, ◌||◌, ◌==◌}
use Rattle.std.specs.List.{list_all}
use Rattle.std.proofs.lemmas.Bool.{and_parts, and_from}
use Rattle.std.proofs.lemmas.List.{reverse-append}
use Rattle.std.proofs.lemmas.List.Folds.{list_all-append}
use Rattle.qc_types.specs.declared.options.Options.{Options}
use Rattle.qc_types.specs.Blocks.{least_block, raised}
use Rattle.qc_model.specs.declared.events.Who.{Who}
use Rattle.qc_model.specs.declared.events.Event.{Event}
use Rattle.qc_model.specs.declared.events.Event.TheVariants as event
use Rattle.qc_model.specs.declared.events.How.TheVariants as how
use Rattle.qc_model.specs.declared.events.Reason.TheVariants as reason
use Rattle.qc_model.specs.Journal.{Journal}
use Rattle.qc_model.specs.Cache.{is_prune}
use Rattle.qc_model.specs.Licence.{unit_words, words_of_bytes}
use Rattle.qc_model.specs.Needs.{is_need, next_other, PruneHasNeed, NeedsFrom, HasNeeds, leading_needs, HasOwnNeeds}

-- a prune for a need that a start with this key may have
abbrev pub is_own_prune : Options → List ℕ → Event → Bool
is_own_prune options key (event.Prune n need largest) = is_need options key need
is_own_prune options key _ = false

own_is_prune : (options : Options) (key : List ℕ) (e : Event) → is_own_prune options key e ≡ true → is_prune e ≡ true
own_is_prune options key (event.Prune n need largest) h = refl
own_is_prune options key e h = absurd (true≢false (sym h))

pub own_are_prunes : (options : Options) (key : List ℕ) (q : Journal) → list_all (is_own_prune options key) q ≡ true → list_all is_prune q ≡ true
own_are_prunes options key [] h = refl
own_are_prunes options key (e ∷ q) h =
    let parts = and_parts (is_own_prune options key e) (list_all (is_own_prune options key) q) h in
    and_from (is_prune e) (list_all is_prune q) (own_is_prune options key e parts.0) (own_are_prunes options key q parts.1)

-- ---- from behind

all_reversed : (p : Event → Bool) (xs : Journal) → list_all p (reverse xs) ≡ list_all p xs
all_reversed p [] = refl
all_reversed p (x ∷ xs) = ap (list_all p) (reverse-append (x ∷ []) xs) ∙ list_all-append p (reverse xs) (x ∷ []) ∙ ap (λ b. b && list_all p (x ∷ [])) (all_reversed p xs) ∙ turned (p x) (list_all p xs)
  where
    turned : (a b : Bool) → (b && (a && true)) ≡ (a && b)
    turned true true = refl
    turned true false = refl
    turned false true = refl
    turned false false = refl

reverse_cons : (x : Event) (xs : Journal) → reverse (x ∷ xs) ≡ reverse xs ++ x ∷ []
reverse_cons x xs = reverse-append (x ∷ []) xs

-- no prune is there to be led by
led : (f : ℕ → Bool) (e : Event) (xs : Journal) → is_prune e ≡ false → list_all f (leading_needs (e ∷ xs)) ≡ true
led f (event.Prune n need largest) xs h = absurd (true≢false h)
led f e xs h = refl

-- prunes in front of others
own_led : (options : Options) (key : List ℕ) (xs ys : Journal) → list_all (is_own_prune options key) xs ≡ true → list_all (is_need options key) (leading_needs ys) ≡ true → list_all (is_need options key) (leading_needs (xs ++ ys)) ≡ true
own_led options key [] ys h g = g
own_led options key (event.Prune n need largest ∷ xs) ys h g =
    let parts = and_parts (is_need options key need) (list_all (is_own_prune options key) xs) h in
    and_from (is_need options key need) (list_all (is_need options key) (leading_needs (xs ++ ys))) parts.0 (own_led options key xs ys parts.1 g)
own_led options key (e ∷ xs) ys h g = absurd (true≢false (sym h))

-- an event at the end of what leads
led_more : (f : ℕ → Bool) (xs : Journal) (e : Event) → list_all f (leading_needs xs) ≡ true → (list_all is_prune xs ≡ true → list_all f (leading_needs (e ∷ [])) ≡ true) → list_all f (leading_needs (xs ++ e ∷ [])) ≡ true
led_more f [] e h g = g refl
led_more f (event.Prune n need largest ∷ xs) e h g =
    let parts = and_parts (f need) (list_all f (leading_needs xs)) h in
    and_from (f need) (list_all f (leading_needs (xs ++ e ∷ []))) parts.0 (led_more f xs e parts.1 g)
led_more f (x ∷ xs) e h g = refl

-- ---- prunes at the end of a journal

none_other : (es : Journal) → list_all is_prune es ≡ true → next_other es ≡ None
none_other [] h = refl
none_other (event.Prune n need largest ∷ es) h = none_other es h
none_other (e ∷ es) h = absurd (true≢false (sym h))

rest_of : (options : Options) (earlier : Journal) (e : Event) (es : Journal) → NeedsFrom options earlier (e ∷ es) → NeedsFrom options (earlier ++ e ∷ []) es
rest_of options earlier (event.Prune n need largest) es h = h.1
rest_of options earlier (event.Run who (how.Plain (reason.NoRoom need largest))) es h = h.1
rest_of options earlier e es h = h

unit_need : (options : Options) (key : List ℕ) (need : ℕ) → need ≡ raised (unit_words options) → is_need options key need ≡ true
unit_need options key need h = by (need == least_block) (need == raised (unit_words options)) (eq-eqb need (raised (unit_words options)) h)
  where
    by : (a b : Bool) → b ≡ true → (a || b || need == raised (words_of_bytes (length key))) ≡ true
    by true b h = refl
    by false true h = refl
    by false false h = absurd (true≢false (sym h))

last_needs : (options : Options) (key : List ℕ) (earlier : Journal) (e : Event) (es : Journal) → NeedsFrom options earlier (e ∷ es) → list_all is_prune es ≡ true → list_all (is_need options key) (leading_needs (e ∷ [])) ≡ true
last_needs options key earlier (event.Prune n need largest) es h g =
    let own = subst (λ o. PruneHasNeed options earlier need o) (none_other es g) h.0 in
    and_from (is_need options key need) true (unit_need options key need own.0) refl
last_needs options key earlier e es h g = refl

trailing : (options : Options) (key : List ℕ) (earlier es : Journal) → NeedsFrom options earlier es → list_all (is_need options key) (leading_needs (reverse es)) ≡ true
trailing options key earlier [] h = refl
trailing options key earlier (e ∷ es) h =
    ap (λ l. list_all (is_need options key) (leading_needs l)) (reverse_cons e es)
    ∙ led_more (is_need options key) (reverse es) e (trailing options key (earlier ++ e ∷ []) es (rest_of options earlier e es h)) (λ g. last_needs options key earlier e es h (sym (all_reversed is_prune es) ∙ g))

-- ---- the whole

pub own_needs : (options : Options) (J q : Journal) (key : List ℕ) (who : Who) (need largest : ℕ) → HasNeeds options J → list_all (is_own_prune options key) q ≡ true → is_need options key need ≡ true
    → HasOwnNeeds options (J ++ q) key (event.Run who (how.Plain (reason.NoRoom need largest)))
own_needs options J q key who need largest needs own is =
    and_from (is_need options key need) (list_all (is_need options key) (leading_needs (reverse (J ++ q)))) is
    (ap (λ l. list_all (is_need options key) (leading_needs l)) (reverse-append J q)
    ∙ own_led options key (reverse q) (reverse J) (all_reversed (is_own_prune options key) q ∙ own) (trailing options key [] J needs))
