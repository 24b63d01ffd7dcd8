-- Lists of a session's events.
use Rattle.std.proofs.Common.{◌≡◌, ℕ, suc, ◌+◌, ◌≤◌, Bool, true, false, cond, List, [], ◌∷◌, ◌++◌, length, map, Option, Some, None, MatchOption, refl, sym, ap, ◌∙◌, arith, append-nil, true≢false, length-append}
use Rattle.std.specs.Prelude.{◌||◌}
use Rattle.std.proofs.lemmas.List.Elements.{filter-append}
use Rattle.qc_model.specs.declared.events.Event.{Event}
use Rattle.qc_model.specs.Journal.{Journal, is_by, events_of}
use Rattle.qc_model.specs.Agrees.{numbered_events, is_ended, ends_fill, removes}
use Rattle.qc_laws.specs.runs.Runs.{own}

module _ {X : Type 0} where
  pub pick_append : (b : Bool) (x : X) (us bs cs : List X) → us ≡ bs ++ cs → cond b (x ∷ us) us ≡ cond b (x ∷ bs) bs ++ cs
  pick_append true x us bs cs e = ap (λ l. x ∷ l) e
  pick_append false x us bs cs e = e

  pub pick_none : (b : Bool) (x : X) (us : List X) → cond b (x ∷ us) us ≡ [] → (b ≡ false) × (us ≡ [])
  pick_none true x us e = let z : suc (length us) ≡ 0 = ap length e in absurd (omega arith)
  pick_none false x us e = (refl, e)

  pub match_map : {N N' : Type 0} {S S' : X → Type 0} → (o : Option X) → (N → N') → ((a : X) → S a → S' a) → MatchOption o N S → MatchOption o N' S'
  match_map None f g h = f h
  match_map (Some a) f g h = g a h

  pub no_more : (xs ys : List X) → xs ++ ys ≡ xs → ys ≡ []
  no_more [] ys e = e
  no_more (x ∷ xs) [] e = refl
  no_more (x ∷ xs) (y ∷ ys) e = let z : length ((x ∷ xs) ++ y ∷ ys) ≡ length (x ∷ xs) = ap length e in let w = length-append (x ∷ xs) (y ∷ ys) in absurd (omega arith)

pub numbered_append : (s n : ℕ) (xs ys : Journal) → numbered_events s n (xs ++ ys) ≡ numbered_events s n xs ++ numbered_events s (n + length xs) ys
numbered_append s n [] ys = ap (λ k. numbered_events s k ys) (omega arith)
numbered_append s n (e ∷ xs) ys =
    let k : n + 1 + length xs ≡ n + length (e ∷ xs) = omega arith in
    pick_append (is_by s e) (n, e) _ _ _ (numbered_append s (n + 1) xs ys ∙ ap (λ j. numbered_events s (n + 1) xs ++ numbered_events s j ys) k)

-- the numbers are at most k
abbrev pub Below : ℕ → List (ℕ × Event) → Type 0
Below k [] = Unit {0}
Below k (x ∷ xs) = (x.0 ≤ k) × Below k xs

pick_below : (k : ℕ) (b : Bool) (x : ℕ × Event) (xs : List (ℕ × Event)) → x.0 ≤ k → Below k xs → Below k (cond b (x ∷ xs) xs)
pick_below k true x xs h hs = (h, hs)
pick_below k false x xs h hs = hs

pub numbered_below : (s n k : ℕ) (journal : Journal) → n + length journal ≤ k + 1 → Below k (numbered_events s n journal)
numbered_below s n k [] h = tt
numbered_below s n k (e ∷ es) h = pick_below k (is_by s e) (n, e) _ (omega arith) (numbered_below s (n + 1) k es (omega arith))

pub below_right : (k : ℕ) (xs ys : List (ℕ × Event)) → Below k (xs ++ ys) → Below k ys
below_right k [] ys h = h
below_right k (x ∷ xs) ys h = below_right k xs ys h.1

pub quiet_numbered : (s n : ℕ) (journal : Journal) → events_of s journal ≡ [] → numbered_events s n journal ≡ []
quiet_numbered s n [] h = refl
quiet_numbered s n (e ∷ es) h =
    let p = pick_none (is_by s e) e (events_of s es) h in
    ap (λ b. cond b ((n, e) ∷ numbered_events s (n + 1) es) (numbered_events s (n + 1) es)) p.0 ∙ quiet_numbered s (n + 1) es p.1

pub quiet_own : (s : ℕ) (xs ys : Journal) → events_of s ys ≡ [] → own s (xs ++ ys) ≡ own s xs
quiet_own s xs ys h = numbered_append s 1 xs ys ∙ (ap (λ l. own s xs ++ l) (quiet_numbered s (1 + length xs) ys h) ∙ append-nil (own s xs))

-- a journal that has no more events of the session
pub same_events : (s : ℕ) (xs ys : Journal) → events_of s (xs ++ ys) ≡ events_of s xs → events_of s ys ≡ []
same_events s xs ys e = no_more (events_of s xs) (events_of s ys) (sym (filter-append (is_by s) xs ys) ∙ e)

pick_map : (b : Bool) (x : ℕ × Event) (xs : List (ℕ × Event)) (ys : List Event) → map (λ z. z.1) xs ≡ ys → map (λ z. z.1) (cond b (x ∷ xs) xs) ≡ cond b (x.1 ∷ ys) ys
pick_map true x xs ys e = ap (λ l. x.1 ∷ l) e
pick_map false x xs ys e = e

-- without their numbers
pub own_events : (s n : ℕ) (journal : Journal) → map (λ x. x.1) (numbered_events s n journal) ≡ events_of s journal
own_events s n [] = refl
own_events s n (e ∷ es) = pick_map (is_by s e) (n, e) _ _ (own_events s (n + 1) es)

-- ---- fills that end

or_left : (a b : Bool) → a ≡ true → (a || b) ≡ true
or_left true b h = refl
or_left false b h = absurd cc

or_on : (a b c : Bool) → (b ≡ true → c ≡ true) → (a || b) ≡ true → (a || c) ≡ true
or_on true b c f h = refl
or_on false b c f h = f h

pub ended_on : (serial : ℕ) (earlier es more : Journal) → is_ended serial earlier es ≡ true → is_ended serial earlier (es ++ more) ≡ true
ended_on serial earlier [] more h = absurd (true≢false (sym h))
ended_on serial earlier (e ∷ es) more h =
    or_on (ends_fill serial e || removes earlier serial e) (is_ended serial (earlier ++ e ∷ []) es) (is_ended serial (earlier ++ e ∷ []) (es ++ more)) (ended_on serial (earlier ++ e ∷ []) es more) h
