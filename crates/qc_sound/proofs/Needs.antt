-- The needs of prunes, while their event is still to come and once it stands.
use Rattle.std.proofs.Common.{◌≡◌, ℕ, ◌≤◌, max, eqb, eq-eqb, eqb-true, Bool, true, false, List, [], ◌∷◌, ◌++◌, length, refl, sym, ap, subst, arith, append_assoc, append-nil, true≢false}
use Rattle.std.specs.Prelude.{Option, Some, None, ◌||◌}
use Rattle.qc_types.specs.declared.names.TableName.{TableName}
use Rattle.qc_types.specs.declared.options.Options.{Options}
use Rattle.qc_model.specs.declared.events.Who.{Who}
use Rattle.qc_model.specs.declared.events.Event.{Event}
use Rattle.qc_model.specs.declared.events.Event.TheVariants as event
use Rattle.qc_model.specs.declared.events.How.TheVariants as how
use Rattle.qc_model.specs.declared.events.Reason.TheVariants as reason
use Rattle.qc_model.specs.Journal.{Journal}
use Rattle.qc_model.specs.Licence.{unit_words, words_of_bytes}
use Rattle.qc_types.specs.Blocks.{least_block, raised}
use Rattle.qc_model.specs.Needs.{is_need, next_other, PruneHasNeed, NeedsFrom}
use Rattle.qc_sound.specs.Pending.{next_or, NeedsBefore, NeedsOf}
use Rattle.qc_sound.specs.steps.Events.{NeedsOwn}

any_need : (o : Options) (key : List ℕ) (need : ℕ) → need ≡ raised (unit_words o) → is_need o key need ≡ true
any_need o key need e = by (eqb need least_block) (eqb need (raised (unit_words o))) (eq-eqb need (raised (unit_words o)) e)
  where
    by : (a b : Bool) → b ≡ true → ((a || b) || eqb need (raised (words_of_bytes (length key)))) ≡ true
    by true b h = refl
    by false b h = ap (λ c. c || eqb need (raised (words_of_bytes (length key)))) h

-- a prune for a fill may stand before any event
later_need : (o : Options) (a : Journal) (need : ℕ) (e : Event) → PruneHasNeed o a need None → PruneHasNeed o a need (Some e)
later_need o a need (event.Run who (how.Start n key tables)) h = any_need o key need h.0
later_need o a need (event.Run who (how.Plain (reason.NoRoom wanted largest))) h = let e : need ≡ max (unit_words o) 64 = h.0 in omega (arith, e)
later_need o a need e h = h

-- one more event to come, which changes each prune's need as given
swap_next : (o : Options) (next other : Option Event) (a xs : Journal) → ((b : Journal) (need : ℕ) → PruneHasNeed o b need next → PruneHasNeed o b need other) → NeedsBefore o next a xs → NeedsBefore o other a xs
swap_next o next other a [] f h = tt
swap_next o next other a (event.Prune n need largest ∷ xs) f h = (after xs h.0, swap_next o next other (a ++ event.Prune n need largest ∷ []) xs f h.1)
  where
    after : (ys : Journal) → PruneHasNeed o a need (next_or next ys) → PruneHasNeed o a need (next_or other ys)
    after [] k = f a need k
    after (event.Prune m i l ∷ ys) k = after ys k
    after (y ∷ ys) k = k
swap_next o next other a (event.Run who (how.Plain (reason.NoRoom need largest)) ∷ xs) f h = (h.0, swap_next o next other (a ++ event.Run who (how.Plain (reason.NoRoom need largest)) ∷ []) xs f h.1)
swap_next o next other a (x ∷ xs) f h = swap_next o next other (a ++ x ∷ []) xs f h

-- a call begins, with this event in mind
pub needs_begin : (o : Options) (j : Journal) (e : Event) → NeedsOf o None j → NeedsOf o (Some e) j
needs_begin o j e h = swap_next o None (Some e) [] j (λ b need k. later_need o b need e k) h

next_push : (next : Option Event) (xs : Journal) (e : Event) → NeedsOwn e → next_or next (xs ++ e ∷ []) ≡ next_or (Some e) xs
next_push next [] (event.Prune n need largest) own = absurd own
next_push next [] e own = refl
next_push next (event.Prune n need largest ∷ xs) e own = next_push next xs e own
next_push next (x ∷ xs) e own = refl

needs_last : (o : Options) (a : Journal) (e : Event) → NeedsOwn e → NeedsBefore o None a (e ∷ [])
needs_last o a (event.Prune n need largest) own = absurd own
needs_last o a (event.Run who (how.Plain (reason.NoRoom need largest))) own = (own, tt)
needs_last o a e own = tt

closed : (o : Options) (a xs : Journal) (e : Event) → NeedsBefore o (Some e) a xs → NeedsOwn e → NeedsBefore o None a (xs ++ e ∷ [])
closed o a [] e h own = needs_last o a e own
closed o a (event.Prune n need largest ∷ xs) e h own = (subst (PruneHasNeed o a need) (sym (next_push None xs e own)) h.0, closed o (a ++ event.Prune n need largest ∷ []) xs e h.1 own)
closed o a (event.Run who (how.Plain (reason.NoRoom need largest)) ∷ xs) e h own = (h.0, closed o (a ++ event.Run who (how.Plain (reason.NoRoom need largest)) ∷ []) xs e h.1 own)
closed o a (x ∷ xs) e h own = closed o (a ++ x ∷ []) xs e h own

-- the event in mind is pushed
pub needs_close : (o : Options) (j : Journal) (e : Event) → NeedsOf o (Some e) j → NeedsOwn e → NeedsOf o None (j ++ e ∷ [])
needs_close o j e h own = closed o [] j e h own

pub needs_push : (o : Options) (j : Journal) (e : Event) → NeedsOf o None j → NeedsOwn e → NeedsOf o None (j ++ e ∷ [])
needs_push o j e h own = needs_close o j e (needs_begin o j e h) own

pruned : (o : Options) (next : Option Event) (a xs : Journal) (n need largest : ℕ) → NeedsBefore o next a xs → PruneHasNeed o (a ++ xs) need next → NeedsBefore o next a (xs ++ event.Prune n need largest ∷ [])
pruned o next a [] n need largest h k = (subst (λ z. PruneHasNeed o z need next) (append-nil a) k, tt)
pruned o next a (event.Prune m i l ∷ xs) n need largest h k =
    (subst (PruneHasNeed o a i) (sym (same xs)) h.0, pruned o next (a ++ event.Prune m i l ∷ []) xs n need largest h.1 (subst (λ z. PruneHasNeed o z need next) (sym (append_assoc a (event.Prune m i l ∷ []) xs)) k))
  where
    same : (ys : Journal) → next_or next (ys ++ event.Prune n need largest ∷ []) ≡ next_or next ys
    same [] = refl
    same (event.Prune m i l ∷ ys) = same ys
    same (y ∷ ys) = refl
pruned o next a (event.Run who (how.Plain (reason.NoRoom i l)) ∷ xs) n need largest h k =
    (h.0, pruned o next (a ++ event.Run who (how.Plain (reason.NoRoom i l)) ∷ []) xs n need largest h.1 (subst (λ z. PruneHasNeed o z need next) (sym (append_assoc a (event.Run who (how.Plain (reason.NoRoom i l)) ∷ []) xs)) k))
pruned o next a (x ∷ xs) n need largest h k = pruned o next (a ++ x ∷ []) xs n need largest h (subst (λ z. PruneHasNeed o z need next) (sym (append_assoc a (x ∷ []) xs)) k)

-- a prune for the event in mind
pub needs_prune : (o : Options) (j : Journal) (next : Option Event) (n need largest : ℕ) → NeedsOf o next j → PruneHasNeed o j need next → NeedsOf o next (j ++ event.Prune n need largest ∷ [])
needs_prune o j next n need largest h k = pruned o next [] j n need largest h k

-- a start that finds no room becomes a plain run
pub needs_turn : (o : Options) (j : Journal) (who : Who) (n : ℕ) (key : List ℕ) (tables : List TableName) (need largest : ℕ) → NeedsOf o (Some (event.Run who (how.Start n key tables))) j → NeedsOf o (Some (event.Run who (how.Plain (reason.NoRoom need largest)))) j
needs_turn o j who n key tables need largest h = swap_next o (Some (event.Run who (how.Start n key tables))) (Some (event.Run who (how.Plain (reason.NoRoom need largest)))) [] j (λ b i k. least i k) h
  where
    least : (i : ℕ) → is_need o key i ≡ true → least_block ≤ i
    least i k = by (eqb i least_block) (eqb i (raised (unit_words o))) (eqb i (raised (words_of_bytes (length key)))) refl refl refl k
      where
        by : (a b c : Bool) → eqb i least_block ≡ a → eqb i (raised (unit_words o)) ≡ b → eqb i (raised (words_of_bytes (length key))) ≡ c → ((a || b) || c) ≡ true → least_block ≤ i
        by true b c p q r k = let e = eqb-true i least_block p in omega (arith, e)
        by false true c p q r k = let e : i ≡ max (unit_words o) 64 = eqb-true i (raised (unit_words o)) q in omega (arith, e)
        by false false true p q r k = let e : i ≡ max (words_of_bytes (length key)) 64 = eqb-true i (raised (words_of_bytes (length key))) r in omega (arith, e)
        by false false false p q r k = absurd (true≢false (sym k))

-- with nothing to come, they are the needs of the journal
pub needs_are : (o : Options) (a j : Journal) → NeedsBefore o None a j → NeedsFrom o a j
needs_are o a [] h = tt
needs_are o a (event.Prune n need largest ∷ j) h = (subst (PruneHasNeed o a need) (same j) h.0, needs_are o (a ++ event.Prune n need largest ∷ []) j h.1)
  where
    same : (ys : Journal) → next_or None ys ≡ next_other ys
    same [] = refl
    same (event.Prune m i l ∷ ys) = same ys
    same (y ∷ ys) = refl
needs_are o a (event.Run who (how.Plain (reason.NoRoom need largest)) ∷ j) h = (h.0, needs_are o (a ++ event.Run who (how.Plain (reason.NoRoom need largest)) ∷ []) j h.1)
needs_are o a (x ∷ j) h = needs_are o (a ++ x ∷ []) j h
