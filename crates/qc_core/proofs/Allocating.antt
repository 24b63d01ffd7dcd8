-- What stays while entries are pruned for a need, and the block that is taken then.
use Rattle.std.proofs.Common.{◌≡◌, ℕ, ◌+◌, ◌<◌, ◌≤◌, eqb, eqb-true, Bool, true, false, cond, List, [], ◌∷◌, ◌++◌, refl, sym, ap, subst, ◌∙◌, arith, true≢false}
use Rattle.std.specs.Prelude.{not, ◌||◌, ◌==◌, Option, Some, None, IsSomeAnd, Contains, nat_le, is_some}
use Rattle.std.specs.List.{list_any, AllByRecursion}
use Rattle.std.proofs.lemmas.Bool.Decides.{nat_tests}
use Rattle.qc_types.specs.declared.options.Options.{Options}
use Rattle.qc_types.specs.Blocks.{least_block, raised}
use Rattle.qc_model.specs.declared.events.Event.{Event}
use Rattle.qc_model.specs.declared.events.Event.TheVariants as event
use Rattle.qc_model.specs.declared.events.How.TheVariants as how
use Rattle.qc_model.specs.declared.events.Reason.TheVariants as reason
use Rattle.qc_model.specs.Journal.{Journal}
use Rattle.qc_model.specs.Cache.{cache, entry_of}
use Rattle.qc_model.specs.Cache.{Entry as Cached}
use Rattle.qc_model.specs.Cache.{without as cached_without}
use Rattle.qc_model.specs.Licence.{IsComplete, IsLawful, region_words, unit_words, word_bound}
use Rattle.qc_model.specs.Needs.{PruneHasNeed}
use Rattle.qc_laws.specs.history.Runs.{are_distinct, serials}
use Rattle.qc_laws.proofs.history.Events.{cache_push, lawful_back, lawful_prefix}
use Rattle.qc_laws.proofs.history.Serials.{serials_apart, both_true, opposite, neither}
use Rattle.qc_tiles.specs.declared.blocks.Block.{Block}
use Rattle.qc_tiles.specs.declared.blocks.Tile.{Tile}
use Rattle.qc_tiles.specs.Tiles.{handed_out, taken, after_take, largest_free}
use Rattle.qc_tiles.proofs.Refusals.{taken-some}
use Rattle.qc_sound.specs.PlainServer.{PlainServer}
use Rattle.qc_sound.specs.Moment.{Moment}
use Rattle.qc_sound.specs.parts.Journal.{reserved}
use Rattle.qc_sound.specs.parts.Memory.{TilesAreSound, blocks_in_use}
use Rattle.qc_sound.specs.steps.Holding.{with_tiles}
use Rattle.qc_sound.proofs.Handed.{times_permuted, permuted}
use Rattle.qc_sound.proofs.Holding.{hold_step}
use Rattle.qc_sound.proofs.Leaves.{one_less}
use Rattle.qc_core.specs.declared.server_state.ServerState.{ServerState}
use Rattle.qc_core.specs.Whole.{Named, plain, IsWhole}
use Rattle.qc_core.proofs.Taking.{took}

-- ---- what is held is small enough for any need

pub held_small : (o : Options) (j : Journal) (need : ℕ) (bs : List Block) → AllByRecursion (λ b. b.words ≤ unit_words o + 63) bs → AllByRecursion (λ b. b.words ≤ word_bound o j need) bs
held_small o j need [] h = tt
held_small o j need (b ∷ bs) h = (below h.0, held_small o j need bs h.1)
  where
    below : b.words ≤ unit_words o + 63 → b.words ≤ word_bound o j need
    below k = omega (arith, k)

-- ---- an entry that isn't complete stays

without_none : (n : ℕ) (ys : List Cached) → list_any (λ m. m == n) (serials ys) ≡ false → cached_without n ys ≡ ys
without_none n [] h = refl
without_none n (y ∷ ys) h =
    let parts = neither (y.serial == n) (list_any (λ m. m == n) (serials ys)) h in
    ap (λ b. cond (not b) (y ∷ cached_without n ys) (cached_without n ys)) parts.0 ∙ ap (λ l. y ∷ l) (without_none n ys parts.1)

or_last : (a b : Bool) → b ≡ true → (a || b) ≡ true
or_last true b h = refl
or_last false b h = h

pub incomplete_stays : (n : ℕ) (ys : List Cached) → are_distinct (serials ys) ≡ true → IsSomeAnd (entry_of n ys) (λ y. y.complete ≡ true) → list_any (λ y. not y.complete) ys ≡ true → list_any (λ y. not y.complete) (cached_without n ys) ≡ true
incomplete_stays n [] d h some = absurd (true≢false (sym some))
incomplete_stays n (y ∷ ys) d h some =
    let parts = both_true (not (list_any (λ m. m == y.serial) (serials ys))) (are_distinct (serials ys)) d in
    elim (eqb y.serial n) as (λ b. eqb y.serial n ≡ b → IsSomeAnd (cond b (Some y) (entry_of n ys)) (λ y. y.complete ≡ true) → list_any (λ y. not y.complete) (cond (not b) (y ∷ cached_without n ys) (cached_without n ys)) ≡ true) [
      | true ↦ λ e k.
          let none : list_any (λ m. m == n) (serials ys) ≡ false = subst (λ i. list_any (λ m. m == i) (serials ys) ≡ false) (eqb-true y.serial n e) (opposite _ parts.0) in
          let rest : list_any (λ y. not y.complete) ys ≡ true = subst (λ b. (not b || list_any (λ y. not y.complete) ys) ≡ true) k some in
          ap (list_any (λ y. not y.complete)) (without_none n ys none) ∙ rest
      | false ↦ λ e k. elim y.complete as (λ b. (not b || list_any (λ y. not y.complete) ys) ≡ true → (not b || list_any (λ y. not y.complete) (cached_without n ys)) ≡ true) [
        | true ↦ λ r. incomplete_stays n ys parts.1 k r
        | false ↦ λ r. refl
      ] some
    ] refl h

-- ---- the need stays one that the call may have

need_stays : (o : Options) (i j : Journal) (need : ℕ) (next : Option Event) → (list_any (λ y. not y.complete) (cache i) ≡ true → list_any (λ y. not y.complete) (cache j) ≡ true) → PruneHasNeed o i need next → PruneHasNeed o j need next
need_stays o i j need (Some (event.Run who (how.Start n key tables))) f h = h
need_stays o i j need (Some (event.Run who (how.Plain (reason.NoRoom wanted largest)))) f h = h
need_stays o i j need next f h = (h.0, f h.1)

some_entry : (n : ℕ) (ys : List Cached) → IsSomeAnd (entry_of n ys) (λ y. y.complete ≡ true) → (y : Cached) × (entry_of n ys ≡ Some y)
some_entry n ys h = by (entry_of n ys) refl h
  where
    by : (o : Option Cached) → entry_of n ys ≡ o → IsSomeAnd o (λ y. y.complete ≡ true) → (y : Cached) × (entry_of n ys ≡ Some y)
    by None e k = absurd k
    by (Some y) e k = (y, e)

-- ---- one prune more

module _ (o : Options) (j : Journal) (n need largest : ℕ) (lawful : IsLawful o (j ++ event.Prune n need largest ∷ [])) where
  abbrev e : Event
  e = event.Prune n need largest

  -- the entry that was pruned was complete
  was_complete : IsComplete j n
  was_complete = (lawful_back o [] j (e ∷ []) lawful).0.whole

  pub need_left : (wanted : ℕ) (next : Option Event) → PruneHasNeed o j wanted next → PruneHasNeed o (j ++ e ∷ []) wanted next
  need_left wanted next h =
      let apart = serials_apart o j (lawful_prefix o [] j (e ∷ []) lawful) in
      need_stays o j (j ++ e ∷ []) wanted next (λ some. ap (list_any (λ (y : Cached). not y.complete)) (cache_push j e) ∙ incomplete_stays n (cache j) apart was_complete some) h

  pub less_reserved : reserved (cache (j ++ e ∷ [])) < reserved (cache j)
  less_reserved =
      let y = some_entry n (cache j) was_complete in
      subst (λ l. reserved l < reserved (cache j)) (sym (cache_push j e)) (one_less n (cache j) y.0 y.1)

-- ---- the block

-- the call holds one block more
abbrev pub holding : Block → Moment → Moment
holding b m = record m { held = b ∷ m.held }

pub held_tiles : (moment : Moment) (s : PlainServer) (need : ℕ) (b : Block) → TilesAreSound moment s → taken need s.tiles ≡ Some b → TilesAreSound (holding b moment) (with_tiles (after_take need s.tiles) s)
held_tiles moment s need b h is =
    let t = took (region_words s.options) need s.tiles b h.tiling is in
    record {
      tiling = t.tiling;
      in_use = permuted (handed_out (after_take need s.tiles)) ((b ∷ moment.held) ++ blocks_in_use s) (λ c. omega (arith, t.hands c, times_permuted c (handed_out s.tiles) (moment.held ++ blocks_in_use s) h.in_use));
      pinned = λ x. (λ k. (h.pinned x).0 (subst (λ l. Contains l x) t.pins k), λ k. subst (λ l. Contains l x) (sym t.pins) ((h.pinned x).1 k));
    }

pub held_whole : (moment : Moment) (names : List Named) (words : List ℕ) (s : ServerState) (need : ℕ) (b : Block) → IsWhole moment names words s → taken need s.tiles ≡ Some b → IsWhole (holding b moment) names words (record s { tiles = after_take need s.tiles })
held_whole moment names words s need b w is = record {
  named = record { begun = w.named.begun; numbers = w.named.numbers; entries = w.named.entries; tasks = w.named.tasks };
  sound = hold_step moment moment.next (b ∷ moment.held) words (plain names s) (after_take need s.tiles) w.sound w.sound.journal.needs (held_tiles moment (plain names s) need b w.sound.memory.tiles is);
  directory = w.directory;
  seats = record { once = w.seats.once; room = w.seats.room; task_room = w.seats.task_room };
  room = record { entries = w.room.entries; tables = w.room.tables; chains = w.room.chains; unpinner = w.room.unpinner };
}

-- a need that a free block holds gets one
pub holds_some : (need : ℕ) (ts : List Tile) → least_block ≤ need → need ≤ largest_free ts → taken need ts ≡ None → ⊥
holds_some need ts least large none =
    true≢false (sym (holds (raised need) (largest_free ts) (omega (arith, least, large))) ∙ (sym (taken-some need ts) ∙ ap (λ o. is_some o) none))
  where
    holds : (a b : ℕ) → a ≤ b → nat_le a b ≡ true
    holds a b h = grind (arith, nat_tests)
