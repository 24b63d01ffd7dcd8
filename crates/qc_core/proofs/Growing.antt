-- The chain of an entry that is filled gets a block more, and the server stays sound.
use Rattle.std.proofs.Common.{◌≡◌, ◌≢◌, ℕ, ◌+◌, ◌-◌, ◌*◌, ◌/◌, ◌<◌, ◌≤◌, eqb, eqb-true, Bool, true, false, cond, List, [], ◌∷◌, ◌++◌, map, length, refl, sym, ap, subst, ◌∙◌, arith, true≢false, length-append, append-nil, inl, inr, ⊎_elim, ◌⊎◌}
use Rattle.std.specs.Prelude.{not, ◌||◌, ◌==◌, Option, Some, None, IsSomeAnd, Contains, IsPermutation, find, unwrap_or, IfOk, Result, Ok, Err}
use Rattle.std.specs.List.{list_any, filter, flat_map, AllByRecursion}
use Rattle.std.proofs.lemmas.List.Recursion.{is_sum_by}
use Rattle.std.proofs.lemmas.List.Elements.{Contains-append_left, Contains-append_right, Contains-append_cases}
use Rattle.std.proofs.lemmas.List.Sorted.{sum_by-IsPermutation}
use Rattle.std.proofs.lemmas.Option.{none-some, same_Some}
use Rattle.qc_key.specs.Hash.{hash}
use Rattle.std.proofs.lemmas.List.Elements.{filter-append}
use Rattle.qc_turn.specs.Views.{of_seat}
use Rattle.qc_turn.specs.Releases.{Follows}
use Rattle.qc_core.specs.contracts.server.ServerKept.TheImpl.{ghosts}
use Rattle.qc_model.specs.Journal.{Journal, present}
use Rattle.qc_model.specs.Session.{answer}
use Rattle.qc_model.specs.Cache.{cache, entry_of}
use Rattle.qc_model.specs.Cache.{Entry as Cached}
use Rattle.qc_model.specs.Licence.{IsFilling, region_words, unit_words}
use Rattle.qc_types.specs.declared.options.Options.{Options}
use Rattle.qc_laws.specs.history.Runs.{IsStarted, are_distinct}
use Rattle.qc_laws.proofs.history.Serials.{both_true, opposite, neither}
use Rattle.qc_tiles.specs.declared.blocks.Tile.{Tile}
use Rattle.qc_tiles.specs.declared.blocks.Block.{Block}
use Rattle.qc_tiles.specs.declared.blocks.NoTile.{NoTile}
use Rattle.qc_tiles.specs.Tiles.{CoversFrom, block_of, handed_out, taken, after_take, after_pin}
use Rattle.qc_tiles.proofs.Calls.{own_tiling}
use Rattle.qc_tiles.proofs.Keeps.{after_pin-tiling}
use Rattle.qc_chain.specs.Words.{words_of}
use Rattle.qc_chain.specs.Chains.{Chained, chain_at, Begun, Ranged}
use Rattle.qc_chain.specs.Chains.{Chain as Kept}
use Rattle.qc_chain.proofs.Releases.{in_front, in_first}
use Rattle.qc_dir.specs.declared.entries.Entry.{Entry}
use Rattle.qc_dir.specs.Directory.{entry_at}
use Rattle.qc_turn.specs.declared.task.Task.{Task}
use Rattle.qc_turn.specs.declared.task.Task.TheVariants as task
use Rattle.qc_turn.specs.Tasks.{listed_for, own}
use Rattle.qc_sound.specs.PlainServer.{PlainServer, StoredEntry, EntryChain, SeatTask, has_chain, blocks_at, blocks_of, is_stored, listed_tasks}
use Rattle.qc_sound.specs.Moment.{at_rest}
use Rattle.qc_sound.specs.Sound.{IsSound}
use Rattle.qc_sound.specs.parts.Memory.{TilesAreSound, blocks_in_use, blocks_of_tasks}
use Rattle.qc_sound.specs.steps.Leaving.{is_of_seat, filling}
use Rattle.qc_sound.specs.steps.Growing.{with_blocks, with_bytes, grown, MayGrow}
use Rattle.qc_sound.proofs.Handed.{times, times_append, times_permuted, times_cut, self_one, permuted, pin_hands, pin_pins}
use Rattle.qc_sound.proofs.Changed.{at_other, at_same}
use Rattle.qc_sound.proofs.Growing.{grow_step, grow_lists}
use Rattle.qc_sound.proofs.Few.{are_few}
use Rattle.std.specs.Result.{IfErr, IsErrAnd}
use Rattle.qc_core.specs.declared.fill_growth.Short.{Short}
use Rattle.qc_core.specs.declared.fill_growth.Short.TheVariants as short
use Rattle.qc_core.specs.declared.server_state.ServerState.{ServerState}
use Rattle.qc_dir.specs.declared.tables.TableBlock.{TableBlock}
use Rattle.qc_core.specs.EntryRemoval.{table_blocks}
use Rattle.qc_core.specs.Whole.{Named, is_named, IsNamedAs, chain_blocks, chain_in, plain, tasks_of, IsNamed, IsWhole, Sound}
use Rattle.qc_turn.specs.declared.view.FoundWord.{FoundWord}
use Rattle.qc_core.specs.EndedStreams.{IsSwept}
use Rattle.qc_core.specs.TaskEnd.{is_of}
use Rattle.qc_core.specs.KeptLaws.{tasks_same, blocks_named}
use Rattle.qc_core.specs.Eviction.{PrunesMany, LacksTile}
use Rattle.qc_core.specs.BlocksReserved.{nothing}
use Rattle.qc_core.specs.Allocation.{holds, MayTakeOne, PrunesSome, HasNone, TakesKeeping}
use Rattle.qc_core.specs.FillGrowth.{MayAppend, appended, longer_by, FillsOn, MayGrowOn, Grows, IsShort, StaysFilling}
use Rattle.qc_core.specs.declared.reserved_blocks.ReservedBlocks.{ReservedBlocks}
use Rattle.qc_core.proofs.Allocating.{holding}
use Rattle.qc_core.proofs.Handing.{none_in_hand}
use Rattle.qc_core.proofs.Uses.{begun_at}
use Rattle.qc_core.proofs.Seeking.{pair_of}
use Rattle.qc_core.proofs.OwnBlocks.{use_count}
use Rattle.qc_core.proofs.Remaining.{IsOther, differ}
use Rattle.qc_core.proofs.Taking.{Took, took}
use Rattle.qc_core.proofs.Appending.{append_chains, append_entries, append_names, append_room}
use Rattle.qc_core.proofs.FillTasks.{FillTask, fill_task, plain_at, fill_named, entry_filling, entry_number, pruned_after, IsAfter, still_filling, started_after, may_allocate}

-- ---- the words of blocks

words_join : (xs ys : List Block) → words_of (xs ++ ys) ≡ words_of xs + words_of ys
words_join [] ys = omega arith
words_join (x ∷ xs) ys = omega (arith, words_join xs ys)

words_permuted : (xs ys : List Block) → IsPermutation xs ys → words_of ys ≡ words_of xs
words_permuted xs ys h =
    let f = λ (x : Block). x.words in
    is_sum_by words_of f refl (λ x l. refl) ys ∙ (sum_by-IsPermutation f xs ys h ∙ sym (is_sum_by words_of f refl (λ x l. refl) xs))

words_out : (first end : ℕ) (ts : List Tile) → CoversFrom first end ts → first + words_of (handed_out ts) ≤ end
words_out first end [] h = omega (arith, h)
words_out first end (t ∷ ts) h =
    let more = words_out (first + t.words) end ts h.1 in
    elim (not t.free) as (λ b. first + words_of (map block_of (cond b (t ∷ filter (λ t. not t.free) ts) (filter (λ t. not t.free) ts))) ≤ end) [
      | true ↦ omega (arith, more)
      | false ↦ omega (arith, more)
    ]

words_named : (cs : Chained) (names : List Named) (n : ℕ) (x : Named) → find (is_named n) names ≡ Some x → words_of (chain_blocks (chain_at x.number cs)) ≤ words_of (flat_map (λ c. c.blocks) (map (chain_in cs) names))
words_named cs [] n x h = absurd (none-some x h)
words_named cs (y ∷ names) n x h =
    let sum = words_join (chain_blocks (chain_at y.number cs)) (flat_map (λ (c : EntryChain). c.blocks) (map (chain_in cs) names)) in
    elim (eqb y.serial n) as (λ v. cond v (Some y) (find (is_named n) names) ≡ Some x → words_of (chain_blocks (chain_at x.number cs)) ≤ words_of (chain_blocks (chain_at y.number cs) ++ flat_map (λ (c : EntryChain). c.blocks) (map (chain_in cs) names))) [
      | true ↦ λ f. let same : words_of (chain_blocks (chain_at y.number cs)) ≡ words_of (chain_blocks (chain_at x.number cs)) = ap (λ (z : Named). words_of (chain_blocks (chain_at z.number cs))) (same_Some y x f) in omega (arith, sum, same)
      | false ↦ λ f. let more = words_named cs names n x f in omega (arith, sum, more)
    ] h

long_named : (cs : Chained) (names : List Named) (n : ℕ) (x : Named) → find (is_named n) names ≡ Some x → length (chain_blocks (chain_at x.number cs)) ≤ length (flat_map (λ c. c.blocks) (map (chain_in cs) names))
long_named cs [] n x h = absurd (none-some x h)
long_named cs (y ∷ names) n x h =
    let sum = length-append (chain_blocks (chain_at y.number cs)) (flat_map (λ (c : EntryChain). c.blocks) (map (chain_in cs) names)) in
    elim (eqb y.serial n) as (λ v. cond v (Some y) (find (is_named n) names) ≡ Some x → length (chain_blocks (chain_at x.number cs)) ≤ length (chain_blocks (chain_at y.number cs) ++ flat_map (λ (c : EntryChain). c.blocks) (map (chain_in cs) names))) [
      | true ↦ λ f. let same : length (chain_blocks (chain_at y.number cs)) ≡ length (chain_blocks (chain_at x.number cs)) = ap (λ (z : Named). length (chain_blocks (chain_at z.number cs))) (same_Some y x f) in omega (arith, sum, same)
      | false ↦ λ f. let more = long_named cs names n x f in omega (arith, sum, more)
    ] h

-- a block that stands in a list
pub stands_in : (b : Block) (xs : List Block) → 0 < times b xs → Contains xs b
stands_in b xs h =
    let cut = times_cut b xs h in
    subst (λ l. Contains l b) (sym cut.2) (Contains-append_right cut.0 (b ∷ cut.1) b (in_first b cut.1))

-- ---- what a chain asks of one block more

pub may_append : (names : List Named) (words : List ℕ) (s : ServerState) (n number : ℕ) (held : Kept) (b : Block) (wide : ℕ) → IsWhole (holding b (at_rest hash)) names words s → IsNamedAs names n number → Begun number s.chains held
    → region_words s.options ≤ 8388608 → s.options.size ≤ 512 * wide → MayAppend number b s wide
may_append names words s n number held b wide h is begun long size =
    let p = plain names s in
    let chains = flat_map (λ (c : EntryChain). c.blocks) p.chains in
    let tables = map (λ (b : _ × Block). b.1) p.table_blocks in
    let texts = map (λ (e : StoredEntry). e.text) p.entries in
    let tiles = h.sound.memory.tiles in
    let all = words_permuted (handed_out s.tiles) (b ∷ blocks_in_use p) tiles.in_use in
    let out = words_out 0 (region_words s.options) s.tiles tiles.tiling.covers in
    let own_words = words_named s.chains names n _ is in
    let own_long = long_named s.chains names n _ is in
    let same_words : words_of (chain_blocks (chain_at number s.chains)) ≡ words_of held.blocks = ap (λ o. words_of (chain_blocks o)) begun in
    let same_long : length (chain_blocks (chain_at number s.chains)) ≡ length held.blocks = ap (λ o. length (chain_blocks o)) begun in
    let few = are_few (holding b (at_rest hash)) words p h.sound in
    let eighth : 8 * (s.options.size / 8) ≤ s.options.size = omega arith in
    let in_use : 0 < times b (handed_out s.tiles) = omega (arith, times_permuted b (handed_out s.tiles) (b ∷ blocks_in_use p) tiles.in_use, self_one b) in
    record {
      held = held;
      begun = begun;
      few = omega (arith, all, out, words_join texts (tables ++ chains), words_join tables chains, own_words, same_words, long);
      room = omega (arith, few.blocks, h.room.chains.blocks);
      tiling = own_tiling (region_words s.options) s.tiles tiles.tiling;
      out = stands_in b (handed_out s.tiles) in_use;
      ranges = omega (arith, few.blocks, own_long, same_long, size, eighth);
    }

-- ---- one chain of a list is longer

with_none : (n : ℕ) (f : List Block → List Block) (cs : List EntryChain) → list_any (λ m. m == n) (map (λ c. c.serial) cs) ≡ false → with_blocks n f cs ≡ cs
with_none n f [] h = refl
with_none n f (c ∷ cs) h =
    let t = neither (c.serial == n) (list_any (λ m. m == n) (map (λ c. c.serial) cs)) h in
    λ i. cond (t.0 i) (record { serial = c.serial; blocks = f c.blocks }) c ∷ with_none n f cs t.1 i

longer_times : (x : Block) (n : ℕ) (b : Block) (cs : List EntryChain) → are_distinct (map (λ c. c.serial) cs) ≡ true → has_chain n cs ≡ true
    → times x (flat_map (λ c. c.blocks) (with_blocks n (λ blocks. blocks ++ b ∷ []) cs)) ≡ times x (flat_map (λ c. c.blocks) cs) + times x (b ∷ [])
longer_times x n b [] d h = absurd (true≢false (sym h))
longer_times x n b (c ∷ cs) d h =
    let parts = both_true (not (list_any (λ m. m == c.serial) (map (λ c. c.serial) cs))) (are_distinct (map (λ c. c.serial) cs)) d in
    let f = λ (blocks : List Block). blocks ++ b ∷ [] in
    let rest = flat_map (λ (c : EntryChain). c.blocks) cs in
    let now = flat_map (λ (c : EntryChain). c.blocks) (with_blocks n f cs) in
    elim (eqb c.serial n) as (λ v. eqb c.serial n ≡ v → (v || has_chain n cs) ≡ true → times x (flat_map (λ (c : EntryChain). c.blocks) (cond v (record { serial = c.serial; blocks = f c.blocks }) c ∷ with_blocks n f cs)) ≡ times x (c.blocks ++ rest) + times x (b ∷ [])) [
      | true ↦ λ e k.
          let none = subst (λ m. list_any (λ k. k == m) (map (λ (c : EntryChain). c.serial) cs) ≡ false) (eqb-true c.serial n e) (opposite _ parts.0) in
          let same = ap (λ l. times x (flat_map (λ (c : EntryChain). c.blocks) l)) (with_none n f cs none) in
          omega (arith, same, times_append x (f c.blocks) now, times_append x c.blocks rest, times_append x c.blocks (b ∷ []))
      | false ↦ λ e k. omega (arith, longer_times x n b cs parts.1 k, times_append x c.blocks now, times_append x c.blocks rest)
    ] refl h

texts_same : (n bytes : ℕ) (es : List StoredEntry) → map (λ e. e.text) (with_bytes n bytes es) ≡ map (λ e. e.text) es
texts_same n bytes [] = refl
texts_same n bytes (e ∷ es) = elim (is_stored n e) as (λ v. (cond v (record e { bytes = bytes }) e).text ∷ map (λ e. e.text) (with_bytes n bytes es) ≡ e.text ∷ map (λ e. e.text) es) [ true ↦ ap (λ l. e.text ∷ l) (texts_same n bytes es) | false ↦ ap (λ l. e.text ∷ l) (texts_same n bytes es) ]

-- ---- the blocks of tasks

module _ (n : ℕ) (b : Block) (cs : List EntryChain) (there : has_chain n cs ≡ true) where
  abbrev more : List EntryChain
  more = with_blocks n (λ blocks. blocks ++ b ∷ []) cs

  at_is : (k : ℕ) → blocks_at k more ≡ cond (eqb k n) (blocks_at k cs ++ b ∷ []) (blocks_at k cs)
  at_is k = elim (eqb k n) as (λ v. eqb k n ≡ v → blocks_at k more ≡ cond v (blocks_at k cs ++ b ∷ []) (blocks_at k cs)) [
    | true ↦ λ e. ap (λ i. blocks_at i more) (eqb-true k n e) ∙ (at_same n (λ blocks. blocks ++ b ∷ []) cs there ∙ ap (λ i. blocks_at i cs ++ b ∷ []) (sym (eqb-true k n e)))
    | false ↦ λ e. at_other n (λ blocks. blocks ++ b ∷ []) k cs e
  ] refl

  at_forth : (k : ℕ) (x : Block) → Contains (blocks_at k more) x → Contains (blocks_at k cs) x ⊎ (x ≡ b)
  at_forth k x h = by (eqb k n) (subst (λ l. Contains l x) (at_is k) h)
    where
      by : (v : Bool) → Contains (cond v (blocks_at k cs ++ b ∷ []) (blocks_at k cs)) x → Contains (blocks_at k cs) x ⊎ (x ≡ b)
      by true h = ⊎_elim (λ l. inl l) (λ r. ⊎_elim (λ e. inr (sym e)) (λ (z : Contains [] x). absurd (omega (arith, z.1))) (in_front x b [] r)) (Contains-append_cases (blocks_at k cs) (b ∷ []) x h)
      by false h = inl h

  at_back : (k : ℕ) (x : Block) → Contains (blocks_at k cs) x → Contains (blocks_at k more) x
  at_back k x h = subst (λ l. Contains l x) (sym (at_is k)) (by (eqb k n))
    where
      by : (v : Bool) → Contains (cond v (blocks_at k cs ++ b ∷ []) (blocks_at k cs)) x
      by true = Contains-append_left (blocks_at k cs) (b ∷ []) x h
      by false = h

  task_forth : (t : Task) (x : Block) → Contains (blocks_of more t) x → Contains (blocks_of cs t) x ⊎ (x ≡ b)
  task_forth task.Rest x h = inl h
  task_forth (task.Stream k) x h = at_forth k x h
  task_forth (task.Fill k) x h = at_forth k x h

  task_back : (t : Task) (x : Block) → Contains (blocks_of cs t) x → Contains (blocks_of more t) x
  task_back task.Rest x h = h
  task_back (task.Stream k) x h = at_back k x h
  task_back (task.Fill k) x h = at_back k x h

  tasks_forth : (ws : List SeatTask) (x : Block) → Contains (flat_map (λ w. blocks_of more w.task) ws) x → Contains (flat_map (λ w. blocks_of cs w.task) ws) x ⊎ (x ≡ b)
  tasks_forth [] x h = inl h
  tasks_forth (w ∷ ws) x h =
      let f = λ (w : SeatTask). blocks_of cs w.task in
      ⊎_elim
      (λ l. ⊎_elim (λ k. inl (Contains-append_left (f w) (flat_map f ws) x k)) (λ e. inr e) (task_forth w.task x l))
      (λ r. ⊎_elim (λ k. inl (Contains-append_right (f w) (flat_map f ws) x k)) (λ e. inr e) (tasks_forth ws x r))
      (Contains-append_cases (blocks_of more w.task) (flat_map (λ (w : SeatTask). blocks_of more w.task) ws) x h)

  tasks_back : (ws : List SeatTask) (x : Block) → Contains (flat_map (λ w. blocks_of cs w.task) ws) x → Contains (flat_map (λ w. blocks_of more w.task) ws) x
  tasks_back [] x h = h
  tasks_back (w ∷ ws) x h =
      let g = λ (w : SeatTask). blocks_of more w.task in
      ⊎_elim (λ l. Contains-append_left (g w) (flat_map g ws) x (task_back w.task x l)) (λ r. Contains-append_right (g w) (flat_map g ws) x (tasks_back ws x r))
      (Contains-append_cases (blocks_of cs w.task) (flat_map (λ (w : SeatTask). blocks_of cs w.task) ws) x h)

  tasks_last : (seat : ℕ) (ws : List SeatTask) → find (is_of_seat seat) ws ≡ Some (filling seat n) → Contains (flat_map (λ w. blocks_of more w.task) ws) b
  tasks_last seat [] h = absurd (none-some _ h)
  tasks_last seat (w ∷ ws) h =
      let g = λ (w : SeatTask). blocks_of more w.task in
      elim (w.seat == seat) as (λ v. cond v (Some w) (find (is_of_seat seat) ws) ≡ Some (filling seat n) → Contains (g w ++ flat_map g ws) b) [
        | true ↦ λ f.
            let is : w.task ≡ task.Fill n = ap (λ (z : SeatTask). z.task) (same_Some w (filling seat n) f) in
            let blocks : g w ≡ blocks_at n cs ++ b ∷ [] = ap (λ t. blocks_of more t) is ∙ at_same n (λ blocks. blocks ++ b ∷ []) cs there in
            Contains-append_left (g w) (flat_map g ws) b (subst (λ l. Contains l b) (sym blocks) (Contains-append_right (blocks_at n cs) (b ∷ []) b (in_first b [])))
        | false ↦ λ f. Contains-append_right (g w) (flat_map g ws) b (tasks_last seat ws f)
      ] h

-- ---- the server with the longer chain

module _ (names : List Named) (words : List ℕ) (s : ServerState) (seat n number : ℕ) (held : Kept) (b : Block) (bs : List Block) (w : IsWhole (at_rest hash) names words s) (t : FillTask seat n bs s.chains s.tasks.items) (filling_ : IsFilling s.journal.events n)
    (named : IsNamedAs names n number) (begun : Begun number s.chains held) (is : taken (unit_words s.options) s.tiles ≡ Some b) where
  abbrev p : PlainServer
  p = plain names s

  abbrev mids : List Tile
  mids = after_take (unit_words s.options) s.tiles

  abbrev ends : List Tile
  ends = after_pin true b.first mids

  abbrev pub longer_server : ServerState
  longer_server = appended number b held (record s { tiles = mids })

  abbrev size : ℕ
  size = 8 * words_of (held.blocks ++ b ∷ [])

  abbrev pub meant : PlainServer
  meant = grown n b size ends p

  taken_so : Took (region_words s.options) (unit_words s.options) s.tiles mids b
  taken_so = took (region_words s.options) (unit_words s.options) s.tiles b w.sound.memory.tiles.tiling is

  there : Contains (handed_out mids) b
  there = stands_in b (handed_out mids) (omega (arith, taken_so.hands b, self_one b))

  numbers : AllByRecursion (IsOther n number) names
  numbers = differ n number names w.named.numbers named

  has_own : has_chain n p.chains ≡ true
  has_own = by names named
    where
      by : (xs : List Named) → find (is_named n) xs ≡ Some (record { serial = n; number = number }) → has_chain n (map (chain_in s.chains) xs) ≡ true
      by [] h = absurd (none-some _ h)
      by (x ∷ xs) h = elim (eqb x.serial n) as (λ v. cond v (Some x) (find (is_named n) xs) ≡ Some (record { serial = n; number = number }) → (v || has_chain n (map (chain_in s.chains) xs)) ≡ true) [ true ↦ λ f. refl | false ↦ λ f. by xs f ] h

  pub own_chain : blocks_at n p.chains ≡ held.blocks
  own_chain = blocks_named s.chains names n _ named ∙ ap chain_blocks begun

  tiles_sound : TilesAreSound (at_rest hash) meant
  tiles_sound =
      let tiles = w.sound.memory.tiles in
      let hands = pin_hands (region_words s.options) mids b true taken_so.tiling there in
      record {
        tiling = after_pin-tiling (region_words s.options) b.first true mids taken_so.tiling;
        in_use = permuted (handed_out ends) (blocks_in_use meant) (λ c. omega (
          arith,
          ap (times c) hands,
          taken_so.hands c,
          times_permuted c (handed_out s.tiles) (blocks_in_use p) tiles.in_use,
          use_count c p,
          use_count c meant,
          ap (times c) (texts_same n size p.entries),
          longer_times c n b p.chains w.sound.memory.chains.apart has_own,
        ));
        pinned = λ x.
            let one = pin_pins (region_words s.options) mids b x taken_so.tiling there in (
              λ k. ⊎_elim (λ l. tasks_back n b p.chains has_own p.tasks x ((tiles.pinned x).0 (subst (λ l. Contains l x) taken_so.pins l))) (λ e. subst (λ z. Contains (blocks_of_tasks meant) z) (sym e) (tasks_last n b p.chains has_own seat p.tasks (plain_at seat n bs s.chains s.tasks.items t))) (one.0 k),
              λ k. one.1 (⊎_elim (λ l. inl (subst (λ l. Contains l x) (sym taken_so.pins) ((tiles.pinned x).1 l))) (λ e. inr e) (tasks_forth n b p.chains has_own p.tasks x k)),
            );
      }

  plain_is : plain names longer_server ≡ meant
  plain_is = λ i. record {
    options = s.options;
    journal = s.journal.events;
    spare = s.journal.spare;
    database = s.database;
    entries = append_entries s.chains n number b held names begun named w.sound.memory.chains.apart numbers s.dir.entries w.named.entries i;
    chains = append_chains s.chains n number b held names begun named w.sound.memory.chains.apart numbers i;
    table_blocks = p.table_blocks;
    tiles = ends;
    connected = s.connected.items;
    tasks = p.tasks;
  }

  longer_named : IsNamed names longer_server
  longer_named = record {
    begun = append_names s.chains n number b held names begun named w.sound.memory.chains.apart numbers w.named.begun;
    numbers = w.named.numbers;
    entries = w.named.entries;
    tasks = w.named.tasks;
  }

  module _ (some : 0 < s.chains.room) (start : IsStarted s.journal.events n) (more_ : 8 * words_of held.blocks < length (unwrap_or (answer start.key (present start.earlier)) [])) where
    may_grow : MayGrow n b p
    may_grow =
        let least = w.sound.rounded.least in
        record {
          entry = filling_;
          start = start;
          more = subst (λ l. 8 * words_of l < length (unwrap_or (answer start.key (present start.earlier)) [])) (sym own_chain) more_;
          full = omega (arith, taken_so.large, least);
          small = omega (arith, taken_so.small, least);
        }

    pub longer_whole : IsWhole (at_rest hash) names words longer_server
    longer_whole = record {
      named = longer_named;
      sound = subst (λ z. IsSound (at_rest hash) words z) (sym plain_is) (grow_step (at_rest hash) words p n b size ends w.sound may_grow tiles_sound);
      directory = w.directory;
      seats = record { once = w.seats.once; room = w.seats.room; task_room = w.seats.task_room };
      room = record { entries = w.room.entries; tables = w.room.tables; chains = append_room s.chains n number b held names begun named w.sound.memory.chains.apart numbers (region_words s.options) some w.room.chains; unpinner = w.room.unpinner };
    }

  pub longer_others : (k : ℕ) → k ≢ seat → listed_for k (tasks_of longer_server) ≡ listed_for k (tasks_of s)
  longer_others k ne =
      ap (listed_for k) (tasks_same names longer_server longer_named ∙ ap listed_tasks plain_is)
      ∙ ((grow_lists (at_rest hash) words p seat n b size ends w.sound (plain_at seat n bs s.chains s.tasks.items t)).others k ne ∙ sym (ap (listed_for k) (tasks_same names s w.named)))

  pub longer_alone : listed_for seat (tasks_of longer_server) ≡ own seat (task.Fill n) (held.blocks ++ b ∷ [])
  longer_alone =
      ap (listed_for seat) (tasks_same names longer_server longer_named ∙ ap listed_tasks plain_is)
      ∙ ((grow_lists (at_rest hash) words p seat n b size ends w.sound (plain_at seat n bs s.chains s.tasks.items t)).alone
      ∙ ap (own seat (task.Fill n)) (at_same n (λ blocks. blocks ++ b ∷ []) p.chains has_own ∙ ap (λ l. l ++ b ∷ []) own_chain))

-- ---- what is allocated for a fill, which keeps nothing of the entries that go for it

pub record IsPruned (need : ℕ) (words : List ℕ) (old new : ServerState) : Type 0 where
  pub count : ℕ
  pub prunes : PrunesMany [] need count old new
  pub names : List Named
  pub whole : IsWhole (at_rest hash) names words new

pub record Allocates (need : ℕ) (words : List ℕ) (old : ServerState) (block : Block) (new : ServerState) : Type 0 where
  pub mid : ServerState
  pub pruned : IsPruned need words old mid
  pub taken : taken need mid.tiles ≡ Some block
  pub server : new ≡ record mid { tiles = after_take need mid.tiles }
  pub whole : IsWhole (holding block (at_rest hash)) pruned.names words new

pub may_take : (words : List ℕ) (names : List Named) (s : ServerState) (n : ℕ) (w : IsWhole (at_rest hash) names words s) (filling_ : IsFilling s.journal.events n) (hand : ReservedBlocks) → hand ≡ nothing → MayTakeOne (unit_words s.options) hand s
may_take words names s n w filling_ hand is = subst (λ h. MayTakeOne (unit_words s.options) h s) (sym is) (may_allocate words names s n w filling_)

module _ (words : List ℕ) (names : List Named) (s : ServerState) (n : ℕ) (w : IsWhole (at_rest hash) names words s) (filling_ : IsFilling s.journal.events n) (hand after : ReservedBlocks) (empty : hand ≡ nothing) where
  abbrev need : ℕ
  need = unit_words s.options

  -- nothing came into the hand
  fresh_none : (new : ServerState) → PrunesSome need None words [] [] nothing after s new → after.fresh ≡ []
  fresh_none new p = none_in_hand after new.dir.tables p.tables p.starting.hand

  abbrev was_pruned : (new : ServerState) → PrunesSome need None words [] [] nothing after s new → IsPruned need words s new
  was_pruned new p = record {
    count = p.count;
    prunes = p.prunes;
    names = p.starting.names;
    whole = subst (λ (ts : List TableBlock). IsWhole (holds None (table_blocks ts ++ [])) p.starting.names words new) (fresh_none new p) p.starting.whole;
  }

  pub grown_by : (b : Block) (new : ServerState) → ((u : MayTakeOne need hand s) → TakesKeeping need u.next u.words u.missing u.others hand after s b new) → Allocates need words s b new
  grown_by b new f =
      let k = subst (λ h. (u : MayTakeOne need h s) → TakesKeeping need u.next u.words u.missing u.others h after s b new) empty f (may_allocate words names s n w filling_) in
      let p = was_pruned k.takes.mid k.pruned in
      let fresh = fresh_none k.takes.mid k.pruned in
      record {
        mid = k.takes.mid;
        pruned = record { count = k.takes.count; prunes = k.takes.prunes; names = p.names; whole = p.whole };
        taken = k.takes.taken;
        server = k.takes.server;
        whole = subst (λ (q : List TableBlock × List Named). IsWhole (holds None (table_blocks q.0 ++ (b ∷ []))) q.1 words new) (λ i. (fresh i, k.names i)) k.starting.whole;
      }

  pub short_of : (new : ServerState) (e : NoTile) → ((u : MayTakeOne need hand s) → PrunesSome need u.next u.words u.missing u.others hand after s new × HasNone need new e) → IsPruned need words s new × LacksTile need new e
  short_of new e f =
      let k = subst (λ h. (u : MayTakeOne need h s) → PrunesSome need u.next u.words u.missing u.others h after s new × HasNone need new e) empty f (may_allocate words names s n w filling_) in
      (was_pruned new k.0, k.1.lacks)

-- ---- the call

module _ (s : ServerState) (n : ℕ) (r : Ranged) (u : MayGrowOn n s r) (e : Entry) (entry_is : entry_at n s.dir.entries ≡ Some e) where
  first : FillTask u.seat n r.blocks s.chains s.tasks.items
  first = fill_task u.seat n r.blocks s.chains s.tasks.items u.fills.listed

  pub is_filling : IsFilling s.journal.events n
  is_filling = entry_filling (at_rest hash) u.names u.words s u.seat n r.blocks u.whole first e entry_is

  module _ (b : Block) (now : ServerState) (a : Allocates (unit_words s.options) u.words s b now) where
    abbrev mid : ServerState
    mid = a.mid

    after : IsAfter s mid
    after = pruned_after [] (unit_words s.options) a.pruned.count s mid a.pruned.prunes

    second : FillTask u.seat n r.blocks mid.chains mid.tasks.items
    second = fill_task u.seat n r.blocks mid.chains mid.tasks.items (ap (listed_for u.seat) after.listed ∙ u.fills.listed)

    same_number : e.chain.number ≡ second.work.chain.number
    same_number =
        entry_number (at_rest hash) u.names u.words s u.seat n r.blocks u.whole first e entry_is
        ∙ ap (λ w. w.chain.number) (same_Some first.work second.work (sym first.at ∙ (ap (λ l. find (is_of u.seat) l.items) (sym after.running) ∙ second.at)))

    mid_named : IsNamedAs a.pruned.names n e.chain.number
    mid_named = subst (IsNamedAs a.pruned.names n) (sym same_number) (fill_named (at_rest hash) a.pruned.names u.words mid u.seat n r.blocks a.pruned.whole second)

    chain : (held : Kept) × Begun e.chain.number mid.chains held
    chain = begun_at a.pruned.names mid n e.chain.number a.pruned.whole.named mid_named

    chain_is : chain.0.blocks ≡ r.blocks
    chain_is = sym (ap chain_blocks chain.1) ∙ (ap (λ k. chain_blocks (chain_at k mid.chains)) same_number ∙ second.blocks)

    pub may_append_now : MayAppend e.chain.number b now r.room
    may_append_now =
        may_append a.pruned.names u.words now n e.chain.number chain.0 b r.room a.whole mid_named (subst (λ (x : ServerState). Begun e.chain.number x.chains chain.0) (sym a.server) chain.1)
        (subst (λ o. region_words o ≤ 8388608) (sym same_options) u.long) (subst (λ (o : Options). o.size ≤ 512 * r.room) (sym same_options) u.fills.room)
      where
        same_options : now.options ≡ s.options
        same_options = ap (λ (x : ServerState). x.options) a.server ∙ after.options

    held_is : (v : MayAppend e.chain.number b now r.room) → v.held ≡ chain.0
    held_is v = same_Some v.held chain.0 (sym v.begun ∙ (ap (λ (x : ServerState). chain_at e.chain.number x.chains) a.server ∙ chain.1))

    pub ranges_are : (v : MayAppend e.chain.number b now r.room) → longer_by b (record { blocks = v.held.blocks; bytes = v.held.bytes; room = r.room }) ≡ longer_by b r
    ranges_are v =
        let same = ap (λ (c : Kept). c.blocks) (held_is v) ∙ chain_is in
        λ i. record { blocks = same i ++ b ∷ []; bytes = 8 * words_of (same i ++ b ∷ []); room = r.room }

    module _ (new : ServerState) (done : (v : MayAppend e.chain.number b now r.room) → new ≡ appended e.chain.number b v.held now) where
      mid_filling : IsFilling mid.journal.events n
      mid_filling = still_filling mid.options s mid n a.pruned.whole.sound.journal.lawful after is_filling

      taken_mid : taken (unit_words mid.options) mid.tiles ≡ Some b
      taken_mid = subst (λ o. taken (unit_words o) mid.tiles ≡ Some b) (sym after.options) a.taken

      new_is : new ≡ appended e.chain.number b chain.0 (record mid { tiles = after_take (unit_words mid.options) mid.tiles })
      new_is =
          done may_append_now
          ∙ (ap (λ h. appended e.chain.number b h now) (held_is may_append_now)
          ∙ (ap (appended e.chain.number b chain.0) a.server ∙ ap (λ o. appended e.chain.number b chain.0 (record mid { tiles = after_take (unit_words o) mid.tiles })) (sym after.options)))

      there_now : (x : Entry) × (entry_at n mid.dir.entries ≡ Some x) × (x.chain.number ≡ e.chain.number)
      there_now = by (entry_of n (cache mid.journal.events)) refl mid_filling
        where
          by : (o : Option Cached) → entry_of n (cache mid.journal.events) ≡ o → IsSomeAnd o (λ y. y.complete ≡ false) → (x : Entry) × (entry_at n mid.dir.entries ≡ Some x) × (x.chain.number ≡ e.chain.number)
          by None q k = absurd k
          by (Some y) q k =
              let pair = (pair_of (at_rest hash) u.words a.pruned.names mid n y a.pruned.whole q).0 in
              (pair.entry, pair.there, entry_number (at_rest hash) a.pruned.names u.words mid u.seat n r.blocks a.pruned.whole second pair.entry pair.there ∙ sym same_number)

      pub grows_so : Grows n s b new
      grows_so =
          let x = there_now in
          record {
            filling = is_filling;
            count = a.pruned.count;
            mid = mid;
            prunes = a.pruned.prunes;
            taken = a.taken;
            entry = x.0;
            held = chain.0;
            there = x.1;
            begun = subst (λ k. Begun k mid.chains chain.0) (sym x.2) chain.1;
            server = done may_append_now ∙ (ap (λ h. appended e.chain.number b h now) (held_is may_append_now) ∙ (ap (appended e.chain.number b chain.0) a.server ∙ ap (λ k. appended k b chain.0 (record mid { tiles = after_take (unit_words s.options) mid.tiles })) (sym x.2)));
          }

      pub stays_so : (r' : Ranged) → r'.blocks ≡ r.blocks ++ b ∷ [] → StaysFilling n s new r' u.words u.seat
      stays_so r' blocks =
          let start = started_after s mid n after u.fills.start in
          let more_ : 8 * words_of chain.0.blocks < length (unwrap_or (answer start.0.key (present start.0.earlier)) []) = subst (λ l. 8 * words_of l < length (unwrap_or (answer u.fills.start.key (present u.fills.start.earlier)) [])) (sym chain_is) u.fills.more in
          let some : 0 < mid.chains.room = subst (λ (x : ServerState). 0 < x.chains.room) a.server may_append_now.room in
          record {
            names = a.pruned.names;
            whole = subst (IsWhole (at_rest hash) a.pruned.names u.words) (sym new_is) (longer_whole a.pruned.names u.words mid u.seat n e.chain.number chain.0 b r.blocks a.pruned.whole second mid_filling mid_named chain.1 taken_mid some start.0 more_);
            others = λ k ne. ap (λ x. listed_for k (tasks_of x)) new_is ∙ (longer_others a.pruned.names u.words mid u.seat n e.chain.number chain.0 b r.blocks a.pruned.whole second mid_filling mid_named chain.1 taken_mid k ne ∙ ap (listed_for k) after.listed);
            alone = ap (λ x. listed_for u.seat (tasks_of x)) new_is ∙ (longer_alone a.pruned.names u.words mid u.seat n e.chain.number chain.0 b r.blocks a.pruned.whole second mid_filling mid_named chain.1 taken_mid ∙ ap (own u.seat (task.Fill n)) (ap (λ l. l ++ b ∷ []) chain_is ∙ sym blocks));
          }

-- the server where there was no block
pub stays_short : (s new : ServerState) (n : ℕ) (r : Ranged) (u : MayGrowOn n s r) (need : ℕ) → IsPruned need u.words s new → StaysFilling n s new r u.words u.seat
stays_short s new n r u need p =
    let a = pruned_after [] need p.count s new p.prunes in
    record { names = p.names; whole = p.whole; others = λ k ne. ap (listed_for k) a.listed; alone = ap (listed_for u.seat) a.listed ∙ u.fills.listed }

pub stays_same : (s : ServerState) (n : ℕ) (r : Ranged) (u : MayGrowOn n s r) → StaysFilling n s s r u.words u.seat
stays_same s n r u = record { names = u.names; whole = u.whole; others = λ k ne. refl; alone = u.fills.listed }

-- the refusal of an allocation, as the call answers it
pub err_short : (r : Result Block Short) (t : NoTile) (P : Short → Type 0) → IsErrAnd r (λ e. e ≡ short.NoRoom t.need t.largest) → P (short.NoRoom t.need t.largest) → IfErr r P
err_short (Ok b) t P h k = tt
err_short (Err e) t P h k = subst P (sym h) k

-- ---- for the lock

-- the journal goes on by events of no session, and what no holding changes stays
record Onward (s t : ServerState) : Type 0 where
  pub options : t.options ≡ s.options
  pub connected : t.connected ≡ s.connected
  pub later : Journal
  pub events : t.journal.events ≡ s.journal.events ++ later
  pub others : (k : ℕ) → of_seat ghosts k later ≡ []

onward_after : (s t : ServerState) → IsAfter s t → Onward s t
onward_after s t a = record { options = a.options; connected = a.connected; later = a.later; events = a.events; others = a.others }

onward_grown : (n : ℕ) (s t : ServerState) (b : Block) → Grows n s b t → Onward s t
onward_grown n s t b g =
    let a = pruned_after [] (unit_words s.options) g.count s g.mid g.prunes in
    subst (Onward s) (sym g.server) (record { options = a.options; connected = a.connected; later = a.later; events = a.events; others = a.others })

onward_short : (n : ℕ) (s t : ServerState) (e : Short) → IsShort n s t e → Onward s t
onward_short n s t (short.Overtaken by) h = subst (Onward s) (sym h.2) (record { options = refl; connected = refl; later = []; events = sym (append-nil s.journal.events); others = λ k. refl })
onward_short n s t (short.NoRoom need largest) h = onward_after s t (pruned_after [] (unit_words s.options) h.1 s t h.2)

onward_either : (n : ℕ) (s t : ServerState) (P : Block → Type 0) (Q : Type 0) (r : Result Block Short) → IfOk r (λ b. Grows n s b t × P b) → IfErr r (λ e. IsShort n s t e × Q) → Onward s t
onward_either n s t P Q (Ok b) g h = onward_grown n s t b g.0
onward_either n s t P Q (Err e) g h = onward_short n s t e h.0

pub grow_follows : (n seat : ℕ) (idle : List ℕ) (s t : ServerState) (q : Ranged) (words : List ℕ) (P : Block → Type 0) (Q : Type 0) (r : Result Block Short) → IfOk r (λ b. Grows n s b t × P b) → IfErr r (λ e. IsShort n s t e × Q) → StaysFilling n s t q words seat → Follows ghosts seat idle s t
grow_follows n seat idle s t q words P Q r g h st =
    let o = onward_either n s t P Q r g h in
    record {
      journal = (o.later, o.events);
      others = λ k ne. ap (of_seat ghosts k) o.events ∙ (filter-append _ s.journal.events o.later ∙ (ap (λ l. of_seat ghosts k s.journal.events ++ l) (o.others k) ∙ append-nil (of_seat ghosts k s.journal.events)));
      fixed = ap (λ (o : Options). o.size ∷ o.limit ∷ o.unit ∷ o.kind ∷ []) o.options;
      connected = λ k ne. ap (λ c. list_any (λ m. m == k) c.items) o.connected;
      tasks = λ k ne. inl (st.others k ne);
    }

abbrev pub may_grow_on : (words : List ℕ) (s : ServerState) (seat n : ℕ) (r : Ranged) → Sound words s → length words ≤ 8388608 → FillsOn seat n s r → MayGrowOn n s r
may_grow_on words s seat n r sound long fills = record {
  words = words;
  names = sound.0;
  whole = sound.1;
  long = subst (λ k. k ≤ 8388608) sound.1.sound.region long;
  seat = seat;
  fills = fills;
}

-- the fill, when ended streams of others were struck off
pub swept_fills : (own_ seat n : ℕ) (s t : ServerState) (r q : Ranged) (found : List FoundWord) → seat ≡ own_ → q ≡ r → IsSwept own_ s t found → FillsOn own_ n s r → FillsOn seat n t q
swept_fills own_ seat n s t r q found number hand sw f =
    let split = ap (λ j. j.events) sw.journal ∙ f.start.split in
    record {
      listed = subst (λ (p : ℕ × Ranged). listed_for p.0 (tasks_of t) ≡ own p.0 (task.Fill n) p.1.blocks) (λ i. (sym number i, sym hand i)) (sw.listed ∙ f.listed);
      start = record { who = f.start.who; key = f.start.key; tables = f.start.tables; earlier = f.start.earlier; later = f.start.later; split = split };
      more = subst (λ (x : Ranged). 8 * words_of x.blocks < length (unwrap_or (answer f.start.key (present f.start.earlier)) [])) (sym hand) f.more;
      room = subst (λ (p : Options × Ranged). p.0.size ≤ 512 * p.1.room) (λ i. (sym sw.options i, sym hand i)) f.room;
    }
