-- The entry of a start is put in, and the server stands at rest again.
use Rattle.std.proofs.Common.{◌≡◌, ◌≢◌, ℕ, zero, suc, ◌+◌, ◌-◌, ◌*◌, ◌/◌, ◌<◌, ◌≤◌, eqb, eq-eqb, ne_eqb, Bool, true, false, cond, List, [], ◌∷◌, ◌++◌, map, length, refl, sym, ap, subst, ◌∙◌, arith, true≢false, append_assoc, length-append, inl, inr, ⊎_elim, ◌⊎◌}
use Rattle.std.specs.Prelude.{not, ◌||◌, ◌==◌, Option, Some, None, IfSome, Contains, IsPermutation, is_some, is_none, find, option_and_then, slice_get, slice_set}
use Rattle.std.specs.List.{list_any, filter, flat_map, AllByRecursion}
use Rattle.std.proofs.lemmas.List.{length-map, map-append}
use Rattle.std.proofs.lemmas.List.Elements.{Contains-append_left, Contains-append_right, Contains-append_cases}
use Rattle.std.proofs.lemmas.List.Sorted.{IsPermutation-sym, IsPermutation-map, length_permutation}
use Rattle.std.proofs.lemmas.Option.{none-some}
use Rattle.qc_types.specs.declared.names.TableName.{TableName}
use Rattle.qc_types.specs.Blocks.{raised}
use Rattle.qc_key.specs.Hash.{hash}
use Rattle.qc_laws.specs.history.Runs.{are_distinct}
use Rattle.qc_laws.proofs.history.Events.{all_on, all_append}
use Rattle.qc_laws.proofs.history.Serials.{distinct_push, neither}
use Rattle.qc_laws.proofs.history.Stays.{answers_stay}
use Rattle.qc_model.specs.declared.events.Event.{Event}
use Rattle.qc_model.specs.declared.events.Event.TheVariants as event
use Rattle.qc_model.specs.declared.events.How.TheVariants as how
use Rattle.qc_model.specs.declared.events.Who.{Who}
use Rattle.qc_model.specs.Cache.{cache}
use Rattle.qc_model.specs.Choice.{start_count}
use Rattle.qc_model.specs.Journal.{event_count}
use Rattle.qc_model.specs.Licence.{MayStart, region_words, unit_words, words_of_bytes}
use Rattle.qc_tiles.specs.declared.blocks.Tile.{Tile}
use Rattle.qc_tiles.specs.declared.blocks.Block.{Block}
use Rattle.qc_tiles.specs.Tiles.{CoversFrom, block_of, handed_out, after_pin}
use Rattle.qc_tiles.proofs.Calls.{own_tiling}
use Rattle.qc_tiles.proofs.Keeps.{after_pin-tiling}
use Rattle.qc_chain.specs.Chains.{Chained, chain_at, empty_chain, whole_chain, with_chain, after_append}
use Rattle.qc_chain.specs.Chains.{Chain as Kept}
use Rattle.qc_chain.proofs.Releases.{in_front, in_first}
use Rattle.qc_dir.specs.declared.entries.Entry.{Entry}
use Rattle.qc_dir.specs.declared.tables.TableBlock.{TableBlock}
use Rattle.qc_dir.specs.Directory.{entry_at}
use Rattle.qc_turn.specs.declared.task.Task.{Task}
use Rattle.qc_turn.specs.declared.task.Task.TheVariants as task
use Rattle.qc_turn.specs.Tasks.{listed_for, own}
use Rattle.qc_sound.specs.PlainServer.{PlainServer, StoredEntry, EntryChain, SeatTask, has_chain, blocks_at, blocks_of, serial_of, listed_tasks}
use Rattle.qc_sound.specs.PlainServer.{has_serial as chain_has}
use Rattle.qc_sound.specs.Moment.{Moment, at_rest}
use Rattle.qc_sound.specs.Sound.{IsSound}
use Rattle.qc_sound.specs.Pending.{NeedsOf}
use Rattle.qc_sound.specs.parts.Contents.{text_of}
use Rattle.qc_sound.specs.parts.Memory.{TilesAreSound, TablesAreSound, ChainFits, blocks_in_use, blocks_of_tasks, pinned_blocks, names_table}
use Rattle.qc_sound.specs.parts.Tasks.{IsSeat, SeatTaskIsSound}
use Rattle.qc_sound.specs.steps.Starts.{chain_of, started, IsNewEntry}
use Rattle.qc_sound.specs.steps.Hits.{IsFreeSeat}
use Rattle.qc_sound.specs.steps.Listing.{ListsAlone}
use Rattle.qc_sound.specs.steps.Leaving.{filling}
use Rattle.qc_sound.proofs.Few.{are_few}
use Rattle.qc_sound.proofs.Fresh.{no_chain, no_entry}
use Rattle.qc_sound.proofs.Handed.{times, times_append, times_permuted, self_one, permuted, pin_hands, pin_pins}
use Rattle.qc_sound.proofs.Needs.{needs_close}
use Rattle.qc_sound.proofs.Starts.{start_step, start_lists}
use Rattle.qc_core.specs.declared.reserved_blocks.ReservedBlocks.{ReservedBlocks}
use Rattle.qc_core.specs.declared.start_blocks.Taken.{Taken}
use Rattle.qc_core.specs.declared.server_state.RunningTask.{RunningTask}
use Rattle.qc_core.specs.declared.server_state.ServerState.{ServerState}
use Rattle.qc_core.specs.Whole.{Named, is_named, IsNamedAs, chain_blocks, chain_bytes, chain_in, stored, table_pair, work_in, plain, tasks_of, IsNamed, ChainsHaveRoom, IsWhole, with_event}
use Rattle.qc_core.specs.KeptLaws.{tasks_same}
use Rattle.qc_core.specs.EntryRemoval.{table_blocks}
use Rattle.qc_core.specs.EntryStart.{HasStartRoom, new_entry, fill_of, AddsFill}
use Rattle.qc_core.specs.Allocation.{holds, starts, IsStarting}
use Rattle.qc_core.specs.FillGrowth.{MayAppend}
use Rattle.qc_core.specs.EntryInsertion.{MayAdd, IsAdded}
use Rattle.qc_core.proofs.Appending.{get_else}
use Rattle.qc_core.proofs.Handing.{hand_fresh}
use Rattle.qc_core.proofs.Noting.{alone, none_listed}
use Rattle.qc_core.proofs.OwnBlocks.{there_times, pair_blocks, use_count}
use Rattle.qc_core.proofs.Remaining.{words_left, any_on, any_names, apart_once}
use Rattle.qc_core.proofs.TaskRoom.{task_room}
use Rattle.qc_core.proofs.Uses.{begun_at}

-- ---- a block that is handed out lies within the region

pub block_within : (first end : ℕ) (ts : List Tile) (b : Block) → CoversFrom first end ts → Contains (handed_out ts) b → (first ≤ b.first) × (b.first + b.words ≤ end)
block_within first end [] b c h = absurd (omega (arith, h.1))
block_within first end (t ∷ ts) b c h = elim (not t.free) as (λ v. Contains (map block_of (cond v (t ∷ filter (λ t. not t.free) ts) (filter (λ t. not t.free) ts))) b → (first ≤ b.first) × (b.first + b.words ≤ end)) [
  | true ↦ λ k. ⊎_elim
      (λ (e : block_of t ≡ b).
      let place : t.first ≡ b.first = ap (λ (x : Block). x.first) e in
      let size : t.words ≡ b.words = ap (λ (x : Block). x.words) e in
      let rest = covers_end (first + t.words) end ts c.1 in
      (omega (arith, c.0, place), omega (arith, c.0, place, size, rest)))
      (λ (r : Contains (handed_out ts) b). later (block_within (first + t.words) end ts b c.1 r))
      (in_front b (block_of t) (handed_out ts) k)
  | false ↦ λ k. later (block_within (first + t.words) end ts b c.1 k)
] h
  where
    covers_end : (first end : ℕ) (ts : List Tile) → CoversFrom first end ts → first ≤ end
    covers_end first end [] c = omega (arith, c)
    covers_end first end (t ∷ ts) c = omega (arith, covers_end (first + t.words) end ts c.1)

    later : (first + t.words ≤ b.first) × (b.first + b.words ≤ end) → (first ≤ b.first) × (b.first + b.words ≤ end)
    later (low, high) = (omega (arith, low), high)

-- ---- a name that was free

get_put : {A : Type 0} (l : List A) (k : ℕ) (x v : A) → slice_get l k ≡ Some x → slice_get (slice_set l k v) k ≡ Some v
get_put [] k x v h = absurd (none-some x h)
get_put (y ∷ l) zero x v h = refl
get_put (y ∷ l) (suc k) x v h = get_put l k x v h

free_less : (l : List (Option Kept)) (k : ℕ) (c d : Kept) → slice_get l k ≡ Some None → length (filter (λ c. is_none c) (slice_set (slice_set l k (Some c)) k (Some d))) + 1 ≡ length (filter (λ c. is_none c) l)
free_less [] k c d h = absurd cc
free_less (None ∷ l) zero c d h = omega arith
free_less (Some x ∷ l) zero c d h = absurd cc
free_less (None ∷ l) (suc k) c d h = omega (arith, free_less l k c d h)
free_less (Some x ∷ l) (suc k) c d h = free_less l k c d h

free_there : (l : List (Option Kept)) → 0 < length (filter (λ c. is_none c) l) → Contains l None
free_there [] h = absurd (omega (arith, h))
free_there (None ∷ l) h = (0, omega arith, refl)
free_there (Some x ∷ l) h = let r = free_there l h in (suc r.0, omega (arith, r.1), r.2)

-- the chain of a free name, begun
pub name_begun : (cs : Chained) (n : ℕ) → slice_get cs.chains n ≡ Some None → chain_at n (with_chain n (Some empty_chain) cs) ≡ Some empty_chain
name_begun cs n free = ap (λ (o : Option (Option Kept)). option_and_then (λ x. x) o) (get_put cs.chains n None (Some empty_chain) free)

abbrev pub may_append_first : (s : ServerState) (cs : Chained) (n : ℕ) (t : Taken) (serial wide : ℕ) (hand : ReservedBlocks) → MayAdd serial hand t s wide → slice_get s.chains.chains n ≡ Some None → cs ≡ with_chain n (Some empty_chain) s.chains → MayAppend n t.first (record s { chains = cs }) wide
may_append_first s cs n t serial wide hand m free is = record {
  held = empty_chain;
  begun = subst (λ (x : Chained). chain_at n x ≡ Some empty_chain) (sym is) (name_begun s.chains n free);
  few = omega (arith, m.most);
  room = subst (λ (x : Chained). 0 < x.room) (sym is) m.chain_room;
  tiling = m.tiling;
  out = m.out;
  ranges = m.ranges;
}

-- ---- one chain more

at_old : (m : ℕ) (cs : List EntryChain) (d : EntryChain) → has_chain m cs ≡ true → blocks_at m (cs ++ d ∷ []) ≡ blocks_at m cs
at_old m [] d h = absurd (true≢false (sym h))
at_old m (c ∷ cs) d h = elim (eqb c.serial m) as (λ b. (b || has_chain m cs) ≡ true → cond b c.blocks (blocks_at m (cs ++ d ∷ [])) ≡ cond b c.blocks (blocks_at m cs)) [
  | true ↦ λ _. refl
  | false ↦ λ k. at_old m cs d k
] h

at_new : (n : ℕ) (cs : List EntryChain) (bs : List Block) → list_any (chain_has n) cs ≡ false → blocks_at n (cs ++ chain_of n bs ∷ []) ≡ bs
at_new n [] bs h = ap (λ b. cond b bs []) (eq-eqb n n refl)
at_new n (c ∷ cs) bs h = elim (eqb c.serial n) as (λ b. (b || list_any (chain_has n) cs) ≡ false → cond b c.blocks (blocks_at n (cs ++ chain_of n bs ∷ [])) ≡ bs) [
  | true ↦ λ k. absurd (true≢false k)
  | false ↦ λ k. at_new n cs bs k
] h

blocks_old : (cs : List EntryChain) (d : EntryChain) (t : Task) → IfSome (serial_of t) (λ m. has_chain m cs ≡ true) → blocks_of (cs ++ d ∷ []) t ≡ blocks_of cs t
blocks_old cs d task.Rest k = refl
blocks_old cs d (task.Stream m) k = at_old m cs d k
blocks_old cs d (task.Fill m) k = at_old m cs d k

tasks_more : (j : List Event) (cs : List EntryChain) (d : EntryChain) (w : SeatTask) (bs : List Block) (ws : List SeatTask) → AllByRecursion (SeatTaskIsSound j cs) ws → blocks_of (cs ++ d ∷ []) w.task ≡ bs
    → flat_map (λ w. blocks_of (cs ++ d ∷ []) w.task) (ws ++ w ∷ []) ≡ flat_map (λ w. blocks_of cs w.task) ws ++ (bs ++ [])
tasks_more j cs d w bs [] h is = ap (λ l. l ++ []) is
tasks_more j cs d w bs (v ∷ ws) h is =
    let f = λ (w : SeatTask). blocks_of cs w.task in
    (λ i. blocks_old cs d v.task h.0.chained i ++ tasks_more j cs d w bs ws h.1 is i) ∙ sym (append_assoc (f v) (flat_map f ws) (bs ++ []))

flat_more : (cs : List EntryChain) (d : EntryChain) → flat_map (λ c. c.blocks) (cs ++ d ∷ []) ≡ flat_map (λ c. c.blocks) cs ++ (d.blocks ++ [])
flat_more [] d = refl
flat_more (c ∷ cs) d = ap (λ l. c.blocks ++ l) (flat_more cs d) ∙ sym (append_assoc c.blocks (flat_map (λ c. c.blocks) cs) (d.blocks ++ []))

-- ---- names

find_old : {A : Type 0} (p : A → Bool) (xs ys : List A) (x : A) → find p xs ≡ Some x → find p (xs ++ ys) ≡ Some x
find_old p [] ys x h = absurd (none-some x h)
find_old p (y ∷ xs) ys x h = elim (p y) as (λ b. cond b (Some y) (find p xs) ≡ Some x → cond b (Some y) (find p (xs ++ ys)) ≡ Some x) [ true ↦ λ k. k | false ↦ λ k. find_old p xs ys x k ] h

find_new : (n number : ℕ) (xs : List Named) → list_any (is_named n) xs ≡ false → find (is_named n) (xs ++ record { serial = n; number = number } ∷ []) ≡ Some (record { serial = n; number = number })
find_new n number [] h = ap (λ b. cond b (Some (record { serial = n; number = number })) None) (eq-eqb n n refl)
find_new n number (x ∷ xs) h =
    let parts = neither (is_named n x) (list_any (is_named n) xs) h in
    ap (λ b. cond b (Some x) (find (is_named n) (xs ++ record { serial = n; number = number } ∷ []))) parts.0 ∙ find_new n number xs parts.1

any_named : (n : ℕ) (cs : Chained) (xs : List Named) → list_any (chain_has n) (map (chain_in cs) xs) ≡ list_any (is_named n) xs
any_named n cs [] = refl
any_named n cs (x ∷ xs) = ap (λ b. eqb x.serial n || b) (any_named n cs xs)

named_more : (names : List Named) (x : Named) (t : Task) (number : ℕ) → IfSome (serial_of t) (λ n. IsNamedAs names n number) → IfSome (serial_of t) (λ n. IsNamedAs (names ++ x ∷ []) n number)
named_more names x task.Rest number h = tt
named_more names x (task.Stream n) number h = find_old (is_named n) names (x ∷ []) _ h
named_more names x (task.Fill n) number h = find_old (is_named n) names (x ∷ []) _ h

-- ---- room

chains_many : (o : _) (j : List Event) (cs : List EntryChain) → AllByRecursion (ChainFits o j) cs → length cs ≤ length (flat_map (λ c. c.blocks) cs)
chains_many o j [] h = omega arith
chains_many o j (c ∷ cs) h = omega (arith, h.0.first, chains_many o j cs h.1, length-append c.blocks (flat_map (λ c. c.blocks) cs))

pub serial_absent : (n : ℕ) (cs : Chained) (es : List Entry) → AllByRecursion (λ e. eqb e.serial n ≡ false) (map (stored cs) es) → entry_at n es ≡ None
serial_absent n cs [] h = refl
serial_absent n cs (e ∷ es) h = ap (λ b. cond b (Some e) (entry_at n es)) h.0 ∙ serial_absent n cs es h.1

module _ (who : Who) (serial : ℕ) (key : List ℕ) (tables : List TableName) (hand : ReservedBlocks) (t : Taken) (words : List ℕ) (s : ServerState) (st : IsStarting (starts who serial key tables) words [] (t.text ∷ t.first ∷ []) hand s) where
  abbrev p : PlainServer
  p = plain st.names s

  abbrev others : List Block
  others = t.text ∷ t.first ∷ []

  abbrev held : List Block
  held = table_blocks hand.fresh ++ others

  abbrev m : Moment
  m = holds (starts who serial key tables) held

  abbrev flat : List Block
  flat = flat_map (λ (c : EntryChain). c.blocks) p.chains

  held_long : length held ≡ length hand.fresh + 2
  held_long = omega (arith, length-append (table_blocks hand.fresh) others, length-map hand.fresh (λ (b : TableBlock). b.block))

  hands : (b : Block) → times b (handed_out s.tiles) ≡ (times b (table_blocks hand.fresh) + (times b (t.text ∷ []) + times b (t.first ∷ []))) + times b (blocks_in_use p)
  hands b = omega (arith, times_permuted b (handed_out s.tiles) (held ++ blocks_in_use p) st.whole.sound.memory.tiles.in_use, times_append b held (blocks_in_use p), times_append b (table_blocks hand.fresh) others, times_append b (t.text ∷ []) (t.first ∷ []))

  pub text_held : Contains (handed_out s.tiles) t.text
  text_held = there_times t.text (handed_out s.tiles) (omega (arith, hands t.text, self_one t.text))

  pub first_held : Contains (handed_out s.tiles) t.first
  first_held = there_times t.first (handed_out s.tiles) (omega (arith, hands t.first, self_one t.first))

  module _ (above : serial ≡ start_count s.journal.events + 1) where
    chainless : list_any (chain_has serial) p.chains ≡ false
    chainless = no_chain s.options s.journal.events serial p.chains st.whole.sound.journal.lawful (omega (arith, above)) st.whole.sound.memory.chains.fitting

    absent : entry_at serial s.dir.entries ≡ None
    absent = serial_absent serial s.chains s.dir.entries (no_entry m s.options s.journal.events serial p.entries (cache s.journal.events) st.whole.sound.journal.lawful (omega (arith, above)) st.whole.sound.directory (answers_stay s.options s.journal.events st.whole.sound.journal.lawful))

    pub may_add : (wide : ℕ) → s.options.size ≤ 512 * wide → region_words s.options ≤ 8388608 → 0 < s.tasks.room → MayAdd serial hand t s wide
    may_add wide size long tasks =
        let few = are_few m words p st.whole.sound in
        let many = chains_many p.options p.journal p.chains st.whole.sound.memory.chains.fitting in
        let named = length-map st.names (chain_in s.chains) in
        let entered = length-map s.dir.entries (stored s.chains) in
        let tabled = length-map s.dir.tables table_pair in
        let w = st.whole in
        let within = block_within 0 (region_words s.options) s.tiles t.first w.sound.memory.tiles.tiling.covers first_held in
        let eighth : 8 * (s.options.size / 8) ≤ s.options.size = omega arith in
        record {
          name = free_there s.chains.chains (omega (arith, w.room.chains.free, few.blocks, held_long, many, named));
          chain_room = omega (arith, w.room.chains.blocks, few.blocks, held_long);
          most = omega (arith, within.1, long);
          tiling = own_tiling (region_words s.options) s.tiles w.sound.memory.tiles.tiling;
          out = first_held;
          ranges = omega (arith, few.blocks, held_long, size, eighth);
          absent = absent;
          few = st.hand.few;
          room = omega (arith, w.room.entries, few.blocks, held_long, few.chained, entered);
          table_room = omega (arith, w.room.tables, few.blocks, held_long, tabled);
          fresh = λ e same. hand_fresh hand s.dir.tables e st.hand same;
          task_room = tasks;
        }

    module _ (seat : ℕ) (new : ServerState) (a : IsAdded seat serial key hand t s new) where
      abbrev name : ℕ
      name = a.name

      abbrev cs : Chained
      cs = after_append name t.first empty_chain (with_chain name (Some empty_chain) s.chains)

      abbrev own_name : Named
      own_name = record { serial = serial; number = name }

      abbrev pub names : List Named
      names = st.names ++ own_name ∷ []

      own_chain : chain_at name cs ≡ Some (whole_chain (t.first ∷ []))
      own_chain = ap (λ (o : Option (Option Kept)). option_and_then (λ x. x) o) (get_put (slice_set s.chains.chains name (Some empty_chain)) name (Some empty_chain) (Some (whole_chain (t.first ∷ []))) (get_put s.chains.chains name None (Some empty_chain) a.free))

      else_chain : (k : ℕ) → k ≢ name → chain_at k cs ≡ chain_at k s.chains
      else_chain k ne = ap (λ (o : Option (Option Kept)). option_and_then (λ x. x) o) (get_else (slice_set s.chains.chains name (Some empty_chain)) name k (Some (whole_chain (t.first ∷ []))) ne ∙ get_else s.chains.chains name k (Some empty_chain) ne)

      -- the names are others
      begun_else : (k : ℕ) → is_some (chain_at k s.chains) ≡ true → k ≢ name
      begun_else k h e =
          let none : chain_at k s.chains ≡ None = ap (λ i. chain_at i s.chains) e ∙ ap (λ (o : Option (Option Kept)). option_and_then (λ x. x) o) a.free in
          true≢false (sym h ∙ ap is_some none)

      chains_old : (xs : List Named) → AllByRecursion (λ x. is_some (chain_at x.number s.chains) ≡ true) xs → map (chain_in cs) xs ≡ map (chain_in s.chains) xs
      chains_old [] h = refl
      chains_old (x ∷ xs) h = λ i. record { serial = x.serial; blocks = chain_blocks (else_chain x.number (begun_else x.number h.0) i) } ∷ chains_old xs h.1 i

      named_else : (n k : ℕ) → IsNamedAs st.names n k → k ≢ name
      named_else n k h = let c = begun_at st.names s n k st.whole.named h in begun_else k (ap is_some c.1)

      entries_old : (es : List Entry) → AllByRecursion (λ e. IsNamedAs st.names e.serial e.chain.number) es → map (stored cs) es ≡ map (stored s.chains) es
      entries_old [] h = refl
      entries_old (e ∷ es) h = λ i. record { serial = e.serial; hash = e.hash; text = e.text; text_bytes = e.text_bytes; tables = e.tables; bytes = chain_bytes (else_chain e.chain.number (named_else e.serial e.chain.number h.0) i); complete = e.complete; users = e.users } ∷ entries_old es h.1 i

      abbrev entry : Entry
      entry = new_entry serial key hand.tables t.text name

      abbrev kept : StoredEntry
      kept = stored cs entry

      abbrev ev : Event
      ev = event.Run who (how.Start serial key hand.tables)

      abbrev so : ServerState
      so = record s {
        dir = new.dir;
        chains = cs;
        tiles = after_pin true t.first.first s.tiles;
        tasks = record { items = s.tasks.items ++ fill_of seat serial name ∷ []; room = s.tasks.room - 1 };
      }

      abbrev then : PlainServer
      then = started who key seat kept t.first (map table_pair new.dir.tables) (after_pin true t.first.first s.tiles) p

      plain_is : plain names (with_event ev so) ≡ then
      plain_is =
          let entries : map (stored cs) new.dir.entries ≡ p.entries ++ kept ∷ [] = ap (map (stored cs)) a.dir.entries ∙ (map-append (stored cs) s.dir.entries (entry ∷ []) ∙ ap (λ l. l ++ kept ∷ []) (entries_old s.dir.entries st.whole.named.entries)) in
          let last : chain_in cs own_name ≡ chain_of serial (t.first ∷ []) = λ i. record { serial = serial; blocks = chain_blocks (own_chain i) } in
          let chains : map (chain_in cs) names ≡ p.chains ++ chain_of serial (t.first ∷ []) ∷ [] = map-append (chain_in cs) st.names (own_name ∷ []) ∙ (λ i. chains_old st.names st.whole.named.begun i ++ last i ∷ []) in
          let tasks : map work_in (s.tasks.items ++ fill_of seat serial name ∷ []) ≡ p.tasks ++ filling seat serial ∷ [] = map-append work_in s.tasks.items (fill_of seat serial name ∷ []) in
          λ i. record {
            options = s.options;
            journal = s.journal.events ++ ev ∷ [];
            spare = s.journal.spare - 1;
            database = s.database;
            entries = entries i;
            chains = chains i;
            table_blocks = map table_pair new.dir.tables;
            tiles = after_pin true t.first.first s.tiles;
            connected = s.connected.items;
            tasks = tasks i;
          }

      -- ---- the blocks

      tables_join : (b : Block) → times b (map (λ b. b.1) (map table_pair new.dir.tables)) ≡ times b (table_blocks hand.fresh) + times b (map (λ b. b.1) p.table_blocks)
      tables_join b =
          let now = ap (times b) (pair_blocks new.dir.tables) in
          let was = ap (times b) (pair_blocks s.dir.tables) in
          let moved = times_permuted b (table_blocks new.dir.tables) (table_blocks (hand.fresh ++ s.dir.tables)) (blocks_permuted new.dir.tables (hand.fresh ++ s.dir.tables) a.dir.tables) in
          let split = ap (times b) (map-append (λ (x : TableBlock). x.block) hand.fresh s.dir.tables) in
          omega (arith, now, was, moved, split, times_append b (table_blocks hand.fresh) (table_blocks s.dir.tables))
        where
          blocks_permuted : (xs ys : List TableBlock) → IsPermutation xs ys → IsPermutation (table_blocks xs) (table_blocks ys)
          blocks_permuted xs ys h = IsPermutation-map (λ (x : TableBlock). x.block) xs ys h

      then_use : (b : Block) → times b (blocks_in_use then) ≡ (times b (table_blocks hand.fresh) + (times b (t.text ∷ []) + times b (t.first ∷ []))) + times b (blocks_in_use p)
      then_use b =
          let texts = ap (times b) (map-append (λ (e : StoredEntry). e.text) p.entries (kept ∷ [])) in
          let chains = ap (times b) (flat_more p.chains (chain_of serial (t.first ∷ []))) in
          omega (arith, use_count b then, use_count b p, texts, times_append b (map (λ (e : StoredEntry). e.text) p.entries) (t.text ∷ []), tables_join b, chains, times_append b flat (t.first ∷ []))

      abbrev us : List Tile
      us = after_pin true t.first.first s.tiles

      tiled : TilesAreSound (at_rest hash) then
      tiled =
          let w = st.whole.sound.memory.tiles in
          let same = pin_hands (region_words s.options) s.tiles t.first true w.tiling first_held in
          let pins = λ (x : Block). pin_pins (region_words s.options) s.tiles t.first x w.tiling first_held in
          let fills = tasks_more s.journal.events p.chains (chain_of serial (t.first ∷ [])) (filling seat serial) (t.first ∷ []) p.tasks st.whole.sound.tasks.each (at_new serial p.chains (t.first ∷ []) chainless) in
          record {
            tiling = after_pin-tiling (region_words s.options) t.first.first true s.tiles w.tiling;
            in_use = permuted (handed_out us) (blocks_in_use then) (λ b. omega (arith, ap (times b) same, hands b, then_use b));
            pinned = λ x. (
              λ k. subst (λ l. Contains l x) (sym fills) (⊎_elim
                  (λ (o : Contains (pinned_blocks s.tiles) x). Contains-append_left (blocks_of_tasks p) (t.first ∷ []) x ((w.pinned x).0 o))
                  (λ (e : x ≡ t.first). Contains-append_right (blocks_of_tasks p) (t.first ∷ []) x (subst (λ y. Contains (t.first ∷ []) y) (sym e) (in_first t.first [])))
                  ((pins x).0 k)),
              λ k. (pins x).1 (⊎_elim
                  (λ (o : Contains (blocks_of_tasks p) x). inl ((w.pinned x).1 o))
                  (λ (o : Contains (t.first ∷ []) x). ⊎_elim (λ (e : t.first ≡ x). inr (sym e)) (λ (z : Contains [] x). absurd (omega (arith, z.1))) (in_front x t.first [] o))
                  (Contains-append_cases (blocks_of_tasks p) (t.first ∷ []) x (subst (λ l. Contains l x) fills k))),
            );
          }

      tabled : TablesAreSound then
      tabled = record {
        named = λ q.
            ap (list_any (names_table q)) (sym (ap (λ (z : PlainServer). z.entries) plain_is)) ∙ (any_names q cs new.dir.entries ∙ (a.valid.named q ∙ sym (any_on q new.dir.tables)));
        once = apart_once new.dir.tables a.valid.once;
        words = words_left (hand.fresh ++ s.dir.tables) [] new.dir.tables (IsPermutation-sym new.dir.tables (hand.fresh ++ s.dir.tables) a.dir.tables) (pairs_join hand.fresh s.dir.tables st.small st.whole.sound.memory.tables.words);
      }
        where
          pairs_join : (xs ys : List TableBlock) → AllByRecursion (λ b. b.block.words ≤ 127) xs → AllByRecursion (λ b. b.1.words ≤ 127) (map table_pair ys) → AllByRecursion (λ b. b.1.words ≤ 127) (map table_pair (xs ++ ys))
          pairs_join [] ys h k = k
          pairs_join (x ∷ xs) ys h k = (h.0, pairs_join xs ys h.1 k)

      -- ---- the names, and room

      named : IsNamed names so
      named = record {
        begun = all_append (λ x. is_some (chain_at x.number cs) ≡ true) st.names (own_name ∷ [])
            (all_on (λ x. is_some (chain_at x.number s.chains) ≡ true) (λ x. is_some (chain_at x.number cs) ≡ true) st.names (λ x k. ap is_some (else_chain x.number (begun_else x.number k)) ∙ k) st.whole.named.begun) (ap is_some own_chain, tt);
        numbers = ap are_distinct (map-append (λ (x : Named). x.number) st.names (own_name ∷ [])) ∙ distinct_push name (map (λ (x : Named). x.number) st.names) st.whole.named.numbers (not_named st.names st.whole.named.begun);
        entries = subst (AllByRecursion (λ (e : Entry). IsNamedAs names e.serial e.chain.number)) (sym a.dir.entries)
            (all_append (λ (e : Entry). IsNamedAs names e.serial e.chain.number) s.dir.entries (entry ∷ []) (all_on (λ (e : Entry). IsNamedAs st.names e.serial e.chain.number) (λ e. IsNamedAs names e.serial e.chain.number) s.dir.entries (λ e k. find_old (is_named e.serial) st.names (own_name ∷ []) _ k) st.whole.named.entries) (find_own, tt));
        tasks = all_append (λ (w : RunningTask). IfSome (serial_of w.task) (λ n. IsNamedAs names n w.chain.number)) s.tasks.items (fill_of seat serial name ∷ [])
            (all_on (λ (w : RunningTask). IfSome (serial_of w.task) (λ n. IsNamedAs st.names n w.chain.number)) (λ w. IfSome (serial_of w.task) (λ n. IsNamedAs names n w.chain.number)) s.tasks.items (λ w k. named_more st.names own_name w.task w.chain.number k) st.whole.named.tasks) (find_own, tt);
      }
        where
          find_own : IsNamedAs names serial name
          find_own = find_new serial name st.names (sym (any_named serial s.chains st.names) ∙ chainless)

          not_named : (xs : List Named) → AllByRecursion (λ x. is_some (chain_at x.number s.chains) ≡ true) xs → list_any (λ m. m == name) (map (λ (x : Named). x.number) xs) ≡ false
          not_named [] h = refl
          not_named (x ∷ xs) h = ap (λ b. b || list_any (λ m. m == name) (map (λ (x : Named). x.number) xs)) (ne_eqb x.number name (begun_else x.number h.0)) ∙ not_named xs h.1

      chains_room : ChainsHaveRoom names cs (region_words s.options)
      chains_room =
          let few = are_few m words p st.whole.sound in
          let last : chain_in cs own_name ≡ chain_of serial (t.first ∷ []) = λ i. record { serial = serial; blocks = chain_blocks (own_chain i) } in
          let chains : map (chain_in cs) names ≡ p.chains ++ chain_of serial (t.first ∷ []) ∷ [] = map-append (chain_in cs) st.names (own_name ∷ []) ∙ (λ i. chains_old st.names st.whole.named.begun i ++ last i ∷ []) in
          let blocks = ap (λ (l : List EntryChain). length (flat_map (λ c. c.blocks) l)) chains in
          let more = ap (λ (l : List Block). length l) (flat_more p.chains (chain_of serial (t.first ∷ []))) in
          record {
            blocks = omega (arith, blocks, more, length-append flat (t.first ∷ []), st.whole.room.chains.blocks, few.blocks, held_long);
            free = omega (arith, length-append st.names (own_name ∷ []), free_less s.chains.chains name empty_chain (whole_chain (t.first ∷ [])) a.free, st.whole.room.chains.free);
          }

      module _ (text : text_of words (t.text ∷ []) (length key) ≡ key) (room : HasStartRoom s) (may : MayStart s.options s.journal.events serial key tables) (same : hand.tables ≡ tables) (seated : IsSeat seat) (session : who.session ≡ seat - 1)
          (number : who.number ≡ event_count s.journal.events who.session + 1) (free : listed_for seat (tasks_of s) ≡ []) (full : unit_words s.options ≤ t.first.words) (small : t.first.words ≤ unit_words s.options + 63) (fits : t.text.words ≤ raised (words_of_bytes (length key)) + 63) (some : 0 < s.tasks.room) where
        free_seat : IsFreeSeat who seat p
        free_seat = record { number = seated; session = session; rests = none_listed s.chains seat s.tasks.items free }

        is_new : IsNewEntry m p.options words key kept t.first
        is_new = record { hashed = refl; text_bytes = refl; spelled = text; text = fits; incomplete = refl; unused = refl; full = full; small = small }

        then_sound : IsSound (at_rest hash) words then
        then_sound =
            let alone_ = alone words st.names m s who ev seat st.whole (omega (arith, seated.low)) refl session number free in
            let may_ = subst (λ ts. MayStart s.options s.journal.events serial key ts) (sym same) may in
            let needs = subst (λ ts. NeedsOf s.options (Some (event.Run who (how.Start serial key ts))) s.journal.events) (sym same) st.whole.sound.journal.needs in
            start_step m words p who key seat kept t.first (map table_pair new.dir.tables) us st.whole.sound (alone_.decides, may_) (needs_close s.options s.journal.events ev needs tt) room free_seat is_new tiled tabled

        so_whole : IsWhole (at_rest hash) names words (with_event ev so)
        so_whole = record {
          named = record { begun = named.begun; numbers = named.numbers; entries = named.entries; tasks = named.tasks };
          sound = subst (IsSound (at_rest hash) words) (sym plain_is) then_sound;
          directory = a.valid;
          seats = record { once = st.whole.seats.once; room = st.whole.seats.room; task_room = omega (arith, st.whole.seats.task_room, some, length-append s.tasks.items (fill_of seat serial name ∷ [])) };
          room = record {
            entries = omega (arith, st.whole.room.entries, a.dir.room, ap (λ (l : List Entry). length l) a.dir.entries, length-append s.dir.entries (entry ∷ []));
            tables = omega (arith, st.whole.room.tables, a.dir.table_room, length_permutation new.dir.tables (hand.fresh ++ s.dir.tables) a.dir.tables, length-append hand.fresh s.dir.tables);
            chains = chains_room;
            unpinner = st.whole.room.unpinner;
          };
        }

        lists : ListsAlone seat (task.Fill serial) p then
        lists = start_lists m words p who key seat kept t.first (map table_pair new.dir.tables) us st.whole.sound free_seat

        tasks_are : tasks_of (with_event ev so) ≡ listed_tasks then
        tasks_are = tasks_same names (with_event ev so) so_whole.named ∙ ap listed_tasks plain_is

        pub added_whole : (v : ServerState) → v ≡ with_event ev new → IsWhole (at_rest hash) names words v
        added_whole v is = subst (IsWhole (at_rest hash) names words) (sym (is ∙ ap (with_event ev) a.server)) so_whole

        pub added_others : (v : ServerState) → v ≡ with_event ev new → (k : ℕ) → k ≢ seat → listed_for k (tasks_of v) ≡ listed_for k (tasks_of s)
        added_others v is k ne =
            ap (λ (x : ServerState). listed_for k (tasks_of x)) (is ∙ ap (with_event ev) a.server) ∙ (ap (listed_for k) tasks_are ∙ (lists.others k ne ∙ ap (listed_for k) (sym (tasks_same st.names s st.whole.named))))

        pub added_alone : (v : ServerState) → v ≡ with_event ev new → listed_for seat (tasks_of v) ≡ own seat (task.Fill serial) (t.first ∷ [])
        added_alone v is =
            ap (λ (x : ServerState). listed_for seat (tasks_of x)) (is ∙ ap (with_event ev) a.server) ∙ (ap (listed_for seat) tasks_are ∙ (lists.alone ∙ ap (own seat (task.Fill serial)) (at_new serial p.chains (t.first ∷ []) chainless)))

        pub adds_so : (v : ServerState) → v ≡ with_event ev new → AddsFill seat serial key tables t.first t.text s v
        adds_so v is =
            let v_is = is ∙ ap (with_event ev) a.server in
            record {
              chain = name;
              free = a.free;
              entries = ap (λ (x : ServerState). x.dir.entries) v_is ∙ (a.dir.entries ∙ ap (λ ts. s.dir.entries ++ new_entry serial key ts t.text name ∷ []) same);
              server = v_is ∙ (λ i. record so { journal = (sym v_is i).journal; dir = (sym v_is i).dir });
            }
