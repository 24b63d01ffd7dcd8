-- An entry is pruned, and the blocks of the own tables of a start are kept.
use Rattle.std.proofs.Common.{◌≡◌, ℕ, ◌+◌, ◌-◌, ◌<◌, ◌≤◌, List, [], ◌∷◌, ◌++◌, map, length, refl, sym, ap, subst, ◌∙◌, arith, append_assoc, length-append}
use Rattle.std.specs.Prelude.{Some, IsPermutation}
use Rattle.std.specs.List.{AllByRecursion}
use Rattle.std.proofs.lemmas.List.{length-map, map-append}
use Rattle.std.proofs.lemmas.List.Sorted.{IsPermutation-trans, IsPermutation-append_comm, IsPermutation-append_left}
use Rattle.std.proofs.lemmas.Option.{same_Some}
use Rattle.qc_model.specs.declared.events.Event.{Event}
use Rattle.qc_model.specs.declared.events.Event.TheVariants as event
use Rattle.qc_model.specs.Cache.{cache}
use Rattle.qc_model.specs.Licence.{IsLicensed, unit_words, word_bound}
use Rattle.qc_tiles.specs.declared.blocks.Tile.{Tile}
use Rattle.qc_tiles.specs.declared.blocks.Block.{Block}
use Rattle.qc_tiles.specs.Tiles.{handed_out, largest_free}
use Rattle.qc_chain.specs.Chains.{Chain, chain_at, after_release}
use Rattle.qc_dir.specs.declared.entries.Entry.{Entry}
use Rattle.qc_dir.specs.declared.tables.TableBlock.{TableBlock}
use Rattle.qc_dir.specs.Directory.{IsDirectory, oldest_idle}
use Rattle.qc_sound.specs.PlainServer.{is_stored}
use Rattle.qc_sound.specs.Moment.{Moment}
use Rattle.qc_sound.specs.Pending.{NeedsOf}
use Rattle.qc_sound.specs.parts.Journal.{reserved}
use Rattle.qc_sound.specs.parts.Memory.{TilesAreSound, blocks_in_use}
use Rattle.qc_sound.specs.steps.Holding.{with_tiles}
use Rattle.qc_sound.specs.steps.Leaving.{left}
use Rattle.qc_sound.proofs.Grounds.{prunes_oldest}
use Rattle.qc_sound.proofs.Handed.{times, times_append, times_permuted, permuted}
use Rattle.qc_sound.proofs.Holding.{hold_step}
use Rattle.qc_sound.proofs.Needs.{needs_prune}
use Rattle.qc_core.specs.declared.reserved_blocks.ReservedBlocks.{ReservedBlocks}
use Rattle.qc_core.specs.declared.server_state.ServerState.{ServerState}
use Rattle.qc_core.specs.Whole.{Named, stored, table_pair, plain, tasks_of, with_event, IsWhole}
use Rattle.qc_core.specs.EntryRemoval.{MayLeave, Leaves, left_by, own_blocks, free_chain, has_task, table_blocks}
use Rattle.qc_core.specs.EntriesCut.{cut}
use Rattle.qc_core.specs.BlocksReserved.{IsInHand}
use Rattle.qc_core.specs.Allocation.{holds, MayKeep, LeavesKeeping, MayTakeOne, PrunesKeeping}
use Rattle.qc_core.proofs.Allocating.{held_small, less_reserved}
use Rattle.qc_core.proofs.Cutting.{whole_blocks, count, tiles_after}
use Rattle.qc_core.proofs.OwnBlocks.{pair_blocks, use_count}
use Rattle.qc_core.proofs.Remaining.{words_left}
use Rattle.qc_core.proofs.Striking.{any_in}
use Rattle.qc_core.proofs.Pruned.{Oldest, may_leave, oldest_of, pruned_whole, pruned_tasks, names_left, after_plain}
use Rattle.qc_core.proofs.Handing.{hand_keeps, hand_room, hand_few}
use Rattle.qc_core.proofs.TheirBlocks.{prune_keeps}

-- ---- other tiles under the same server

pub retiled : (m : Moment) (held : List Block) (names : List Named) (words : List ℕ) (s : ServerState) (tiles : List Tile) → IsWhole m names words s → TilesAreSound (record m { held = held }) (with_tiles tiles (plain names s)) → IsWhole (record m { held = held }) names words (record s { tiles = tiles })
retiled m held names words s tiles w sound = record {
  named = record { begun = w.named.begun; numbers = w.named.numbers; entries = w.named.entries; tasks = w.named.tasks };
  sound = hold_step m m.next held words (plain names s) tiles w.sound w.sound.journal.needs sound;
  directory = w.directory;
  seats = record { once = w.seats.once; room = w.seats.room; task_room = w.seats.task_room };
  room = record { entries = w.room.entries; tables = w.room.tables; chains = w.room.chains; unpinner = w.room.unpinner };
}

-- the same blocks are held, in another order
pub reheld : (m : Moment) (held : List Block) (names : List Named) (words : List ℕ) (s : ServerState) → IsWhole m names words s → ((b : Block) → times b held ≡ times b m.held) → IsWhole (record m { held = held }) names words s
reheld m held names words s w same =
    let p = plain names s in
    let t = w.sound.memory.tiles in
    retiled m held names words s s.tiles w (record {
      tiling = t.tiling;
      in_use = permuted (handed_out s.tiles) (held ++ blocks_in_use p) (λ b. omega (arith, times_permuted b (handed_out s.tiles) (m.held ++ blocks_in_use p) t.in_use, times_append b m.held (blocks_in_use p), times_append b held (blocks_in_use p), same b));
      pinned = t.pinned;
    })

-- ---- what is held is few and small

all_blocks : (P : Block → Type 0) (ts : List TableBlock) → AllByRecursion (λ t. P t.block) ts → AllByRecursion P (table_blocks ts)
all_blocks P [] h = tt
all_blocks P (t ∷ ts) h = (h.0, all_blocks P ts h.1)

all_on : {A : Type 0} (P Q : A → Type 0) (xs : List A) → ((x : A) → P x → Q x) → AllByRecursion P xs → AllByRecursion Q xs
all_on P Q [] f h = tt
all_on P Q (x ∷ xs) f h = (f x h.0, all_on P Q xs f h.1)

all_join : {A : Type 0} (P : A → Type 0) (xs ys : List A) → AllByRecursion P xs → AllByRecursion P ys → AllByRecursion P (xs ++ ys)
all_join P [] ys h k = k
all_join P (x ∷ xs) ys h k = (h.0, all_join P xs ys h.1 k)

module _ (need : ℕ) (hand : ReservedBlocks) (s : ServerState) (u : MayTakeOne need hand s) where
  abbrev held : List Block
  held = table_blocks hand.fresh ++ u.others

  abbrev m : Moment
  m = holds u.next held

  pub held_few : length held ≤ 9
  held_few = omega (arith, length-append (table_blocks hand.fresh) u.others, length-map hand.fresh (λ (t : TableBlock). t.block), hand_few hand u.missing s.dir.tables u.starting.hand, u.few)

  pub held_low : AllByRecursion (λ b. b.words ≤ word_bound s.options s.journal.events need) held
  held_low =
      let least = u.starting.whole.sound.rounded.least in
      held_small s.options s.journal.events need held
      (all_join (λ (b : Block). b.words ≤ unit_words s.options + 63) (table_blocks hand.fresh) u.others
      (all_blocks (λ b. b.words ≤ unit_words s.options + 63) hand.fresh (all_on (λ (t : TableBlock). t.block.words ≤ 127) (λ t. t.block.words ≤ unit_words s.options + 63) hand.fresh (λ t k. omega (arith, k, least)) u.starting.small))
      u.small)

  pub may_keep : (n : ℕ) → MayKeep n hand s
  may_keep n freed rest left = hand_room hand u.missing s.dir.tables freed rest u.starting.hand left

  pub leave_one : (n : ℕ) → oldest_idle s.dir.entries ≡ Some n → MayLeave n s
  leave_one n oldest = may_leave m u.words u.starting.names s n u.starting.whole (oldest_of m u.words u.starting.names s n u.starting.whole oldest).idle

  pub keep_spare : (t : ServerState) (after : ReservedBlocks) (n : ℕ) → oldest_idle s.dir.entries ≡ Some n → ((w : MayLeave n s) → LeavesKeeping n w.entry w.held hand after s t) → 1 ≤ t.journal.spare
  keep_spare t after n oldest leaves =
      let room = (oldest_of m u.words u.starting.names s n u.starting.whole oldest).room in
      omega (arith, room, ap (λ (x : ServerState). x.journal.spare) (leaves (leave_one n oldest)).server)

  module _ (small : largest_free s.tiles < need) where
    module _ (t v : ServerState) (after : ReservedBlocks) (n largest : ℕ) (oldest : oldest_idle s.dir.entries ≡ Some n) (size : largest ≡ largest_free s.tiles) (leaves : (w : MayLeave n s) → LeavesKeeping n w.entry w.held hand after s t) (valid : IsDirectory t.dir) (pushed : v ≡ with_event (event.Prune n need largest) t) where
      o : Oldest m u.words u.starting.names s n
      o = oldest_of m u.words u.starting.names s n u.starting.whole oldest

      abbrev e : Entry
      e = o.idle.entry

      abbrev chain : Chain
      chain = o.idle.held

      gone : LeavesKeeping n e chain hand after s t
      gone = leaves (may_leave m u.words u.starting.names s n u.starting.whole o.idle)

      -- as if all freed blocks were given back
      abbrev all : ServerState
      all = left_by t.dir (has_task n s) e chain gone.freed s

      abbrev ev : Event
      ev = event.Prune n need largest

      all_left : Leaves n e chain gone.freed s all
      all_left = record { removed = gone.removed; server = refl }

      licensed : IsLicensed s.options s.journal.events ev
      licensed =
          let licence = prunes_oldest m u.words (plain u.starting.names s) (stored s.chains e) need u.starting.whole.sound held_few held_low small o.found in
          subst (λ (q : ℕ × ℕ). IsLicensed s.options s.journal.events (event.Prune q.0 need q.1)) (λ i. (o.serial i, sym size i)) licence

      needs : NeedsOf s.options m.next (s.journal.events ++ ev ∷ [])
      needs = needs_prune s.options s.journal.events m.next n need largest u.starting.whole.sound.journal.needs u.needs

      abbrev names : List Named
      names = names_left m u.words u.starting.names s n u.starting.whole o.idle all need largest gone.freed all_left valid

      all_whole : IsWhole m names u.words (with_event ev all)
      all_whole = pruned_whole m u.words u.starting.names s n u.starting.whole o.idle all need largest gone.freed all_left valid licensed needs

      all_plain : plain names (with_event ev all) ≡ left ev (is_stored n) all.tiles (map table_pair t.dir.tables) (plain u.starting.names s)
      all_plain = after_plain m u.words u.starting.names s n u.starting.whole o.idle all need largest gone.freed all_left valid

      -- the tables that are kept count as named at first
      split : IsPermutation s.dir.tables (gone.others ++ (gone.kept ++ t.dir.tables))
      split =
          let rest = t.dir.tables in
          let swapped = IsPermutation-trans gone.freed (gone.kept ++ gone.others) (gone.others ++ gone.kept) gone.parts (IsPermutation-append_comm gone.kept gone.others) in
          subst (IsPermutation s.dir.tables) (append_assoc gone.others gone.kept rest) (IsPermutation-trans s.dir.tables (gone.freed ++ rest) ((gone.others ++ gone.kept) ++ rest) gone.removed.tables (IsPermutation-append_left rest gone.freed (gone.others ++ gone.kept) swapped))

      tiles_is : t.tiles ≡ after_release (own_blocks (free_chain (has_task n s) chain) e gone.others) s.tiles
      tiles_is = ap (λ (x : ServerState). x.tiles) gone.server

      named : TilesAreSound m (cut (is_stored n) t.tiles (map table_pair (gone.kept ++ t.dir.tables)) (plain u.starting.names s))
      named =
          let b = whole_blocks m u.starting.names u.words s u.starting.whole in
          tiles_after m u.starting.names s n b e chain o.idle.there o.idle.begun (free_chain (has_task n s) chain) (count m u.starting.names s n b e chain o.idle.there o.idle.begun (has_task n s) (sym (any_in n s.tasks.items))) t.tiles gone.others (gone.kept ++ t.dir.tables) split tiles_is

      abbrev held_now : List Block
      held_now = table_blocks after.fresh ++ u.others

      fresh_is : table_blocks after.fresh ≡ table_blocks hand.fresh ++ table_blocks gone.kept
      fresh_is = ap (λ (h : ReservedBlocks). table_blocks h.fresh) gone.hand ∙ map-append (λ (t : TableBlock). t.block) hand.fresh gone.kept

      pairs_join : (b : Block) → times b (map (λ b. b.1) (map table_pair (gone.kept ++ t.dir.tables))) ≡ times b (table_blocks gone.kept) + times b (map (λ b. b.1) (map table_pair t.dir.tables))
      pairs_join b =
          let whole = ap (times b) (pair_blocks (gone.kept ++ t.dir.tables) ∙ map-append (λ (t : TableBlock). t.block) gone.kept t.dir.tables) in
          let rest = ap (times b) (pair_blocks t.dir.tables) in
          omega (arith, whole, rest, times_append b (table_blocks gone.kept) (table_blocks t.dir.tables))

      real : TilesAreSound (record m { held = held_now }) (with_tiles t.tiles (left ev (is_stored n) all.tiles (map table_pair t.dir.tables) (plain u.starting.names s)))
      real =
          let x = cut (is_stored n) t.tiles (map table_pair (gone.kept ++ t.dir.tables)) (plain u.starting.names s) in
          let y = with_tiles t.tiles (left ev (is_stored n) all.tiles (map table_pair t.dir.tables) (plain u.starting.names s)) in
          record {
            tiling = named.tiling;
            in_use = permuted (handed_out t.tiles) (held_now ++ blocks_in_use y) (λ b.
                omega (
                  arith,
                  times_permuted b (handed_out t.tiles) (m.held ++ blocks_in_use x) named.in_use,
                  times_append b m.held (blocks_in_use x),
                  times_append b (table_blocks hand.fresh) u.others,
                  use_count b x,
                  use_count b y,
                  pairs_join b,
                  times_append b held_now (blocks_in_use y),
                  times_append b (table_blocks after.fresh) u.others,
                  ap (times b) fresh_is,
                  times_append b (table_blocks hand.fresh) (table_blocks gone.kept),
                ));
            pinned = named.pinned;
          }

      real_whole : IsWhole (holds u.next held_now) names u.words (record (with_event ev all) { tiles = t.tiles })
      real_whole = retiled m held_now names u.words (with_event ev all) t.tiles all_whole (subst (λ z. TilesAreSound (record m { held = held_now }) (with_tiles t.tiles z)) (sym all_plain) real)

      v_is : v ≡ record (with_event ev all) { tiles = t.tiles }
      v_is = pushed ∙ ap (with_event ev) (gone.server ∙ (λ i. record all { tiles = sym tiles_is i }))

      kept_small : AllByRecursion (λ b. b.block.words ≤ 127) gone.kept
      kept_small =
          let turned = IsPermutation-append_comm gone.others (gone.kept ++ t.dir.tables) in
          let first = subst (IsPermutation s.dir.tables) (append_assoc gone.kept t.dir.tables gone.others) (IsPermutation-trans s.dir.tables _ _ split turned) in
          let behind = IsPermutation-trans s.dir.tables _ _ first (IsPermutation-append_comm gone.kept (t.dir.tables ++ gone.others)) in
          pairs_small gone.kept (words_left s.dir.tables (t.dir.tables ++ gone.others) gone.kept behind u.starting.whole.sound.memory.tables.words)
        where
          pairs_small : (ts : List TableBlock) → AllByRecursion (λ b. b.1.words ≤ 127) (map table_pair ts) → AllByRecursion (λ b. b.block.words ≤ 127) ts
          pairs_small [] h = tt
          pairs_small (t ∷ ts) h = (h.0, pairs_small ts h.1)

      pub prunes_keeping : PrunesKeeping need u.next u.words u.missing u.others hand after s v
      prunes_keeping =
          let less = less_reserved s.options s.journal.events n need largest all_whole.sound.journal.lawful in
          let dirs : v.dir.tables ≡ t.dir.tables = ap (λ (x : ServerState). x.dir.tables) v_is in
          record {
            prunes = record {
              small = small;
              serial = n;
              oldest = oldest;
              may = may_leave m u.words u.starting.names s n u.starting.whole o.idle;
              mid = t;
              left = record { kept = gone.kept; others = gone.others; freed = gone.freed; removed = gone.removed; parts = gone.parts; sorts = gone.sorts; server = gone.server };
              server = pushed ∙ (λ i. with_event (event.Prune n need (size i)) t);
              tasks = ap tasks_of v_is ∙ pruned_tasks m u.words u.starting.names s n u.starting.whole o.idle all need largest gone.freed all_left valid licensed needs;
            };
            starting = record {
              names = names;
              whole = subst (IsWhole (holds u.next held_now) names u.words) (sym v_is) real_whole;
              hand = subst (λ (p : ReservedBlocks × List TableBlock). IsInHand p.0 u.missing p.1) (λ i. (sym gone.hand i, sym dirs i)) (hand_keeps hand u.missing s.dir.tables gone.freed t.dir.tables gone.kept gone.others u.starting.hand gone.removed.tables gone.parts gone.sorts);
              small = subst (λ (h : ReservedBlocks). AllByRecursion (λ b. b.block.words ≤ 127) h.fresh) (sym gone.hand) (all_join (λ (b : TableBlock). b.block.words ≤ 127) hand.fresh gone.kept u.starting.small kept_small);
            };
            tables = ap (λ (h : ReservedBlocks). h.tables) gone.hand;
            fewer = let now : reserved (cache v.journal.events) ≡ reserved (cache (with_event ev all).journal.events) = ap (λ (x : ServerState). reserved (cache x.journal.events)) v_is in omega (arith, less, now);
            room = λ k low.
                let spare : v.journal.spare ≡ s.journal.spare - 1 = ap (λ (x : ServerState). x.journal.spare) v_is in
                let fewer : reserved (cache v.journal.events) ≡ reserved (cache (with_event ev all).journal.events) = ap (λ (x : ServerState). reserved (cache x.journal.events)) v_is in
                omega (arith, low, less, spare, fewer);
            keeps = prune_keeps hand after s v gone.kept gone.others t.dir.tables gone.hand dirs split;
          }
