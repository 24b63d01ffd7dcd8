-- An entry is taken out, as the plain server has it, whether a task is on it or not.
use Rattle.std.proofs.Common.{◌≡◌, ℕ, ◌+◌, ◌/◌, eqb, eq-eqb, ne_eqb, Bool, true, false, cond, List, [], ◌∷◌, ◌++◌, map, length, refl, sym, ap, subst, ◌∙◌, arith, true≢false, length-append}
use Rattle.std.specs.Prelude.{not, ◌||◌, ◌==◌, Some, Contains, IsPermutation}
use Rattle.std.specs.List.{list_any, filter, flat_map, AllByRecursion}
use Rattle.std.proofs.lemmas.List.Sorted.{length_permutation}
use Rattle.qc_sql.specs.Database.{same_table}
use Rattle.qc_model.specs.Licence.{region_words}
use Rattle.qc_laws.specs.history.Runs.{are_distinct}
use Rattle.qc_tiles.specs.declared.blocks.Tile.{Tile}
use Rattle.qc_tiles.specs.declared.blocks.Block.{Block}
use Rattle.qc_tiles.specs.Tiles.{handed_out}
use Rattle.qc_tiles.proofs.Calls.{own_tiling}
use Rattle.qc_chain.specs.Chains.{Chained, Begun, AreHandedOut, after_release}
use Rattle.qc_chain.specs.Chains.{Chain as Kept}
use Rattle.qc_dir.specs.declared.entries.Entry.{Entry}
use Rattle.qc_dir.specs.declared.tables.TableBlock.{TableBlock}
use Rattle.qc_dir.specs.Directory.{Directory, IsDirectory, AreApart, entry_at, has_serial, without, is_block_of}
use Rattle.qc_sound.specs.PlainServer.{PlainServer, EntryChain, is_task_on, is_stored, is_wanted}
use Rattle.qc_sound.specs.Moment.{Moment}
use Rattle.qc_sound.specs.parts.Memory.{TilesAreSound, TablesAreSound, blocks_in_use, blocks_of_tasks, pinned_blocks, names_table}
use Rattle.qc_sound.specs.steps.Leaving.{staying}
use Rattle.qc_sound.specs.Handed.{IsGivenBack}
use Rattle.qc_sound.proofs.Filters.{tasks_wanted, pins_stay, or_right, distinct_filter}
use Rattle.qc_sound.proofs.Handed.{times, times_append, times_permuted, permuted, gives_all}
use Rattle.qc_sound.proofs.Ending.{none_each}
use Rattle.qc_core.specs.declared.server_state.ServerState.{ServerState}
use Rattle.qc_core.specs.Whole.{Named, is_named, IsNamedAs, chain_blocks, chain_in, stored, table_pair, plain, IsNamed, IsWhole, RoomIsSound}
use Rattle.qc_core.specs.EntryRemoval.{own_blocks, free_chain, has_task, released, MayLeave, Leaves, left_by}
use Rattle.qc_core.specs.EntriesCut.{BlocksAreSound, cut}
use Rattle.qc_core.proofs.Seating.{found_less}
use Rattle.qc_core.proofs.Seating.{distinct_less as serials_less}
use Rattle.qc_core.proofs.Uses.{serials_distinct, all_members, stored_at, stored_without, serial_at, find_all, all_without}
use Rattle.qc_core.proofs.Striking.{any_in, all_pass, each_passes}
use Rattle.qc_core.proofs.OwnBlocks.{part_out, not_both, chain_count, text_count, table_count, use_count, own_count}
use Rattle.qc_core.proofs.ChainRooms.{room_left}
use Rattle.qc_core.proofs.Remaining.{IsOther, differ, entries_else, stored_same, without_name, chains_left, same_staying, wanted_names, distinct_less, entries_named, works_named, begun_left, any_names, any_on, apart_once, words_left, tasks_in, chain_found, filter_names}

-- ---- from the whole

pub whole_blocks : (m : Moment) (names : List Named) (words : List ℕ) (s : ServerState) → IsWhole m names words s → BlocksAreSound m names s
whole_blocks m names words s h = record {
  named = h.named;
  tiles = h.sound.memory.tiles;
  tables = h.sound.memory.tables;
  apart = h.sound.memory.chains.apart;
  wanted = h.sound.memory.chains.wanted;
  once = h.sound.tasks.one_each;
  serials = serials_distinct m names words s h;
  directory = h.directory;
  seats = h.seats;
  room = h.room;
}

stored_serials : (cs : Chained) (es : List Entry) → map (λ e. e.serial) (map (stored cs) es) ≡ map (λ e. e.serial) es
stored_serials cs [] = refl
stored_serials cs (x ∷ es) = ap (λ l. x.serial ∷ l) (stored_serials cs es)

pub filter_passes : (q : ℕ → Bool) (cs : List EntryChain) → AllByRecursion (λ c. q c.serial ≡ true) (filter (λ c. q c.serial) cs)
filter_passes q [] = tt
filter_passes q (c ∷ cs) = elim (q c.serial) as (λ b. q c.serial ≡ b → AllByRecursion (λ c. q c.serial ≡ true) (cond b (c ∷ filter (λ c. q c.serial) cs) (filter (λ c. q c.serial) cs))) [
  | true ↦ λ e. (e, filter_passes q cs)
  | false ↦ λ e. filter_passes q cs
] refl

all_on : {A : Type 0} (P Q : A → Type 0) (xs : List A) → ((x : A) → P x → Q x) → AllByRecursion P xs → AllByRecursion Q xs
all_on P Q [] f h = tt
all_on P Q (x ∷ xs) f h = (f x h.0, all_on P Q xs f h.1)

eqb_other : (n m : ℕ) → eqb n m ≡ false → eqb m n ≡ false
eqb_other n m h = ne_eqb m n (λ z. true≢false (sym (eq-eqb n m (sym z)) ∙ h))

-- ---- one entry

module _ (m : Moment) (names : List Named) (s : ServerState) (n : ℕ) (h : BlocksAreSound m names s) (e : Entry) (held : Kept) (there : entry_at n s.dir.entries ≡ Some e) (begun : Begun e.chain.number s.chains held) where
  abbrev p : PlainServer
  p = plain names s

  named_n : IsNamedAs names n e.chain.number
  named_n = subst (λ k. IsNamedAs names k e.chain.number) (serial_at n s.dir.entries e there) (find_all (λ e. IsNamedAs names e.serial e.chain.number) (has_serial n) s.dir.entries e h.named.entries there)

  abbrev q : ℕ → Bool
  q k = is_wanted (staying (is_stored n) p.entries) p.tasks k

  abbrev kept : List EntryChain
  kept = filter (λ c. q c.serial) p.chains

  abbrev flat : List EntryChain → List Block
  flat cs = flat_map (λ (c : EntryChain). c.blocks) cs

  -- a task is on it: all chains are wanted still
  stays : list_any (is_task_on n) p.tasks ≡ true → kept ≡ p.chains
  stays on = all_pass q p.chains (each_passes q n p.chains (or_right (list_any (is_stored n) (staying (is_stored n) p.entries)) (list_any (is_task_on n) p.tasks) on)
      (all_on (λ c. is_wanted p.entries p.tasks c.serial ≡ true) (λ c. eqb n c.serial ≡ false → q c.serial ≡ true) p.chains (λ c k ne. ap (λ b. b || list_any (is_task_on c.serial) p.tasks) (same_staying n c.serial p.entries (eqb_other n c.serial ne)) ∙ k) h.wanted))

  -- none is: its chain goes
  goes : list_any (is_task_on n) p.tasks ≡ false → AllByRecursion (λ x. q x.serial ≡ not (x.serial == n)) names
  goes off = wanted_names n p s.chains names (none_each (is_task_on n) p.tasks off) h.wanted

  pub count : (on : Bool) → list_any (is_task_on n) p.tasks ≡ on → (b : Block) → times b (flat p.chains) ≡ times b (flat kept) + times b (free_chain on held)
  count true on b = omega (arith, ap (λ cs. times b (flat cs)) (stays on))
  count false off b =
      omega (arith, chain_count b n p.chains (chain_in s.chains (record { serial = n; number = e.chain.number })) h.apart (chain_found s.chains n _ names named_n), ap (λ o. times b (chain_blocks o)) begun, ap (λ cs. times b (flat cs)) (filter_names q s.chains n names (goes off)))

  module _ (free : List Block) (split : (b : Block) → times b (flat p.chains) ≡ times b (flat kept) + times b free) (us : List Tile) (freed rest : List TableBlock) (tables : IsPermutation s.dir.tables (freed ++ rest)) where
    abbrev after : PlainServer
    after = cut (is_stored n) us (map table_pair rest) p

    abbrev own : List Block
    own = own_blocks free e freed

    -- what was handed out is the entry's, or is still in use
    total : (b : Block) → times b (handed_out s.tiles) ≡ times b own + times b (m.held ++ blocks_in_use after)
    total b =
        let d = ap are_distinct (stored_serials s.chains s.dir.entries) ∙ h.serials in
        let all = times_permuted b (handed_out s.tiles) (m.held ++ blocks_in_use p) h.tiles.in_use in
        let texts = text_count b n p.entries (stored s.chains e) d (stored_at s.chains n s.dir.entries e there) in
        let blocks = table_count b s.dir.tables freed rest tables in
        omega (arith, all, times_append b m.held (blocks_in_use p), use_count b p, texts, blocks, split b, use_count b after, times_append b m.held (blocks_in_use after), own_count b free e freed)

    pub own_out : AreHandedOut s.tiles own
    own_out = part_out (region_words s.options) s.tiles own h.tiles.tiling (λ b. omega (arith, total b))

    tasks_after : blocks_of_tasks after ≡ blocks_of_tasks p
    tasks_after = pins_stay q p.chains p.tasks (tasks_wanted (staying (is_stored n) p.entries) p.tasks)

    -- none of them is pinned
    loose : AllByRecursion (λ b. Contains (pinned_blocks s.tiles) b → ⊥) own
    loose = all_members (λ b. Contains (pinned_blocks s.tiles) b → ⊥) own (λ b mine pinned.
        not_both (region_words s.options) s.tiles b own (flat kept) h.tiles.tiling (λ b. omega (arith, total b, times_append b m.held (blocks_in_use after), use_count b after)) mine
        (tasks_in kept p.tasks b (subst (λ l. Contains l b) (sym tasks_after) ((h.tiles.pinned b).0 pinned))))

    back : us ≡ after_release own s.tiles → IsGivenBack (region_words s.options) s.tiles us own
    back is = subst (λ ts. IsGivenBack (region_words s.options) s.tiles ts own) (sym is) (gives_all (region_words s.options) s.tiles own h.tiles.tiling own_out loose)

    pub tiles_after : us ≡ after_release own s.tiles → TilesAreSound m after
    tiles_after is =
        let g = back is in
        record {
          tiling = g.tiling;
          in_use = permuted (handed_out us) (m.held ++ blocks_in_use after) (λ b. omega (arith, times_permuted b (handed_out s.tiles) (handed_out us ++ own) g.hands, times_append b (handed_out us) own, total b));
          pinned = λ b. (
            λ k. subst (λ l. Contains l b) (sym tasks_after) ((h.tiles.pinned b).0 (subst (λ l. Contains l b) g.pins k)),
            λ k. subst (λ l. Contains l b) (sym g.pins) ((h.tiles.pinned b).1 (subst (λ l. Contains l b) tasks_after k)),
          );
        }

    tables_after : (dir : Directory) → dir.entries ≡ without n s.dir.entries → dir.tables ≡ rest → IsDirectory dir → TablesAreSound after
    tables_after dir entries rests valid = record {
      named = λ t. ap (list_any (names_table t)) (sym (stored_without s.chains n s.dir.entries) ∙ ap (map (stored s.chains)) (sym entries)) ∙ (any_names t s.chains dir.entries ∙ (valid.named t ∙ (ap (list_any (is_block_of t)) rests ∙ sym (any_on t rest))));
      once = apart_once rest (subst (AreApart (λ b c. same_table b.table c.table)) rests valid.once);
      words = words_left s.dir.tables freed rest tables h.tables.words;
    }

  -- what the code asks of it
  abbrev on_is : has_task n s ≡ list_any (is_task_on n) p.tasks
  on_is = any_in n s.tasks.items

  abbrev pub cut_leaves : AreHandedOut s.tiles held.blocks → MayLeave n s
  cut_leaves out = record {
    entry = e;
    held = held;
    there = there;
    begun = begun;
    tiling = own_tiling (region_words s.options) s.tiles h.tiles.tiling;
    chain = out;
    out = λ freed rest tables. own_out (free_chain (has_task n s) held) (count (has_task n s) (sym on_is)) s.tiles freed rest tables;
  }

  numbers : AllByRecursion (IsOther n e.chain.number) names
  numbers = differ n e.chain.number names h.named.numbers named_n

  abbrev names_after : (on : Bool) → List Named
  names_after true = names
  names_after false = without_name n names

  module _ (freed : List TableBlock) (t : ServerState) (l : Leaves n e held freed s t) (valid : IsDirectory t.dir) where
    abbrev so : (on : Bool) → ServerState
    so on = left_by t.dir on e held freed s

    abbrev ts : (on : Bool) → List Tile
    ts on = after_release (own_blocks (free_chain on held) e freed) s.tiles

    abbrev then : (on : Bool) → PlainServer
    then on = cut (is_stored n) (ts on) (map table_pair t.dir.tables) p

    entries_is : map (stored s.chains) t.dir.entries ≡ staying (is_stored n) p.entries
    entries_is = ap (map (stored s.chains)) l.removed.entries ∙ stored_without s.chains n s.dir.entries

    plain_is : (on : Bool) → list_any (is_task_on n) p.tasks ≡ on → plain (names_after on) (so on) ≡ then on
    plain_is true on = λ i. record {
      options = s.options;
      journal = s.journal.events;
      spare = s.journal.spare;
      database = s.database;
      entries = entries_is i;
      chains = sym (stays on) i;
      table_blocks = map table_pair t.dir.tables;
      tiles = ts true;
      connected = s.connected.items;
      tasks = p.tasks;
    }
    plain_is false off =
        let cs = released e.chain.number held s.chains in
        let entries : map (stored cs) t.dir.entries ≡ staying (is_stored n) p.entries =
        ap (map (stored cs)) l.removed.entries ∙ (stored_same s.chains e.chain.number held (without n s.dir.entries) (entries_else n e.chain.number names s.dir.entries numbers h.named.entries) ∙ stored_without s.chains n s.dir.entries) in
        let chains = chains_left q s.chains n e.chain.number held names (goes off) numbers in
        λ i. record {
          options = s.options;
          journal = s.journal.events;
          spare = s.journal.spare;
          database = s.database;
          entries = entries i;
          chains = chains i;
          table_blocks = map table_pair t.dir.tables;
          tiles = ts false;
          connected = s.connected.items;
          tasks = p.tasks;
        }

    named_is : (on : Bool) → list_any (is_task_on n) p.tasks ≡ on → IsNamed (names_after on) (so on)
    named_is true on = record {
      begun = h.named.begun;
      numbers = h.named.numbers;
      entries = subst (AllByRecursion (λ (e : Entry). IsNamedAs names e.serial e.chain.number)) (sym l.removed.entries) (all_without (λ e. IsNamedAs names e.serial e.chain.number) n s.dir.entries h.named.entries);
      tasks = h.named.tasks;
    }
    named_is false off = record {
      begun = begun_left s.chains n e.chain.number held names numbers h.named.begun;
      numbers = distinct_less (λ x. not (is_named n x)) names h.named.numbers;
      entries = subst (AllByRecursion (λ (e : Entry). IsNamedAs (without_name n names) e.serial e.chain.number)) (sym l.removed.entries) (entries_named n names s.dir.entries h.named.entries);
      tasks = works_named n names s.tasks.items (none_each (is_task_on n) p.tasks off) h.named.tasks;
    }

    room_is : RoomIsSound names (so true) × RoomIsSound (without_name n names) (so false)
    room_is =
        let entries_less : length t.dir.entries + 1 ≡ length s.dir.entries = ap (λ (l : List Entry). length l + 1) l.removed.entries ∙ found_less (λ (e : Entry). e.serial) n s.dir.entries e h.serials there in
        let tables_less : length s.dir.tables ≡ length freed + length t.dir.tables = sym (length_permutation s.dir.tables (freed ++ t.dir.tables) l.removed.tables) ∙ length-append freed t.dir.tables in
        let entries : length t.dir.entries + t.dir.room ≡ region_words s.options / 128 = omega (arith, h.room.entries, entries_less, l.removed.room) in
        let tables : length t.dir.tables + t.dir.table_room ≡ region_words s.options / 64 = omega (arith, h.room.tables, tables_less, l.removed.table_room) in (
          record { entries = entries; tables = tables; chains = h.room.chains; unpinner = h.room.unpinner },
          record { entries = entries; tables = tables; chains = room_left names s.chains n e.chain.number held (region_words s.options) h.apart named_n begun numbers h.room.chains; unpinner = h.room.unpinner },
        )

    serials_is : are_distinct (map (λ e. e.serial) t.dir.entries) ≡ true
    serials_is = ap (λ (l : List Entry). are_distinct (map (λ e. e.serial) l)) l.removed.entries ∙ serials_less (λ (e : Entry). e.serial) n s.dir.entries h.serials

    blocks_is : (on : Bool) → list_any (is_task_on n) p.tasks ≡ on → RoomIsSound (names_after on) (so on) → BlocksAreSound m (names_after on) (so on)
    blocks_is on is room =
        let same = sym (plain_is on is) in
        record {
          named = named_is on is;
          tiles = subst (TilesAreSound m) same (tiles_after (free_chain on held) (count on is) (ts on) freed t.dir.tables l.removed.tables refl);
          tables = subst TablesAreSound same (tables_after (free_chain on held) (count on is) (ts on) freed t.dir.tables l.removed.tables t.dir l.removed.entries refl valid);
          apart = subst (λ (z : PlainServer). are_distinct (map (λ c. c.serial) z.chains) ≡ true) same (distinct_filter (λ (c : EntryChain). c.serial) (λ c. q c.serial) p.chains h.apart);
          wanted = subst (λ (z : PlainServer). AllByRecursion (λ c. is_wanted z.entries z.tasks c.serial ≡ true) z.chains) same (filter_passes q p.chains);
          once = h.once;
          serials = serials_is;
          directory = valid;
          seats = record { once = h.seats.once; room = h.seats.room; task_room = h.seats.task_room };
          room = room;
        }

    pub record CutOne : Type 0 where
      pub under : List Named
      pub blocks : BlocksAreSound m under t
      pub plain : plain under t ≡ cut (is_stored n) t.tiles (map table_pair t.dir.tables) p
      pub pinned : pinned_blocks t.tiles ≡ pinned_blocks s.tiles
      pub others : t ≡ record s { dir = t.dir; chains = t.chains; tiles = t.tiles }

    one : (on : Bool) → list_any (is_task_on n) p.tasks ≡ on → RoomIsSound (names_after on) (so on) → t ≡ so on → CutOne
    one on is room server = record {
      under = names_after on;
      blocks = subst (BlocksAreSound m (names_after on)) (sym server) (blocks_is on is room);
      plain = ap (plain (names_after on)) server ∙ (plain_is on is ∙ ap (λ (x : ServerState). cut (is_stored n) x.tiles (map table_pair t.dir.tables) p) (sym server));
      pinned = ap (λ (x : ServerState). pinned_blocks x.tiles) server ∙ (back (free_chain on held) (count on is) (ts on) freed t.dir.tables l.removed.tables refl).pins;
      others = server ∙ (λ i. record s { dir = t.dir; chains = (sym server i).chains; tiles = (sym server i).tiles });
    }

    pub cut_one : CutOne
    cut_one = by (has_task n s) refl
      where
        by : (on : Bool) → has_task n s ≡ on → CutOne
        by true is = one true (sym on_is ∙ is) room_is.0 (l.server ∙ ap (λ b. left_by t.dir b e held freed s) is)
        by false is = one false (sym on_is ∙ is) room_is.1 (l.server ∙ ap (λ b. left_by t.dir b e held freed s) is)
