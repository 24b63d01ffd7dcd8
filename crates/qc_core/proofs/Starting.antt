-- A start, as the lock sees it.
use Rattle.std.proofs.Common.{◌≡◌, ℕ, zero, suc, ◌+◌, ◌-◌, ◌*◌, ◌<◌, ◌≤◌, Bool, true, false, cond, List, [], ◌∷◌, ◌++◌, length, refl, sym, ap, subst, ◌∙◌, arith, append_assoc, append-nil, inl, ⊎_elim, ◌⊎◌}
use Rattle.std.specs.Prelude.{None, count_by, not, is_some, ◌||◌, ◌==◌}
use Rattle.std.specs.List.{list_any}
use Rattle.std.proofs.lemmas.List.Elements.{filter-append}
use Rattle.std.proofs.lemmas.List.Sums.{sum_by_push}
use Rattle.qc_types.specs.declared.names.TableName.{TableName}
use Rattle.qc_types.specs.declared.options.Options.{Options}
use Rattle.qc_key.specs.Hash.{hash}
use Rattle.qc_laws.proofs.history.Events.{cache_push, present_push}
use Rattle.qc_laws.proofs.history.Serials.{neither}
use Rattle.qc_model.specs.declared.events.Event.{Event}
use Rattle.qc_model.specs.declared.events.Event.TheVariants as event
use Rattle.qc_model.specs.declared.events.How.TheVariants as how
use Rattle.qc_model.specs.declared.events.Reason.TheVariants as reason
use Rattle.qc_model.specs.declared.events.Who.{Who}
use Rattle.qc_model.specs.Cache.{cache, is_run, is_start}
use Rattle.qc_model.specs.Cache.{Entry as Cached}
use Rattle.qc_model.specs.Cache.{without as cached_without}
use Rattle.qc_model.specs.Choice.{has_key, start_count}
use Rattle.qc_model.specs.Journal.{Journal, event_count, is_by}
use Rattle.qc_model.specs.Licence.{MayStart, region_words, unit_words}
use Rattle.qc_model.specs.Session.{answer}
use Rattle.qc_tiles.specs.declared.blocks.Tile.{Tile}
use Rattle.qc_tiles.specs.declared.blocks.Block.{Block}
use Rattle.qc_tiles.specs.declared.blocks.NoTile.{NoTile}
use Rattle.qc_tiles.specs.Tiles.{handed_out, largest_free}
use Rattle.qc_chain.specs.Chains.{Ranged}
use Rattle.qc_dir.specs.Directory.{incomplete}
use Rattle.qc_turn.specs.Blocks.{counted, places, Misses}
use Rattle.qc_turn.specs.declared.task.Task.TheVariants as task
use Rattle.qc_turn.specs.Tasks.{listed_for, own, places_of}
use Rattle.qc_turn.specs.Releases.{Follows}
use Rattle.qc_turn.specs.Views.{idle_of, of_seat}
use Rattle.qc_turn.specs.Seats.{Held, holder, words, taken, IsHeld, SameHolder, MayRelease, with_value, with_ranges}
use Rattle.qc_turn.proofs.Holders.{taken_is, number_is, same_value, held_value, follows_on, of_seat_else}
use Rattle.qc_sound.specs.PlainServer.{PlainServer, blocks_of, listed_tasks}
use Rattle.qc_sound.specs.Moment.{at_rest}
use Rattle.qc_sound.specs.parts.Journal.{reserved}
use Rattle.qc_sound.specs.parts.Memory.{blocks_in_use}
use Rattle.qc_sound.specs.parts.Tasks.{IsSeat, SeatTaskIsSound}
use Rattle.qc_sound.specs.steps.Events.{IsQuiet}
use Rattle.qc_sound.proofs.Counts.{occurs, occurs_append, occurs_places, occurs_misses, tiled_once, parted, occurs_permuted, counted_here}
use Rattle.qc_sound.proofs.Frees.{store_step}
use Rattle.qc_sound.proofs.Holding.{hold_step}
use Rattle.qc_sound.proofs.Laws.{chains_in, tasks_in, only, places_only}
use Rattle.qc_sound.proofs.Lists.{IsOnly}
use Rattle.qc_sound.proofs.Needs.{needs_begin, needs_turn, needs_close}
use Rattle.qc_sound.proofs.Pushes.{quiet_step}
use Rattle.qc_core.specs.declared.reserved_blocks.ReservedBlocks.{ReservedBlocks}
use Rattle.qc_core.specs.declared.start_blocks.Taken.{Taken}
use Rattle.qc_core.specs.declared.server_state.ServerState.{ServerState}
use Rattle.qc_core.specs.contracts.server.ServerKept.TheImpl.{ghosts}
use Rattle.qc_core.specs.Whole.{plain, tasks_of, with_event, IsWhole, Sound}
use Rattle.qc_core.specs.KeptLaws.{tasks_same}
use Rattle.qc_core.specs.Calls.{IsNext, HasMoreRoom}
use Rattle.qc_core.specs.Connection.{is_connected}
use Rattle.qc_core.specs.EntryRemoval.{table_blocks}
use Rattle.qc_core.specs.Eviction.{Prunes, PrunesMany}
use Rattle.qc_core.specs.EntryStart.{TakesOne, Takes, IsShortOf, MayBegin, HasStartRoom, AddsFill, needs_for, without_block}
use Rattle.qc_core.specs.Allocation.{holds, starts, next_of, IsStarting, MayTake, TakesAll, Stops}
use Rattle.qc_core.specs.KeyText.{MayStore, HasStored}
use Rattle.qc_core.specs.EntryInsertion.{MayAdd, IsAdded, HoldsBlocks, HoldsText, HoldsNothing}
use Rattle.qc_core.proofs.Adding.{block_within, text_held, may_add, names, added_whole, added_others, added_alone, adds_so}
use Rattle.qc_core.proofs.Compacting.{free_words}
use Rattle.qc_core.proofs.FillTasks.{prune_is}
use Rattle.qc_core.proofs.Handing.{hand_begins}
use Rattle.qc_core.proofs.Noting.{alone, event_follows}
use Rattle.qc_core.proofs.Reserving.{reserved_is}
use Rattle.qc_core.proofs.TaskRoom.{connected_seat, task_room}

-- ---- what prunes leave

-- The journal goes on by events of no session; the start is licensed still, and the seats have what they had.
pub record Onto (s t : ServerState) : Type 0 where
  pub options : t.options ≡ s.options
  pub listed : tasks_of t ≡ tasks_of s
  pub running : t.tasks ≡ s.tasks
  pub connected : t.connected ≡ s.connected
  pub database : t.database ≡ s.database
  pub later : Journal
  pub events : t.journal.events ≡ s.journal.events ++ later
  pub others : (k : ℕ) → of_seat ghosts k later ≡ []
  pub counts : (n : ℕ) → event_count t.journal.events n ≡ event_count s.journal.events n
  pub may : (serial : ℕ) (key : List ℕ) (tables : List TableName) → MayStart s.options s.journal.events serial key tables → MayStart t.options t.journal.events serial key tables

onto_same : (s : ServerState) → Onto s s
onto_same s = record { options = refl; listed = refl; running = refl; connected = refl; database = refl; later = []; events = sym (append-nil s.journal.events); others = λ k. refl; counts = λ n. refl; may = λ serial key tables h. h }

onto_join : (s m t : ServerState) → Onto s m → Onto m t → Onto s t
onto_join s m t a b = record {
  options = b.options ∙ a.options;
  listed = b.listed ∙ a.listed;
  running = b.running ∙ a.running;
  connected = b.connected ∙ a.connected;
  database = b.database ∙ a.database;
  later = a.later ++ b.later;
  events = b.events ∙ (ap (λ l. l ++ b.later) a.events ∙ append_assoc s.journal.events a.later b.later);
  others = λ k. filter-append _ a.later b.later ∙ (λ i. a.others k i ++ b.others k i);
  counts = λ n. b.counts n ∙ a.counts n;
  may = λ serial key tables h. b.may serial key tables (a.may serial key tables h);
}

none_kept : (p : Cached → Bool) (n : ℕ) (ys : List Cached) → list_any p ys ≡ false → list_any p (cached_without n ys) ≡ false
none_kept p n [] h = refl
none_kept p n (y ∷ ys) h =
    let parts = neither (p y) (list_any p ys) h in
    elim (not (y.serial == n)) as (λ b. list_any p (cond b (y ∷ cached_without n ys) (cached_without n ys)) ≡ false) [
      | true ↦ ap (λ b. b || list_any p (cached_without n ys)) parts.0 ∙ none_kept p n ys parts.1
      | false ↦ none_kept p n ys parts.1
    ]

onto_prune : (kept : List TableName) (need : ℕ) (s t : ServerState) → Prunes kept need s t → Onto s t
onto_prune kept need s t p =
    let e = event.Prune p.serial need (largest_free s.tiles) in
    let is = prune_is kept need s t p in
    let options : t.options ≡ s.options = ap (λ (x : ServerState). x.options) is in
    let events : t.journal.events ≡ s.journal.events ++ e ∷ [] = ap (λ (x : ServerState). x.journal.events) is in
    record {
      options = options;
      listed = p.tasks;
      running = ap (λ (x : ServerState). x.tasks) is;
      connected = ap (λ (x : ServerState). x.connected) is;
      database = ap (λ (x : ServerState). x.database) is;
      later = e ∷ [];
      events = events;
      others = λ k. refl;
      counts = λ n. ap (λ j. event_count j n) events ∙ counted_none (is_by n) s.journal.events e refl;
      may = λ serial key tables h. subst (λ (q : Options × Journal). MayStart q.0 q.1 serial key tables) (λ i. (sym options i, sym events i)) (record {
        next = h.next ∙ ap (λ k. k + 1) (sym (counted_none (is_run is_start) s.journal.events e refl));
        has_answer = ap (λ d. is_some (answer key d)) (present_push s.journal.events e) ∙ h.has_answer;
        of_select = h.of_select;
        no_other = ap (list_any (has_key key)) (cache_push s.journal.events e) ∙ none_kept (has_key key) p.serial (cache s.journal.events) h.no_other;
        has_region = h.has_region;
      });
    }
  where
    counted_none : (p : Event → Bool) (j : Journal) (e : Event) → p e ≡ false → count_by p (j ++ e ∷ []) ≡ count_by p j
    counted_none p j e h =
        let sum = sum_by_push (λ x. cond (p x) 1 0) j e in
        let none : ◌≡◌ {A = ℕ} (cond (p e) 1 0) 0 = ap (λ b. cond b 1 0) h in
        omega (arith, sum, none)

onto_prunes : (kept : List TableName) (need count : ℕ) (s t : ServerState) → PrunesMany kept need count s t → Onto s t
onto_prunes kept need zero s t h = subst (Onto s) (sym h) (onto_same s)
onto_prunes kept need (suc k) s t h = onto_join s h.0 t (onto_prunes kept need k s h.0 h.1) (onto_prune kept need h.0 t h.2)

onto_tiles : (s t : ServerState) (tiles : List Tile) → t ≡ record s { tiles = tiles } → Onto s t
onto_tiles s t tiles h = subst (Onto s) (sym h) (record { options = refl; listed = refl; running = refl; connected = refl; database = refl; later = []; events = sym (append-nil s.journal.events); others = λ k. refl; counts = λ n. refl; may = λ serial key tables h. h })

pub onto_takes : (kept : List TableName) (needs : List ℕ) (s t : ServerState) (bs : List Block) → Takes kept needs s bs t → Onto s t
onto_takes kept [] s t [] h = subst (Onto s) (sym h) (onto_same s)
onto_takes kept [] s t (b ∷ bs) h = absurd h
onto_takes kept (n ∷ needs) s t [] h = absurd h
onto_takes kept (n ∷ needs) s t (b ∷ bs) h = onto_join s h.0 t (one n s h.0 b h.1) (onto_takes kept needs h.0 t bs h.2)
  where
    one : (n : ℕ) (s t : ServerState) (b : Block) → TakesOne kept n s b t → Onto s t
    one n s t b o = onto_join s o.mid t (onto_prunes kept n o.count s o.mid o.prunes) (onto_tiles o.mid t _ o.server)

pub onto_short : (kept : List TableName) (needs : List ℕ) (s t : ServerState) (e : NoTile) → IsShortOf kept needs s t e → Onto s t
onto_short kept needs s t e h = onto_join s h.mid t (onto_takes kept h.done s h.mid h.blocks h.takes) (onto_join h.mid h.last t (onto_prunes kept h.need h.count h.mid h.last h.prunes) (onto_tiles h.last t _ h.server))

pub onto_follows : (s t : ServerState) (seat : ℕ) (idle : List ℕ) → Onto s t → Follows ghosts seat idle s t
onto_follows s t seat idle o = record {
  journal = (o.later, o.events);
  others = λ k ne. ap (of_seat ghosts k) o.events ∙ (filter-append _ s.journal.events o.later ∙ (ap (λ l. of_seat ghosts k s.journal.events ++ l) (o.others k) ∙ append-nil (of_seat ghosts k s.journal.events)));
  fixed = ap (λ (o : Options). o.size ∷ o.limit ∷ o.unit ∷ o.kind ∷ []) o.options;
  connected = λ k ne. ap (λ c. list_any (λ m. m == k) c.items) o.connected;
  tasks = λ k ne. inl (ap (listed_for k) o.listed);
}

-- ---- a holding whose value isn't at rest

-- what is held still when the value isn't sound at rest
pub record Keeps (h : Held ServerState Event ghosts) : Type 0 where
  pub held : IsHeld h
  pub follows : Follows ghosts (holder h).number (idle_of (holder h).found) (taken h) h.value

pub keeps_released : (h : Held ServerState Event ghosts) → MayRelease h → Keeps h
keeps_released h st = record { held = st.held; follows = st.follows }

pub keeps_value : (h : Held ServerState Event ghosts) (x : ServerState) → Keeps h → Follows ghosts (holder h).number (idle_of (holder h).found) h.value x → Keeps (with_value h x)
keeps_value h x k f =
    let same = same_value h x k.held in
    record {
      held = held_value h x k.held;
      follows = subst (λ b. Follows ghosts (holder h).number (idle_of (holder h).found) b x) (sym (taken_is h (with_value h x) same)) (follows_on ghosts (holder h).number (idle_of (holder h).found) (taken h) h.value x k.follows f);
    }

pub comes_to_rest : (h : Held ServerState Event ghosts) (r : Ranged) (x : ServerState) → Keeps h → Sound (words h) x → Follows ghosts (holder h).number (idle_of (holder h).found) h.value x → MayRelease (with_value (with_ranges h r) x) × SameHolder h (with_value (with_ranges h r) x)
comes_to_rest h r x k sound f =
    let g = with_ranges h r in
    let kept : Keeps g = record { held = record { table = k.held.table; out = k.held.out; holding = k.held.holding; width = k.held.width }; follows = k.follows } in
    let now = keeps_value g x kept f in
    let same = same_value g x kept.held in
    (record { held = now.held; sound = sound; follows = now.follows }, record { seat = same.seat; turn = same.turn; holder = same.holder })

pub next_value : (h : Held ServerState Event ghosts) (x : ServerState) (who : Who) → Onto h.value x → IsNext h who → IsNext (with_value h x) who
next_value h x who o n = record {
  session = n.session;
  number = n.number ∙ ap (λ k. k + 1) (sym (o.counts who.session));
  connected = ap (λ c. list_any (λ m. m == (holder h).number) c.items) o.connected ∙ n.connected;
  free = ap (listed_for (holder h).number) o.listed ∙ n.free;
}

-- ---- the start begins

abbrev pub may_take : (words : List ℕ) (s : ServerState) (who : Who) (number : ℕ) (key : List ℕ) (tables : List TableName) → Sound words s → MayBegin key tables s → MayTake (without_block s.dir.tables tables) (length key) (record { tables = tables; fresh = [] }) s
may_take words s who number key tables sound may =
    let w = sound.1 in
    let p = plain sound.0 s in
    record {
      who = who;
      number = number;
      key = key;
      words = words;
      long = refl;
      short = may.short;
      starting = record {
        names = sound.0;
        whole = record {
          named = record { begun = w.named.begun; numbers = w.named.numbers; entries = w.named.entries; tasks = w.named.tasks };
          sound = hold_step (at_rest hash) (starts who number key tables) [] words p s.tiles w.sound (needs_begin s.options s.journal.events (event.Run who (how.Start number key tables)) w.sound.journal.needs)
              (record { tiling = w.sound.memory.tiles.tiling; in_use = w.sound.memory.tiles.in_use; pinned = w.sound.memory.tiles.pinned });
          directory = w.directory;
          seats = record { once = w.seats.once; room = w.seats.room; task_room = w.seats.task_room };
          room = record { entries = w.room.entries; tables = w.room.tables; chains = w.room.chains; unpinner = w.room.unpinner };
        };
        hand = hand_begins tables s.dir.tables may.few may.once w.directory.once;
        small = tt;
      };
    }

-- ---- the key's block

module _ (who : Who) (serial : ℕ) (key : List ℕ) (tables : List TableName) (hand : ReservedBlocks) (t : Taken) (h : Held ServerState Event ghosts) (b : HoldsBlocks who serial key tables hand t h) where
  abbrev s : ServerState
  s = h.value

  abbrev st : IsStarting (starts who serial key tables) (words h) [] (t.text ∷ t.first ∷ []) hand s
  st = b.starting

  abbrev p : PlainServer
  p = plain st.names s

  abbrev held : List Block
  held = table_blocks hand.fresh ++ (t.text ∷ t.first ∷ [])

  -- a word of it is in no block that is in use
  unused : (k : ℕ) → t.text.first ≤ k → k < t.text.first + t.text.words → occurs k (places (blocks_in_use p)) ≡ 0
  unused k low high =
      let w = st.whole.sound.memory.tiles in
      let here = counted_here k t.text.first t.text.words low high in
      omega (
        arith,
        here,
        tiled_once (region_words s.options) k s.tiles w.tiling.covers,
        parted k (λ t. t.free) s.tiles,
        occurs_permuted k (handed_out s.tiles) (held ++ blocks_in_use p) w.in_use,
        occurs_places k held (blocks_in_use p),
        occurs_places k (table_blocks hand.fresh) (t.text ∷ t.first ∷ []),
        occurs_places k (t.text ∷ []) (t.first ∷ []),
        occurs_append k (counted t.text.first t.text.words) [],
      )

  missed : (k m : ℕ) → t.text.first ≤ k → k < t.text.first + t.text.words → Misses k (places_of (listed_for m (tasks_of s)))
  missed k m low high =
      subst (λ ls. Misses k (places_of (listed_for m ls))) (sym (tasks_same st.names s st.whole.named))
      (⊎_elim
      (λ (e : listed_for m (listed_tasks p) ≡ []). subst (λ l. Misses k (places_of l)) (sym e) tt)
      (λ (o : IsOnly (SeatTaskIsSound p.journal p.chains) p.chains p.tasks m).
      subst (Misses k) (sym (ap places_of o.only ∙ places_only p.chains o.one)) (occurs_misses k (places (blocks_of p.chains o.one.task)) (omega (arith, unused k low high, chains_in k p, tasks_in k p.chains o.one.task))))
      (only (holds (starts who serial key tables) held) (words h) p m st.whole.sound))

  pub may_store : MayStore h t.text (length key)
  may_store =
      let within = block_within 0 (region_words s.options) s.tiles t.text st.whole.sound.memory.tiles.tiling.covers (text_held who serial key tables hand t (words h) s st) in
      record {
        held = b.held;
        few = b.few;
        within = omega (arith, within.1, st.whole.sound.region);
        free = λ k low high. (free_words (holder h).number k (idle_of (holder h).found) (taken h) s b.follows (λ m. missed k m low high)).1;
      }

  -- the key is stored
  module _ (k : Held ServerState Event ghosts) (c : HasStored h k t.text key) where
    stored_whole : IsWhole (holds (starts who serial key tables) held) st.names (words k) s
    stored_whole =
        let w = st.whole in
        record {
          named = w.named;
          sound = store_step (holds (starts who serial key tables) held) (words h) (words k) p w.sound c.long (λ x used. c.others x (λ low high. used (occurs_misses x (places (blocks_in_use p)) (unused x low high))));
          directory = w.directory;
          seats = w.seats;
          room = w.room;
        }

    pub holds_text : HoldsText who serial key tables hand t k
    holds_text = record {
      blocks = record {
        held = c.held;
        follows = subst (λ (q : ℕ × List ℕ × ServerState × ServerState). Follows ghosts q.0 q.1 q.2 q.3)
            (λ i. (sym (number_is h k c.same) i, sym (ap (λ v. idle_of v.found) c.same.holder) i, sym (taken_is h k c.same) i, sym c.value i)) b.follows;
        same = b.same;
        starting = subst (IsStarting (starts who serial key tables) (words k) [] (t.text ∷ t.first ∷ []) hand) (sym c.value) (record { names = st.names; whole = stored_whole; hand = st.hand; small = st.small });
        next = record {
          session = b.next.session ∙ ap (λ n. n - 1) (sym (number_is h k c.same));
          number = b.next.number ∙ ap (λ (x : ServerState). event_count x.journal.events who.session + 1) (sym c.value);
          connected = (λ i. is_connected (number_is h k c.same i) (c.value i)) ∙ b.next.connected;
          free = (λ i. listed_for (number_is h k c.same i) (tasks_of (c.value i))) ∙ b.next.free;
        };
        room = subst HasStartRoom (sym c.value) b.room;
        may = subst (λ (x : ServerState). MayStart x.options x.journal.events serial key tables) (sym c.value) b.may;
        short = b.short;
        full = subst (λ (x : ServerState). unit_words x.options ≤ t.first.words) (sym c.value) b.full;
        small = subst (λ (x : ServerState). t.first.words ≤ unit_words x.options + 63) (sym c.value) b.small;
        few = b.few;
        fits = b.fits;
        ranges = subst (λ (q : ServerState × Ranged). q.0.options.size ≤ 512 * q.1.room) (λ i. (sym c.value i, sym c.ranges i)) b.ranges;
      };
      text = c.text;
    }

-- ---- what take_blocks leaves

module _ (who : Who) (serial : ℕ) (key : List ℕ) (tables : List TableName) (h : Held ServerState Event ghosts) (st : MayRelease h) (next : IsNext h who) (may : MayBegin key tables h.value) (room : HasStartRoom h.value) (above : serial ≡ start_count h.value.journal.events + 1) where
  abbrev empty : ReservedBlocks
  empty = record { tables = tables; fresh = [] }

  abbrev pub taking : MayTake (without_block h.value.dir.tables tables) (length key) empty h.value
  taking = may_take (words h) h.value who serial key tables st.sound may

  may_at : MayStart h.value.options h.value.journal.events serial key tables
  may_at = subst (λ n. MayStart h.value.options h.value.journal.events n key tables) (sym above) may.may

  pub holds_blocks : (hand : ReservedBlocks) (t : Taken) (x : ServerState) → h.value.options.size ≤ 512 * h.ranges.room → TakesAll (next_of (without_block h.value.dir.tables tables) (length key) empty h.value taking) (words h) (without_block h.value.dir.tables tables) (length key) empty hand h.value t x
      → HoldsBlocks who serial key tables hand t (with_value h x)
  holds_blocks hand t x size a =
      let o = onto_takes tables (needs_for h.value.options (without_block h.value.dir.tables tables) (length key)) h.value x (a.blocks ++ t.first ∷ t.text ∷ []) a.takes in
      let k = keeps_value h x (keeps_released h st) (onto_follows h.value x (holder h).number (idle_of (holder h).found) o) in
      let within = block_within 0 (region_words x.options) x.tiles t.text a.starting.whole.sound.memory.tiles.tiling.covers (text_held who serial key tables hand t (words h) x a.starting) in
      record {
        held = k.held;
        follows = k.follows;
        same = a.tables;
        starting = a.starting;
        next = next_value h x who o next;
        room = a.room 2 room;
        may = o.may serial key tables may_at;
        short = omega (arith, a.sizes.few, within.1, a.starting.whole.sound.region, st.held.width, h.turn.now.small);
        full = subst (λ (q : Options). unit_words q ≤ t.first.words) (sym o.options) a.sizes.full;
        small = subst (λ (q : Options). t.first.words ≤ unit_words q + 63) (sym o.options) a.sizes.small;
        few = omega (arith, a.sizes.few);
        fits = a.sizes.fits;
        ranges = subst (λ (q : Options). q.size ≤ 512 * h.ranges.room) (sym o.options) size;
      }

  pub holds_nothing : (needs : List ℕ) (x : ServerState) (e : NoTile) → Stops tables (next_of (without_block h.value.dir.tables tables) (length key) empty h.value taking) (words h) needs [] h.value x e → HoldsNothing who e (with_value h x)
  holds_nothing needs x e a =
      let o = onto_short tables needs h.value x e a.short in
      let k = keeps_value h x (keeps_released h st) (onto_follows h.value x (holder h).number (idle_of (holder h).found) o) in
      let left = a.room 2 room in
      record {
        held = k.held;
        follows = k.follows;
        serial = serial;
        key = key;
        tables = tables;
        names = a.names;
        whole = a.whole;
        next = next_value h x who o next;
        room = omega (arith, left);
        licensed = a.licensed;
        least = a.least;
      }

-- ---- without room

module _ (who : Who) (e : NoTile) (h : Held ServerState Event ghosts) (n : HoldsNothing who e h) where
  abbrev pub plain_event : Event
  plain_event = event.Run who (how.Plain (reason.NoRoom e.need e.largest))

  pub plain_rests : 0 < (holder h).number → Sound (words h) (with_event plain_event h.value)
  plain_rests ps =
      let w = n.whole in
      let s = h.value in
      let a = alone (words h) n.names (holds (starts who n.serial n.key n.tables) []) s who plain_event (holder h).number w ps refl n.next.session n.next.number n.next.free in
      let quiet : IsQuiet plain_event = record { same_cache = λ es. refl; no_operations = refl; no_end = λ n. refl; needs = n.least } in
      let needs = needs_close s.options s.journal.events plain_event (needs_turn s.options s.journal.events who n.serial n.key n.tables e.need e.largest w.sound.journal.needs) n.least in (
        n.names,
        record {
          named = record { begun = w.named.begun; numbers = w.named.numbers; entries = w.named.entries; tasks = w.named.tasks };
          sound = quiet_step (holds (starts who n.serial n.key n.tables) []) None (words h) (plain n.names s) plain_event w.sound quiet (a.decides, n.licensed) needs a.none n.room;
          directory = w.directory;
          seats = record { once = w.seats.once; room = w.seats.room; task_room = w.seats.task_room };
          room = record { entries = w.room.entries; tables = w.room.tables; chains = w.room.chains; unpinner = w.room.unpinner };
        },
      )

  pub plain_stands : 0 < (holder h).number → MayRelease (with_value h (with_event plain_event h.value)) × SameHolder h (with_value h (with_event plain_event h.value))
  plain_stands ps =
      let r = comes_to_rest h h.ranges (with_event plain_event h.value) (record { held = n.held; follows = n.follows }) (plain_rests ps) (event_follows h.value plain_event who (holder h).number (idle_of (holder h).found) refl ps n.next.session) in
      (record { held = r.0.held; sound = r.0.sound; follows = r.0.follows }, record { seat = r.1.seat; turn = r.1.turn; holder = r.1.holder })

-- ---- the entry is put in

module _ (who : Who) (serial : ℕ) (key : List ℕ) (tables : List TableName) (hand : ReservedBlocks) (t : Taken) (h : Held ServerState Event ghosts) (x : HoldsText who serial key tables hand t h) where
  abbrev b : HoldsBlocks who serial key tables hand t h
  b = x.blocks

  seated : IsSeat (holder h).number
  seated = connected_seat (holds (starts who serial key tables) (table_blocks hand.fresh ++ t.text ∷ t.first ∷ [])) b.starting.names (words h) h.value (holder h).number b.starting.whole b.next.connected

  some : 0 < h.value.tasks.room
  some = task_room (holds (starts who serial key tables) (table_blocks hand.fresh ++ t.text ∷ t.first ∷ [])) b.starting.names (words h) h.value (holder h).number b.starting.whole seated b.next.free

  pub may_put : MayAdd serial hand t h.value h.ranges.room
  may_put = may_add who serial key tables hand t (words h) h.value b.starting b.may.next h.ranges.room b.ranges (omega (arith, b.starting.whole.sound.region, b.held.width, h.turn.now.small)) some

  module _ (new v : ServerState) (r : Ranged) (a : IsAdded (holder h).number serial key hand t h.value new) (is : v ≡ with_event (event.Run who (how.Start serial key tables)) new) where
    v_is : v ≡ with_event (event.Run who (how.Start serial key hand.tables)) new
    v_is = is ∙ ap (λ ts. with_event (event.Run who (how.Start serial key ts)) new) (sym b.same)

    pub put_adds : AddsFill (holder h).number serial key tables t.first t.text h.value v
    put_adds = adds_so who serial key tables hand t (words h) h.value b.starting b.may.next (holder h).number new a x.text b.room b.may b.same seated b.next.session b.next.number b.next.free b.full b.small b.fits some v v_is

    pub put_events : v.journal.events ≡ h.value.journal.events ++ event.Run who (how.Start serial key tables) ∷ []
    put_events = ap (λ (z : ServerState). z.journal.events) is ∙ ap (λ (z : ServerState). z.journal.events ++ event.Run who (how.Start serial key tables) ∷ []) a.server

    pub put_listed : listed_for (holder h).number (tasks_of v) ≡ own (holder h).number (task.Fill serial) (t.first ∷ [])
    put_listed = added_alone who serial key tables hand t (words h) h.value b.starting b.may.next (holder h).number new a x.text b.room b.may b.same seated b.next.session b.next.number b.next.free b.full b.small b.fits some v v_is

    put_follows : Follows ghosts (holder h).number (idle_of (holder h).found) h.value v
    put_follows = record {
      journal = (event.Run who (how.Start serial key tables) ∷ [], put_events);
      others = λ k ne. ap (of_seat ghosts k) put_events ∙ of_seat_else ghosts k h.value.journal.events (event.Run who (how.Start serial key tables)) who.session refl (λ z. ne (omega (arith, z, seated.low, b.next.session)));
      fixed = ap (λ (o : Options). o.size ∷ o.limit ∷ o.unit ∷ o.kind ∷ []) (ap (λ (z : ServerState). z.options) put_adds.server);
      connected = λ k ne. ap (λ (z : ServerState). list_any (λ m. m == k) z.connected.items) put_adds.server;
      tasks = λ k ne. inl (added_others who serial key tables hand t (words h) h.value b.starting b.may.next (holder h).number new a x.text b.room b.may b.same seated b.next.session b.next.number b.next.free b.full b.small b.fits some v v_is k ne);
    }

    pub put_stands : MayRelease (with_value (with_ranges h r) v) × SameHolder h (with_value (with_ranges h r) v)
    put_stands = comes_to_rest h r v (record { held = b.held; follows = b.follows })
        (names who serial key tables hand t (words h) h.value b.starting b.may.next (holder h).number new a, added_whole who serial key tables hand t (words h) h.value b.starting b.may.next (holder h).number new a x.text b.room b.may b.same seated b.next.session b.next.number b.next.free b.full b.small b.fits some v v_is)
        put_follows

-- ---- room in the journal

pub start_room_so : (words : List ℕ) (s v t : ServerState) → Sound words s → v ≡ s → HasMoreRoom v t → length v.dir.entries + incomplete v.dir.entries + 3 ≤ t.journal.spare → HasStartRoom t
start_room_so words s v t sound same more room =
    let is = reserved_is (at_rest hash) sound.0 words s sound.1 in
    let events : t.journal.events ≡ s.journal.events = more.events ∙ ap (λ (x : ServerState). x.journal.events) same in
    omega (arith, room, is, ap (λ j. reserved (cache j)) events, ap (λ (x : ServerState). length x.dir.entries + incomplete x.dir.entries) same)
