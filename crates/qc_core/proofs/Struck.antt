-- A server stays sound when a stream is struck off.
use Rattle.std.proofs.Common.{◌≡◌, ◌≢◌, ℕ, ◌+◌, ◌-◌, Bool, true, false, cond, List, [], ◌∷◌, map, length, refl, sym, ap, subst, ◌∙◌, arith, ⊎_elim, inl, inr}
use Rattle.std.specs.Prelude.{not, ◌||◌, ◌==◌, Some, None, IfSome, is_some, slice_set}
use Rattle.std.specs.List.{list_any, AllByRecursion}
use Rattle.qc_laws.specs.history.Runs.{are_distinct}
use Rattle.qc_tiles.specs.declared.blocks.Tile.{Tile}
use Rattle.qc_chain.specs.Chains.{Chained, Begun, after_release}
use Rattle.qc_chain.specs.Chains.{Chain as Kept}
use Rattle.qc_dir.specs.declared.entries.Entry.{Entry}
use Rattle.qc_dir.specs.Directory.{IsDirectory, entry_at, after_leave, with_entries}
use Rattle.qc_turn.specs.Tasks.{listed_for}
use Rattle.qc_sound.specs.PlainServer.{PlainServer, serial_of, is_task_on, is_stored, is_wanted, listed_tasks}
use Rattle.qc_sound.specs.Moment.{Moment}
use Rattle.qc_sound.specs.Sound.{IsSound}
use Rattle.qc_types.specs.declared.names.TableName.{TableName}
use Rattle.qc_sound.specs.parts.Memory.{TilesAreSound, TablesAreSound, names_table}
use Rattle.qc_sound.specs.PlainServer.{StoredEntry, EntryChain, SeatTask}
use Rattle.qc_sound.proofs.Filters.{distinct_filter, or_right}
use Rattle.qc_turn.specs.declared.task.Task.TheVariants as task
use Rattle.qc_core.specs.EntriesCut.{BlocksAreSound}
use Rattle.qc_core.proofs.Cutting.{whole_blocks, filter_passes}
use Rattle.qc_sound.specs.steps.Leaving.{without_seat}
use Rattle.qc_sound.specs.steps.Ending.{used_less, left_by_user, struck_off, MayEnd}
use Rattle.qc_sound.proofs.Ending.{strike_step, strike_lists, none_each}
use Rattle.qc_laws.proofs.history.Serials.{neither}
use Rattle.qc_core.specs.declared.server_state.RunningTask.{RunningTask}
use Rattle.qc_core.specs.declared.server_state.ServerState.{ServerState}
use Rattle.qc_core.specs.Whole.{Named, chain_blocks, is_named, IsNamedAs, stored, chain_in, work_in, plain, tasks_of, IsNamed, SeatsAreSound, ChainsHaveRoom, RoomIsSound, IsWhole}
use Rattle.qc_core.specs.ChainPins.{after_unpins}
use Rattle.qc_core.specs.EntryRemoval.{released}
use Rattle.qc_core.specs.TaskEnd.{others, is_on, without_task_of, with_user_less, let_go, MayStrike, rested_from, rested_by, rested}
use Rattle.qc_core.specs.KeptLaws.{tasks_same}
use Rattle.qc_core.proofs.Seating.{all_less, found_less}
use Rattle.qc_core.proofs.Uses.{find_all}
use Rattle.qc_model.specs.Licence.{region_words}
use Rattle.qc_core.proofs.ChainRooms.{room_left}
use Rattle.qc_core.proofs.Remaining.{works_named, without_name, differ, IsOther, stored_same, chains_left, begun_left, distinct_less, named_else}
use Rattle.qc_core.proofs.Striking.{ending, others_in, found_in, seat_found, any_in, left_in, all_left, left_length, there_in, named_n, chains_stay, q_at, tiles_kept, tiles_unpinned, tiles_released, wanted_else}

-- ---- what is done with the chain, where it is known

abbrev pub go_on : (on there : Bool) → ℕ → Kept → ServerState → ServerState
go_on true there number held s = s
go_on false true number held s = record s { tiles = after_unpins held.blocks s.tiles }
go_on false false number held s = record s { chains = released number held s.chains; tiles = after_release held.blocks (after_unpins held.blocks s.tiles) }

pub go_is : (on there : Bool) (number : ℕ) (held : Kept) (s : ServerState) → Begun number s.chains held → let_go on there number s ≡ go_on on there number held s
go_is true there number held s begun = refl
go_is false true number held s begun = ap (λ o. record s { tiles = after_unpins (chain_blocks o) s.tiles }) begun
go_is false false number held s begun = ap (λ o. record s { chains = record { chains = slice_set s.chains.chains number None; room = s.chains.room + length (chain_blocks o) }; tiles = after_release (chain_blocks o) (after_unpins (chain_blocks o) s.tiles) }) begun

ends_on : (seat : ℕ) (s : ServerState) (u : MayStrike seat s) → serial_of u.work.task ≡ Some u.serial
ends_on seat s u = ⊎_elim (λ (e : u.work.task ≡ task.Stream u.serial). ap serial_of e) (λ (e : (u.work.task ≡ task.Fill u.serial) × (entry_at u.serial s.dir.entries ≡ None)). ap serial_of e.0) u.ends

pub struck_is : (seat : ℕ) (s : ServerState) (u : MayStrike seat s) → rested seat s ≡ go_on (list_any (is_on u.serial) (others seat s.tasks.items)) (is_some (entry_at u.serial s.dir.entries)) u.work.chain.number u.chain.held (with_user_less u.serial (without_task_of seat s))
struck_is seat s u =
    ap (λ o. rested_by seat o s) u.at
    ∙ (ap (λ o. rested_from seat u.work.chain.number o s) (ends_on seat s u)
    ∙ go_is (list_any (is_on u.serial) (others seat s.tasks.items)) (is_some (entry_at u.serial s.dir.entries)) u.work.chain.number u.chain.held (with_user_less u.serial (without_task_of seat s)) u.chain.begun)

-- the directory is that without the user, whatever is done with the chain
go_dir : (on there : Bool) (number : ℕ) (held : Kept) (s : ServerState) → (go_on on there number held s).dir ≡ s.dir
go_dir true there number held s = refl
go_dir false true number held s = refl
go_dir false false number held s = refl

pub struck_dir : (seat : ℕ) (s : ServerState) (u : MayStrike seat s) → (rested seat s).dir ≡ with_entries (after_leave u.serial s.dir.entries) s.dir
struck_dir seat s u =
    ap (λ (x : ServerState). x.dir) (struck_is seat s u) ∙ go_dir (list_any (is_on u.serial) (others seat s.tasks.items)) (is_some (entry_at u.serial s.dir.entries)) u.work.chain.number u.chain.held (with_user_less u.serial (without_task_of seat s))

pub seats_same : (ws : List RunningTask) → map (λ w. w.seat) (map work_in ws) ≡ map (λ w. w.seat) ws
seats_same [] = refl
seats_same (w ∷ ws) = ap (λ l. w.seat ∷ l) (seats_same ws)

pub once_each : (m : Moment) (names : List Named) (words : List ℕ) (s : ServerState) → IsWhole m names words s → are_distinct (map (λ w. w.seat) s.tasks.items) ≡ true
once_each m names words s h = ap are_distinct (sym (seats_same s.tasks.items)) ∙ h.sound.tasks.one_each

left_serials : (n : ℕ) (es : List Entry) → map (λ e. e.serial) (after_leave n es) ≡ map (λ e. e.serial) es
left_serials n [] = refl
left_serials n (e ∷ es) = elim (e.serial == n) as (λ b. (cond b (record e { users = e.users - 1 }) e).serial ∷ map (λ e. e.serial) (after_leave n es) ≡ e.serial ∷ map (λ e. e.serial) es) [
  | true ↦ ap (λ l. e.serial ∷ l) (left_serials n es)
  | false ↦ ap (λ l. e.serial ∷ l) (left_serials n es)
]

names_left : (t : TableName) (n : ℕ) (es : List StoredEntry) → list_any (names_table t) (left_by_user n es) ≡ list_any (names_table t) es
names_left t n [] = refl
names_left t n (e ∷ es) = elim (is_stored n e) as (λ b. (names_table t (cond b (used_less e) e) || list_any (names_table t) (left_by_user n es)) ≡ (names_table t e || list_any (names_table t) es)) [
  | true ↦ ap (λ b. names_table t e || b) (names_left t n es)
  | false ↦ ap (λ b. names_table t e || b) (names_left t n es)
]

-- ---- the server when a task was struck off

pub record IsStruck (m : Moment) (before : List Named) (seat : ℕ) (s : ServerState) (n : ℕ) (t : ServerState) : Type 0 where
  pub under : List Named
  pub blocks : BlocksAreSound m under t
  pub plain : plain under t ≡ struck_off seat n t.tiles (plain before s)
  pub others : t ≡ record s { dir = t.dir; chains = t.chains; tiles = t.tiles; tasks = t.tasks }

module _ (m : Moment) (names : List Named) (s : ServerState) (seat : ℕ) (h : BlocksAreSound m names s) (u : MayStrike seat s) (valid : IsDirectory (with_entries (after_leave u.serial s.dir.entries) s.dir)) where
  abbrev n : ℕ
  n = u.serial

  abbrev p : PlainServer
  p = plain names s

  abbrev first : ServerState
  first = with_user_less n (without_task_of seat s)

  on_is : list_any (is_on n) (others seat s.tasks.items) ≡ list_any (is_task_on n) (without_seat seat p.tasks)
  on_is = any_in n (others seat s.tasks.items) ∙ ap (list_any (is_task_on n)) (others_in seat s.tasks.items)

  there_is : is_some (entry_at n s.dir.entries) ≡ list_any (is_stored n) p.entries
  there_is = there_in s.chains n s.dir.entries

  named_tasks : AllByRecursion (λ (w : RunningTask). IfSome (serial_of w.task) (λ k. IsNamedAs names k w.chain.number)) (others seat s.tasks.items)
  named_tasks = all_less (λ (w : RunningTask). w.seat) _ seat s.tasks.items h.named.tasks

  named_entries : AllByRecursion (λ (e : Entry). IsNamedAs names e.serial e.chain.number) (after_leave n s.dir.entries)
  named_entries = all_left (λ e. IsNamedAs names e.serial e.chain.number) n s.dir.entries (λ e k. k) h.named.entries

  once : are_distinct (map (λ w. w.seat) s.tasks.items) ≡ true
  once = ap are_distinct (sym (seats_same s.tasks.items)) ∙ h.once

  fewer : length (others seat s.tasks.items) + 1 ≡ length s.tasks.items
  fewer = found_less (λ (w : RunningTask). w.seat) seat s.tasks.items u.work once u.at

  abbrev q : ℕ → Bool
  q k = is_wanted (left_by_user n p.entries) (without_seat seat p.tasks) k

  -- whichever way the chain went
  blocks_so : (under : List Named) (ts : List Tile) (t : ServerState) → plain under t ≡ struck_off seat n ts p → IsNamed under t → TilesAreSound m (struck_off seat n ts p) → t ≡ record first { chains = t.chains; tiles = ts } → ChainsHaveRoom under t.chains (region_words s.options) → BlocksAreSound m under t
  blocks_so under ts t is named tiles same chains = record {
    named = named;
    tiles = subst (TilesAreSound m) (sym is) tiles;
    tables = subst TablesAreSound (sym is) (record { named = λ t. names_left t n p.entries ∙ h.tables.named t; once = h.tables.once; words = h.tables.words });
    apart = subst (λ (z : PlainServer). are_distinct (map (λ c. c.serial) z.chains) ≡ true) (sym is) (distinct_filter (λ (c : EntryChain). c.serial) (λ c. q c.serial) p.chains h.apart);
    wanted = subst (λ (z : PlainServer). AllByRecursion (λ c. is_wanted z.entries z.tasks c.serial ≡ true) z.chains) (sym is) (filter_passes q p.chains);
    once = subst (λ (z : PlainServer). are_distinct (map (λ w. w.seat) z.tasks) ≡ true) (sym is) (distinct_filter (λ (w : SeatTask). w.seat) (λ w. not (w.seat == seat)) p.tasks h.once);
    serials = subst (λ (x : ServerState). are_distinct (map (λ e. e.serial) x.dir.entries) ≡ true) (sym same) (ap are_distinct (left_serials n s.dir.entries) ∙ h.serials);
    directory = subst (λ (x : ServerState). IsDirectory x.dir) (sym same) valid;
    seats = subst SeatsAreSound (sym same) (record { once = h.seats.once; room = h.seats.room; task_room = omega (arith, h.seats.task_room, fewer) });
    room = subst (RoomIsSound under) (sym same) (record { entries = omega (arith, h.room.entries, left_length n s.dir.entries); tables = h.room.tables; chains = chains; unpinner = h.room.unpinner });
  }

  -- the chain stays under its name
  module _ (ts : List Tile) (e : is_wanted (left_by_user n p.entries) (without_seat seat p.tasks) n ≡ true) where
    stay_plain : plain names (record first { tiles = ts }) ≡ struck_off seat n ts p
    stay_plain = λ i. record {
      options = s.options;
      journal = s.journal.events;
      spare = s.journal.spare;
      database = s.database;
      entries = left_in s.chains n s.dir.entries i;
      chains = sym (chains_stay m names s seat h (ending seat s u) e) i;
      table_blocks = p.table_blocks;
      tiles = ts;
      connected = s.connected.items;
      tasks = others_in seat s.tasks.items i;
    }

    stay : TilesAreSound m (struck_off seat n ts p) → IsStruck m names seat s n (record first { tiles = ts })
    stay tiles = record {
      under = names;
      blocks = blocks_so names ts (record first { tiles = ts }) stay_plain (record { begun = h.named.begun; numbers = h.named.numbers; entries = named_entries; tasks = named_tasks }) tiles refl h.room.chains;
      plain = stay_plain;
      others = refl;
    }

  -- the chain goes, and its name
  module _ (off : list_any (is_task_on n) (without_seat seat p.tasks) ≡ false) (gone : list_any (is_stored n) p.entries ≡ false) where
    abbrev number : ℕ
    number = u.work.chain.number

    abbrev ts : List Tile
    ts = after_release u.chain.held.blocks (after_unpins u.chain.held.blocks s.tiles)

    abbrev cs : Chained
    cs = released number u.chain.held s.chains

    abbrev goes : ServerState
    goes = record first { chains = cs; tiles = ts }

    numbers : AllByRecursion (IsOther n number) names
    numbers = differ n number names h.named.numbers (named_n m names s seat h (ending seat s u))

    -- no entry is on that chain
    none_on : (es : List Entry) → list_any (is_stored n) (map (stored s.chains) es) ≡ false → AllByRecursion (λ e. IsNamedAs names e.serial e.chain.number) es → AllByRecursion (λ e. e.chain.number ≢ number) es
    none_on [] g k = tt
    none_on (e ∷ es) g k = let t = neither (e.serial == n) (list_any (is_stored n) (map (stored s.chains) es)) g in (find_all (IsOther n number) (is_named e.serial) names _ numbers k.0 t.0, none_on es t.1 k.1)

    else_named : (es : List Entry) → list_any (is_stored n) (map (stored s.chains) es) ≡ false → AllByRecursion (λ e. IsNamedAs names e.serial e.chain.number) es → AllByRecursion (λ e. IsNamedAs (without_name n names) e.serial e.chain.number) es
    else_named [] g k = tt
    else_named (e ∷ es) g k = let t = neither (e.serial == n) (list_any (is_stored n) (map (stored s.chains) es)) g in (named_else n e.serial names t.0 ∙ k.0, else_named es t.1 k.1)

    left_on : AllByRecursion (λ (e : Entry). e.chain.number ≢ number) (after_leave n s.dir.entries)
    left_on = all_left (λ e. e.chain.number ≢ number) n s.dir.entries (λ e k. k) (none_on s.dir.entries gone h.named.entries)

    go_plain : plain (without_name n names) goes ≡ struck_off seat n ts p
    go_plain = λ i. record {
      options = s.options;
      journal = s.journal.events;
      spare = s.journal.spare;
      database = s.database;
      entries = (stored_same s.chains number u.chain.held (after_leave n s.dir.entries) left_on ∙ left_in s.chains n s.dir.entries) i;
      chains = chains_left (λ k. is_wanted (left_by_user n p.entries) (without_seat seat p.tasks) k) s.chains n number u.chain.held names (of_names names (wanted_else m names s seat h (ending seat s u) off gone)) numbers i;
      table_blocks = p.table_blocks;
      tiles = ts;
      connected = s.connected.items;
      tasks = others_in seat s.tasks.items i;
    }
      where
        of_names : (xs : List Named) → AllByRecursion (λ c. is_wanted (left_by_user n p.entries) (without_seat seat p.tasks) c.serial ≡ not (c.serial == n)) (map (chain_in s.chains) xs) → AllByRecursion (λ x. is_wanted (left_by_user n p.entries) (without_seat seat p.tasks) x.serial ≡ not (x.serial == n)) xs
        of_names [] k = tt
        of_names (x ∷ xs) k = (k.0, of_names xs k.1)

    go_named : IsNamed (without_name n names) goes
    go_named = record {
      begun = begun_left s.chains n number u.chain.held names numbers h.named.begun;
      numbers = distinct_less (λ x. not (is_named n x)) names h.named.numbers;
      entries = all_left (λ e. IsNamedAs (without_name n names) e.serial e.chain.number) n s.dir.entries (λ e k. k) (else_named s.dir.entries gone h.named.entries);
      tasks = works_named n names (others seat s.tasks.items) (none_each (is_task_on n) (map work_in (others seat s.tasks.items)) (ap (list_any (is_task_on n)) (others_in seat s.tasks.items) ∙ off)) named_tasks;
    }

    go : IsStruck m names seat s n goes
    go = record {
      under = without_name n names;
      blocks = blocks_so (without_name n names) ts goes go_plain go_named (tiles_released m names s seat h (ending seat s u) off gone) refl (room_left names s.chains n number u.chain.held (region_words s.options) h.apart (named_n m names s seat h (ending seat s u)) u.chain.begun numbers h.room.chains);
      plain = go_plain;
      others = refl;
    }

  struck_so : (a b : Bool) → list_any (is_task_on n) (without_seat seat p.tasks) ≡ a → list_any (is_stored n) p.entries ≡ b → IsStruck m names seat s n (go_on a b u.work.chain.number u.chain.held first)
  struck_so true b x y =
      let e = q_at m names s seat h (ending seat s u) ∙ (ap (λ c. list_any (is_stored n) p.entries || c) x ∙ or_right (list_any (is_stored n) p.entries) true refl) in
      stay s.tiles e (tiles_kept m names s seat h (ending seat s u) x)
  struck_so false true x y =
      let e = q_at m names s seat h (ending seat s u) ∙ ap (λ c. c || list_any (is_task_on n) (without_seat seat p.tasks)) y in
      stay (after_unpins u.chain.held.blocks s.tiles) e (tiles_unpinned m names s seat h (ending seat s u) x y)
  struck_so false false x y = go x y

  pub struck_blocks : IsStruck m names seat s n (rested seat s)
  struck_blocks =
      subst (IsStruck m names seat s n) (sym (struck_is seat s u))
      (struck_so (list_any (is_on n) (others seat s.tasks.items)) (is_some (entry_at n s.dir.entries)) (sym on_is) (sym there_is))

-- what the server is when the seat rests
pub record IsRested (m : Moment) (words : List ℕ) (seat : ℕ) (s t : ServerState) : Type 0 where
  pub under : List Named
  pub whole : IsWhole m under words t
  pub rests : listed_for seat (tasks_of t) ≡ []
  pub listed : (k : ℕ) → k ≢ seat → listed_for k (tasks_of t) ≡ listed_for k (tasks_of s)
  pub journal : t.journal ≡ s.journal
  pub options : t.options ≡ s.options
  pub connected : t.connected ≡ s.connected

-- as the plain server has it
may_end : (names : List Named) (s : ServerState) (seat : ℕ) (u : MayStrike seat s) → MayEnd seat u.serial (plain names s)
may_end names s seat u =
    let found = found_in seat s.tasks.items u.work u.at in
    let same = seat_found seat s.tasks.items u.work u.at in
    ⊎_elim
    (λ (e : u.work.task ≡ task.Stream u.serial). inl (found ∙ (λ i. Some (record { seat = same i; task = e i }))))
    (λ (e : (u.work.task ≡ task.Fill u.serial) × (entry_at u.serial s.dir.entries ≡ None)). inr (found ∙ (λ i. Some (record { seat = same i; task = e.0 i })), sym (there_in s.chains u.serial s.dir.entries) ∙ ap is_some e.1))
    u.ends

pub struck_whole : (m : Moment) (names : List Named) (words : List ℕ) (s : ServerState) (seat : ℕ) → IsWhole m names words s → (u : MayStrike seat s) → IsDirectory (with_entries (after_leave u.serial s.dir.entries) s.dir) → IsRested m words seat s (rested seat s)
struck_whole m names words s seat h u valid =
    let bs = whole_blocks m names words s h in
    let n = u.serial in
    let t = rested seat s in
    let p = plain names s in
    let r = struck_blocks m names s seat bs u valid in
    let b = r.blocks in
    let whole : IsWhole m r.under words t = record {
      named = b.named;
      sound = subst (λ z. IsSound m words z) (sym r.plain) (strike_step m words p seat n t.tiles h.sound (may_end names s seat u) (subst (TilesAreSound m) r.plain b.tiles));
      directory = b.directory;
      seats = b.seats;
      room = b.room;
    } in
    let lists = strike_lists p seat n t.tiles in
    record {
      under = r.under;
      whole = whole;
      rests = ap (listed_for seat) (tasks_same r.under t b.named ∙ ap listed_tasks r.plain) ∙ lists.alone;
      listed = λ k ne. ap (listed_for k) (tasks_same r.under t b.named ∙ ap listed_tasks r.plain) ∙ (lists.others k ne ∙ sym (ap (listed_for k) (tasks_same names s h.named)));
      journal = ap (λ (x : ServerState). x.journal) r.others;
      options = ap (λ (x : ServerState). x.options) r.others;
      connected = ap (λ (x : ServerState). x.connected) r.others;
    }
