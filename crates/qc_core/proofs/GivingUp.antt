-- A fill is given up: its entry leaves, then the fill, and the event says so.
use Rattle.std.proofs.Common.{◌≡◌, ℕ, ◌+◌, ◌-◌, ◌<◌, ◌≤◌, eqb, Bool, true, false, cond, List, [], ◌∷◌, ◌++◌, map, length, refl, sym, ap, subst, ◌∙◌, arith, true≢false, inr}
use Rattle.std.specs.Prelude.{not, ◌||◌, Option, Some, None, IfSome, find}
use Rattle.std.specs.List.{list_any, filter}
use Rattle.std.proofs.lemmas.Option.{none-some}
use Rattle.qc_key.specs.Hash.{hash}
use Rattle.qc_types.specs.declared.names.TableName.{TableName}
use Rattle.qc_laws.specs.history.Runs.{are_distinct}
use Rattle.qc_laws.proofs.history.Serials.{neither}
use Rattle.qc_model.specs.declared.events.Event.{Event}
use Rattle.qc_model.specs.declared.events.Event.TheVariants as event
use Rattle.qc_model.specs.declared.events.GoneWhy.{GoneWhy}
use Rattle.qc_model.specs.Cache.{cache, entry_of}
use Rattle.qc_model.specs.Cache.{Entry as Cached}
use Rattle.qc_tiles.specs.declared.blocks.Tile.{Tile}
use Rattle.qc_tiles.specs.declared.blocks.Block.{Block}
use Rattle.qc_chain.specs.Chains.{Begun}
use Rattle.qc_chain.specs.Chains.{Chain as Kept}
use Rattle.qc_dir.specs.declared.entries.Entry.{Entry}
use Rattle.qc_dir.specs.declared.tables.TableBlock.{TableBlock}
use Rattle.qc_dir.specs.Directory.{IsDirectory, entry_at, has_serial, without}
use Rattle.qc_turn.specs.Tasks.{listed_for}
use Rattle.qc_sound.specs.PlainServer.{PlainServer, StoredEntry, EntryChain, serial_of, is_task_on, is_stored, is_wanted, listed_tasks}
use Rattle.qc_sound.specs.Moment.{Moment, at_rest}
use Rattle.qc_sound.specs.Sound.{IsSound}
use Rattle.qc_sound.specs.parts.Journal.{incomplete_count}
use Rattle.qc_sound.specs.parts.Memory.{TilesAreSound, TablesAreSound}
use Rattle.qc_sound.specs.steps.Leaving.{is_of_seat, without_seat, filling, staying, given_up}
use Rattle.qc_sound.specs.steps.Ending.{used_less, left_by_user, struck_off}
use Rattle.qc_sound.proofs.Needs.{needs_push}
use Rattle.qc_sound.proofs.Growing.{Meant, meant}
use Rattle.qc_sound.proofs.Gone.{gone_step, gone_lists}
use Rattle.qc_core.specs.declared.server_state.ServerState.{ServerState}
use Rattle.qc_core.specs.Whole.{IsNamedAs, table_pair, plain, IsWhole, with_event}
use Rattle.qc_core.specs.KeptLaws.{tasks_same}
use Rattle.qc_core.specs.EntryRemoval.{MayLeave, Leaves}
use Rattle.qc_core.specs.TaskEnd.{is_of, MayStrike, MayRest, rested}
use Rattle.qc_core.specs.EntriesCut.{BlocksAreSound, cut}
use Rattle.qc_core.specs.FillEnd.{MayGiveUpFill, EndsFill}
use Rattle.qc_core.proofs.Uses.{Back, back, find_all, begun_at}
use Rattle.qc_core.proofs.Remaining.{none_staying}
use Rattle.qc_core.proofs.Striking.{found_in, seat_found}
use Rattle.qc_core.proofs.Letting.{chain_out, may_let_go}
use Rattle.qc_core.proofs.Cutting.{whole_blocks, cut_leaves, cut_one, CutOne}
use Rattle.qc_core.proofs.Struck.{IsStruck, struck_dir, struck_blocks, seats_same}

none_at : (n : ℕ) (es : List Entry) → entry_at n (without n es) ≡ None
none_at n [] = refl
none_at n (e ∷ es) = elim (eqb e.serial n) as (λ b. eqb e.serial n ≡ b → entry_at n (cond (not b) (e ∷ without n es) (without n es)) ≡ None) [
  | true ↦ λ p. none_at n es
  | false ↦ λ p. ap (λ b. cond b (Some e) (entry_at n (without n es))) p ∙ none_at n es
] refl

-- no user goes where there is no entry
user_none : (n : ℕ) (es : List StoredEntry) → list_any (is_stored n) es ≡ false → left_by_user n es ≡ es
user_none n [] h = refl
user_none n (e ∷ es) h = let t = neither (is_stored n e) (list_any (is_stored n) es) h in ap (λ b. cond b (used_less e) e ∷ left_by_user n es) t.0 ∙ ap (λ l. e ∷ l) (user_none n es t.1)

pub any_filter : {A : Type 0} (f g : A → Bool) (xs : List A) → list_any f (filter g xs) ≡ true → list_any f xs ≡ true
any_filter f g [] h = h
any_filter f g (x ∷ xs) h = elim (g x) as (λ b. list_any f (cond b (x ∷ filter g xs) (filter g xs)) ≡ true → (f x || list_any f xs) ≡ true) [
  | true ↦ λ k. elim (f x) as (λ b. (b || list_any f (filter g xs)) ≡ true → (b || list_any f xs) ≡ true) [ true ↦ λ _. refl | false ↦ λ z. any_filter f g xs z ] k
  | false ↦ λ k. elim (f x) as (λ b. (b || list_any f xs) ≡ true) [ true ↦ refl | false ↦ any_filter f g xs k ]
] h

pub or_more : (a b c : Bool) → (b ≡ true → c ≡ true) → (a || b) ≡ true → (a || c) ≡ true
or_more true b c f h = refl
or_more false b c f h = f h

-- a test that another one follows from
pub filter_within : (q r : ℕ → Bool) (cs : List EntryChain) → ((k : ℕ) → q k ≡ true → r k ≡ true) → filter (λ c. q c.serial) (filter (λ c. r c.serial) cs) ≡ filter (λ c. q c.serial) cs
filter_within q r [] f = refl
filter_within q r (c ∷ cs) f =
    let rest = filter_within q r cs f in
    elim (r c.serial) as (λ b. r c.serial ≡ b → filter (λ c. q c.serial) (cond b (c ∷ filter (λ c. r c.serial) cs) (filter (λ c. r c.serial) cs)) ≡ filter (λ c. q c.serial) (c ∷ cs)) [
      | true ↦ λ e. ap (λ l. cond (q c.serial) (c ∷ l) l) rest
      | false ↦ λ e. rest ∙ sym (ap (λ b. cond b (c ∷ filter (λ c. q c.serial) cs) (filter (λ c. q c.serial) cs)) (off (q c.serial) (λ z. true≢false (sym (f c.serial z) ∙ e))))
    ] refl
  where
    off : (b : Bool) → (b ≡ true → ⊥) → b ≡ false
    off true h = absurd (h refl)
    off false h = refl

-- the entry is out, and so is the task on it, with no event yet
abbrev pub given : ℕ → ℕ → List Tile → List (TableName × Block) → PlainServer → PlainServer
given n seat tiles blocks p = record p {
  entries = staying (is_stored n) p.entries;
  chains = filter (λ c. is_wanted (staying (is_stored n) p.entries) (without_seat seat p.tasks) c.serial) p.chains;
  table_blocks = blocks;
  tiles = tiles;
  tasks = without_seat seat p.tasks;
}

given_is : (n seat : ℕ) (ts us : List Tile) (blocks : List (TableName × Block)) (p : PlainServer) → struck_off seat n us (cut (is_stored n) ts blocks p) ≡ given n seat us blocks p
given_is n seat ts us blocks p =
    let es = staying (is_stored n) p.entries in
    let ws = without_seat seat p.tasks in
    let same : left_by_user n es ≡ es = user_none n es (none_staying n p.entries) in
    let chains : filter (λ (c : EntryChain). is_wanted (left_by_user n es) ws c.serial) (filter (λ (c : EntryChain). is_wanted es p.tasks c.serial) p.chains) ≡ filter (λ (c : EntryChain). is_wanted es ws c.serial) p.chains =
    ap (λ l. filter (λ (c : EntryChain). is_wanted l ws c.serial) (filter (λ (c : EntryChain). is_wanted es p.tasks c.serial) p.chains)) same
    ∙ filter_within (λ k. is_wanted es ws k) (λ k. is_wanted es p.tasks k) p.chains (λ k. or_more (list_any (is_stored k) es) (list_any (is_task_on k) ws) (list_any (is_task_on k) p.tasks) (any_filter (is_task_on k) (λ w. not (is_of_seat seat w)) p.tasks)) in
    λ i. record p { entries = same i; chains = chains i; table_blocks = blocks; tiles = us; tasks = ws }

pub room_of : (ys : List Cached) (y : Cached) (n spare : ℕ) → entry_of n ys ≡ Some y → length ys + incomplete_count ys ≤ spare → 1 ≤ spare
room_of [] y n spare f k = absurd (none-some y f)
room_of (x ∷ ys) y n spare f k = omega (arith, k)

module _ (seat n : ℕ) (why : GoneWhy) (s : ServerState) (u : MayGiveUpFill seat n why s) where
  abbrev m : Moment
  m = at_rest hash

  abbrev p : PlainServer
  p = plain u.names s

  abbrev bs : BlocksAreSound m u.names s
  bs = whole_blocks m u.names u.words s u.whole

  abbrev here : Meant m u.words n p (λ y. y.complete ≡ false)
  here = meant m u.words n p (λ y. y.complete ≡ false) u.whole.sound u.licensed.0

  abbrev e : Back s.chains n s.dir.entries here.at
  e = back s.chains n s.dir.entries here.at here.found

  abbrev named : IsNamedAs u.names e.entry.serial e.entry.chain.number
  named = find_all (λ e. IsNamedAs u.names e.serial e.chain.number) (has_serial n) s.dir.entries e.entry u.whole.named.entries e.there

  abbrev c : (held : Kept) × Begun e.entry.chain.number s.chains held
  c = begun_at u.names s e.entry.serial e.entry.chain.number u.whole.named named

  abbrev pub may_leave : MayLeave n s
  may_leave = cut_leaves m u.names s n bs e.entry c.0 e.there c.1 (chain_out m u.names s e.entry.serial e.entry.chain.number c.0 bs named c.1)

  module _ (t : ServerState) (freed : List TableBlock) (l : Leaves n e.entry c.0 freed s t) (valid : IsDirectory t.dir) where
    abbrev o : CutOne m u.names s n bs e.entry c.0 e.there c.1 freed t l valid
    o = cut_one m u.names s n bs e.entry c.0 e.there c.1 freed t l valid

    left : entry_at n t.dir.entries ≡ None
    left = ap (entry_at n) l.removed.entries ∙ none_at n s.dir.entries

    at : find (is_of seat) t.tasks.items ≡ Some u.fills.work
    at = ap (λ (x : ServerState). find (is_of seat) x.tasks.items) o.others ∙ u.fills.at

    named_t : IsNamedAs o.under n u.fills.work.chain.number
    named_t = subst (λ o1. IfSome o1 (λ k. IsNamedAs o.under k u.fills.work.chain.number)) (ap serial_of u.fills.fill) (find_all (λ w. IfSome (serial_of w.task) (λ k. IsNamedAs o.under k w.chain.number)) (is_of seat) t.tasks.items u.fills.work o.blocks.named.tasks at)

    abbrev may_strike : MayStrike seat t
    may_strike = record {
      work = u.fills.work;
      serial = n;
      at = at;
      ends = inr (u.fills.fill, left);
      used = subst (λ (o : Option Entry). IfSome o (λ e. 0 < e.users)) (sym left) tt;
      chain = may_let_go m o.under t n u.fills.work.chain.number o.blocks named_t;
    }

    pub may_rest : MayRest seat t
    may_rest = record { once = ap are_distinct (sym (seats_same t.tasks.items)) ∙ o.blocks.once; task = inr may_strike }

    module _ (valid2 : IsDirectory (rested seat t).dir) where
      abbrev x : ServerState
      x = rested seat t

      abbrev st : IsStruck m o.under seat t n x
      st = struck_blocks m o.under t seat o.blocks may_strike (subst IsDirectory (struck_dir seat t may_strike) valid2)

      abbrev tables : List (TableName × Block)
      tables = map table_pair t.dir.tables

      plain_x : plain st.under x ≡ given n seat x.tiles tables p
      plain_x = st.plain ∙ (ap (struck_off seat n x.tiles) o.plain ∙ given_is n seat t.tiles x.tiles tables p)

      pub same_journal : x.journal ≡ s.journal
      same_journal = ap (λ (y : ServerState). y.journal) st.others ∙ ap (λ (y : ServerState). y.journal) o.others

      pub room : 1 ≤ x.journal.spare
      room = subst (λ j. 1 ≤ j.spare) (sym same_journal) (room_of (cache s.journal.events) here.entry n s.journal.spare here.cached u.whole.sound.journal.room)

      abbrev ev : Event
      ev = event.Gone n why

      abbrev after : PlainServer
      after = given_up n why seat x.tiles tables p

      plain_is : plain st.under (with_event ev x) ≡ after
      plain_is = λ i. record (plain_x i) { journal = (plain_x i).journal ++ ev ∷ []; spare = (plain_x i).spare - 1 }

      fill_p : find (is_of_seat seat) p.tasks ≡ Some (filling seat n)
      fill_p = found_in seat s.tasks.items u.fills.work u.fills.at ∙ (λ i. Some (record { seat = seat_found seat s.tasks.items u.fills.work u.fills.at i; task = u.fills.fill i }))

      sound : IsSound m u.words after
      sound =
          let tiles = subst (TilesAreSound m) plain_x st.blocks.tiles in
          let blocks = subst TablesAreSound plain_x st.blocks.tables in
          gone_step m u.words p n why seat x.tiles tables u.whole.sound u.licensed (needs_push s.options s.journal.events ev u.whole.sound.journal.needs tt) fill_p
          (record { tiling = tiles.tiling; in_use = tiles.in_use; pinned = tiles.pinned }) (record { named = blocks.named; once = blocks.once; words = blocks.words })

      pub gives_up : EndsFill ev seat u.words s (with_event ev x)
      gives_up =
          let b = st.blocks in
          let lists = gone_lists p n why seat x.tiles tables in
          let whole : IsWhole m st.under u.words (with_event ev x) = record {
            named = record { begun = b.named.begun; numbers = b.named.numbers; entries = b.named.entries; tasks = b.named.tasks };
            sound = subst (λ z. IsSound m u.words z) (sym plain_is) sound;
            directory = b.directory;
            seats = record { once = b.seats.once; room = b.seats.room; task_room = b.seats.task_room };
            room = record { entries = b.room.entries; tables = b.room.tables; chains = b.room.chains; unpinner = b.room.unpinner };
          } in
          let same = tasks_same st.under (with_event ev x) whole.named ∙ ap listed_tasks plain_is in
          record {
            names = st.under;
            whole = whole;
            events = ap (λ j. j.events ++ ev ∷ []) same_journal;
            rests = ap (listed_for seat) same ∙ lists.alone;
            listed = λ k ne. ap (listed_for k) same ∙ (lists.others k ne ∙ sym (ap (listed_for k) (tasks_same u.names s u.whole.named)));
            options = ap (λ (y : ServerState). y.options) st.others ∙ ap (λ (y : ServerState). y.options) o.others;
            database = ap (λ (y : ServerState). y.database) st.others ∙ ap (λ (y : ServerState). y.database) o.others;
            connected = ap (λ (y : ServerState). y.connected) st.others ∙ ap (λ (y : ServerState). y.connected) o.others;
          }
