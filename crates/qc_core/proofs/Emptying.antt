-- Entries are taken out one after another, before the event that says so.
use Rattle.std.proofs.Common.{◌≡◌, ℕ, ◌-◌, Bool, true, false, cond, List, [], ◌∷◌, ◌++◌, map, refl, sym, ap, subst, ◌∙◌}
use Rattle.std.specs.Prelude.{not, ◌||◌, Some}
use Rattle.std.specs.List.{list_any, list_all, filter, AllByRecursion}
use Rattle.qc_types.specs.declared.names.TableName.{TableName}
use Rattle.qc_sql.specs.declared.tables.RowOp.{RowOp}
use Rattle.qc_sql.specs.Database.{Database, apply}
use Rattle.qc_model.specs.declared.events.Who.{Who}
use Rattle.qc_model.specs.declared.events.Event.{Event}
use Rattle.qc_model.specs.declared.events.Event.TheVariants as event
use Rattle.qc_model.specs.Journal.{operations}
use Rattle.qc_model.specs.Licence.{IsLicensed}
use Rattle.qc_tiles.specs.declared.blocks.Tile.{Tile}
use Rattle.qc_tiles.specs.declared.blocks.Block.{Block}
use Rattle.qc_chain.specs.Chains.{Begun}
use Rattle.qc_chain.specs.Chains.{Chain as Kept}
use Rattle.qc_dir.specs.declared.entries.Entry.{Entry}
use Rattle.qc_dir.specs.declared.tables.TableBlock.{TableBlock}
use Rattle.qc_dir.specs.Directory.{IsDirectory, entry_at, has_serial}
use Rattle.qc_laws.specs.sizes.Operations.{is_small_operation}
use Rattle.qc_sound.specs.PlainServer.{PlainServer, StoredEntry, EntryChain, is_task_on, is_stored, is_wanted, listed_tasks}
use Rattle.qc_sound.specs.Moment.{Moment}
use Rattle.qc_sound.specs.Sound.{IsSound}
use Rattle.qc_sound.specs.Pending.{NeedsOf}
use Rattle.qc_sound.specs.parts.Memory.{TilesAreSound, TablesAreSound}
use Rattle.qc_sound.specs.steps.Events.{OfNone, HasRoom}
use Rattle.qc_sound.specs.steps.Leaving.{staying, left, is_touched, GivesBack}
use Rattle.qc_sound.proofs.Filters.{tasks_stay, tasks_wanted}
use Rattle.qc_sound.proofs.Leaves.{reset_step, commit_step}
use Rattle.qc_core.specs.declared.server_state.ServerState.{ServerState}
use Rattle.qc_core.specs.Whole.{Named, IsNamedAs, IsNamed, table_pair, plain, IsWhole, with_event, tasks_of}
use Rattle.qc_core.specs.KeptLaws.{tasks_same}
use Rattle.qc_core.specs.Invalidation.{with_database}
use Rattle.qc_core.specs.EntryRemoval.{MayLeave, Leaves}
use Rattle.qc_core.specs.EntriesCut.{BlocksAreSound, cut, is_removed, IsCut}
use Rattle.qc_core.proofs.Uses.{find_all, begun_at}
use Rattle.qc_core.proofs.Letting.{chain_out}
use Rattle.qc_core.proofs.Cutting.{cut_leaves, cut_one, CutOne}
use Rattle.qc_core.proofs.GivingUp.{any_filter, filter_within}

none_removed : (es : List StoredEntry) → staying (is_removed []) es ≡ es
none_removed [] = refl
none_removed (e ∷ es) = ap (λ l. e ∷ l) (none_removed es)

keep_all : (f : EntryChain → Bool) (cs : List EntryChain) → AllByRecursion (λ c. f c ≡ true) cs → filter f cs ≡ cs
keep_all f [] h = refl
keep_all f (c ∷ cs) h = ap (λ b. cond b (c ∷ filter f cs) (filter f cs)) h.0 ∙ ap (λ l. c ∷ l) (keep_all f cs h.1)

-- none is out before the first
pub cut_none : (m : Moment) (names : List Named) (s : ServerState) → BlocksAreSound m names s → IsCut m names [] s s
cut_none m names s h =
    let p = plain names s in
    let same = none_removed p.entries in
    let chains : filter (λ (c : EntryChain). is_wanted (staying (is_removed []) p.entries) p.tasks c.serial) p.chains ≡ p.chains =
    ap (λ l. filter (λ (c : EntryChain). is_wanted l p.tasks c.serial) p.chains) same ∙ keep_all (λ c. is_wanted p.entries p.tasks c.serial) p.chains h.wanted in
    record { names = names; blocks = h; plain = λ i. record p { entries = sym same i; chains = sym chains i }; pinned = refl; others = refl }

stay_twice : (a b : StoredEntry → Bool) (es : List StoredEntry) → staying a (staying b es) ≡ staying (λ e. a e || b e) es
stay_twice a b [] = refl
stay_twice a b (e ∷ es) =
    let rest = stay_twice a b es in
    elim (b e) as (λ y. filter (λ x. not (a x)) (cond (not y) (e ∷ staying b es) (staying b es)) ≡ cond (not (a e || y)) (e ∷ staying (λ x. a x || b x) es) (staying (λ x. a x || b x) es)) [
      | true ↦ elim (a e) as (λ x. staying a (staying b es) ≡ cond (not (x || true)) (e ∷ staying (λ x. a x || b x) es) (staying (λ x. a x || b x) es)) [ true ↦ rest | false ↦ rest ]
      | false ↦ elim (a e) as (λ x. cond (not x) (e ∷ staying a (staying b es)) (staying a (staying b es)) ≡ cond (not (x || false)) (e ∷ staying (λ x. a x || b x) es) (staying (λ x. a x || b x) es)) [ true ↦ rest | false ↦ ap (λ l. e ∷ l) rest ]
    ]

or_first : (a b c : Bool) → (a ≡ true → b ≡ true) → (a || c) ≡ true → (b || c) ≡ true
or_first true b c f h = ap (λ x. x || c) (f refl)
or_first false true c f h = refl
or_first false false c f h = h

-- two cuts are one
cut_twice : (a b : StoredEntry → Bool) (ts us : List Tile) (xs ys : List (TableName × Block)) (p : PlainServer) → cut a us ys (cut b ts xs p) ≡ cut (λ e. a e || b e) us ys p
cut_twice a b ts us xs ys p =
    let es = staying b p.entries in
    let same = stay_twice a b p.entries in
    let chains : filter (λ (c : EntryChain). is_wanted (staying a es) p.tasks c.serial) (filter (λ (c : EntryChain). is_wanted es p.tasks c.serial) p.chains) ≡ filter (λ (c : EntryChain). is_wanted (staying (λ e. a e || b e) p.entries) p.tasks c.serial) p.chains =
    filter_within (λ k. is_wanted (staying a es) p.tasks k) (λ k. is_wanted es p.tasks k) p.chains (λ k. or_first (list_any (is_stored k) (staying a es)) (list_any (is_stored k) es) (list_any (is_task_on k) p.tasks) (any_filter (is_stored k) (λ e. not (a e)) es))
    ∙ ap (λ l. filter (λ (c : EntryChain). is_wanted l p.tasks c.serial) p.chains) same in
    λ i. record p { entries = same i; chains = chains i; table_blocks = ys; tiles = us }

module _ (m : Moment) (before : List Named) (serials : List ℕ) (old s : ServerState) (k : IsCut m before serials old s) (n : ℕ) (e : Entry) (there : entry_at n s.dir.entries ≡ Some e) where
  abbrev named : IsNamedAs k.names e.serial e.chain.number
  named = find_all (λ e. IsNamedAs k.names e.serial e.chain.number) (has_serial n) s.dir.entries e k.blocks.named.entries there

  abbrev pub chain_of : (held : Kept) × Begun e.chain.number s.chains held
  chain_of = begun_at k.names s e.serial e.chain.number k.blocks.named named

  -- one more may be taken out
  pub may_leave : MayLeave n s
  may_leave = cut_leaves m k.names s n k.blocks e chain_of.0 there chain_of.1 (chain_out m k.names s e.serial e.chain.number chain_of.0 k.blocks named chain_of.1)

  module _ (t : ServerState) (freed : List TableBlock) (l : Leaves n e chain_of.0 freed s t) (valid : IsDirectory t.dir) where
    abbrev o : CutOne m k.names s n k.blocks e chain_of.0 there chain_of.1 freed t l valid
    o = cut_one m k.names s n k.blocks e chain_of.0 there chain_of.1 freed t l valid

    -- and then that one is out too
    pub cut_more : IsCut m before (n ∷ serials) old t
    cut_more = record {
      names = o.under;
      blocks = o.blocks;
      plain = o.plain ∙ (ap (cut (is_stored n) t.tiles (map table_pair t.dir.tables)) k.plain ∙ cut_twice (is_stored n) (is_removed serials) s.tiles t.tiles (map table_pair s.dir.tables) (map table_pair t.dir.tables) (plain before old));
      pinned = o.pinned ∙ k.pinned;
      others = o.others ∙ ap (λ (x : ServerState). record x { dir = t.dir; chains = t.chains; tiles = t.tiles }) k.others;
    }

-- ---- with the event

none_stay : (es : List StoredEntry) → [] ≡ staying (λ e. true) es
none_stay [] = refl
none_stay (e ∷ es) = none_stay es

-- The entries are out that an event takes out, and the database is the one that it makes.
module _ (m : Moment) (before : List Named) (serials words : List ℕ) (old t : ServerState) (k : IsCut m before serials old t) (e : Event) (gone : StoredEntry → Bool) (same : staying (is_removed serials) (plain before old).entries ≡ staying gone (plain before old).entries) (d : Database) (made : d ≡ apply (operations e) old.database) where
  abbrev p : PlainServer
  p = plain before old

  abbrev tables : List (TableName × Block)
  tables = map table_pair t.dir.tables

  abbrev now : PlainServer
  now = left e gone t.tiles tables p

  cut_gone : plain k.names t ≡ cut gone t.tiles tables p
  cut_gone = k.plain ∙ (λ i. record p { entries = same i; chains = filter (λ (c : EntryChain). is_wanted (same i) p.tasks c.serial) p.chains; table_blocks = tables; tiles = t.tiles })

  plain_is : plain k.names (with_event e (with_database d t)) ≡ now
  plain_is = λ i. record (cut_gone i) { journal = (cut_gone i).journal ++ e ∷ []; spare = (cut_gone i).spare - 1; database = made i }

  -- the blocks are given back that nobody wants
  pub gives : GivesBack m p now
  gives =
      let tiles = subst (TilesAreSound m) cut_gone k.blocks.tiles in
      let blocks = subst TablesAreSound cut_gone k.blocks.tables in
      record { tiling = tiles.tiling; in_use = tiles.in_use; pinned = k.pinned; tables = record { named = blocks.named; once = blocks.once; words = blocks.words } }

  -- and the server is sound with the event where the plain one is
  pub cut_whole : IsSound m words now → IsWhole m k.names words (with_event e (with_database d t))
  cut_whole sound =
      let b = k.blocks in
      record {
        named = record { begun = b.named.begun; numbers = b.named.numbers; entries = b.named.entries; tasks = b.named.tasks };
        sound = subst (λ z. IsSound m words z) (sym plain_is) sound;
        directory = b.directory;
        seats = record { once = b.seats.once; room = b.seats.room; task_room = b.seats.task_room };
        room = record { entries = b.room.entries; tables = b.room.tables; chains = b.room.chains; unpinner = b.room.unpinner };
      }

-- a reset, where all entries are out
pub reset_whole : (m : Moment) (before : List Named) (serials words : List ℕ) (old t : ServerState) (k : IsCut m before serials old t) (who : Who) → IsWhole m before words old → staying (is_removed serials) (plain before old).entries ≡ [] → IsLicensed old.options old.journal.events (event.Reset who) → NeedsOf old.options m.next (old.journal.events ++ event.Reset who ∷ []) → OfNone (event.Reset who) (plain before old).tasks → HasRoom (plain before old) → IsWhole m k.names words (with_event (event.Reset who) t)
reset_whole m before serials words old t k who h all licensed needs none room =
    let p = plain before old in
    let e = event.Reset who in
    let same = all ∙ none_stay p.entries in
    let made : t.database ≡ old.database = ap (λ (x : ServerState). x.database) k.others in
    cut_whole m before serials words old t k e (λ e. true) same t.database made (reset_step m words p who t.tiles (map table_pair t.dir.tables) h.sound licensed needs none room (gives m before serials words old t k e (λ e. true) same t.database made))

-- a commit, where those are out that use a table which it touches
pub commit_whole : (m : Moment) (before : List Named) (serials words : List ℕ) (old t : ServerState) (k : IsCut m before serials old t) (who : Who) (ops : List RowOp) → IsWhole m before words old → staying (is_removed serials) (plain before old).entries ≡ staying (is_touched (event.Commit who ops)) (plain before old).entries → IsLicensed old.options old.journal.events (event.Commit who ops) → list_all is_small_operation ops ≡ true → NeedsOf old.options m.next (old.journal.events ++ event.Commit who ops ∷ []) → OfNone (event.Commit who ops) (plain before old).tasks → HasRoom (plain before old) → IsWhole m k.names words (with_event (event.Commit who ops) (with_database (apply ops old.database) t))
commit_whole m before serials words old t k who ops h same licensed small needs none room =
    let p = plain before old in
    let e = event.Commit who ops in
    let d = apply ops old.database in
    cut_whole m before serials words old t k e (is_touched e) same d refl (commit_step m words p who ops t.tiles (map table_pair t.dir.tables) h.sound licensed small needs none room (gives m before serials words old t k e (is_touched e) same d refl))

-- what is listed stays
pub cut_tasks : (m : Moment) (before : List Named) (serials : List ℕ) (old t : ServerState) → IsCut m before serials old t → IsNamed before old → tasks_of t ≡ tasks_of old
cut_tasks m before serials old t k named =
    let p = plain before old in
    let es = staying (is_removed serials) p.entries in
    tasks_same k.names t k.blocks.named ∙ (ap listed_tasks k.plain ∙ (tasks_stay (is_wanted es p.tasks) p.chains p.tasks (tasks_wanted es p.tasks) ∙ sym (tasks_same before old named)))
