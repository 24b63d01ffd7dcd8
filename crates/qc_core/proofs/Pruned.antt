-- An entry that nobody uses leaves by a prune.
use Rattle.std.proofs.Common.{◌≡◌, ℕ, ◌+◌, ◌-◌, ◌<◌, ◌≤◌, eqb, eq-eqb, eqb-true, Bool, true, false, cond, List, [], ◌∷◌, ◌++◌, map, length, refl, sym, ap, subst, ◌∙◌, arith, true≢false}
use Rattle.std.specs.Prelude.{◌||◌, ◌==◌, Option, Some, None, find, option_map, count_by}
use Rattle.std.specs.List.{list_any, AllByRecursion}
use Rattle.std.proofs.lemmas.Option.{none-some, same_Some}
use Rattle.qc_model.specs.declared.events.Event.{Event}
use Rattle.qc_model.specs.declared.events.Event.TheVariants as event
use Rattle.qc_model.specs.Licence.{IsLicensed}
use Rattle.qc_laws.proofs.history.Serials.{both_true}
use Rattle.qc_laws.proofs.history.Events.{found_all}
use Rattle.qc_chain.specs.Chains.{Chained, Begun}
use Rattle.qc_chain.specs.Chains.{Chain as Kept}
use Rattle.qc_dir.specs.declared.entries.Entry.{Entry}
use Rattle.qc_dir.specs.declared.tables.TableBlock.{TableBlock}
use Rattle.qc_dir.specs.Directory.{IsDirectory, AreApart, entry_at, has_serial}
use Rattle.qc_sound.specs.PlainServer.{SeatTask}
use Rattle.qc_sound.specs.Sound.{IsSound}
use Rattle.qc_sound.specs.Moment.{Moment}
use Rattle.qc_sound.specs.parts.Tasks.{is_stream_of}
use Rattle.qc_sound.specs.PlainServer.{is_task_on}
use Rattle.qc_sound.specs.Pending.{NeedsOf}
use Rattle.qc_sound.specs.PlainServer.{is_stored}
use Rattle.qc_sound.specs.steps.Leaving.{left, GivesBack}
use Rattle.qc_sound.proofs.Leaves.{prune_step}
use Rattle.qc_model.specs.Cache.{cache}
use Rattle.qc_core.specs.declared.server_state.ServerState.{ServerState}
use Rattle.qc_core.specs.Whole.{Named, IsNamedAs, stored, table_pair, plain, IsWhole, with_event}
use Rattle.qc_core.specs.EntryRemoval.{MayLeave, Leaves}
use Rattle.qc_core.proofs.Cutting.{whole_blocks, cut_leaves, cut_one, CutOne}
use Rattle.qc_core.proofs.Letting.{chain_out}
use Rattle.qc_sound.specs.parts.Memory.{TilesAreSound, TablesAreSound}
use Rattle.qc_core.proofs.Uses.{stored_at, find_all, begun_at}
use Rattle.qc_laws.specs.history.Runs.{IsKept}
use Rattle.qc_laws.proofs.history.Stays.{answers_stay}
use Rattle.qc_model.specs.Cache.{entry_of, is_entry}
use Rattle.qc_model.specs.Cache.{Entry as Cached}
use Rattle.qc_dir.specs.Directory.{is_idle, oldest_idle}
use Rattle.qc_sound.specs.Ended.{is_ended}
use Rattle.qc_sound.specs.Room.{is_idle as plain_idle}
use Rattle.qc_sound.specs.parts.Journal.{incomplete_count}
use Rattle.qc_sound.specs.PlainServer.{listed_tasks}
use Rattle.qc_sound.proofs.Laws.{completed_ended}
use Rattle.qc_sound.proofs.Leaves.{leave_tasks}
use Rattle.qc_core.specs.Whole.{tasks_of}
use Rattle.qc_core.specs.KeptLaws.{tasks_same}
use Rattle.qc_core.proofs.Seeking.{pair_there}
use Rattle.qc_core.proofs.OwnBlocks.{no_work}

-- ---- the whole

-- what is known of an entry without listed_tasks
pub record Idle (m : Moment) (words : List ℕ) (names : List Named) (s : ServerState) (n : ℕ) : Type 0 where
  pub entry : Entry
  pub held : Kept
  pub there : entry_at n s.dir.entries ≡ Some entry
  pub named : IsNamedAs names n entry.chain.number
  pub begun : Begun entry.chain.number s.chains held
  pub none : AllByRecursion (λ w. is_task_on n w ≡ false) (plain names s).tasks

-- ---- one more event, and one entry less

module _ (m : Moment) (words : List ℕ) (names : List Named) (s : ServerState) (n : ℕ) (h : IsWhole m names words s) (u : Idle m words names s n) where
  abbrev pub may_leave : MayLeave n s
  may_leave = cut_leaves m names s n (whole_blocks m names words s h) u.entry u.held u.there u.begun (chain_out m names s n u.entry.chain.number u.held (whole_blocks m names words s h) u.named u.begun)

  module _ (t : ServerState) (need largest : ℕ) (freed : List TableBlock) (l : Leaves n u.entry u.held freed s t) (valid : IsDirectory t.dir) where
    abbrev ev : Event
    ev = event.Prune n need largest

    abbrev c : CutOne m names s n (whole_blocks m names words s h) u.entry u.held u.there u.begun freed t l valid
    c = cut_one m names s n (whole_blocks m names words s h) u.entry u.held u.there u.begun freed t l valid

    abbrev pub names_left : List Named
    names_left = c.under

    pub after_plain : plain c.under (with_event ev t) ≡ left ev (is_stored n) t.tiles (map table_pair t.dir.tables) (plain names s)
    after_plain = λ i. record (c.plain i) { journal = (c.plain i).journal ++ ev ∷ []; spare = (c.plain i).spare - 1 }

    gives : GivesBack m (plain names s) (left ev (is_stored n) t.tiles (map table_pair t.dir.tables) (plain names s))
    gives =
        let tiles = subst (TilesAreSound m) c.plain c.blocks.tiles in
        let tables = subst TablesAreSound c.plain c.blocks.tables in
        record { tiling = tiles.tiling; in_use = tiles.in_use; pinned = c.pinned; tables = record { named = tables.named; once = tables.once; words = tables.words } }

    pub pruned_whole : IsLicensed s.options s.journal.events ev → NeedsOf s.options m.next (s.journal.events ++ ev ∷ []) → IsWhole m c.under words (with_event ev t)
    pruned_whole licensed needs =
        let b = c.blocks in
        record {
          named = record { begun = b.named.begun; numbers = b.named.numbers; entries = b.named.entries; tasks = b.named.tasks };
          sound = subst (λ z. IsSound m words z) (sym after_plain) (prune_step m words (plain names s) n need largest t.tiles (map table_pair t.dir.tables) h.sound licensed needs gives);
          directory = valid;
          seats = record { once = b.seats.once; room = b.seats.room; task_room = b.seats.task_room };
          room = record { entries = b.room.entries; tables = b.room.tables; chains = b.room.chains; unpinner = b.room.unpinner };
        }

    pub pruned_tasks : IsLicensed s.options s.journal.events ev → NeedsOf s.options m.next (s.journal.events ++ ev ∷ []) → tasks_of (with_event ev t) ≡ tasks_of s
    pruned_tasks licensed needs =
        tasks_same c.under (with_event ev t) (pruned_whole licensed needs).named
        ∙ (ap listed_tasks after_plain
        ∙ (leave_tasks ev (is_stored n) t.tiles (map table_pair t.dir.tables) (plain names s)
        ∙ sym (tasks_same names s h.named)))

-- ---- the oldest idle entry

idle_at : (es : List Entry) (e : Entry) → AreApart (λ e f. e.serial == f.serial) es → find is_idle es ≡ Some e → (entry_at e.serial es ≡ Some e) × (is_idle e ≡ true)
idle_at [] e a h = absurd (none-some e h)
idle_at (x ∷ es) e a h = elim (is_idle x) as (λ b. is_idle x ≡ b → cond b (Some x) (find is_idle es) ≡ Some e → (entry_at e.serial (x ∷ es) ≡ Some e) × (is_idle e ≡ true)) [
  | true ↦ λ p f. subst (λ (z : Entry). (entry_at z.serial (x ∷ es) ≡ Some z) × (is_idle z ≡ true)) (same_Some x e f) (ap (λ b. cond b (Some x) (entry_at x.serial es)) (eq-eqb x.serial x.serial refl), p)
  | false ↦ λ p f.
      let t = idle_at es e a.1 f in (
        elim (eqb x.serial e.serial) as (λ b. eqb x.serial e.serial ≡ b → cond b (Some x) (entry_at e.serial es) ≡ Some e) [
          | true ↦ λ q. absurd (true≢false (sym (any_entry x.serial es e (subst (λ k. entry_at k es ≡ Some e) (sym (eqb-true x.serial e.serial q)) t.0)) ∙ a.0))
          | false ↦ λ q. t.0
        ] refl,
        t.1,
      )
] refl h
  where
    any_entry : (n : ℕ) (es : List Entry) (e : Entry) → entry_at n es ≡ Some e → list_any (λ f. n == f.serial) es ≡ true
    any_entry n [] e f = absurd (none-some e f)
    any_entry n (x ∷ es) e f = elim (eqb x.serial n) as (λ b. eqb x.serial n ≡ b → cond b (Some x) (entry_at n es) ≡ Some e → (n == x.serial || list_any (λ f. n == f.serial) es) ≡ true) [
      | true ↦ λ p g. ap (λ b. b || list_any (λ f. n == f.serial) es) (eq-eqb n x.serial (sym (eqb-true x.serial n p)))
      | false ↦ λ p g. or_last (n == x.serial) (list_any (λ f. n == f.serial) es) (any_entry n es e g)
    ] refl f
      where
        or_last : (a b : Bool) → b ≡ true → (a || b) ≡ true
        or_last true b h = refl
        or_last false b h = h

stored_idle : (cs : Chained) (es : List Entry) (e : Entry) → find is_idle es ≡ Some e → find plain_idle (map (stored cs) es) ≡ Some (stored cs e)
stored_idle cs [] e h = absurd (none-some e h)
stored_idle cs (x ∷ es) e h = elim (is_idle x) as (λ b. cond b (Some x) (find is_idle es) ≡ Some e → cond b (Some (stored cs x)) (find plain_idle (map (stored cs) es)) ≡ Some (stored cs e)) [
  | true ↦ λ f. ap (λ y. Some (stored cs y)) (same_Some x e f)
  | false ↦ λ f. stored_idle cs es e f
] h

-- what is known of it
pub record Oldest (m : Moment) (words : List ℕ) (names : List Named) (s : ServerState) (n : ℕ) : Type 0 where
  pub idle : Idle m words names s n
  pub found : find plain_idle (plain names s).entries ≡ Some (stored s.chains idle.entry)
  pub serial : idle.entry.serial ≡ n
  pub room : 0 < s.journal.spare

pub oldest_of : (m : Moment) (words : List ℕ) (names : List Named) (s : ServerState) (n : ℕ) → IsWhole m names words s → oldest_idle s.dir.entries ≡ Some n → Oldest m words names s n
oldest_of m words names s n h is = by (find is_idle s.dir.entries) refl is
  where
    by : (o : Option Entry) → find is_idle s.dir.entries ≡ o → option_map (λ (e : Entry). e.serial) o ≡ Some n → Oldest m words names s n
    by None f k = absurd (none-some n k)
    by (Some e) f k =
        let serial : e.serial ≡ n = same_Some e.serial n k in
        let t = idle_at s.dir.entries e h.directory.serials f in
        let there : entry_at n s.dir.entries ≡ Some e = subst (λ i. entry_at i s.dir.entries ≡ Some e) serial t.0 in
        let parts = both_true e.complete (e.users == 0) t.1 in
        let named = find_all (λ (e : Entry). IsNamedAs names e.serial e.chain.number) (has_serial n) s.dir.entries e h.named.entries there in
        let c = begun_at names s e.serial e.chain.number h.named named in
        let q = pair_there m words names s n e h there in
        let kept = found_all (IsKept s.journal.events) (is_entry n) (cache s.journal.events) q.0 (answers_stay s.options s.journal.events h.sound.journal.lawful) q.1 in
        let ended = completed_ended q.0.serial s.journal.events (kept.0.ended (sym q.2.complete ∙ parts.0)) in
        let ended_n = subst (λ i. is_ended i s.journal.events ≡ true) (eqb-true q.0.serial n kept.1) ended in
        let users = find_all _ (is_stored n) (plain names s).entries (stored s.chains e) h.sound.tasks.users (stored_at s.chains n s.dir.entries e there) in
        let zero_users : e.users ≡ 0 = eqb-true e.users 0 parts.1 in
        let none = subst (λ i. count_by (λ (w : SeatTask). is_stream_of i w.task) (plain names s).tasks ≡ 0) serial (sym users ∙ zero_users) in
        record {
          idle = record {
            entry = e;
            held = c.0;
            there = there;
            named = subst (λ i. IsNamedAs names i e.chain.number) serial named;
            begun = c.1;
            none = no_work s.journal.events n (plain names s).chains (plain names s).tasks ended_n none h.sound.tasks.each;
          };
          found = stored_idle s.chains s.dir.entries e f;
          serial = serial;
          room = spare_room (cache s.journal.events) q.0 n s.journal.spare q.1 h.sound.journal.room;
        }
      where
        spare_room : (ys : List Cached) (y : Cached) (n spare : ℕ) → entry_of n ys ≡ Some y → length ys + incomplete_count ys ≤ spare → 0 < spare
        spare_room [] y n spare f k = absurd (none-some y f)
        spare_room (x ∷ ys) y n spare f k = omega (arith, k)
