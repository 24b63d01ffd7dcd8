-- Entries leave: by a commit, a prune, a reset, or a fill that gives up.
use Rattle.std.proofs.Common.{◌≡◌, ℕ, ◌+◌, ◌-◌, ◌<◌, ◌≤◌, Bool, true, false, cond, List, [], ◌∷◌, ◌++◌, map, length, refl, sym, ap, subst, ◌∙◌, arith}
use Rattle.std.specs.Prelude.{not, Option, Some, IsSomeAnd, Contains, ◌↔◌, ◌==◌, count_by}
use Rattle.std.specs.List.{list_any, filter, flat_map, AllByRecursion, AllZip}
use Rattle.std.proofs.lemmas.List.Sums.{sum_by-cons}
use Rattle.qc_types.specs.declared.names.TableName.{TableName}
use Rattle.qc_sql.specs.Database.{apply}
use Rattle.qc_model.specs.declared.events.Event.{Event}
use Rattle.qc_model.specs.declared.events.Event.TheVariants as event
use Rattle.qc_model.specs.Journal.{Journal, present, operations, is_by, touches_table}
use Rattle.qc_model.specs.Cache.{Entry, cache, entry_of, is_entry, without, uses_touched}
use Rattle.qc_model.specs.Session.{answer}
use Rattle.qc_model.specs.Licence.{IsLicensed}
use Rattle.qc_tiles.specs.declared.blocks.Tile.{Tile}
use Rattle.qc_tiles.specs.declared.blocks.Block.{Block}
use Rattle.qc_laws.specs.history.Runs.{IsKept, are_distinct}
use Rattle.qc_laws.specs.sizes.Operations.{is_small_event}
use Rattle.qc_laws.proofs.history.Events.{present_push, cache_push, all_filter}
use Rattle.qc_laws.proofs.history.Stays.{answers_stay, commit_answer}
use Rattle.qc_sound.specs.PlainServer.{PlainServer, StoredEntry, EntryChain, SeatTask, blocks_of, listed_tasks, session_of, is_stored, is_wanted}
use Rattle.qc_sound.specs.Moment.{Moment}
use Rattle.qc_sound.specs.Pending.{NeedsOf}
use Rattle.qc_sound.specs.parts.Journal.{incomplete_count, reserved}
use Rattle.qc_sound.specs.parts.Directory.{IsStoredAs}
use Rattle.qc_sound.specs.parts.Memory.{ChainFits, TextFits, TilesAreSound, TablesAreSound, pinned_blocks, blocks_of_tasks}
use Rattle.qc_sound.specs.parts.Contents.{IsSpelled, text_of}
use Rattle.qc_sound.specs.parts.Tasks.{SeatTaskIsSound, is_fill_of, is_stream_of}
use Rattle.qc_sound.specs.Sound.{IsSound}
use Rattle.qc_sound.specs.steps.Events.{OfNone}
use Rattle.qc_sound.specs.steps.Leaving.{TakesOut, GivesBack, LeavesRoom, is_touched, staying, left, left_with, LeaveSteps, CommitSteps, PruneSteps, ResetSteps}
use Rattle.qc_sound.proofs.Lists.{zip_on, zip_both, zip_right, zip_left, zip_filter_on}
use Rattle.qc_sound.proofs.Pushes.{tasks_push, fits_push, journal_push, small_none, each_of}
use Rattle.qc_sound.proofs.Moved.{hit_entry}
use Rattle.qc_sound.proofs.Filters.{at_filter, distinct_filter, room_less, tasks_wanted, entries_wanted, tasks_stay, pins_stay, chained_stay, entered_stay, uncut_stay, wanted_stay}

-- the tasks that are left are sound after the event, and each entry that stays has as many fills and streams as before
pub record Remain (e : Event) (gone : StoredEntry → Bool) (s : PlainServer) (ws : List SeatTask) : Type 0 where
  pub one_each : are_distinct (map (λ w. w.seat) ws) ≡ true
  pub each : AllByRecursion (SeatTaskIsSound (s.journal ++ e ∷ []) s.chains) ws
  pub filled : AllByRecursion (λ x. x.complete ≡ false → count_by (λ w. is_fill_of x.serial w.task) ws ≡ 1) (staying gone s.entries)
  pub users : AllByRecursion (λ x. x.users ≡ count_by (λ w. is_stream_of x.serial w.task) ws) (staying gone s.entries)

pub leave_all : (moment : Moment) (words : List ℕ) (s : PlainServer) (e : Event) (gone : StoredEntry → Bool) (off : Entry → Bool) (ws : List SeatTask) (tiles : List Tile) (blocks : List (TableName × Block)) → IsSound moment words s
    → IsLicensed s.options s.journal e → is_small_event e ≡ true → NeedsOf s.options moment.next (s.journal ++ e ∷ []) → TakesOut moment s.journal e gone off → LeavesRoom off s → Remain e gone s ws
    → TilesAreSound moment (left_with e gone ws tiles blocks s) → TablesAreSound (left_with e gone ws tiles blocks s) → IsSound moment words (left_with e gone ws tiles blocks s)
leave_all moment words s e gone off ws tiles blocks h licensed small needs out room remain tiled tabled =
    let j = s.journal ++ e ∷ [] in
    let es = staying gone s.entries in
    let q = is_wanted es ws in
    let m = h.memory in
    let cached : cache j ≡ filter (λ y. not (off y)) (cache s.journal) = cache_push s.journal e ∙ out.after in
    let kept = answers_stay s.options s.journal h.journal.lawful in
    let all = zip_right _ (IsKept s.journal) s.entries (cache s.journal) (zip_both (IsStoredAs moment.hash) (IsSpelled words s.chains s.journal) s.entries (cache s.journal) h.directory h.contents) kept in
    let wanted : AllByRecursion (λ x. q x.serial ≡ true) es = entries_wanted es ws in
    record {
      rounded = h.rounded;
      region = h.region;
      journal = journal_push moment moment.next s (left_with e gone ws tiles blocks s) e h.journal licensed small needs refl refl refl (subst (λ c. reserved c ≤ s.spare - 1) (sym cached) (omega (arith, room)));
      directory = subst (AllZip (IsStoredAs moment.hash) es) (sym cached) (zip_filter_on (IsStoredAs moment.hash) (IsStoredAs moment.hash) _ _ s.entries (cache s.journal) (λ x y r. ap not (out.same x y r)) (λ x y _ r. r) h.directory);
      memory = record {
        tiles = tiled;
        tables = tabled;
        chains = record {
          apart = distinct_filter (λ c. c.serial) _ s.chains m.chains.apart;
          entered = entered_stay q s.chains es wanted (all_filter _ _ _ s.entries (λ x _ k. k) m.chains.entered);
          wanted = wanted_stay q s.chains;
          fitting = all_filter (ChainFits s.options s.journal) (ChainFits s.options j) _ s.chains (λ c _. fits_push s.options s.journal e c) m.chains.fitting;
          uncut = uncut_stay s.options q s.chains es wanted (all_filter _ _ _ s.entries (λ x _ k. k) m.chains.uncut);
        };
        texts = all_filter TextFits TextFits _ s.entries (λ x _ k. k) m.texts;
      };
      contents = subst (AllZip (IsSpelled words (filter (λ c. q c.serial) s.chains) j) es) (sym cached)
          (zip_on _ (IsSpelled words (filter (λ c. q c.serial) s.chains) j) es (filter (λ y. not (off y)) (cache s.journal)) (λ x y p. record {
            key = p.0.key;
            kept_answer = λ c. p.0.kept_answer c ∙ ap (λ l. Some (text_of words l x.bytes)) (sym (at_filter q x.serial s.chains p.1));
          }) (zip_left (IsSpelled words s.chains j) (λ x. q x.serial ≡ true) es _
          (zip_filter_on _ (IsSpelled words s.chains j) _ _ s.entries (cache s.journal) (λ x y r. ap not (out.same x y r.0.0))
          (λ x y free r. record { key = r.0.1.key; kept_answer = λ c. out.answers y free r.1 ∙ r.0.1.kept_answer c }) all) wanted));
      tasks = record {
        connected = h.tasks.connected;
        one_each = remain.one_each;
        each = chained_stay q j s.chains ws (tasks_wanted es ws) remain.each;
        filled = remain.filled;
        users = remain.users;
      };
    }

-- what is listed stays, for every seat
pub leave_tasks : (e : Event) (gone : StoredEntry → Bool) (tiles : List Tile) (blocks : List (TableName × Block)) (s : PlainServer) → listed_tasks (left e gone tiles blocks s) ≡ listed_tasks s
leave_tasks e gone tiles blocks s = tasks_stay (is_wanted (staying gone s.entries) s.tasks) s.chains s.tasks (tasks_wanted (staying gone s.entries) s.tasks)

-- no block of a task was given back
tiled_back : (moment : Moment) (s : PlainServer) (e : Event) (gone : StoredEntry → Bool) (tiles : List Tile) (blocks : List (TableName × Block)) → TilesAreSound moment s → GivesBack moment s (left e gone tiles blocks s) → TilesAreSound moment (left e gone tiles blocks s)
tiled_back moment s e gone tiles blocks h back = record {
  tiling = back.tiling;
  in_use = back.in_use;
  pinned = λ c. subst (λ l. Contains l c ↔ Contains (blocks_of_tasks (left e gone tiles blocks s)) c) (sym back.pinned)
      (subst (λ l. Contains (pinned_blocks s.tiles) c ↔ Contains l c) (sym (pins_stay (is_wanted (staying gone s.entries) s.tasks) s.chains s.tasks (tasks_wanted (staying gone s.entries) s.tasks))) (h.pinned c));
}

pub leave_step : LeaveSteps
leave_step moment words s e gone off tiles blocks h licensed small needs out no_end none room back =
    leave_all moment words s e gone off s.tasks tiles blocks h licensed small needs out room
    (record {
      one_each = h.tasks.one_each;
      each = tasks_push s.journal e s.chains s.tasks none no_end h.tasks.each;
      filled = all_filter _ _ _ s.entries (λ x _ k. k) h.tasks.filled;
      users = all_filter _ _ _ s.entries (λ x _ k. k) h.tasks.users;
    }) (tiled_back moment s e gone tiles blocks h.memory.tiles back) back.tables

-- ---- three events

pub commit_step : CommitSteps
commit_step moment words s who ops tiles blocks h licensed small needs none room back =
    let e = event.Commit who ops in
    leave_step moment words s e (is_touched e) (uses_touched e) tiles blocks h licensed small needs
    (record { after = refl; same = λ x y r. ap (λ ts. list_any (λ t. touches_table t e) ts) r.tables; answers = λ y free k. commit_answer s.journal e y free k })
    (λ n. refl) none (omega (arith, room, room_less (λ y. not (uses_touched e y)) (cache s.journal))) back

pub same_answer : (j : Journal) (e : Event) (y : Entry) → operations e ≡ [] → answer y.key (present (j ++ e ∷ [])) ≡ answer y.key (present j)
same_answer j e y quiet = ap (answer y.key) (present_push j e ∙ ap (λ l. apply l (present j)) quiet)

none_left : (ys : List Entry) → [] ≡ filter (λ y. not true) ys
none_left [] = refl
none_left (y ∷ ys) = none_left ys

pub reset_step : ResetSteps
reset_step moment words s who tiles blocks h licensed needs none room back =
    let e = event.Reset who in
    leave_step moment words s e (λ x. true) (λ y. true) tiles blocks h licensed (small_none e refl) needs
    (record { after = none_left (cache s.journal); same = λ x y r. refl; answers = λ y free k. same_answer s.journal e y refl })
    (λ n. refl) none (omega (arith, room, room_less (λ y. not true) (cache s.journal))) back

-- an entry less
pub one_less : (n : ℕ) (ys : List Entry) (x : Entry) → entry_of n ys ≡ Some x → reserved (without n ys) < reserved ys
one_less n [] x e = absurd cc
one_less n (y ∷ ys) x e =
    let a = sum_by-cons (λ (x : Entry). cond (not x.complete) 1 0) y ys in
    let less = room_less (λ y. not (is_entry n y)) ys in
    elim (is_entry n y) as (λ b. cond b (Some y) (entry_of n ys) ≡ Some x → reserved (cond (not b) (y ∷ without n ys) (without n ys)) < reserved (y ∷ ys)) [
      | true ↦ λ f. omega (arith, a, less)
      | false ↦ λ f. let more = one_less n ys x f in let c = sum_by-cons (λ (x : Entry). cond (not x.complete) 1 0) y (without n ys) in omega (arith, a, c, more)
    ] e

pub no_decider : (e : Event) (ws : List SeatTask) → ((s : ℕ) → is_by s e ≡ false) → OfNone e ws
no_decider e ws h = each_of (λ w. is_by (session_of w.seat) e ≡ false) ws (λ w. h (session_of w.seat))

pub prune_step : PruneSteps
prune_step moment words s n need largest tiles blocks h licensed needs back =
    let e = event.Prune n need largest in
    leave_step moment words s e (is_stored n) (is_entry n) tiles blocks h licensed (small_none e refl) needs
    (record { after = refl; same = λ x y r. ap (λ m. m == n) r.serial; answers = λ y free k. same_answer s.journal e y refl })
    (λ m. refl) (no_decider e s.tasks (λ m. refl)) (let y = hit_entry n (entry_of n (cache s.journal)) licensed.whole in let less = one_less n (cache s.journal) y.0 y.1 in let room = h.journal.room in omega (arith, less, room)) back
