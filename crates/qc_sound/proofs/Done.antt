-- A fill is done.
use Rattle.std.proofs.Common.{◌≡◌, ◌≢◌, ℕ, ◌+◌, ◌-◌, ◌*◌, ◌<◌, ◌≤◌, eqb, eq-eqb, eqb-true, Bool, true, false, cond, List, [], ◌∷◌, ◌++◌, map, length, refl, sym, ap, subst, ◌∙◌, arith, true≢false}
use Rattle.std.specs.Prelude.{not, ◌||◌, Option, Some, IsSomeAnd, count_by, ◌==◌, unwrap_or}
use Rattle.std.specs.List.{list_any, filter, find, AllByRecursion, AllZip}
use Rattle.std.proofs.lemmas.Bool.Decides.{nat_tests}
use Rattle.qc_types.specs.declared.options.Options.{Options}
use Rattle.qc_model.specs.declared.events.Event.TheVariants as event
use Rattle.qc_model.specs.Journal.{Journal, present}
use Rattle.qc_model.specs.Cache.{Entry, cache, entry_of, is_entry, without, completed, moved}
use Rattle.qc_model.specs.Session.{answer}
use Rattle.qc_model.specs.Licence.{unit_words}
use Rattle.qc_laws.specs.history.Runs.{are_distinct}
use Rattle.qc_laws.proofs.history.Events.{present_push, cache_push, all_on, all_filter, found_all}
use Rattle.qc_laws.proofs.history.Serials.{serials_apart, opposite}
use Rattle.qc_tiles.specs.declared.blocks.Tile.{Tile}
use Rattle.qc_tiles.specs.declared.blocks.Block.{Block}
use Rattle.qc_tiles.specs.Tiles.{cut_words}
use Rattle.qc_types.specs.Blocks.{raised}
use Rattle.qc_chain.specs.Words.{words_of}
use Rattle.qc_chain.specs.Chains.{but_last, cut_blocks}
use Rattle.qc_turn.specs.declared.task.Task.TheVariants as task
use Rattle.qc_sound.specs.PlainServer.{PlainServer, StoredEntry, EntryChain, SeatTask, blocks_at, has_serial, has_chain, is_stored, is_wanted, is_task_on}
use Rattle.qc_sound.specs.Moment.{Moment}
use Rattle.qc_sound.specs.parts.Journal.{reserved}
use Rattle.qc_sound.specs.parts.Directory.{IsStoredAs}
use Rattle.qc_sound.specs.parts.Memory.{ChainFits, IsUncut, TextFits, TilesAreSound, names_table}
use Rattle.qc_sound.specs.parts.Contents.{IsSpelled, text_of}
use Rattle.qc_sound.specs.parts.Tasks.{is_fill_of, is_stream_of}
use Rattle.qc_sound.specs.Sound.{IsSound}
use Rattle.qc_sound.specs.steps.Leaving.{is_of_seat, without_seat, filling}
use Rattle.qc_sound.specs.steps.Hits.{moved_stored}
use Rattle.qc_sound.specs.steps.Growing.{with_blocks}
use Rattle.qc_sound.specs.steps.Done.{completed_with, finished, DoneSteps, DoneLists}
use Rattle.qc_sound.proofs.Lists.{zip_both, zip_filter, zip_filter_on, all_map, cond_keeps}
use Rattle.qc_sound.proofs.Pushes.{tasks_on, fits_push, journal_push, small_none}
use Rattle.qc_sound.proofs.Filters.{distinct_filter}
use Rattle.qc_sound.proofs.Leaves.{no_decider}
use Rattle.qc_sound.proofs.Moved.{zip_append, room_kept, any_moved, all_moved, either_on, or_left, serial_found}
use Rattle.qc_sound.proofs.Ending.{others_listed, none_listed, eqb_swap}
use Rattle.qc_sound.proofs.Changed.{changed, serials_with, has_with, at_other, at_same, tasks_with, listed_with}
use Rattle.qc_sound.proofs.Growing.{Meant, meant, entries_apart, fill_apart}
use Rattle.qc_sound.proofs.Finishing.{others_fill_none, ends_others, fills_left, streams_left, tasks_left, reserved_done}

-- ---- a cut chain

length_cut : (used : ℕ) (bs : List Block) → length (cut_blocks used bs) ≡ length bs
length_cut used [] = refl
length_cut used (b ∷ []) = refl
length_cut used (b ∷ c ∷ bs) = omega (arith, length_cut used (c ∷ bs))

but_last-cut : (used : ℕ) (bs : List Block) → but_last (cut_blocks used bs) ≡ but_last bs
but_last-cut used [] = refl
but_last-cut used (b ∷ []) = refl
but_last-cut used (b ∷ c ∷ []) = refl
but_last-cut used (b ∷ c ∷ d ∷ bs) = ap (λ l. b ∷ l) (but_last-cut used (c ∷ d ∷ bs))

cut_words-le : (w n m : ℕ) → n ≤ m → cut_words w n ≤ m
cut_words-le w n m h = grind (arith, nat_tests)

-- no block gets larger
cut_small : (used m : ℕ) (bs : List Block) → AllByRecursion (λ b. b.words ≤ m) bs → AllByRecursion (λ b. b.words ≤ m) (cut_blocks used bs)
cut_small used m [] h = tt
cut_small used m (b ∷ []) h = (cut_words-le (raised used) b.words m h.0, tt)
cut_small used m (b ∷ c ∷ bs) h = (h.0, cut_small used m (c ∷ bs) h.1)

cut_fits : (o : Options) (j : Journal) (used : ℕ) (c : EntryChain) → ChainFits o j c → ChainFits o j (record c { blocks = cut_blocks used c.blocks })
cut_fits o j used c h = record {
  first = subst (λ n. 0 < n) (sym (length_cut used c.blocks)) h.first;
  small = cut_small used (unit_words o + 63) c.blocks h.small;
  full = subst (AllByRecursion (λ b. unit_words o ≤ b.words)) (sym (but_last-cut used c.blocks)) h.full;
  start = h.start;
  needed = subst (λ l. 8 * words_of l < length (unwrap_or (answer h.start.key (present h.start.earlier)) [])) (sym (but_last-cut used c.blocks)) h.needed;
}

-- ---- the step

any_found : (n : ℕ) (x : StoredEntry) (es : List StoredEntry) → find (is_stored n) es ≡ Some x → list_any (is_stored n) es ≡ true
any_found n x [] e = absurd cc
any_found n x (z ∷ es) e = elim (is_stored n z) as (λ b. cond b (Some z) (find (is_stored n) es) ≡ Some x → (b || list_any (is_stored n) es) ≡ true) [
  | true ↦ λ _. refl
  | false ↦ λ f. any_found n x es f
] e

wanted_by : (n m seat bytes : ℕ) (s : PlainServer) (x : StoredEntry) → are_distinct (map (λ e. e.serial) s.entries) ≡ true → are_distinct (map (λ w. w.seat) s.tasks) ≡ true → find (is_stored n) s.entries ≡ Some x
    → find (is_of_seat seat) s.tasks ≡ Some (filling seat n) → is_wanted s.entries s.tasks m ≡ true → is_wanted (filter (λ x. not (is_stored n x)) s.entries ++ completed_with bytes x ∷ []) (without_seat seat s.tasks) m ≡ true
wanted_by n m seat bytes s x d t found fill k =
    let same = any_moved (completed_with bytes) n s.entries x (is_stored m) d found refl in
    elim (eqb n m) as (λ b. eqb n m ≡ b → is_wanted (filter (λ x. not (is_stored n x)) s.entries ++ completed_with bytes x ∷ []) (without_seat seat s.tasks) m ≡ true) [
      | true ↦ λ e. or_left _ (list_any (is_task_on m) (without_seat seat s.tasks)) (same ∙ subst (λ i. list_any (is_stored i) s.entries ≡ true) (eqb-true n m e) (any_found n x s.entries found))
      | false ↦ λ e. either_on (list_any (is_stored m) s.entries) (list_any (is_task_on m) s.tasks) _ _ (sym same) (tasks_left seat n m s.tasks t fill e) k
    ] refl

abbrev with_entries : ℕ → ℕ → ℕ → List Tile → PlainServer → List StoredEntry → PlainServer
with_entries n seat used tiles s entries = record s { journal = s.journal ++ event.Done n ∷ []; spare = s.spare - 1; entries = entries; chains = with_blocks n (cut_blocks used) s.chains; tiles = tiles; tasks = without_seat seat s.tasks }

pub done_step : DoneSteps
done_step moment words s n seat bytes used tiles h licensed needs fill spells tiled =
    let e = event.Done n in
    let j = s.journal ++ e ∷ [] in
    let c = cache s.journal in
    let m = h.memory in
    let g = completed_with bytes in
    let f = cut_blocks used in
    let cs = with_blocks n f s.chains in
    let ws = without_seat seat s.tasks in
    let u = meant moment words n s (λ y. (y.complete ≡ false) × IsSomeAnd (answer y.key (present s.journal)) (λ bytes. length bytes ≤ s.options.limit)) h licensed in
    let x = u.at in
    let y = u.entry in
    let d = entries_apart moment words s h in
    let t = h.tasks.one_each in
    let is_n : x.serial ≡ n = serial_found n s.entries x u.found in
    let y_n : y.serial ≡ n = sym u.stored.serial ∙ is_n in
    let cached : cache j ≡ without n c ++ completed y ∷ [] = cache_push s.journal e ∙ (ap (λ o. moved completed o c) u.cached ∙ ap (λ k. without k c ++ completed y ∷ []) y_n) in
    let now : present j ≡ present s.journal = present_push s.journal e in
    let partial : x.complete ≡ false = u.stored.complete ∙ u.holds.0 in
    let one : count_by (λ w. is_fill_of n w.task) s.tasks ≡ 1 = subst (λ i. count_by (λ w. is_fill_of i w.task) s.tasks ≡ 1) is_n ((found_all _ (is_stored n) s.entries x h.tasks.filled u.found).0 partial) in
    let there : has_chain n s.chains ≡ true = subst (λ i. has_chain i s.chains ≡ true) is_n (found_all _ (is_stored n) s.entries x m.chains.entered u.found).0 in
    let room = reserved_done (without n c) y u.holds.0 in
    let kept = room_kept n c y (serials_apart s.options s.journal h.journal.lawful) u.cached in
    let has = h.journal.room in
    let es = filter (λ x. not (is_stored n x)) s.entries ++ g x ∷ [] in
    let r = u.stored in
    let same = λ (x : StoredEntry) (z : Entry) (r : IsStoredAs moment.hash x z × IsSpelled words s.chains s.journal x z). ap (λ k. not (eqb k n)) r.0.serial in
    let pairs = zip_both (IsStoredAs moment.hash) (IsSpelled words s.chains s.journal) s.entries c h.directory h.contents in
    let at : blocks_at x.serial cs ≡ f (blocks_at n s.chains) = ap (λ k. blocks_at k cs) is_n ∙ at_same n f s.chains there in
    subst (λ z. IsSound moment words (with_entries n seat used tiles s z)) (sym (ap (λ o. moved_stored n g o s.entries) u.found)) (record {
      rounded = h.rounded;
      region = h.region;
      journal = journal_push moment moment.next s (with_entries n seat used tiles s es) e h.journal licensed (small_none e refl) needs refl refl refl (subst (λ l. reserved l ≤ s.spare - 1) (sym cached) (omega (arith, room, kept, has)));
      directory = subst (AllZip (IsStoredAs moment.hash) es) (sym cached)
          (zip_append (IsStoredAs moment.hash) (filter (λ x. not (is_stored n x)) s.entries) (without n c) (g x) (completed y)
          (zip_filter_on (λ x z. IsStoredAs moment.hash x z × IsSpelled words s.chains s.journal x z) (IsStoredAs moment.hash) (λ x. not (is_stored n x)) (λ z. not (is_entry n z)) s.entries c same (λ x z _ p. p.0) pairs)
          (record { serial = r.serial; hashed = r.hashed; text_bytes = r.text_bytes; tables = r.tables; complete = refl }));
      memory = record {
        tiles = subst (λ z. TilesAreSound moment (with_entries n seat used tiles s z)) (ap (λ o. moved_stored n g o s.entries) u.found) tiled;
        tables = record {
          named = λ k. any_moved g n s.entries x (names_table k) d u.found refl ∙ m.tables.named k;
          once = m.tables.once;
          words = m.tables.words;
        };
        chains = record {
          apart = ap are_distinct (serials_with n f s.chains) ∙ m.chains.apart;
          entered = all_moved g (λ z. has_chain z.serial s.chains ≡ true) (λ z. has_chain z.serial cs ≡ true) n s.entries x (λ z _ k. has_with n f z.serial s.chains ∙ k) (has_with n f x.serial s.chains ∙ (found_all _ (is_stored n) s.entries x m.chains.entered u.found).0) m.chains.entered;
          wanted = all_map (λ z. is_wanted s.entries s.tasks z.serial ≡ true) (λ z. is_wanted es ws z.serial ≡ true) (changed n f) s.chains
              (λ z k. let w = wanted_by n z.serial seat bytes s x d t u.found fill k in cond_keeps (λ v. is_wanted es ws v.serial ≡ true) (has_serial n z) (record z { blocks = f z.blocks }) z w w) m.chains.wanted;
          fitting = all_map (ChainFits s.options s.journal) (ChainFits s.options j) (changed n f) s.chains
              (λ z k. let k2 = fits_push s.options s.journal e z k in cond_keeps (ChainFits s.options j) (has_serial n z) (record z { blocks = f z.blocks }) z (cut_fits s.options j used z k2) k2) m.chains.fitting;
          uncut = all_moved g (IsUncut s.options s.chains) (IsUncut s.options cs) n s.entries x (λ z out k q. subst (AllByRecursion (λ b. unit_words s.options ≤ b.words)) (sym (at_other n f z.serial s.chains (opposite _ out))) (k q)) (λ q. absurd (true≢false q)) m.chains.uncut;
        };
        texts = all_moved g TextFits TextFits n s.entries x (λ _ _ p. p) (found_all _ (is_stored n) s.entries x m.texts u.found).0 m.texts;
      };
      contents = subst (AllZip (IsSpelled words cs j) es) (sym cached)
          (zip_append (IsSpelled words cs j) (filter (λ x. not (is_stored n x)) s.entries) (without n c) (g x) (completed y)
          (zip_filter_on (λ x z. IsStoredAs moment.hash x z × IsSpelled words s.chains s.journal x z) (IsSpelled words cs j) (λ x. not (is_stored n x)) (λ z. not (is_entry n z)) s.entries c same
          (λ x z out p. record {
            key = p.1.key;
            kept_answer = λ q. ap (answer z.key) now ∙ (p.1.kept_answer q ∙ ap (λ l. Some (text_of words l x.bytes)) (sym (at_other n f x.serial s.chains (ap (λ k. eqb k n) p.0.serial ∙ opposite _ out))));
          }) pairs)
          (record { key = u.spelled.key; kept_answer = λ _. ap (answer y.key) now ∙ (spells y u.cached ∙ ap (λ l. Some (text_of words l bytes)) (sym at)) }));
      tasks = record {
        connected = h.tasks.connected;
        one_each = distinct_filter (λ (w : SeatTask). w.seat) _ s.tasks t;
        each = tasks_with n f j s.chains ws (tasks_on s.journal e s.chains ws (no_decider e ws (λ k. refl)) (ends_others n e ws (λ k. refl) (others_fill_none seat n s.tasks t fill one)) (all_filter _ _ _ s.tasks (λ w _ k. k) h.tasks.each));
        filled = all_moved g (λ z. z.complete ≡ false → count_by (λ w. is_fill_of z.serial w.task) s.tasks ≡ 1) (λ z. z.complete ≡ false → count_by (λ w. is_fill_of z.serial w.task) ws ≡ 1) n s.entries x
            (λ z out k q. fills_left seat n z.serial s.tasks t fill (eqb_swap n z.serial ∙ opposite _ out) ∙ k q) (λ q. absurd (true≢false q)) h.tasks.filled;
        users = all_moved g (λ z. z.users ≡ count_by (λ w. is_stream_of z.serial w.task) s.tasks) (λ z. z.users ≡ count_by (λ w. is_stream_of z.serial w.task) ws) n s.entries x
            (λ z _ k. k ∙ sym (streams_left seat n z.serial s.tasks t fill)) ((found_all _ (is_stored n) s.entries x h.tasks.users u.found).0 ∙ sym (streams_left seat n x.serial s.tasks t fill)) h.tasks.users;
      };
    })

pub done_lists : DoneLists
done_lists moment words s n seat bytes used tiles h e =
    let f = cut_blocks used in
    record {
      others = λ k ne. listed_with n f s.chains k seat (without_seat seat s.tasks) ne (all_filter _ _ _ s.tasks (λ w _ k. k) (fill_apart moment words s seat n h e)) ∙ others_listed s.chains k seat s.tasks ne;
      alone = none_listed (with_blocks n f s.chains) seat s.tasks;
    }
