-- A hit: its entry goes to the end with one user more, and its session streams it.
use Rattle.std.proofs.Common.{◌≡◌, ℕ, ◌+◌, ◌-◌, ◌<◌, ◌≤◌, eqb, eq-eqb, ne_eqb, Bool, true, false, cond, List, [], ◌∷◌, ◌++◌, map, length, refl, sym, ap, subst, ◌∙◌, arith, true≢false}
use Rattle.std.specs.Prelude.{not, ◌||◌, Option, Some, None, IsPermutation, count_by, ◌==◌}
use Rattle.std.specs.List.{list_any, filter, find, flat_map, AllByRecursion, AllZip}
use Rattle.std.proofs.lemmas.List.{map-append}
use Rattle.std.proofs.lemmas.List.Folds.{list_any-append}
use Rattle.std.proofs.lemmas.List.Sorted.{IsPermutation-refl, IsPermutation-trans, IsPermutation-append}
use Rattle.qc_model.specs.declared.events.Who.{Who}
use Rattle.qc_model.specs.declared.events.Event.{Event}
use Rattle.qc_model.specs.declared.events.Event.TheVariants as event
use Rattle.qc_model.specs.declared.events.How.TheVariants as how
use Rattle.qc_model.specs.Journal.{Journal, present}
use Rattle.qc_model.specs.Cache.{Entry, cache, entry_of, is_entry, without, moved}
use Rattle.qc_model.specs.Session.{answer}
use Rattle.qc_tiles.specs.declared.blocks.Tile.{Tile}
use Rattle.qc_tiles.specs.Tiles.{handed_out}
use Rattle.qc_laws.specs.history.Runs.{are_distinct}
use Rattle.qc_laws.proofs.history.Events.{present_push, cache_push, all_on, all_append, found_all}
use Rattle.qc_laws.proofs.history.Serials.{serials_apart, distinct_push, opposite}
use Rattle.qc_sound.specs.PlainServer.{PlainServer, StoredEntry, SeatTask, session_of, has_chain, is_stored, is_wanted, is_task_on}
use Rattle.qc_sound.specs.Moment.{Moment}
use Rattle.qc_sound.specs.parts.Journal.{reserved}
use Rattle.qc_sound.specs.parts.Directory.{IsStoredAs}
use Rattle.qc_sound.specs.parts.Memory.{blocks_in_use, names_table, TextFits}
use Rattle.qc_sound.specs.parts.Contents.{IsSpelled}
use Rattle.qc_sound.specs.parts.Tasks.{SeatTaskIsSound, HitsSerial, is_stream_of, is_fill_of}
use Rattle.qc_sound.specs.Sound.{IsSound}
use Rattle.qc_sound.specs.steps.Hits.{moved_stored, used_more, streaming, HitSteps}
use Rattle.qc_sound.proofs.Lists.{zip_on, zip_both, zip_filter}
use Rattle.qc_sound.proofs.Pushes.{tasks_push, chains_push, journal_push, small_none}
use Rattle.qc_sound.proofs.Moved.{same_serials, found_pair, zip_append, hit_entry, room_kept, any_moved, texts_moved, all_moved, either_on, or_left, serial_found}
use Rattle.qc_sound.proofs.Seats.{one_more, of_none, last_own}

abbrev with_entries : Who → ℕ → ℕ → List Tile → PlainServer → List StoredEntry → PlainServer
with_entries who n seat tiles s entries = record s { journal = s.journal ++ event.Run who (how.Hit n) ∷ []; spare = s.spare - 1; entries = entries; tasks = s.tasks ++ streaming seat n ∷ []; tiles = tiles }

pub hit_step : HitSteps
hit_step moment words s who n seat tiles h licensed needs room free pins =
    let e = event.Run who (how.Hit n) in
    let j = s.journal ++ e ∷ [] in
    let c = cache s.journal in
    let b = h.memory in
    let y = hit_entry n (entry_of n c) licensed.1 in
    let pair = found_pair moment (IsSpelled words s.chains s.journal) n s.entries c y.0 (zip_both (IsStoredAs moment.hash) (IsSpelled words s.chains s.journal) s.entries c h.directory h.contents) y.1 in
    let x = pair.at in
    let f = filter (λ x. not (is_stored n x)) s.entries in
    let d : are_distinct (map (λ e. e.serial) s.entries) ≡ true = ap are_distinct (same_serials moment s.entries c h.directory) ∙ serials_apart s.options s.journal h.journal.lawful in
    let is_n : x.serial ≡ n = serial_found n s.entries x pair.found in
    let y_n : y.0.serial ≡ n = sym pair.pair.0.serial ∙ is_n in
    let cached : cache j ≡ without n c ++ y.0 ∷ [] = cache_push s.journal e ∙ (ap (λ o. moved (λ entry. entry) o c) y.1 ∙ ap (λ m. without m c ++ y.0 ∷ []) y_n) in
    let now : present j ≡ present s.journal = present_push s.journal e in
    let same = λ (x : StoredEntry) (z : Entry) (r : IsStoredAs moment.hash x z × IsSpelled words s.chains s.journal x z). ap (λ m. not (m == n)) r.0.serial in
    let both = zip_filter (λ x z. IsStoredAs moment.hash x z × IsSpelled words s.chains s.journal x z) (λ x. not (is_stored n x)) (λ z. not (is_entry n z)) s.entries c same (zip_both (IsStoredAs moment.hash) (IsSpelled words s.chains s.journal) s.entries c h.directory h.contents) in
    let r = pair.pair.0 in
    let k = pair.pair.1 in
    let entered = found_all _ (is_stored n) s.entries x b.chains.entered pair.found in
    subst (λ z. IsSound moment words (with_entries who n seat tiles s z)) (sym (ap (λ o. moved_stored n used_more o s.entries) pair.found)) (record {
      rounded = h.rounded;
      region = h.region;
      journal = journal_push moment moment.next s (with_entries who n seat tiles s (f ++ used_more x ∷ [])) e h.journal licensed (small_none e refl) needs refl refl refl
          (subst (λ l. reserved l ≤ s.spare - 1) (sym cached) (omega (arith, room, room_kept n c y.0 (serials_apart s.options s.journal h.journal.lawful) y.1)));
      directory = subst (AllZip (IsStoredAs moment.hash) (f ++ used_more x ∷ [])) (sym cached)
          (zip_append (IsStoredAs moment.hash) f (without n c) (used_more x) y.0 (zip_on _ (IsStoredAs moment.hash) f (without n c) (λ x z p. p.0) both)
          (record { serial = r.serial; hashed = r.hashed; text_bytes = r.text_bytes; tables = r.tables; complete = r.complete }));
      memory = record {
        tiles = record {
          tiling = pins.tiling;
          in_use =
              let others = map (λ b. b.1) s.table_blocks ++ flat_map (λ c. c.blocks) s.chains in
              subst (λ l. IsPermutation l (moment.held ++ (map (λ e. e.text) (f ++ used_more x ∷ []) ++ others))) (sym pins.same)
              (IsPermutation-trans (handed_out s.tiles) (moment.held ++ blocks_in_use s) (moment.held ++ (map (λ e. e.text) (f ++ used_more x ∷ []) ++ others)) b.tiles.in_use
              (IsPermutation-append moment.held moment.held (blocks_in_use s) (map (λ e. e.text) (f ++ used_more x ∷ []) ++ others) (IsPermutation-refl moment.held)
              (IsPermutation-append (map (λ e. e.text) s.entries) (map (λ e. e.text) (f ++ used_more x ∷ [])) others others (texts_moved n s.entries x d pair.found) (IsPermutation-refl others))));
          pinned = pins.pinned;
        };
        tables = record {
          named = λ t. any_moved used_more n s.entries x (names_table t) d pair.found refl ∙ b.tables.named t;
          once = b.tables.once;
          words = b.tables.words;
        };
        chains = record {
          apart = b.chains.apart;
          entered = all_moved used_more _ _ n s.entries x (λ _ _ p. p) entered.0 b.chains.entered;
          wanted = all_on (λ c. is_wanted s.entries s.tasks c.serial ≡ true) _ s.chains (λ c w. either_on (list_any (is_stored c.serial) s.entries) (list_any (is_task_on c.serial) s.tasks) _ _ (sym (any_moved used_more n s.entries x (is_stored c.serial) d pair.found refl))
              (λ p. list_any-append (is_task_on c.serial) s.tasks (streaming seat n ∷ []) ∙ or_left _ _ p) w) b.chains.wanted;
          fitting = chains_push s.options s.journal e s.chains b.chains.fitting;
          uncut = all_moved used_more _ _ n s.entries x (λ _ _ p. p) (found_all _ (is_stored n) s.entries x b.chains.uncut pair.found).0 b.chains.uncut;
        };
        texts = all_moved used_more TextFits TextFits n s.entries x (λ _ _ p. p) (found_all _ (is_stored n) s.entries x b.texts pair.found).0 b.texts;
      };
      contents = subst (AllZip (IsSpelled words s.chains j) (f ++ used_more x ∷ [])) (sym cached)
          (zip_append (IsSpelled words s.chains j) f (without n c) (used_more x) y.0
          (zip_on _ (IsSpelled words s.chains j) f (without n c) (λ x z p. record { key = p.1.key; kept_answer = λ q. ap (answer z.key) now ∙ p.1.kept_answer q }) both)
          (record { key = k.key; kept_answer = λ q. ap (answer y.0.key) now ∙ k.kept_answer q }));
      tasks = record {
        connected = h.tasks.connected;
        one_each = ap are_distinct (map-append (λ (w : SeatTask). w.seat) s.tasks (streaming seat n ∷ [])) ∙ distinct_push seat (map (λ w. w.seat) s.tasks) h.tasks.one_each free.rests;
        filled = all_moved used_more _ _ n s.entries x (λ x _ p q. fills_more n seat x.serial s.tasks ∙ p q) (λ q. fills_more n seat x.serial s.tasks ∙ (found_all _ (is_stored n) s.entries x h.tasks.filled pair.found).0 q) h.tasks.filled;
        each = all_append (SeatTaskIsSound j s.chains) s.tasks (streaming seat n ∷ []) (tasks_push s.journal e s.chains s.tasks (of_none who (how.Hit n) seat s free h.tasks.each) (λ m. refl) h.tasks.each)
            (record { seat = free.number; task = subst (HitsSerial n) (sym (last_own None (session_of seat) s.journal e (eq-eqb who.session (session_of seat) free.session))) refl; chained = subst (λ m. has_chain m s.chains ≡ true) is_n entered.0 }, tt);
        users = all_moved used_more _ _ n s.entries x (λ x out p. p ∙ sym (one_more (λ w. is_stream_of x.serial w.task) s.tasks (streaming seat n) ∙ (ap (λ b. count_by (λ w. is_stream_of x.serial w.task) s.tasks + cond b 1 0) (apart n x.serial (opposite _ out)) ∙ plus_none (count_by (λ w. is_stream_of x.serial w.task) s.tasks))))
            ((λ i. (found_all _ (is_stored n) s.entries x h.tasks.users pair.found).0 i + 1) ∙ sym (one_more (λ w. is_stream_of x.serial w.task) s.tasks (streaming seat n) ∙ ap (λ b. count_by (λ w. is_stream_of x.serial w.task) s.tasks + cond b 1 0) (eq-eqb n x.serial (sym is_n)))) h.tasks.users;
      };
    })
  where
    plus_none : (a : ℕ) → a + 0 ≡ a
    plus_none a = omega arith

    apart : (n m : ℕ) → eqb m n ≡ false → eqb n m ≡ false
    apart n m h = ne_eqb n m (λ z. true≢false (sym (eq-eqb m n (sym z)) ∙ h))

    fills_more : (n seat m : ℕ) (ws : List SeatTask) → count_by (λ w. is_fill_of m w.task) (ws ++ streaming seat n ∷ []) ≡ count_by (λ w. is_fill_of m w.task) ws
    fills_more n seat m ws = one_more (λ w. is_fill_of m w.task) ws (streaming seat n) ∙ plus_none (count_by (λ w. is_fill_of m w.task) ws)
