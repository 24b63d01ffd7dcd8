-- A start adds an entry, its chain and a fill.
use Rattle.std.proofs.Common.{◌≡◌, ◌≢◌, ℕ, ◌+◌, ◌-◌, ◌*◌, ◌<◌, ◌≤◌, eqb, eq-eqb, ne_eqb, Bool, true, false, cond, List, [], ◌∷◌, ◌++◌, map, length, refl, sym, ap, subst, ◌∙◌, arith, true≢false}
use Rattle.std.specs.Prelude.{◌||◌, Option, Some, None, IfSome, count_by, ◌==◌, unwrap_or, option_map}
use Rattle.std.specs.List.{list_any, filter, AllByRecursion, AllZip}
use Rattle.std.proofs.lemmas.List.{map-append}
use Rattle.std.proofs.lemmas.List.Elements.{filter-append}
use Rattle.std.proofs.lemmas.List.Folds.{list_any-append}
use Rattle.std.proofs.lemmas.List.Sums.{sum_by-cons}
use Rattle.qc_types.specs.declared.options.Options.{Options}
use Rattle.qc_model.specs.declared.events.Event.TheVariants as event
use Rattle.qc_model.specs.declared.events.How.TheVariants as how
use Rattle.qc_model.specs.Journal.{Journal, present, last_event}
use Rattle.qc_model.specs.Cache.{Entry, cache}
use Rattle.qc_model.specs.Session.{answer}
use Rattle.qc_model.specs.Licence.{unit_words, starts_serial}
use Rattle.qc_laws.specs.history.Runs.{are_distinct}
use Rattle.qc_laws.proofs.history.Events.{present_push, cache_push, all_on, all_append}
use Rattle.qc_laws.proofs.history.Serials.{distinct_push}
use Rattle.qc_laws.proofs.history.Stays.{answers_stay}
use Rattle.qc_tiles.specs.declared.blocks.Block.{Block}
use Rattle.qc_turn.specs.declared.task.ListedTask.{ListedTask}
use Rattle.qc_turn.specs.declared.task.Task.{Task}
use Rattle.qc_turn.specs.declared.task.Task.TheVariants as task
use Rattle.qc_turn.specs.Tasks.{listed_for}
use Rattle.qc_sound.specs.PlainServer.{PlainServer, StoredEntry, EntryChain, SeatTask, session_of, blocks_at, blocks_of, listed, has_serial, has_chain, is_stored, is_wanted, is_task_on, serial_of}
use Rattle.qc_sound.specs.Moment.{Moment, at_rest}
use Rattle.qc_sound.specs.parts.Journal.{reserved}
use Rattle.qc_sound.specs.parts.Directory.{IsStoredAs}
use Rattle.qc_sound.specs.parts.Memory.{ChainFits, IsUncut, TextFits}
use Rattle.qc_sound.specs.parts.Contents.{IsSpelled, text_of}
use Rattle.qc_sound.specs.parts.Tasks.{SeatTaskIsSound, is_fill_of, is_stream_of}
use Rattle.qc_sound.specs.Sound.{IsSound}
use Rattle.qc_sound.specs.steps.Leaving.{filling}
use Rattle.qc_sound.specs.steps.Hits.{streaming, HitLists}
use Rattle.qc_sound.specs.steps.Starts.{chain_of, starts_entry, started, StartSteps, StartLists}
use Rattle.qc_sound.proofs.Lists.{zip_on, zip_left, any_map, none_of, all_pair}
use Rattle.qc_sound.proofs.Pushes.{tasks_push, fits_push, ended_push, journal_push, small_none}
use Rattle.qc_sound.proofs.Moved.{zip_append}
use Rattle.qc_sound.proofs.Seats.{one_more, of_none, last_own}
use Rattle.qc_sound.proofs.Ending.{eqb_swap}
use Rattle.qc_sound.proofs.Finishing.{reserved_push}
use Rattle.qc_sound.proofs.Fresh.{not_ended, no_chain, no_entry, no_task, answer_byte}

or_left : (a b : Bool) → a ≡ true → (a || b) ≡ true
or_left true b h = refl
or_left false b h = absurd (true≢false (sym h))

or_right : (a b : Bool) → b ≡ true → (a || b) ≡ true
or_right true b h = refl
or_right false b h = h

-- ---- one chain more

at_old : (m : ℕ) (cs : List EntryChain) (d : EntryChain) → has_chain m cs ≡ true → blocks_at m (cs ++ d ∷ []) ≡ blocks_at m cs
at_old m [] d h = absurd (true≢false (sym h))
at_old m (c ∷ cs) d h = elim (eqb c.serial m) as (λ b. (b || has_chain m cs) ≡ true → cond b c.blocks (blocks_at m (cs ++ d ∷ [])) ≡ cond b c.blocks (blocks_at m cs)) [
  | true ↦ λ _. refl
  | false ↦ λ k. at_old m cs d k
] h

at_new : (n : ℕ) (cs : List EntryChain) (bs : List Block) → list_any (has_serial n) cs ≡ false → blocks_at n (cs ++ chain_of n bs ∷ []) ≡ bs
at_new n [] bs h = ap (λ b. cond b bs []) (eq-eqb n n refl)
at_new n (c ∷ cs) bs h = elim (eqb c.serial n) as (λ b. (b || list_any (has_serial n) cs) ≡ false → cond b c.blocks (blocks_at n (cs ++ chain_of n bs ∷ [])) ≡ bs) [
  | true ↦ λ k. absurd (true≢false k)
  | false ↦ λ k. at_new n cs bs k
] h

has_old : (m : ℕ) (cs : List EntryChain) (d : EntryChain) → has_chain m cs ≡ true → has_chain m (cs ++ d ∷ []) ≡ true
has_old m cs d h = list_any-append (has_serial m) cs (d ∷ []) ∙ or_left (has_chain m cs) (eqb d.serial m || false) h

has_new : (n : ℕ) (cs : List EntryChain) (bs : List Block) → has_chain n (cs ++ chain_of n bs ∷ []) ≡ true
has_new n cs bs = list_any-append (has_serial n) cs (chain_of n bs ∷ []) ∙ or_right (has_chain n cs) (eqb n n || false) (or_left (eqb n n) false (eq-eqb n n refl))

chained_old : (cs : List EntryChain) (d : EntryChain) (t : Task) → IfSome (serial_of t) (λ m. has_chain m cs ≡ true) → IfSome (serial_of t) (λ m. has_chain m (cs ++ d ∷ []) ≡ true)
chained_old cs d task.Rest k = tt
chained_old cs d (task.Stream m) k = has_old m cs d k
chained_old cs d (task.Fill m) k = has_old m cs d k

tasks_old : (j : Journal) (cs : List EntryChain) (d : EntryChain) (ws : List SeatTask) → AllByRecursion (SeatTaskIsSound j cs) ws → AllByRecursion (SeatTaskIsSound j (cs ++ d ∷ [])) ws
tasks_old j cs d ws h = all_on (SeatTaskIsSound j cs) (SeatTaskIsSound j (cs ++ d ∷ [])) ws (λ w k. record { seat = k.seat; task = k.task; chained = chained_old cs d w.task k.chained }) h

wanted_old : (es : List StoredEntry) (e : StoredEntry) (ws : List SeatTask) (w : SeatTask) (m : ℕ) → is_wanted es ws m ≡ true → is_wanted (es ++ e ∷ []) (ws ++ w ∷ []) m ≡ true
wanted_old es e ws w m h = by (list_any (is_stored m) es) (list_any (is_task_on m) ws) refl refl h
  where
    by : (a b : Bool) → list_any (is_stored m) es ≡ a → list_any (is_task_on m) ws ≡ b → (a || b) ≡ true → is_wanted (es ++ e ∷ []) (ws ++ w ∷ []) m ≡ true
    by true b p q k = or_left (list_any (is_stored m) (es ++ e ∷ [])) (list_any (is_task_on m) (ws ++ w ∷ [])) (list_any-append (is_stored m) es (e ∷ []) ∙ or_left (list_any (is_stored m) es) (is_stored m e || false) p)
    by false true p q k = or_right (list_any (is_stored m) (es ++ e ∷ [])) (list_any (is_task_on m) (ws ++ w ∷ [])) (list_any-append (is_task_on m) ws (w ∷ []) ∙ or_left (list_any (is_task_on m) ws) (is_task_on m w || false) q)
    by false false p q k = absurd (true≢false (sym k))

wanted_new : (es : List StoredEntry) (e : StoredEntry) (ws : List SeatTask) → is_wanted (es ++ e ∷ []) ws e.serial ≡ true
wanted_new es e ws =
    or_left (list_any (is_stored e.serial) (es ++ e ∷ [])) (list_any (is_task_on e.serial) ws)
    (list_any-append (is_stored e.serial) es (e ∷ []) ∙ or_right (list_any (is_stored e.serial) es) (eqb e.serial e.serial || false) (or_left (eqb e.serial e.serial) false (eq-eqb e.serial e.serial refl)))

-- ---- counts

-- a count of what none is
count_zero : (p : SeatTask → Bool) (ws : List SeatTask) → AllByRecursion (λ w. p w ≡ false) ws → count_by p ws ≡ 0
count_zero p [] h = refl
count_zero p (w ∷ ws) h =
    let sum = sum_by-cons (λ (x : SeatTask). cond (p x) 1 0) w ws in
    let none : ◌≡◌ {A = ℕ} (cond (p w) 1 0) 0 = ap (λ b. cond b 1 0) h.0 in
    omega (arith, sum, none, count_zero p ws h.1)

off_fills : (n : ℕ) (w : SeatTask) → is_task_on n w ≡ false → is_fill_of n w.task ≡ false
off_fills n w h = by w.task refl
  where
    by : (t : Task) → w.task ≡ t → is_fill_of n t ≡ false
    by task.Rest e = refl
    by (task.Stream m) e = refl
    by (task.Fill m) e = subst (λ t. unwrap_or (option_map (λ m. eqb m n) (serial_of t)) false ≡ false) e h

off_streams : (n : ℕ) (w : SeatTask) → is_task_on n w ≡ false → is_stream_of n w.task ≡ false
off_streams n w h = by w.task refl
  where
    by : (t : Task) → w.task ≡ t → is_stream_of n t ≡ false
    by task.Rest e = refl
    by (task.Stream m) e = subst (λ t. unwrap_or (option_map (λ m. eqb m n) (serial_of t)) false ≡ false) e h
    by (task.Fill m) e = refl

plus_none : (a : ℕ) → a + 0 ≡ a
plus_none a = omega arith

any_serial : (n : ℕ) (cs : List EntryChain) → list_any (λ m. m == n) (map (λ c. c.serial) cs) ≡ list_any (has_serial n) cs
any_serial n cs = any_map (λ m. eqb m n) (has_serial n) (λ (c : EntryChain). c.serial) cs (λ c. refl)

uncut_old : (o : Options) (cs : List EntryChain) (d : EntryChain) (es : List StoredEntry) → AllByRecursion (λ x. has_chain x.serial cs ≡ true) es → AllByRecursion (IsUncut o cs) es → AllByRecursion (IsUncut o (cs ++ d ∷ [])) es
uncut_old o cs d [] h k = tt
uncut_old o cs d (x ∷ es) h k = ((λ c. subst (AllByRecursion (λ b. unit_words o ≤ b.words)) (sym (at_old x.serial cs d h.0)) (k.0 c)), uncut_old o cs d es h.1 k.1)

-- the fills of the entries that were there stay
filled_old : (seat n : ℕ) (ws : List SeatTask) (es : List StoredEntry) → AllByRecursion (λ x. eqb x.serial n ≡ false) es → AllByRecursion (λ x. x.complete ≡ false → count_by (λ w. is_fill_of x.serial w.task) ws ≡ 1) es
    → AllByRecursion (λ x. x.complete ≡ false → count_by (λ w. is_fill_of x.serial w.task) (ws ++ filling seat n ∷ []) ≡ 1) es
filled_old seat n ws [] h k = tt
filled_old seat n ws (x ∷ es) h k = (here, filled_old seat n ws es h.1 k.1)
  where
    here : x.complete ≡ false → count_by (λ w. is_fill_of x.serial w.task) (ws ++ filling seat n ∷ []) ≡ 1
    here c =
        let sum = one_more (λ w. is_fill_of x.serial w.task) ws (filling seat n) in
        let none : ◌≡◌ {A = ℕ} (cond (eqb n x.serial) 1 0) 0 = ap (λ b. cond b 1 0) (eqb_swap n x.serial ∙ h.0) in
        let before = k.0 c in
        omega (arith, sum, none, before)

filled_new : (seat n : ℕ) (ws : List SeatTask) → AllByRecursion (λ w. is_task_on n w ≡ false) ws → count_by (λ w. is_fill_of n w.task) (ws ++ filling seat n ∷ []) ≡ 1
filled_new seat n ws h =
    let sum = one_more (λ w. is_fill_of n w.task) ws (filling seat n) in
    let one : ◌≡◌ {A = ℕ} (cond (eqb n n) 1 0) 1 = ap (λ b. cond b 1 0) (eq-eqb n n refl) in
    let before = count_zero (λ w. is_fill_of n w.task) ws (all_on (λ w. is_task_on n w ≡ false) (λ w. is_fill_of n w.task ≡ false) ws (λ w k. off_fills n w k) h) in
    omega (arith, sum, one, before)

-- ---- the step

pub start_step : StartSteps
start_step moment words s who key seat e first blocks tiles h licensed needs room free new tiled tabled =
    let n = e.serial in
    let ev = starts_entry who key e in
    let j = s.journal ++ ev ∷ [] in
    let c = cache s.journal in
    let m = h.memory in
    let w = filling seat n in
    let d = chain_of n (first ∷ []) in
    let cs = s.chains ++ d ∷ [] in
    let lawful = h.journal.lawful in
    let above = licensed.1.next in
    let y : Entry = record { serial = n; key = key; tables = e.tables; complete = false } in
    let cached : cache j ≡ c ++ y ∷ [] = cache_push s.journal ev in
    let now : present j ≡ present s.journal = present_push s.journal ev in
    let chainless = no_chain s.options s.journal n s.chains lawful (omega (arith, above)) m.chains.fitting in
    let others = no_entry moment s.options s.journal n s.entries c lawful (omega (arith, above)) h.directory (answers_stay s.options s.journal lawful) in
    let taskless = no_task s.options s.journal s.chains n s.tasks lawful (omega (arith, above)) h.tasks.each in
    let byte = answer_byte key (present s.journal) licensed.1.has_answer in
    let recorded = journal_push moment None s (started who key seat e first blocks tiles s) ev h.journal licensed (small_none ev refl) needs refl refl refl
    (subst (λ l. reserved l ≤ s.spare - 1) (sym cached) (omega (arith, reserved_push c y, room))) in
    record {
      rounded = h.rounded;
      region = h.region;
      journal = record { lawful = recorded.lawful; small = recorded.small; needs = recorded.needs; database = recorded.database; room = recorded.room };
      directory = subst (AllZip (IsStoredAs moment.hash) (s.entries ++ e ∷ [])) (sym cached)
          (zip_append (IsStoredAs moment.hash) s.entries c e y h.directory
          (record { serial = refl; hashed = new.hashed; text_bytes = new.text_bytes; tables = refl; complete = new.incomplete }));
      memory = record {
        tiles = tiled;
        tables = tabled;
        chains = record {
          apart = ap are_distinct (map-append (λ (c : EntryChain). c.serial) s.chains (d ∷ []))
              ∙ distinct_push n (map (λ c. c.serial) s.chains) m.chains.apart (any_serial n s.chains ∙ chainless);
          entered = all_append (λ x. has_chain x.serial cs ≡ true) s.entries (e ∷ []) (all_on _ (λ x. has_chain x.serial cs ≡ true) s.entries (λ x k. has_old x.serial s.chains d k) m.chains.entered) (has_new n s.chains (first ∷ []), tt);
          wanted = all_append (λ c. is_wanted (s.entries ++ e ∷ []) (s.tasks ++ w ∷ []) c.serial ≡ true) s.chains (d ∷ [])
              (all_on _ (λ c. is_wanted (s.entries ++ e ∷ []) (s.tasks ++ w ∷ []) c.serial ≡ true) s.chains (λ c k. wanted_old s.entries e s.tasks w c.serial k) m.chains.wanted) (wanted_new s.entries e (s.tasks ++ w ∷ []), tt);
          fitting = all_append (ChainFits s.options j) s.chains (d ∷ []) (all_on (ChainFits s.options s.journal) (ChainFits s.options j) s.chains (λ c k. fits_push s.options s.journal ev c k) m.chains.fitting)
              (record { first = omega arith; small = (new.small, tt); full = tt; start = record { who = who; key = key; tables = e.tables; earlier = s.journal; later = []; split = refl }; needed = byte }, tt);
          uncut = all_append (IsUncut s.options cs) s.entries (e ∷ []) (uncut_old s.options s.chains d s.entries m.chains.entered m.chains.uncut)
              ((λ _. subst (AllByRecursion (λ b. unit_words s.options ≤ b.words)) (sym (at_new n s.chains (first ∷ []) chainless)) (new.full, tt)), tt);
        };
        texts = all_append TextFits s.entries (e ∷ []) m.texts (new.text, tt);
      };
      contents = subst (AllZip (IsSpelled words cs j) (s.entries ++ e ∷ [])) (sym cached)
          (zip_append (IsSpelled words cs j) s.entries c e y
          (zip_on _ (IsSpelled words cs j) s.entries c (λ x z p. record {
            key = p.0.key;
            kept_answer = λ q. ap (answer z.key) now ∙ (p.0.kept_answer q ∙ ap (λ l. Some (text_of words l x.bytes)) (sym (at_old x.serial s.chains d p.1)));
          }) (zip_left (IsSpelled words s.chains s.journal) (λ x. has_chain x.serial s.chains ≡ true) s.entries c h.contents m.chains.entered))
          (record { key = new.spelled; kept_answer = λ q. absurd (true≢false (sym q ∙ new.incomplete)) }));
      tasks = record {
        connected = h.tasks.connected;
        one_each = ap are_distinct (map-append (λ (w : SeatTask). w.seat) s.tasks (w ∷ [])) ∙ distinct_push seat (map (λ w. w.seat) s.tasks) h.tasks.one_each free.rests;
        each = all_append (SeatTaskIsSound j cs) s.tasks (w ∷ [])
            (tasks_old j s.chains d s.tasks (tasks_push s.journal ev s.chains s.tasks (of_none who (how.Start n key e.tables) seat s free h.tasks.each) (λ k. refl) h.tasks.each)) (
              record {
                seat = free.number;
                task = (subst (λ z. starts_serial n z ≡ true) (sym (last_own None (session_of seat) s.journal ev (eq-eqb who.session (session_of seat) free.session))) (eq-eqb n n refl), ended_push n s.journal ev refl ∙ not_ended s.options s.journal n lawful (omega (arith, above)));
                chained = has_new n s.chains (first ∷ []);
              },
              tt,
            );
        filled = all_append (λ x. x.complete ≡ false → count_by (λ w. is_fill_of x.serial w.task) (s.tasks ++ w ∷ []) ≡ 1) s.entries (e ∷ []) (filled_old seat n s.tasks s.entries others h.tasks.filled)
            ((λ _. filled_new seat n s.tasks taskless), tt);
        users = all_append (λ x. x.users ≡ count_by (λ w. is_stream_of x.serial w.task) (s.tasks ++ w ∷ [])) s.entries (e ∷ [])
            (all_on _ (λ x. x.users ≡ count_by (λ w. is_stream_of x.serial w.task) (s.tasks ++ w ∷ [])) s.entries (λ x k. k ∙ sym (one_more (λ w. is_stream_of x.serial w.task) s.tasks w ∙ plus_none _)) h.tasks.users)
            (new.unused ∙ sym (one_more (λ w. is_stream_of n w.task) s.tasks w ∙ (plus_none _ ∙ count_zero (λ w. is_stream_of n w.task) s.tasks (all_on _ _ s.tasks (λ w k. off_streams n w k) taskless))), tt);
      };
    }

-- ---- what is listed

-- one task more of a seat that had none
listed_more : (cs : List EntryChain) (k seat : ℕ) (ws : List SeatTask) (w : SeatTask) → w.seat ≡ seat → k ≢ seat → listed_for k (map (listed cs) (ws ++ w ∷ [])) ≡ listed_for k (map (listed cs) ws)
listed_more cs k seat [] w is ne = ap (λ b. cond b (listed cs w ∷ []) []) (ne_eqb w.seat k (λ z. ne (sym z ∙ is)))
listed_more cs k seat (x ∷ ws) w is ne = ap (λ l. cond (eqb x.seat k) (listed cs x ∷ l) l) (listed_more cs k seat ws w is ne)

listed_last : (cs : List EntryChain) (seat : ℕ) (ws : List SeatTask) (w : SeatTask) → w.seat ≡ seat → list_any (λ m. m == seat) (map (λ w. w.seat) ws) ≡ false → listed_for seat (map (listed cs) (ws ++ w ∷ [])) ≡ listed cs w ∷ []
listed_last cs seat [] w is none = ap (λ b. cond b (listed cs w ∷ []) []) (eq-eqb w.seat seat is)
listed_last cs seat (x ∷ ws) w is none = elim (eqb x.seat seat) as (λ b. (b || list_any (λ m. m == seat) (map (λ w. w.seat) ws)) ≡ false → cond b (listed cs x ∷ listed_for seat (map (listed cs) (ws ++ w ∷ []))) (listed_for seat (map (listed cs) (ws ++ w ∷ []))) ≡ listed cs w ∷ []) [
  | true ↦ λ k. absurd (true≢false k)
  | false ↦ λ k. listed_last cs seat ws w is k
] none

-- what is listed stays with one chain more
listed_old : (j : Journal) (cs : List EntryChain) (d : EntryChain) (ws : List SeatTask) → AllByRecursion (SeatTaskIsSound j cs) ws → map (listed (cs ++ d ∷ [])) ws ≡ map (listed cs) ws
listed_old j cs d [] h = refl
listed_old j cs d (w ∷ ws) h = λ i. record { number = w.seat; task = w.task; blocks = by w.task h.0.chained i } ∷ listed_old j cs d ws h.1 i
  where
    by : (t : Task) → IfSome (serial_of t) (λ m. has_chain m cs ≡ true) → blocks_of (cs ++ d ∷ []) t ≡ blocks_of cs t
    by task.Rest k = refl
    by (task.Stream m) k = at_old m cs d k
    by (task.Fill m) k = at_old m cs d k

pub start_lists : StartLists
start_lists moment words s who key seat e first blocks tiles h free =
    let d = chain_of e.serial (first ∷ []) in
    record {
      others = λ k ne. listed_more (s.chains ++ d ∷ []) k seat s.tasks (filling seat e.serial) refl ne ∙ ap (listed_for k) (listed_old s.journal s.chains d s.tasks h.tasks.each);
      alone = listed_last (s.chains ++ d ∷ []) seat s.tasks (filling seat e.serial) refl free.rests;
    }

pub hit_lists : HitLists
hit_lists s who n seat tiles free = record {
  others = λ k ne. listed_more s.chains k seat s.tasks (streaming seat n) refl ne;
  alone = listed_last s.chains seat s.tasks (streaming seat n) refl free.rests;
}
