-- A chain that is filled gets a block.
use Rattle.std.proofs.Common.{◌≡◌, ◌≢◌, ℕ, ◌+◌, ◌*◌, ◌<◌, ◌≤◌, eqb, eq-eqb, eqb-true, ne_eqb, Bool, true, false, cond, List, [], ◌∷◌, ◌++◌, map, length, refl, sym, ap, subst, ◌∙◌, arith, true≢false, length-append}
use Rattle.std.specs.Prelude.{◌||◌, Option, Some, None, IsSomeAnd, IfSome, count_by, ◌==◌, unwrap_or}
use Rattle.std.specs.List.{list_any, find, AllByRecursion, AllZip}
use Rattle.qc_types.specs.declared.options.Options.{Options}
use Rattle.qc_model.specs.declared.events.Event.TheVariants as event
use Rattle.qc_model.specs.declared.events.How.TheVariants as how
use Rattle.qc_model.specs.Journal.{Journal, present}
use Rattle.qc_model.specs.Cache.{Entry, cache, entry_of}
use Rattle.qc_model.specs.Session.{answer}
use Rattle.qc_model.specs.Licence.{IsLawful, IsFilling, unit_words}
use Rattle.qc_laws.specs.history.Runs.{IsStarted, are_distinct}
use Rattle.qc_laws.proofs.history.Events.{all_on, all_append, found_all}
use Rattle.qc_laws.proofs.history.Serials.{serials_apart}
use Rattle.qc_laws.proofs.history.Starts.{starts_once}
use Rattle.qc_tiles.specs.declared.blocks.Tile.{Tile}
use Rattle.qc_tiles.specs.declared.blocks.Block.{Block}
use Rattle.qc_chain.specs.Words.{words_of}
use Rattle.qc_chain.specs.Chains.{but_last}
use Rattle.qc_turn.specs.declared.task.Task.{Task}
use Rattle.qc_turn.specs.declared.task.Task.TheVariants as task
use Rattle.qc_sound.specs.PlainServer.{PlainServer, StoredEntry, EntryChain, SeatTask, blocks_at, has_serial, has_chain, is_stored, is_wanted, is_task_on, serial_of}
use Rattle.qc_sound.specs.Moment.{Moment}
use Rattle.qc_sound.specs.parts.Directory.{IsStoredAs}
use Rattle.qc_sound.specs.parts.Memory.{ChainFits, IsUncut, TextFits, names_table}
use Rattle.qc_sound.specs.parts.Contents.{IsSpelled, text_of}
use Rattle.qc_sound.specs.parts.Tasks.{TaskIsSound, SeatTaskIsSound, is_fill_of, is_stream_of}
use Rattle.qc_sound.specs.Sound.{IsSound}
use Rattle.qc_sound.specs.steps.Leaving.{is_of_seat, filling}
use Rattle.qc_sound.specs.steps.Growing.{with_blocks, with_bytes, grown, MayGrow, GrowSteps, GrowLists}
use Rattle.qc_sound.proofs.Lists.{zip_on, zip_both, zip_left, zip_map, all_map, any_map, cond_keeps, all_pair}
use Rattle.qc_sound.proofs.Moved.{same_serials, FoundPair, found_pair}
use Rattle.qc_sound.proofs.Laws.{fills_alone, streams_apart}
use Rattle.qc_sound.proofs.Changed.{changed, only_keyed, own_blocks, serials_with, has_with, at_other, at_same, tasks_with, listed_with, found_listed}

-- ---- an entry of the cache

-- the entry that is meant, in the cache and in the directory
pub record Meant (moment : Moment) (words : List ℕ) (n : ℕ) (s : PlainServer) (P : Entry → Type 0) : Type 0 where
  pub entry : Entry
  pub cached : entry_of n (cache s.journal) ≡ Some entry
  pub holds : P entry
  pub at : StoredEntry
  pub found : find (is_stored n) s.entries ≡ Some at
  pub stored : IsStoredAs moment.hash at entry
  pub spelled : IsSpelled words s.chains s.journal at entry

pub meant : (moment : Moment) (words : List ℕ) (n : ℕ) (s : PlainServer) (P : Entry → Type 0) → IsSound moment words s → IsSomeAnd (entry_of n (cache s.journal)) P → Meant moment words n s P
meant moment words n s P h there = by (entry_of n (cache s.journal)) refl there
  where
    by : (o : Option Entry) → entry_of n (cache s.journal) ≡ o → IsSomeAnd o P → Meant moment words n s P
    by None e k = absurd k
    by (Some y) e k =
        let pair = found_pair moment (IsSpelled words s.chains s.journal) n s.entries (cache s.journal) y (zip_both (IsStoredAs moment.hash) (IsSpelled words s.chains s.journal) s.entries (cache s.journal) h.directory h.contents) e in
        record { entry = y; cached = e; holds = k; at = pair.at; found = pair.found; stored = pair.pair.0; spelled = pair.pair.1 }

pub entries_apart : (moment : Moment) (words : List ℕ) (s : PlainServer) → IsSound moment words s → are_distinct (map (λ e. e.serial) s.entries) ≡ true
entries_apart moment words s h = ap are_distinct (same_serials moment s.entries (cache s.journal) h.directory) ∙ serials_apart s.options s.journal h.journal.lawful

-- all entries with the serial are that one
pub all_meant : (moment : Moment) (words : List ℕ) (n : ℕ) (s : PlainServer) (P : Entry → Type 0) → IsSound moment words s → (u : Meant moment words n s P) → AllByRecursion (λ e. eqb e.serial n ≡ true → e ≡ u.at) s.entries
all_meant moment words n s P h u = only_keyed (λ (e : StoredEntry). e.serial) n s.entries u.at (entries_apart moment words s h) u.found

-- ---- the byte length of an entry that isn't complete

abbrev bytes_for : ℕ → ℕ → StoredEntry → StoredEntry
bytes_for n bytes e = cond (is_stored n e) (record e { bytes = bytes }) e

keeps : (P : StoredEntry → Type 0) (n bytes : ℕ) (e : StoredEntry) → P (record e { bytes = bytes }) → P e → P (bytes_for n bytes e)
keeps P n bytes e u k = cond_keeps P (is_stored n e) (record e { bytes = bytes }) e u k

-- ---- a longer chain

but_last-push : (bs : List Block) (b : Block) → but_last (bs ++ b ∷ []) ≡ bs
but_last-push [] b = refl
but_last-push (x ∷ []) b = refl
but_last-push (x ∷ y ∷ bs) b = ap (λ l. x ∷ l) (but_last-push (y ∷ bs) b)

fits_longer : (o : Options) (j : Journal) (c : EntryChain) (b : Block) → ChainFits o j c → unit_words o ≤ b.words → b.words ≤ unit_words o + 63 → AllByRecursion (λ x. unit_words o ≤ x.words) c.blocks
    → (start : IsStarted j c.serial) → 8 * words_of c.blocks < length (unwrap_or (answer start.key (present start.earlier)) []) → ChainFits o j (record c { blocks = c.blocks ++ b ∷ [] })
fits_longer o j c b h low high full start more = record {
  first = omega (arith, length-append c.blocks (b ∷ []));
  small = all_append (λ x. x.words ≤ unit_words o + 63) c.blocks (b ∷ []) h.small (high, tt);
  full = subst (AllByRecursion (λ x. unit_words o ≤ x.words)) (sym (but_last-push c.blocks b)) full;
  start = start;
  needed = subst (λ l. 8 * words_of l < length (unwrap_or (answer start.key (present start.earlier)) [])) (sym (but_last-push c.blocks b)) more;
}

-- the start of a serial is that of another name of it
abbrev pub restarted : (j : Journal) (n m : ℕ) → n ≡ m → IsStarted j n → IsStarted j m
restarted j n m same s = record {
  who = s.who;
  key = s.key;
  tables = s.tables;
  earlier = s.earlier;
  later = s.later;
  split = s.split ∙ ap (λ i. s.earlier ++ event.Run s.who (how.Start i s.key s.tables) ∷ s.later) same;
}

wanted_on : (n bytes : ℕ) (s : PlainServer) (m : ℕ) → is_wanted s.entries s.tasks m ≡ true → is_wanted (with_bytes n bytes s.entries) s.tasks m ≡ true
wanted_on n bytes s m k =
    ap (λ b. b || list_any (is_task_on m) s.tasks) (any_map (is_stored m) (is_stored m) (bytes_for n bytes) s.entries (λ x. keeps (λ z. is_stored m z ≡ is_stored m x) n bytes x refl refl)) ∙ k

fits_by : (o : Options) (j : Journal) (n : ℕ) (b : Block) (bs : List Block) (start : IsStarted j n) → 8 * words_of bs < length (unwrap_or (answer start.key (present start.earlier)) []) → unit_words o ≤ b.words → b.words ≤ unit_words o + 63
    → AllByRecursion (λ x. unit_words o ≤ x.words) bs → (v : Bool) (c : EntryChain) → has_serial n c ≡ v → ChainFits o j c → (eqb c.serial n ≡ true → c.blocks ≡ bs) → ChainFits o j (cond v (record c { blocks = c.blocks ++ b ∷ [] }) c)
fits_by o j n b bs start more low high full true c e p own =
    let same : c.blocks ≡ bs = own e in
    fits_longer o j c b p low high (subst (AllByRecursion (λ x. unit_words o ≤ x.words)) (sym same) full) (restarted j n c.serial (sym (eqb-true c.serial n e)) start)
    (subst (λ l. 8 * words_of l < length (unwrap_or (answer start.key (present start.earlier)) [])) (sym same) more)
fits_by o j n b bs start more low high full false c e p own = p

uncut_by : (o : Options) (n : ℕ) (b : Block) (cs : List EntryChain) → has_chain n cs ≡ true → AllByRecursion (λ x. unit_words o ≤ x.words) (blocks_at n cs) → unit_words o ≤ b.words
    → (v : Bool) (x : StoredEntry) → eqb x.serial n ≡ v → IsUncut o cs x → IsUncut o (with_blocks n (λ blocks. blocks ++ b ∷ []) cs) x
uncut_by o n b cs there full low true x e k =
    λ c. subst (AllByRecursion (λ z. unit_words o ≤ z.words)) (sym (ap (λ m. blocks_at m (with_blocks n (λ blocks. blocks ++ b ∷ []) cs)) (eqb-true x.serial n e) ∙ at_same n (λ blocks. blocks ++ b ∷ []) cs there))
    (all_append (λ z. unit_words o ≤ z.words) (blocks_at n cs) (b ∷ []) full (low, tt))
uncut_by o n b cs there full low false x e k = λ c. subst (AllByRecursion (λ z. unit_words o ≤ z.words)) (sym (at_other n (λ blocks. blocks ++ b ∷ []) x.serial cs e)) (k c)

spelled_by : (words : List ℕ) (j : Journal) (n bytes : ℕ) (f : List Block → List Block) (cs : List EntryChain) (v : Bool) (x : StoredEntry) (y : Entry) → is_stored n x ≡ v → IsSpelled words cs j x y → (eqb x.serial n ≡ true → x.complete ≡ false)
    → IsSpelled words (with_blocks n f cs) j (cond v (record x { bytes = bytes }) x) y
spelled_by words j n bytes f cs true x y e p q = record { key = p.key; kept_answer = λ c. absurd (true≢false (sym c ∙ q e)) }
spelled_by words j n bytes f cs false x y e p q = record { key = p.key; kept_answer = λ c. p.kept_answer c ∙ ap (λ l. Some (text_of words l x.bytes)) (sym (at_other n f x.serial cs e)) }

abbrev pub filled_in : PlainServer → StoredEntry → Type 0
filled_in s e = e.complete ≡ false → count_by (λ w. is_fill_of e.serial w.task) s.tasks ≡ 1

abbrev pub used_in : PlainServer → StoredEntry → Type 0
used_in s e = e.users ≡ count_by (λ w. is_stream_of e.serial w.task) s.tasks

pub grow_step : GrowSteps
grow_step moment words s n b bytes tiles h may tiled =
    let j = s.journal in
    let m = h.memory in
    let f = λ (blocks : List Block). blocks ++ b ∷ [] in
    let u = meant moment words n s (λ y. y.complete ≡ false) h may.entry in
    let g = bytes_for n bytes in
    let cs = with_blocks n f s.chains in
    let there : has_chain n s.chains ≡ true = subst (λ k. has_chain k s.chains ≡ true) (eqb-true u.at.serial n (found_all _ (is_stored n) s.entries u.at m.chains.entered u.found).1) (found_all _ (is_stored n) s.entries u.at m.chains.entered u.found).0 in
    let full : AllByRecursion (λ x. unit_words s.options ≤ x.words) (blocks_at n s.chains) =
    subst (λ k. AllByRecursion (λ x. unit_words s.options ≤ x.words) (blocks_at k s.chains)) (eqb-true u.at.serial n (found_all _ (is_stored n) s.entries u.at m.chains.uncut u.found).1)
    ((found_all _ (is_stored n) s.entries u.at m.chains.uncut u.found).0 (u.stored.complete ∙ u.holds)) in
    let partial : AllByRecursion (λ e. eqb e.serial n ≡ true → e.complete ≡ false) s.entries =
    all_on (λ e. eqb e.serial n ≡ true → e ≡ u.at) (λ e. eqb e.serial n ≡ true → e.complete ≡ false) s.entries (λ e is q. ap (λ (z : StoredEntry). z.complete) (is q) ∙ (u.stored.complete ∙ u.holds)) (all_meant moment words n s _ h u) in
    record {
      rounded = h.rounded;
      region = h.region;
      journal = record { lawful = h.journal.lawful; small = h.journal.small; needs = h.journal.needs; database = h.journal.database; room = h.journal.room };
      directory = zip_map (IsStoredAs moment.hash) (IsStoredAs moment.hash) g s.entries (cache j)
          (λ x y r. keeps (λ z. IsStoredAs moment.hash z y) n bytes x (record { serial = r.serial; hashed = r.hashed; text_bytes = r.text_bytes; tables = r.tables; complete = r.complete }) r) h.directory;
      memory = record {
        tiles = tiled;
        tables = record {
          named = λ t. any_map (names_table t) (names_table t) g s.entries (λ x. keeps (λ z. names_table t z ≡ names_table t x) n bytes x refl refl) ∙ m.tables.named t;
          once = m.tables.once;
          words = m.tables.words;
        };
        chains = record {
          apart = ap are_distinct (serials_with n f s.chains) ∙ m.chains.apart;
          entered = all_map _ (λ x. has_chain x.serial cs ≡ true) g s.entries (λ x k. keeps (λ z. has_chain z.serial cs ≡ true) n bytes x (has_with n f x.serial s.chains ∙ k) (has_with n f x.serial s.chains ∙ k)) m.chains.entered;
          wanted = all_map (λ c. is_wanted s.entries s.tasks c.serial ≡ true) (λ c. is_wanted (with_bytes n bytes s.entries) s.tasks c.serial ≡ true) (changed n f) s.chains
              (λ c k. cond_keeps (λ z. is_wanted (with_bytes n bytes s.entries) s.tasks z.serial ≡ true) (has_serial n c) (record c { blocks = f c.blocks }) c (wanted_on n bytes s c.serial k) (wanted_on n bytes s c.serial k)) m.chains.wanted;
          fitting = all_map (λ c. ChainFits s.options j c × (eqb c.serial n ≡ true → c.blocks ≡ blocks_at n s.chains)) (ChainFits s.options j) (changed n f) s.chains (λ c p. fits_by s.options j n b (blocks_at n s.chains) may.start may.more may.full may.small full (has_serial n c) c refl p.0 p.1)
              (all_pair (ChainFits s.options j) (λ c. eqb c.serial n ≡ true → c.blocks ≡ blocks_at n s.chains) s.chains m.chains.fitting (own_blocks n s.chains m.chains.apart));
          uncut = all_map _ (IsUncut s.options cs) g s.entries (λ x k. keeps (IsUncut s.options cs) n bytes x (uncut_by s.options n b s.chains there full may.full (eqb x.serial n) x refl k) (uncut_by s.options n b s.chains there full may.full (eqb x.serial n) x refl k)) m.chains.uncut;
        };
        texts = all_map TextFits TextFits g s.entries (λ x k. keeps TextFits n bytes x k k) m.texts;
      };
      contents = zip_map _ (IsSpelled words cs j) g s.entries (cache j) (λ x y p. spelled_by words j n bytes f s.chains (is_stored n x) x y refl p.0 p.1) (zip_left (IsSpelled words s.chains j) (λ e. eqb e.serial n ≡ true → e.complete ≡ false) s.entries (cache j) h.contents partial);
      tasks = record {
        connected = h.tasks.connected;
        one_each = h.tasks.one_each;
        each = tasks_with n f j s.chains s.tasks h.tasks.each;
        filled = all_map (filled_in s) (filled_in s) g s.entries (λ x k. keeps (filled_in s) n bytes x k k) h.tasks.filled;
        users = all_map (used_in s) (used_in s) g s.entries (λ x k. keeps (used_in s) n bytes x k k) h.tasks.users;
      };
    }

-- ---- what is listed

-- a task of another seat than the one that fills an entry is on another entry
pub off_fill : (o : Options) (j : Journal) (cs : List EntryChain) (seat n : ℕ) (ws : List SeatTask) → IsLawful o j → 0 < seat → TaskIsSound j seat (task.Fill n) → AllByRecursion (SeatTaskIsSound j cs) ws
    → AllByRecursion (λ w. w.seat ≢ seat → IfSome (serial_of w.task) (λ m. eqb m n ≡ false)) ws
off_fill o j cs seat n [] lawful low fill h = tt
off_fill o j cs seat n (w ∷ ws) lawful low fill h = ((λ ne. by w.task ne h.0.task), off_fill o j cs seat n ws lawful low fill h.1)
  where
    by : (t : Task) → w.seat ≢ seat → TaskIsSound j w.seat t → IfSome (serial_of t) (λ m. eqb m n ≡ false)
    by task.Rest ne k = tt
    by (task.Stream m) ne k = ne_eqb m n (λ z. streams_apart o j seat w.seat n m lawful fill k (sym z))
    by (task.Fill m) ne k = ne_eqb m n (λ z. ne (sym (fills_alone o j seat w.seat n m lawful low h.0.seat.low fill k (sym z))))

-- the task of the seat that fills it
pub fill_found : (moment : Moment) (words : List ℕ) (s : PlainServer) (seat n : ℕ) → IsSound moment words s → find (is_of_seat seat) s.tasks ≡ Some (filling seat n) → SeatTaskIsSound s.journal s.chains (filling seat n)
fill_found moment words s seat n h e = (found_all (SeatTaskIsSound s.journal s.chains) (is_of_seat seat) s.tasks (filling seat n) h.tasks.each e).0

pub fill_apart : (moment : Moment) (words : List ℕ) (s : PlainServer) (seat n : ℕ) → IsSound moment words s → find (is_of_seat seat) s.tasks ≡ Some (filling seat n)
    → AllByRecursion (λ w. w.seat ≢ seat → IfSome (serial_of w.task) (λ m. eqb m n ≡ false)) s.tasks
fill_apart moment words s seat n h e = let w = fill_found moment words s seat n h e in off_fill s.options s.journal s.chains seat n s.tasks h.journal.lawful w.seat.low w.task h.tasks.each

pub grow_lists : GrowLists
grow_lists moment words s seat n b bytes tiles h e =
    let f = λ (blocks : List Block). blocks ++ b ∷ [] in
    record {
      others = λ k ne. listed_with n f s.chains k seat s.tasks ne (fill_apart moment words s seat n h e);
      alone = found_listed (with_blocks n f s.chains) seat s.tasks (filling seat n) h.tasks.one_each e;
    }
