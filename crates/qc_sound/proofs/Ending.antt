-- A task is struck off without an event, and seats connect and leave.
use Rattle.std.proofs.Common.{◌≡◌, ◌≢◌, ◌⊎◌, ⊎_elim, ℕ, ◌+◌, ◌-◌, eqb, eq-eqb, eqb-true, ne_eqb, Bool, true, false, cond, List, [], ◌∷◌, ◌++◌, map, refl, sym, ap, subst, ◌∙◌, arith, true≢false}
use Rattle.std.specs.Prelude.{not, ◌||◌, Some, count_by, ◌==◌}
use Rattle.std.specs.List.{list_any, filter, find, AllByRecursion, AllZip}
use Rattle.std.proofs.lemmas.List.Sorted.{sum_by-IsPermutation}
use Rattle.qc_model.specs.Cache.{cache}
use Rattle.qc_tiles.specs.declared.blocks.Tile.{Tile}
use Rattle.qc_laws.specs.history.Runs.{are_distinct}
use Rattle.qc_laws.proofs.history.Events.{all_filter}
use Rattle.qc_laws.proofs.history.Serials.{neither}
use Rattle.qc_turn.specs.declared.task.ListedTask.{ListedTask}
use Rattle.qc_turn.specs.declared.task.Task.TheVariants as task
use Rattle.qc_turn.specs.Tasks.{listed_for}
use Rattle.qc_sound.specs.PlainServer.{PlainServer, StoredEntry, EntryChain, SeatTask, listed, is_stored, is_wanted, has_chain}
use Rattle.qc_sound.specs.Moment.{Moment}
use Rattle.qc_sound.specs.Sound.{IsSound}
use Rattle.qc_sound.specs.parts.Directory.{IsStoredAs}
use Rattle.qc_sound.specs.parts.Memory.{ChainFits, IsUncut, TextFits, TilesAreSound, names_table}
use Rattle.qc_sound.specs.parts.Contents.{IsSpelled, text_of}
use Rattle.qc_sound.specs.parts.Tasks.{is_fill_of, is_stream_of}
use Rattle.qc_sound.specs.steps.Leaving.{is_of_seat, without_seat}
use Rattle.qc_sound.specs.steps.Ending.{used_less, left_by_user, struck_off, StrikeSteps, StrikeLists, SeatSteps}
use Rattle.qc_sound.proofs.Lists.{zip_on, zip_left, zip_map, all_map, any_map, cond_keeps, all_pair}
use Rattle.qc_sound.proofs.Filters.{at_filter, distinct_filter, tasks_wanted, entries_wanted, tasks_stay, chained_stay, entered_stay, uncut_stay, wanted_stay}
use Rattle.qc_sound.proofs.Moved.{moved_permutes}
use Rattle.qc_sound.proofs.Pushes.{each_of}
use Rattle.qc_sound.proofs.Seats.{one_more}

-- ---- counts of tasks

pub count_without : (p : SeatTask → Bool) (seat : ℕ) (ws : List SeatTask) (w : SeatTask) → are_distinct (map (λ w. w.seat) ws) ≡ true → find (is_of_seat seat) ws ≡ Some w
    → count_by p ws ≡ count_by p (without_seat seat ws) + cond (p w) 1 0
count_without p seat ws w d e =
    sym (sum_by-IsPermutation (λ (w : SeatTask). cond (p w) 1 0) ws (without_seat seat ws ++ w ∷ []) (moved_permutes (λ (w : SeatTask). w.seat) seat ws w d e)) ∙ one_more p (without_seat seat ws) w

pub eqb_swap : (n m : ℕ) → eqb n m ≡ eqb m n
eqb_swap n m = elim (eqb m n) as (λ b. eqb m n ≡ b → eqb n m ≡ b) [
  | true ↦ λ e. eq-eqb n m (sym (eqb-true m n e))
  | false ↦ λ e. ne_eqb n m (λ z. true≢false (sym (eq-eqb m n (sym z)) ∙ e))
] refl

pub none_each : {A : Type 0} (p : A → Bool) (xs : List A) → list_any p xs ≡ false → AllByRecursion (λ x. p x ≡ false) xs
none_each p [] h = tt
none_each p (x ∷ xs) h = let parts = neither (p x) (list_any p xs) h in (parts.0, none_each p xs parts.1)

all_on : {A : Type 0} (P Q : A → Type 0) (xs : List A) → ((x : A) → P x → Q x) → AllByRecursion P xs → AllByRecursion Q xs
all_on P Q [] f h = tt
all_on P Q (x ∷ xs) f h = (f x h.0, all_on P Q xs f h.1)

-- ---- the task that ends

abbrev is_one : Bool → ℕ
is_one b = cond b 1 0

-- it fills no entry that is there, and it streams exactly the entry that loses a user
record Ends (seat n : ℕ) (s : PlainServer) (w : SeatTask) : Type 0 where
  pub found : find (is_of_seat seat) s.tasks ≡ Some w
  pub fills : AllByRecursion (λ e. is_fill_of e.serial w.task ≡ false) s.entries
  pub streams : AllByRecursion (λ e. is_one (is_stream_of e.serial w.task) ≡ is_one (is_stored n e)) s.entries

streams_end : (seat n : ℕ) (s : PlainServer) → find (is_of_seat seat) s.tasks ≡ Some (record { seat = seat; task = task.Stream n }) → Ends seat n s (record { seat = seat; task = task.Stream n })
streams_end seat n s e = record {
  found = e;
  fills = each_of (λ e. is_fill_of e.serial (task.Stream n) ≡ false) s.entries (λ e. refl);
  streams = each_of (λ e. is_one (is_stream_of e.serial (task.Stream n)) ≡ is_one (is_stored n e)) s.entries (λ e. ap is_one (eqb_swap n e.serial));
}

fills_end : (seat n : ℕ) (s : PlainServer) → find (is_of_seat seat) s.tasks ≡ Some (record { seat = seat; task = task.Fill n }) → list_any (is_stored n) s.entries ≡ false → Ends seat n s (record { seat = seat; task = task.Fill n })
fills_end seat n s e none =
    let each = none_each (is_stored n) s.entries none in
    record {
      found = e;
      fills = all_on (λ e. is_stored n e ≡ false) (λ e. is_fill_of e.serial (task.Fill n) ≡ false) s.entries (λ e h. eqb_swap n e.serial ∙ h) each;
      streams = all_on (λ e. is_stored n e ≡ false) (λ e. is_one (is_stream_of e.serial (task.Fill n)) ≡ is_one (is_stored n e)) s.entries (λ e h. ap is_one (sym h)) each;
    }

-- ---- one user less

abbrev less : ℕ → StoredEntry → StoredEntry
less n e = cond (is_stored n e) (used_less e) e

used_one : (n : ℕ) (e : StoredEntry) (before after c : ℕ) → e.users ≡ before → before ≡ after + c → c ≡ is_one (is_stored n e) → (less n e).users ≡ after
used_one n e before after c h k g = elim (is_stored n e) as (λ b. c ≡ is_one b → (cond b (used_less e) e).users ≡ after) [
  | true ↦ λ g. omega (arith, h, k, g)
  | false ↦ λ g. omega (arith, h, k, g)
] g

-- a property that the entry has with one user less too
less_keeps : (P : StoredEntry → Type 0) (n : ℕ) (e : StoredEntry) → P (used_less e) → P e → P (less n e)
less_keeps P n e u k = cond_keeps P (is_stored n e) (used_less e) e u k

-- each entry has its users again, where it had them before
users_again : (n : ℕ) (seat : ℕ) (ws : List SeatTask) (w : SeatTask) (es : List StoredEntry) → are_distinct (map (λ w. w.seat) ws) ≡ true → find (is_of_seat seat) ws ≡ Some w
    → AllByRecursion (λ e. is_one (is_stream_of e.serial w.task) ≡ is_one (is_stored n e)) es → AllByRecursion (λ e. e.users ≡ count_by (λ w. is_stream_of e.serial w.task) ws) es
    → AllByRecursion (λ e. e.users ≡ count_by (λ w. is_stream_of e.serial w.task) (without_seat seat ws)) (map (less n) es)
users_again n seat ws w [] d f s h = tt
users_again n seat ws w (e ∷ es) d f s h = (here, users_again n seat ws w es d f s.1 h.1)
  where
    now : (less n e).users ≡ count_by (λ w. is_stream_of e.serial w.task) (without_seat seat ws)
    now = used_one n e (count_by (λ w. is_stream_of e.serial w.task) ws) (count_by (λ w. is_stream_of e.serial w.task) (without_seat seat ws)) (is_one (is_stream_of e.serial w.task)) h.0
        (count_without (λ w. is_stream_of e.serial w.task) seat ws w d f) s.0

    same : (less n e).serial ≡ e.serial
    same = less_keeps (λ z. z.serial ≡ e.serial) n e refl refl

    here : (less n e).users ≡ count_by (λ w. is_stream_of (less n e).serial w.task) (without_seat seat ws)
    here = now ∙ ap (λ m. count_by (λ w. is_stream_of m w.task) (without_seat seat ws)) (sym same)

-- an entry that isn't complete has its fill still
fills_again : (n : ℕ) (seat : ℕ) (ws : List SeatTask) (w : SeatTask) (es : List StoredEntry) → are_distinct (map (λ w. w.seat) ws) ≡ true → find (is_of_seat seat) ws ≡ Some w
    → AllByRecursion (λ e. is_fill_of e.serial w.task ≡ false) es → AllByRecursion (λ e. e.complete ≡ false → count_by (λ w. is_fill_of e.serial w.task) ws ≡ 1) es
    → AllByRecursion (λ e. e.complete ≡ false → count_by (λ w. is_fill_of e.serial w.task) (without_seat seat ws) ≡ 1) (map (less n) es)
fills_again n seat ws w [] d f s h = tt
fills_again n seat ws w (e ∷ es) d f s h = (less_keeps (λ z. z.complete ≡ false → count_by (λ w. is_fill_of z.serial w.task) (without_seat seat ws) ≡ 1) n e now now, fills_again n seat ws w es d f s.1 h.1)
  where
    now : e.complete ≡ false → count_by (λ w. is_fill_of e.serial w.task) (without_seat seat ws) ≡ 1
    now c =
        let sum = count_without (λ w. is_fill_of e.serial w.task) seat ws w d f in
        let none : is_one (is_fill_of e.serial w.task) ≡ 0 = ap is_one s.0 in
        let one = h.0 c in
        omega (arith, sum, none, one)

strike : (moment : Moment) (words : List ℕ) (s : PlainServer) (seat n : ℕ) (tiles : List Tile) (w : SeatTask) → IsSound moment words s → Ends seat n s w → TilesAreSound moment (struck_off seat n tiles s) → IsSound moment words (struck_off seat n tiles s)
strike moment words s seat n tiles w h ends tiled =
    let es = left_by_user n s.entries in
    let ws = without_seat seat s.tasks in
    let q = is_wanted es ws in
    let j = s.journal in
    let m = h.memory in
    let wanted : AllByRecursion (λ x. q x.serial ≡ true) es = entries_wanted es ws in
    record {
      rounded = h.rounded;
      region = h.region;
      journal = record { lawful = h.journal.lawful; small = h.journal.small; needs = h.journal.needs; database = h.journal.database; room = h.journal.room };
      directory = zip_map (IsStoredAs moment.hash) (IsStoredAs moment.hash) (less n) s.entries (cache j)
          (λ x y r. less_keeps (λ z. IsStoredAs moment.hash z y) n x (record { serial = r.serial; hashed = r.hashed; text_bytes = r.text_bytes; tables = r.tables; complete = r.complete }) r) h.directory;
      memory = record {
        tiles = tiled;
        tables = record {
          named = λ t. any_map (names_table t) (names_table t) (less n) s.entries (λ x. less_keeps (λ z. names_table t z ≡ names_table t x) n x refl refl) ∙ m.tables.named t;
          once = m.tables.once;
          words = m.tables.words;
        };
        chains = record {
          apart = distinct_filter (λ c. c.serial) _ s.chains m.chains.apart;
          entered = entered_stay q s.chains es wanted (all_map _ _ (less n) s.entries (λ x k. less_keeps (λ z. has_chain z.serial s.chains ≡ true) n x k k) m.chains.entered);
          wanted = wanted_stay q s.chains;
          fitting = all_filter (ChainFits s.options j) (ChainFits s.options j) _ s.chains (λ c _ k. k) m.chains.fitting;
          uncut = uncut_stay s.options q s.chains es wanted (all_map (IsUncut s.options s.chains) (IsUncut s.options s.chains) (less n) s.entries (λ x k. less_keeps (IsUncut s.options s.chains) n x k k) m.chains.uncut);
        };
        texts = all_map TextFits TextFits (less n) s.entries (λ x k. less_keeps TextFits n x k k) m.texts;
      };
      contents = zip_on _ (IsSpelled words (filter (λ c. q c.serial) s.chains) j) es (cache j) (λ x y p. record {
        key = p.0.key;
        kept_answer = λ c. p.0.kept_answer c ∙ ap (λ l. Some (text_of words l x.bytes)) (sym (at_filter q x.serial s.chains p.1));
      }) (zip_left (IsSpelled words s.chains j) (λ x. q x.serial ≡ true) es (cache j)
          (zip_map (IsSpelled words s.chains j) (IsSpelled words s.chains j) (less n) s.entries (cache j) (λ x y r. less_keeps (λ z. IsSpelled words s.chains j z y) n x (record { key = r.key; kept_answer = r.kept_answer }) r) h.contents) wanted);
      tasks = record {
        connected = h.tasks.connected;
        one_each = distinct_filter (λ w. w.seat) _ s.tasks h.tasks.one_each;
        each = chained_stay q j s.chains ws (tasks_wanted es ws) (all_filter _ _ _ s.tasks (λ w _ k. k) h.tasks.each);
        filled = fills_again n seat s.tasks w s.entries h.tasks.one_each ends.found ends.fills h.tasks.filled;
        users = users_again n seat s.tasks w s.entries h.tasks.one_each ends.found ends.streams h.tasks.users;
      };
    }

pub strike_step : StrikeSteps
strike_step moment words s seat n tiles h may tiled = ⊎_elim
    (λ (e : find (is_of_seat seat) s.tasks ≡ Some (record { seat = seat; task = task.Stream n })). strike moment words s seat n tiles _ h (streams_end seat n s e) tiled)
    (λ (e : (find (is_of_seat seat) s.tasks ≡ Some (record { seat = seat; task = task.Fill n })) × (list_any (is_stored n) s.entries ≡ false)). strike moment words s seat n tiles _ h (fills_end seat n s e.0 e.1) tiled)
    may

-- ---- what is listed

pub others_listed : (cs : List EntryChain) (k seat : ℕ) (ws : List SeatTask) → k ≢ seat → listed_for k (map (listed cs) (without_seat seat ws)) ≡ listed_for k (map (listed cs) ws)
others_listed cs k seat [] ne = refl
others_listed cs k seat (w ∷ ws) ne =
    let more = others_listed cs k seat ws ne in
    elim (eqb w.seat seat) as (λ b. eqb w.seat seat ≡ b → listed_for k (map (listed cs) (cond (not b) (w ∷ without_seat seat ws) (without_seat seat ws))) ≡ listed_for k (map (listed cs) (w ∷ ws))) [
      | true ↦ λ e. more ∙ sym (ap (λ b. cond b (listed cs w ∷ listed_for k (map (listed cs) ws)) (listed_for k (map (listed cs) ws))) (ne_eqb w.seat k (λ z. ne (sym z ∙ eqb-true w.seat seat e))))
      | false ↦ λ e. ap (λ l. cond (eqb w.seat k) (listed cs w ∷ l) l) more
    ] refl

pub none_listed : (cs : List EntryChain) (seat : ℕ) (ws : List SeatTask) → listed_for seat (map (listed cs) (without_seat seat ws)) ≡ []
none_listed cs seat [] = refl
none_listed cs seat (w ∷ ws) =
    let more = none_listed cs seat ws in
    elim (eqb w.seat seat) as (λ b. eqb w.seat seat ≡ b → listed_for seat (map (listed cs) (cond (not b) (w ∷ without_seat seat ws) (without_seat seat ws))) ≡ []) [
      | true ↦ λ e. more
      | false ↦ λ e. ap (λ b. cond b (listed cs w ∷ listed_for seat (map (listed cs) (without_seat seat ws))) (listed_for seat (map (listed cs) (without_seat seat ws)))) e ∙ more
    ] refl

pub strike_lists : StrikeLists
strike_lists s seat n tiles =
    let es = left_by_user n s.entries in
    let ws = without_seat seat s.tasks in
    let stay = tasks_stay (is_wanted es ws) s.chains ws (tasks_wanted es ws) in
    record {
      others = λ k ne. ap (listed_for k) stay ∙ others_listed s.chains k seat s.tasks ne;
      alone = ap (listed_for seat) stay ∙ none_listed s.chains seat s.tasks;
    }

-- ---- seats

pub seat_step : SeatSteps
seat_step moment words s seats h each = record {
  rounded = h.rounded;
  region = h.region;
  journal = record { lawful = h.journal.lawful; small = h.journal.small; needs = h.journal.needs; database = h.journal.database; room = h.journal.room };
  directory = h.directory;
  memory = record {
    tiles = record { tiling = h.memory.tiles.tiling; in_use = h.memory.tiles.in_use; pinned = h.memory.tiles.pinned };
    tables = record { named = h.memory.tables.named; once = h.memory.tables.once; words = h.memory.tables.words };
    chains = record { apart = h.memory.chains.apart; entered = h.memory.chains.entered; wanted = h.memory.chains.wanted; fitting = h.memory.chains.fitting; uncut = h.memory.chains.uncut };
    texts = h.memory.texts;
  };
  contents = h.contents;
  tasks = record { connected = each; one_each = h.tasks.one_each; each = h.tasks.each; filled = h.tasks.filled; users = h.tasks.users };
}
