-- The blocks in use are few against the entries of the journal, and none is large.
use Rattle.std.proofs.Common.{◌≡◌, ℕ, suc, ◌+◌, ◌-◌, ◌*◌, ◌/◌, ◌<◌, ◌≤◌, max, eqb, eq-eqb, eqb-true, Bool, true, false, cond, List, [], ◌∷◌, ◌++◌, map, length, take, refl, sym, ap, subst, ◌∙◌, arith, true≢false, length-append}
use Rattle.std.specs.Prelude.{not, ◌||◌, Option, Some, None, IsSomeAnd, is_some, ◌==◌, unwrap_or, option_map}
use Rattle.std.specs.List.{list_any, filter, find, flat_map, AllByRecursion, AllZip}
use Rattle.std.proofs.lemmas.List.{take_at, length-map}
use Rattle.std.proofs.lemmas.List.Recursion.{is_sum_by}
use Rattle.std.proofs.lemmas.List.Elements.{All-from_recursion, recursion_from_All}
use Rattle.std.proofs.lemmas.List.Sorted.{IsPermutation-sym, length_permutation, All-permutation}
use Rattle.std.proofs.lemmas.List.Folds.{list_any-append}
use Rattle.std.proofs.lemmas.Nat.{le-div}
use Rattle.qc_types.specs.declared.names.TableName.{TableName}
use Rattle.qc_types.specs.declared.options.Options.{Options}
use Rattle.qc_sql.specs.Database.{same_table}
use Rattle.qc_model.specs.declared.events.Event.{Event}
use Rattle.qc_model.specs.declared.events.Event.TheVariants as event
use Rattle.qc_model.specs.declared.events.How.TheVariants as how
use Rattle.qc_model.specs.Journal.{Journal, present, before, last_event}
use Rattle.qc_model.specs.Cache.{Entry, cache, entry_of}
use Rattle.qc_model.specs.Session.{answer}
use Rattle.qc_tiles.specs.declared.blocks.Tile.{Tile}
use Rattle.qc_tiles.specs.Crowded.{IsBelow}
use Rattle.qc_tiles.proofs.Crowds.{bounds_region}
use Rattle.qc_model.specs.Licence.{Started, starts, holders, answer_at_start, most_blocks, block_bound, word_bound, words_of_bytes, unit_words, region_words, named_by, hit_by, last_named, starts_serial, IsLawful}
use Rattle.qc_sql.specs.Words.{greatest, is_among}
use Rattle.qc_laws.specs.history.Runs.{IsStarted, IsKept}
use Rattle.qc_laws.proofs.history.Starts.{starts_once}
use Rattle.qc_laws.proofs.history.Stays.{answers_stay}
use Rattle.qc_laws.proofs.history.Serials.{serials_apart}
use Rattle.qc_tiles.specs.declared.blocks.Block.{Block}
use Rattle.qc_turn.specs.declared.task.Task.{Task}
use Rattle.qc_turn.specs.declared.task.Task.TheVariants as task
use Rattle.qc_sound.specs.PlainServer.{PlainServer, StoredEntry, EntryChain, SeatTask, session_of, is_task_on, serial_of, is_wanted}
use Rattle.qc_sound.specs.Moment.{Moment}
use Rattle.qc_sound.specs.parts.Directory.{IsStoredAs}
use Rattle.qc_sound.specs.parts.Memory.{TextFits, ChainFits, blocks_in_use, names_table, is_on_table}
use Rattle.qc_sound.specs.parts.Tasks.{TaskIsSound, SeatTaskIsSound}
use Rattle.qc_sound.specs.Sound.{IsSound}
use Rattle.qc_chain.specs.Words.{words_of}
use Rattle.qc_chain.specs.Chains.{but_last}
use Rattle.qc_tiles.specs.Tiles.{block_of, handed_out}
use Rattle.qc_sound.specs.Room.{Crowds}
use Rattle.qc_sound.proofs.Matched.{total, matched, same_self, fewer_tables, with_serial, starts_find, starts_has, find_filter, named_last}

-- ---- the partner of a started entry

-- whether a start counts
abbrev counts : Journal → ℕ → Bool
counts j n = is_some (entry_of n (cache j)) || is_among (last_named named_by j) n

-- what is found for a serial that counts, with its start
pub record Partnered (o : Options) (j : Journal) (n : ℕ) : Type 0 where
  pub at : Started
  pub found : find (with_serial n) (holders j) ≡ Some at
  pub start : IsStarted j n
  pub answer : answer_at_start j at ≡ unwrap_or (answer start.key (present start.earlier)) []
  pub key : at.1.key ≡ start.key
  pub tables : at.1.tables ≡ start.tables

partnered : (o : Options) (j : Journal) (n : ℕ) → IsStarted j n → counts j n ≡ true → Partnered o j n
partnered o j n s c = by (find (with_serial n) (starts j)) refl
  where
    some : is_some (find (with_serial n) (starts j)) ≡ true
    some = subst (λ z. is_some (find (with_serial n) (starts z)) ≡ true) (sym s.split) (starts_has 1 n s.who s.key s.tables s.earlier s.later)

    front : (t : IsStarted j n) (number : ℕ) → number ≡ 1 + length t.earlier → before number j ≡ t.earlier
    front t number e = ap (λ z. take (number - 1) z) t.split ∙ take_at t.earlier _ (number - 1) (omega (arith, e))

    by : (f : Option Started) → find (with_serial n) (starts j) ≡ f → Partnered o j n
    by None e = absurd (true≢false (sym some ∙ ap is_some e))
    by (Some h) e =
        let f = starts_find 1 n j h e in
        record {
          at = h;
          found = find_filter (counts j) n (starts j) c ∙ e;
          start = f.start;
          answer = λ i. unwrap_or (answer (f.key i) (present (front f.start h.0 f.number i))) [];
          key = f.key;
          tables = f.tables;
        }

-- ---- chains

count_words : (u : ℕ) (bs : List Block) → AllByRecursion (λ b. u ≤ b.words) bs → length bs * u ≤ words_of bs
count_words u [] h = omega arith
count_words u (b ∷ bs) h = let more = count_words u bs h.1 in let e : suc (length bs) * u ≡ length bs * u + u = omega arith in omega (arith, more, e, h.0)

length_but : (bs : List Block) → length bs ≤ 1 + length (but_last bs)
length_but [] = omega arith
length_but (b ∷ []) = omega arith
length_but (b ∷ c ∷ bs) = omega (arith, length_but (c ∷ bs))

divided : (u l w a : ℕ) → l * u ≤ w → 8 * w < a → l * (8 * u) ≤ a
divided u l w a h k = let e : l * (8 * u) ≡ 8 * (l * u) = grind arith in omega (arith, e, h, k)

chain_short : (o : Options) (j : Journal) (c : EntryChain) → o.unit ≡ 8 * unit_words o → 64 ≤ unit_words o → (f : ChainFits o j c) → length c.blocks ≤ 1 + length (unwrap_or (answer f.start.key (present f.start.earlier)) []) / o.unit
chain_short o j c e l f =
    let a = length (unwrap_or (answer f.start.key (present f.start.earlier)) []) in
    let n = length (but_last c.blocks) in
    let below : n * (8 * unit_words o) ≤ a = divided (unit_words o) n (words_of (but_last c.blocks)) a (count_words (unit_words o) (but_last c.blocks) f.full) f.needed in
    let parts : n ≤ a / o.unit = le-div n a o.unit (omega (arith, e, l)) (subst (λ u. n * u ≤ a) (sym e) below) in
    omega (arith, parts, length_but c.blocks)

abbrev quotient : Options → Journal → Started → ℕ
quotient o j h = 1 + length (answer_at_start j h) / o.unit

abbrev names : Started → ℕ
names h = 1 + length h.1.tables

-- ---- what counts

entered_counts : (moment : Moment) (n : ℕ) (es : List StoredEntry) (ys : List Entry) → AllZip (IsStoredAs moment.hash) es ys → list_any (λ e. e.serial == n) es ≡ true → is_some (entry_of n ys) ≡ true
entered_counts moment n [] ys h k = absurd (true≢false (sym k))
entered_counts moment n (e ∷ es) [] h k = absurd h
entered_counts moment n (e ∷ es) (y ∷ ys) h k =
    subst (λ m. is_some (cond (eqb m n) (Some y) (entry_of n ys)) ≡ true) h.0.serial
    (elim (eqb e.serial n) as (λ b. (b || list_any (λ e. e.serial == n) es) ≡ true → is_some (cond b (Some y) (entry_of n ys)) ≡ true) [
      | true ↦ λ f. refl
      | false ↦ λ f. entered_counts moment n es ys h.1 f
    ] k)

task_counts : (j : Journal) (seat n : ℕ) (t : Task) (e : Option Event) → last_event j (session_of seat) ≡ e → TaskIsSound j seat t → serial_of t ≡ Some n → is_among (last_named named_by j) n ≡ true
task_counts j seat n task.Rest e is sound serial = absurd sound
task_counts j seat n (task.Stream m) None is sound serial = absurd (subst (λ z. IsSomeAnd z (λ x. hit_by x ≡ Some m)) is sound)
task_counts j seat n (task.Stream m) (Some (event.Run who (how.Hit i))) is sound serial =
    let named : Some i ≡ Some m = subst (λ z. IsSomeAnd z (λ x. hit_by x ≡ Some m)) is sound in
    named_last named_by (session_of seat) n j (event.Run who (how.Hit i)) (named ∙ serial) is
task_counts j seat n (task.Stream m) (Some e) is sound serial = let bad : None ≡ Some m = subst (λ z. IsSomeAnd z (λ x. hit_by x ≡ Some m)) is sound in absurd cc
task_counts j seat n (task.Fill m) None is sound serial = absurd (true≢false (sym (subst (λ z. starts_serial m z ≡ true) is sound.0)))
task_counts j seat n (task.Fill m) (Some (event.Run who (how.Start i key tables))) is sound serial =
    let same : i ≡ m = eqb-true i m (subst (λ z. starts_serial m z ≡ true) is sound.0) in
    named_last named_by (session_of seat) n j (event.Run who (how.Start i key tables)) (ap Some same ∙ serial) is
task_counts j seat n (task.Fill m) (Some e) is sound serial = absurd (true≢false (sym (subst (λ z. starts_serial m z ≡ true) is sound.0)))

task_serial : (n : ℕ) (w : SeatTask) (o : Option ℕ) → serial_of w.task ≡ o → is_task_on n w ≡ true → serial_of w.task ≡ Some n
task_serial n w None is h = absurd (true≢false (sym (subst (λ z. unwrap_or (option_map (λ m. m == n) z) false ≡ true) is h)))
task_serial n w (Some m) is h = is ∙ ap Some (eqb-true m n (subst (λ z. unwrap_or (option_map (λ m. m == n) z) false ≡ true) is h))

tasks_count : (j : Journal) (cs : List EntryChain) (n : ℕ) (ws : List SeatTask) → AllByRecursion (SeatTaskIsSound j cs) ws → list_any (is_task_on n) ws ≡ true → is_among (last_named named_by j) n ≡ true
tasks_count j cs n [] all h = absurd (true≢false (sym h))
tasks_count j cs n (w ∷ ws) all h = elim (is_task_on n w) as (λ b. is_task_on n w ≡ b → (b || list_any (is_task_on n) ws) ≡ true → is_among (last_named named_by j) n ≡ true) [
  | true ↦ λ e k. task_counts j w.seat n w.task _ refl all.0.task (task_serial n w (serial_of w.task) refl e)
  | false ↦ λ e k. tasks_count j cs n ws all.1 k
] refl h

either_way : (a b x y : Bool) → (a ≡ true → x ≡ true) → (b ≡ true → y ≡ true) → (a || b) ≡ true → (x || y) ≡ true
either_way true b x y f g h = ap (λ z. z || y) (f refl)
either_way false b true y f g h = refl
either_way false b false y f g h = g h

wanted_counts : (moment : Moment) (words : List ℕ) (s : PlainServer) (n : ℕ) → IsSound moment words s → is_wanted s.entries s.tasks n ≡ true → counts s.journal n ≡ true
wanted_counts moment words s n h = either_way (list_any (λ e. e.serial == n) s.entries) (list_any (is_task_on n) s.tasks) _ _ (entered_counts moment n s.entries (cache s.journal) h.directory) (tasks_count s.journal s.chains n s.tasks h.tasks.each)

-- ---- the sums

chain_partner : (moment : Moment) (words : List ℕ) (s : PlainServer) (c : EntryChain) → IsSound moment words s → ChainFits s.options s.journal c → is_wanted s.entries s.tasks c.serial ≡ true
    → IsSomeAnd (find (λ x. x.1.serial == c.serial) (holders s.journal)) (λ h. length c.blocks ≤ quotient s.options s.journal h)
chain_partner moment words s c h f w =
    let p = partnered s.options s.journal c.serial f.start (wanted_counts moment words s c.serial h w) in
    let r = starts_once s.options s.journal c.serial p.start f.start h.journal.lawful in
    let same : answer_at_start s.journal p.at ≡ unwrap_or (answer f.start.key (present f.start.earlier)) [] = p.answer ∙ (λ i. unwrap_or (answer (r.2 i) (present (r.0 i))) []) in
    subst (λ z. IsSomeAnd z (λ h. length c.blocks ≤ quotient s.options s.journal h)) (sym p.found)
    (subst (λ z. length c.blocks ≤ 1 + length z / s.options.unit) (sym same) (chain_short s.options s.journal c h.rounded.unit h.rounded.least f))

chain_partners : (moment : Moment) (words : List ℕ) (s : PlainServer) (cs : List EntryChain) → IsSound moment words s → AllByRecursion (ChainFits s.options s.journal) cs → AllByRecursion (λ c. is_wanted s.entries s.tasks c.serial ≡ true) cs
    → AllByRecursion (λ c. IsSomeAnd (find (λ x. x.1.serial == c.serial) (holders s.journal)) (λ h. length c.blocks ≤ quotient s.options s.journal h)) cs
chain_partners moment words s [] h f w = tt
chain_partners moment words s (c ∷ cs) h f w = (chain_partner moment words s c h f.0 w.0, chain_partners moment words s cs h f.1 w.1)

entry_partner : (o : Options) (j : Journal) (y : Entry) → IsLawful o j → IsKept j y → is_some (entry_of y.serial (cache j)) ≡ true
    → IsSomeAnd (find (λ x. x.1.serial == y.serial) (holders j)) (λ h. (1 + length y.tables ≤ names h) × (h.1.key ≡ y.key))
entry_partner o j y lawful k there =
    let p = partnered o j y.serial k.start (ap (λ b. b || is_among (last_named named_by j) y.serial) there) in
    let r = starts_once o j y.serial p.start k.start lawful in
    let tables : p.at.1.tables ≡ y.tables = p.tables ∙ (r.3 ∙ k.named) in
    let long : length p.at.1.tables ≡ length y.tables = ap (λ l. length l) tables in
    subst (λ z. IsSomeAnd z (λ h. (1 + length y.tables ≤ names h) × (h.1.key ≡ y.key))) (sym p.found) (omega (arith, long), p.key ∙ (r.2 ∙ k.key))

-- each entry is in the cache itself
self_found : (ys : List Entry) → AllByRecursion (λ y. is_some (entry_of y.serial ys) ≡ true) ys
self_found [] = tt
self_found (y ∷ ys) = (ap (λ b. is_some (cond b (Some y) (entry_of y.serial ys))) (eq-eqb y.serial y.serial refl), more ys (self_found ys))
  where
    more : (zs : List Entry) → AllByRecursion (λ z. is_some (entry_of z.serial ys) ≡ true) zs → AllByRecursion (λ z. is_some (entry_of z.serial (y ∷ ys)) ≡ true) zs
    more [] h = tt
    more (z ∷ zs) h = (by (eqb y.serial z.serial) (entry_of z.serial ys) h.0, more zs h.1)
      where
        by : (b : Bool) (o : Option Entry) → is_some o ≡ true → is_some (cond b (Some y) o) ≡ true
        by true o k = refl
        by false o k = k

entry_partners : (o : Options) (j : Journal) (ys : List Entry) → IsLawful o j → AllByRecursion (IsKept j) ys → AllByRecursion (λ y. is_some (entry_of y.serial (cache j)) ≡ true) ys
    → AllByRecursion (λ y. IsSomeAnd (find (λ x. x.1.serial == y.serial) (holders j)) (λ h. (1 + length y.tables ≤ names h) × (h.1.key ≡ y.key))) ys
entry_partners o j [] lawful k t = tt
entry_partners o j (y ∷ ys) lawful k t = (entry_partner o j y lawful k.0 t.0, entry_partners o j ys lawful k.1 t.1)

some_first : (P Q : Started → Type 0) (f : Option Started) → IsSomeAnd f (λ h. P h × Q h) → IsSomeAnd f P
some_first P Q None h = h
some_first P Q (Some x) h = h.0

first_of : (j : Journal) (ys : List Entry) → AllByRecursion (λ y. IsSomeAnd (find (λ x. x.1.serial == y.serial) (holders j)) (λ h. (1 + length y.tables ≤ names h) × (h.1.key ≡ y.key))) ys
    → AllByRecursion (λ y. IsSomeAnd (find (λ x. x.1.serial == y.serial) (holders j)) (λ h. 1 + length y.tables ≤ names h)) ys
first_of j [] h = tt
first_of j (y ∷ ys) h = (some_first (λ h. 1 + length y.tables ≤ names h) (λ h. h.1.key ≡ y.key) (find (λ x. x.1.serial == y.serial) (holders j)) h.0, first_of j ys h.1)

total_apart : (o : Options) (j : Journal) (hs : List Started) → total (most_blocks o j) hs ≡ total names hs + total (quotient o j) hs
total_apart o j [] = refl
total_apart o j (h ∷ hs) = omega (arith, total_apart o j hs)

bound_is : (o : Options) (j : Journal) → block_bound o j ≡ total names (holders j) + total (quotient o j) (holders j) + 9
bound_is o j = ap (λ n. n + 9) (sym (is_sum_by (total (most_blocks o j)) (most_blocks o j) refl (λ x xs. refl) (holders j)) ∙ total_apart o j (holders j))

pub length_chains : (cs : List EntryChain) → length (flat_map (λ c. c.blocks) cs) ≡ total (λ c. length c.blocks) cs
length_chains [] = refl
length_chains (c ∷ cs) = length-append c.blocks (flat_map (λ c. c.blocks) cs) ∙ ap (λ n. length c.blocks + n) (length_chains cs)

-- ---- tables of entries

total_tables : (moment : Moment) (es : List StoredEntry) (ys : List Entry) → AllZip (IsStoredAs moment.hash) es ys → length es + length (flat_map (λ e. e.tables) es) ≡ total (λ y. 1 + length y.tables) ys
total_tables moment [] [] h = refl
total_tables moment [] (y ∷ ys) h = absurd h
total_tables moment (e ∷ es) [] h = absurd h
total_tables moment (e ∷ es) (y ∷ ys) h =
    let same : length e.tables ≡ length y.tables = ap (λ l. length l) h.0.tables in
    omega (arith, total_tables moment es ys h.1, length-append e.tables (flat_map (λ e. e.tables) es), same)

any_flat : (t : TableName) (es : List StoredEntry) → list_any (names_table t) es ≡ true → list_any (same_table t) (flat_map (λ e. e.tables) es) ≡ true
any_flat t [] h = h
any_flat t (e ∷ es) h = joined (same_table t) e.tables (flat_map (λ e. e.tables) es) (either_way (names_table t e) (list_any (names_table t) es) (list_any (same_table t) e.tables) (list_any (same_table t) (flat_map (λ e. e.tables) es)) (λ k. k) (any_flat t es) h)
  where
    joined : (p : TableName → Bool) (xs ys : List TableName) → (list_any p xs || list_any p ys) ≡ true → list_any p (xs ++ ys) ≡ true
    joined p xs ys h = list_any-append p xs ys ∙ h

tables_named : (all : List (TableName × Block)) (us : List TableName) → ((t : TableName) → list_any (is_on_table t) all ≡ true → list_any (same_table t) us ≡ true) → (bs : List (TableName × Block))
    → ((t : TableName) → list_any (is_on_table t) bs ≡ true → list_any (is_on_table t) all ≡ true) → AllByRecursion (λ t. list_any (same_table t) us ≡ true) (map (λ b. b.0) bs)
tables_named all us f [] within = tt
tables_named all us f (b ∷ bs) within = (
  f b.0 (within b.0 (ap (λ x. x || list_any (is_on_table b.0) bs) (same_self b.0))),
  tables_named all us f bs (λ t h. within t (or_right (is_on_table t b) (list_any (is_on_table t) bs) h)),
)
  where
    or_right : (x y : Bool) → y ≡ true → (x || y) ≡ true
    or_right true y h = refl
    or_right false y h = h

-- ---- the count

pub few_blocks : (moment : Moment) (words : List ℕ) (s : PlainServer) → IsSound moment words s → length (blocks_in_use s) + 9 ≤ block_bound s.options s.journal
few_blocks moment words s h =
    let j = s.journal in
    let lawful = h.journal.lawful in
    let chained : total (λ c. length c.blocks) s.chains ≤ total (quotient s.options j) (holders j) =
    matched (λ c. c.serial) (λ x. x.1.serial) (λ c. length c.blocks) (quotient s.options j) s.chains (holders j) h.memory.chains.apart (chain_partners moment words s s.chains h h.memory.chains.fitting h.memory.chains.wanted) in
    let entered : total (λ y. 1 + length y.tables) (cache j) ≤ total names (holders j) =
    matched (λ y. y.serial) (λ x. x.1.serial) (λ y. 1 + length y.tables) names (cache j) (holders j) (serials_apart s.options j lawful)
    (first_of j (cache j) (entry_partners s.options j (cache j) lawful (answers_stay s.options j lawful) (self_found (cache j)))) in
    let tables : length (map (λ b. b.0) s.table_blocks) ≤ length (flat_map (λ e. e.tables) s.entries) =
    fewer_tables (map (λ b. b.0) s.table_blocks) (flat_map (λ e. e.tables) s.entries) h.memory.tables.once
    (tables_named s.table_blocks (flat_map (λ e. e.tables) s.entries) (λ t k. any_flat t s.entries (h.memory.tables.named t ∙ k)) s.table_blocks (λ t k. k)) in
    let sum = total_tables moment s.entries (cache j) h.directory in
    let all : length (blocks_in_use s) ≡ length (map (λ e. e.text) s.entries) + length (map (λ b. b.1) s.table_blocks ++ flat_map (λ c. c.blocks) s.chains) = length-append (map (λ e. e.text) s.entries) _ in
    let rest : length (map (λ b. b.1) s.table_blocks ++ flat_map (λ c. c.blocks) s.chains) ≡ length (map (λ b. b.1) s.table_blocks) + length (flat_map (λ c. c.blocks) s.chains) = length-append (map (λ b. b.1) s.table_blocks) _ in
    let texts : length (map (λ e. e.text) s.entries) ≡ length s.entries = length-map s.entries (λ e. e.text) in
    let first : length (map (λ b. b.0) s.table_blocks) ≡ length s.table_blocks = length-map s.table_blocks (λ b. b.0) in
    let second : length (map (λ b. b.1) s.table_blocks) ≡ length s.table_blocks = length-map s.table_blocks (λ b. b.1) in
    omega (arith, chained, entered, tables, sum, all, rest, texts, first, second, length_chains s.chains, bound_is s.options j)

-- ---- the words of a block

key_below : (n : ℕ) (key : List ℕ) (hs : List Started) → IsSomeAnd (find (λ x. x.1.serial == n) hs) (λ h. h.1.key ≡ key) → words_of_bytes (length key) ≤ greatest (map (λ h. words_of_bytes (length h.1.key)) hs)
key_below n key [] h = absurd h
key_below n key (x ∷ hs) h = elim (eqb x.1.serial n) as (λ b. IsSomeAnd (cond b (Some x) (find (λ x. x.1.serial == n) hs)) (λ h. h.1.key ≡ key) → words_of_bytes (length key) ≤ greatest (map (λ h. words_of_bytes (length h.1.key)) (x ∷ hs))) [
  | true ↦ λ k. let same : words_of_bytes (length x.1.key) ≡ words_of_bytes (length key) = ap (λ l. words_of_bytes (length l)) k in omega (arith, same)
  | false ↦ λ k. let more = key_below n key hs k in omega (arith, more)
] h

some_second : (P Q : Started → Type 0) (f : Option Started) → IsSomeAnd f (λ h. P h × Q h) → IsSomeAnd f Q
some_second P Q None h = h
some_second P Q (Some x) h = h.1

-- the parts of the bound
bound_parts : (o : Options) (j : Journal) (need : ℕ) → (127 ≤ word_bound o j need) × (unit_words o + 63 ≤ word_bound o j need) × (need + 63 ≤ word_bound o j need) × (greatest (map (λ h. words_of_bytes (length h.1.key)) (holders j)) + 63 ≤ word_bound o j need)
bound_parts o j need = (omega arith, omega arith, omega arith, omega arith)

texts_below : (moment : Moment) (o : Options) (j : Journal) (need : ℕ) (es : List StoredEntry) (ys : List Entry) → AllZip (IsStoredAs moment.hash) es ys
    → AllByRecursion (λ y. IsSomeAnd (find (λ x. x.1.serial == y.serial) (holders j)) (λ h. (1 + length y.tables ≤ names h) × (h.1.key ≡ y.key))) ys
    → AllByRecursion TextFits es → AllByRecursion (λ b. b.words ≤ word_bound o j need) (map (λ e. e.text) es)
texts_below moment o j need [] [] h p w = tt
texts_below moment o j need [] (y ∷ ys) h p w = absurd h
texts_below moment o j need (e ∷ es) [] h p w = absurd h
texts_below moment o j need (e ∷ es) (y ∷ ys) h p w =
    let long : words_of_bytes e.text_bytes ≡ words_of_bytes (length y.key) = ap words_of_bytes h.0.text_bytes in
    let key = key_below y.serial y.key (holders j) (some_second (λ h. 1 + length y.tables ≤ names h) (λ h. h.1.key ≡ y.key) (find (λ x. x.1.serial == y.serial) (holders j)) p.0) in
    let parts = bound_parts o j need in
    let here : e.text.words ≤ word_bound o j need = below e.text.words (words_of_bytes e.text_bytes) (words_of_bytes (length y.key)) (greatest (map (λ h. words_of_bytes (length h.1.key)) (holders j))) (word_bound o j need) w.0 long key parts.0 parts.3 in
    (here, texts_below moment o j need es ys h.1 p.1 w.1)
  where
    below : (t a b g m : ℕ) → t ≤ max a 64 + 63 → a ≡ b → b ≤ g → 127 ≤ m → g + 63 ≤ m → t ≤ m
    below t a b g m h e k u v = omega arith

table_blocks_below : (m : ℕ) (bs : List (TableName × Block)) → 127 ≤ m → AllByRecursion (λ b. b.1.words ≤ 127) bs → AllByRecursion (λ b. b.words ≤ m) (map (λ b. b.1) bs)
table_blocks_below m [] l h = tt
table_blocks_below m (b ∷ bs) l h = (omega (arith, l, h.0), table_blocks_below m bs l h.1)

all_join : (P : Block → Type 0) (xs ys : List Block) → AllByRecursion P xs → AllByRecursion P ys → AllByRecursion P (xs ++ ys)
all_join P [] ys h k = k
all_join P (x ∷ xs) ys h k = (h.0, all_join P xs ys h.1 k)

chain_below : (u m : ℕ) (bs : List Block) → u + 63 ≤ m → AllByRecursion (λ b. b.words ≤ u + 63) bs → AllByRecursion (λ b. b.words ≤ m) bs
chain_below u m [] l h = tt
chain_below u m (b ∷ bs) l h = (omega (arith, l, h.0), chain_below u m bs l h.1)

chains_below : (o : Options) (j : Journal) (m : ℕ) (cs : List EntryChain) → unit_words o + 63 ≤ m → AllByRecursion (ChainFits o j) cs → AllByRecursion (λ b. b.words ≤ m) (flat_map (λ c. c.blocks) cs)
chains_below o j m [] l h = tt
chains_below o j m (c ∷ cs) l h = all_join (λ b. b.words ≤ m) c.blocks _ (chain_below (unit_words o) m c.blocks l h.0.small) (chains_below o j m cs l h.1)

pub small_blocks : (moment : Moment) (words : List ℕ) (s : PlainServer) (need : ℕ) → IsSound moment words s → AllByRecursion (λ b. b.words ≤ word_bound s.options s.journal need) (blocks_in_use s)
small_blocks moment words s need h =
    let j = s.journal in
    let m = word_bound s.options j need in
    let parts = bound_parts s.options j need in
    let partners = entry_partners s.options j (cache j) h.journal.lawful (answers_stay s.options j h.journal.lawful) (self_found (cache j)) in
    all_join (λ b. b.words ≤ m) (map (λ e. e.text) s.entries) _ (texts_below moment s.options j need s.entries (cache j) h.directory partners h.memory.texts)
    (all_join (λ b. b.words ≤ m) (map (λ b. b.1) s.table_blocks) _ (table_blocks_below m s.table_blocks parts.0 h.memory.tables.words) (chains_below s.options j m s.chains parts.1 h.memory.chains.fitting))

-- ---- the law

tiles_below : (m need : ℕ) (ts : List Tile) → need + 63 ≤ m → AllByRecursion (λ b. b.words ≤ m) (map block_of (filter (λ t. not t.free) ts)) → AllByRecursion (λ t. t.free ≡ true → t.words < need) ts → AllByRecursion (IsBelow m) ts
tiles_below m need [] l h k = tt
tiles_below m need (t ∷ ts) l h k = elim t.free as (λ b. t.free ≡ b → AllByRecursion (λ b. b.words ≤ m) (map block_of (cond (not b) (t ∷ filter (λ t. not t.free) ts) (filter (λ t. not t.free) ts))) → IsBelow m t × AllByRecursion (IsBelow m) ts) [
  | true ↦ λ e f. (record { used = λ (n : t.free ≡ false). absurd (true≢false (sym e ∙ n)); free = λ (y : t.free ≡ true). let small : t.words < need = k.0 y in omega (arith, small, l) }, tiles_below m need ts l f k.1)
  | false ↦ λ e f. (record { used = λ (n : t.free ≡ false). f.0; free = λ (y : t.free ≡ true). absurd (true≢false (sym y ∙ e)) }, tiles_below m need ts l f.1 k.1)
] refl h

pub crowds : Crowds
crowds moment words s tiles held need h tiling perm few small free =
    let m = word_bound s.options s.journal need in
    let parts = bound_parts s.options s.journal need in
    let all : AllByRecursion (λ b. b.words ≤ m) (held ++ blocks_in_use s) = all_join (λ b. b.words ≤ m) held (blocks_in_use s) small (small_blocks moment words s need h) in
    let out : AllByRecursion (λ b. b.words ≤ m) (handed_out tiles) =
    recursion_from_All (λ b. b.words ≤ m) (handed_out tiles) (All-permutation (λ b. b.words ≤ m) (held ++ blocks_in_use s) (handed_out tiles) (IsPermutation-sym (handed_out tiles) (held ++ blocks_in_use s) perm) (All-from_recursion (λ b. b.words ≤ m) (held ++ blocks_in_use s) all)) in
    let same : length (held ++ blocks_in_use s) ≡ length (handed_out tiles) = length_permutation (handed_out tiles) (held ++ blocks_in_use s) perm in
    let mapped : length (handed_out tiles) ≡ length (filter (λ t. not t.free) tiles) = length-map (filter (λ t. not t.free) tiles) block_of in
    let joined : length (held ++ blocks_in_use s) ≡ length held + length (blocks_in_use s) = length-append held (blocks_in_use s) in
    bounds_region tiles (region_words s.options) (block_bound s.options s.journal) m tiling (omega (arith, same, joined, few, few_blocks moment words s h)) (omega (arith, parts.0)) (tiles_below m need tiles parts.2 out free)
