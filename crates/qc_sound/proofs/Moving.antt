-- A block that nobody pins moves down, and its words with it.
use Rattle.std.proofs.Common.{◌≡◌, ◌≢◌, ℕ, ◌+◌, ◌*◌, ◌<◌, ◌≤◌, eqb, eqb-true, ne_eqb, Bool, true, false, cond, List, [], ◌∷◌, ◌++◌, map, length, take, refl, sym, ap, subst, ◌∙◌, arith, true≢false}
use Rattle.std.specs.Prelude.{slice_index, ◌||◌, Option, Some, IfSome, Contains, ◌==◌, unwrap_or}
use Rattle.std.specs.List.{list_any, flat_map, AllByRecursion, AllZip}
use Rattle.std.proofs.lemmas.List.{map-append, length-map}
use Rattle.std.proofs.lemmas.List.Elements.{Contains-append_left, Contains-append_right}
use Rattle.qc_types.specs.declared.names.TableName.{TableName}
use Rattle.qc_types.specs.declared.options.Options.{Options}
use Rattle.qc_model.specs.Journal.{Journal, present}
use Rattle.qc_model.specs.Cache.{Entry, cache}
use Rattle.qc_model.specs.Session.{answer}
use Rattle.qc_model.specs.Licence.{unit_words, words_of_bytes}
use Rattle.qc_types.specs.Blocks.{raised}
use Rattle.qc_laws.specs.history.Runs.{are_distinct}
use Rattle.qc_tiles.specs.declared.blocks.Block.{Block}
use Rattle.qc_tiles.specs.declared.blocks.Move.{Move}
use Rattle.qc_tiles.specs.Tiles.{moved}
use Rattle.qc_chain.specs.Words.{words_of}
use Rattle.qc_chain.specs.Chains.{but_last}
use Rattle.qc_chain.proofs.Releases.{behind, in_first}
use Rattle.qc_turn.specs.Blocks.{places, spelled}
use Rattle.qc_turn.specs.Bytes.{bytes_of}
use Rattle.qc_turn.specs.declared.task.Task.{Task}
use Rattle.qc_turn.specs.declared.task.Task.TheVariants as task
use Rattle.qc_sound.specs.PlainServer.{PlainServer, StoredEntry, EntryChain, SeatTask, blocks_at, blocks_of, has_serial, has_chain, is_stored, is_wanted, is_task_on, listed, serial_of}
use Rattle.qc_sound.specs.Moment.{Moment}
use Rattle.qc_sound.specs.parts.Directory.{IsStoredAs}
use Rattle.qc_sound.specs.parts.Memory.{ChainFits, IsUncut, TextFits, names_table, is_on_table, are_once, blocks_in_use, blocks_of_tasks}
use Rattle.qc_sound.specs.parts.Contents.{IsSpelled, text_of}
use Rattle.qc_sound.specs.parts.Tasks.{SeatTaskIsSound}
use Rattle.qc_sound.specs.Sound.{IsSound}
use Rattle.qc_sound.specs.steps.Moving.{moved_entry, moved_chain, shifted, SpellsAgain, MoveSteps, MoveLists}
use Rattle.qc_sound.proofs.Counts.{places_append}
use Rattle.qc_sound.proofs.Growing.{filled_in, used_in}
use Rattle.qc_sound.proofs.Lists.{all_chains, zip_map, zip_left, all_map, any_map, cond_keeps}

-- ---- blocks that move

module _ (change : Move) where
  same_words : (b : Block) → (moved change b).words ≡ b.words
  same_words b = cond_keeps (λ (z : Block). z.words ≡ b.words) (eqb b.first change.from) (record { first = change.to; words = b.words }) b refl refl

  words_moved : (bs : List Block) → words_of (map (moved change) bs) ≡ words_of bs
  words_moved [] = refl
  words_moved (b ∷ bs) = λ i. same_words b i + words_moved bs i

  but_last-moved : (bs : List Block) → but_last (map (moved change) bs) ≡ map (moved change) (but_last bs)
  but_last-moved [] = refl
  but_last-moved (b ∷ []) = refl
  but_last-moved (b ∷ c ∷ bs) = ap (λ l. moved change b ∷ l) (but_last-moved (c ∷ bs))

  moved_small : (m : ℕ) (bs : List Block) → AllByRecursion (λ b. b.words ≤ m) bs → AllByRecursion (λ b. b.words ≤ m) (map (moved change) bs)
  moved_small m bs h = all_map (λ (b : Block). b.words ≤ m) (λ (b : Block). b.words ≤ m) (moved change) bs (λ b k. subst (λ n. n ≤ m) (sym (same_words b)) k) h

  moved_large : (m : ℕ) (bs : List Block) → AllByRecursion (λ b. m ≤ b.words) bs → AllByRecursion (λ b. m ≤ b.words) (map (moved change) bs)
  moved_large m bs h = all_map (λ (b : Block). m ≤ b.words) (λ (b : Block). m ≤ b.words) (moved change) bs (λ b k. subst (λ n. m ≤ n) (sym (same_words b)) k) h

  fits_moved : (o : Options) (j : Journal) (c : EntryChain) → ChainFits o j c → ChainFits o j (moved_chain change c)
  fits_moved o j c h = record {
    first = subst (λ n. 0 < n) (sym (length-map c.blocks (moved change))) h.first;
    small = moved_small (unit_words o + 63) c.blocks h.small;
    full = subst (AllByRecursion (λ b. unit_words o ≤ b.words)) (sym (but_last-moved c.blocks)) (moved_large (unit_words o) (but_last c.blocks) h.full);
    start = h.start;
    needed = subst (λ n. 8 * n < length (unwrap_or (answer h.start.key (present h.start.earlier)) [])) (sym (ap words_of (but_last-moved c.blocks) ∙ words_moved (but_last c.blocks))) h.needed;
  }

  at_moved : (n : ℕ) (cs : List EntryChain) → blocks_at n (map (moved_chain change) cs) ≡ map (moved change) (blocks_at n cs)
  at_moved n [] = refl
  at_moved n (c ∷ cs) = elim (eqb c.serial n) as (λ b. cond b (map (moved change) c.blocks) (blocks_at n (map (moved_chain change) cs)) ≡ map (moved change) (cond b c.blocks (blocks_at n cs))) [
    | true ↦ refl
    | false ↦ at_moved n cs
  ]

  serials_moved : (cs : List EntryChain) → map (λ c. c.serial) (map (moved_chain change) cs) ≡ map (λ c. c.serial) cs
  serials_moved [] = refl
  serials_moved (c ∷ cs) = ap (λ l. c.serial ∷ l) (serials_moved cs)

  has_moved : (n : ℕ) (cs : List EntryChain) → has_chain n (map (moved_chain change) cs) ≡ has_chain n cs
  has_moved n cs = any_map (has_serial n) (has_serial n) (moved_chain change) cs (λ c. refl)

  tables_moved : (bs : List (TableName × Block)) → map (λ (b : TableName × Block). b.0) (map (λ (b : TableName × Block). (b.0, moved change b.1)) bs) ≡ map (λ (b : TableName × Block). b.0) bs
  tables_moved [] = refl
  tables_moved (b ∷ bs) = ap (λ l. b.0 ∷ l) (tables_moved bs)

  tasks_moved : (j : Journal) (cs : List EntryChain) (ws : List SeatTask) → AllByRecursion (SeatTaskIsSound j cs) ws → AllByRecursion (SeatTaskIsSound j (map (moved_chain change) cs)) ws
  tasks_moved j cs [] h = tt
  tasks_moved j cs (w ∷ ws) h = (record { seat = h.0.seat; task = h.0.task; chained = by w.task h.0.chained }, tasks_moved j cs ws h.1)
    where
      by : (t : Task) → IfSome (serial_of t) (λ m. has_chain m cs ≡ true) → IfSome (serial_of t) (λ m. has_chain m (map (moved_chain change) cs) ≡ true)
      by task.Rest k = tt
      by (task.Stream m) k = has_moved m cs ∙ k
      by (task.Fill m) k = has_moved m cs ∙ k

  -- ---- what they spell

  spelled_cons : (ws : List ℕ) (b : Block) (bs : List Block) → spelled ws (b ∷ bs) ≡ spelled ws (b ∷ []) ++ spelled ws bs
  spelled_cons ws b bs = ap (map (λ i. slice_index ws i)) (places_append (b ∷ []) bs) ∙ map-append (λ i. slice_index ws i) (places (b ∷ [])) (places bs)

  spelled_all : (words over : List ℕ) (bs : List Block) → AllByRecursion (λ b. spelled over (moved change b ∷ []) ≡ spelled words (b ∷ [])) bs → spelled over (map (moved change) bs) ≡ spelled words bs
  spelled_all words over [] h = refl
  spelled_all words over (b ∷ bs) h =
      spelled_cons over (moved change b) (map (moved change) bs) ∙ ((λ i. h.0 i ++ spelled_all words over bs h.1 i) ∙ sym (spelled_cons words b bs))

  text_all : (words over : List ℕ) (bs : List Block) (bytes : ℕ) → AllByRecursion (λ b. spelled over (moved change b ∷ []) ≡ spelled words (b ∷ [])) bs → text_of over (map (moved change) bs) bytes ≡ text_of words bs bytes
  text_all words over bs bytes h = ap (λ l. take bytes (bytes_of l)) (spelled_all words over bs h)

-- ---- members of lists

pub each_in : (P : Block → Type 0) (bs : List Block) → ((b : Block) → Contains bs b → P b) → AllByRecursion P bs
each_in P [] f = tt
each_in P (b ∷ bs) f = (f b (in_first b bs), each_in P bs (λ c k. f c (behind c b bs k)))

texts_in : (P : Block → Type 0) (es : List StoredEntry) → AllByRecursion P (map (λ e. e.text) es) → AllByRecursion (λ e. P e.text) es
texts_in P [] h = tt
texts_in P (e ∷ es) h = (h.0, texts_in P es h.1)

pub parts_of : (P : Block → Type 0) (xs ys : List Block) → AllByRecursion P (xs ++ ys) → AllByRecursion P xs × AllByRecursion P ys
parts_of P [] ys h = (tt, h)
parts_of P (x ∷ xs) ys h = let r = parts_of P xs ys h.1 in ((h.0, r.0), r.1)

at_in : (P : Block → Type 0) (n : ℕ) (cs : List EntryChain) → AllByRecursion P (all_chains cs) → AllByRecursion P (blocks_at n cs)
at_in P n [] h = tt
at_in P n (c ∷ cs) h =
    let r = parts_of P c.blocks (all_chains cs) h in
    elim (eqb c.serial n) as (λ b. AllByRecursion P (cond b c.blocks (blocks_at n cs))) [
      | true ↦ r.0
      | false ↦ at_in P n cs r.1
    ]

-- ---- the step

pub move_step : MoveSteps
move_step moment words over s change tiles h long spells tiled =
    let j = s.journal in
    let m = h.memory in
    let P = λ (b : Block). spelled over (moved change b ∷ []) ≡ spelled words (b ∷ []) in
    let all = each_in P (blocks_in_use s) spells in
    let first = parts_of P (map (λ e. e.text) s.entries) (map (λ b. b.1) s.table_blocks ++ all_chains s.chains) all in
    let chains = (parts_of P (map (λ b. b.1) s.table_blocks) (all_chains s.chains) first.1).1 in
    record {
      rounded = h.rounded;
      region = long ∙ h.region;
      journal = record { lawful = h.journal.lawful; small = h.journal.small; needs = h.journal.needs; database = h.journal.database; room = h.journal.room };
      directory = zip_map (IsStoredAs moment.hash) (IsStoredAs moment.hash) (moved_entry change) s.entries (cache j)
          (λ x y r. record { serial = r.serial; hashed = r.hashed; text_bytes = r.text_bytes; tables = r.tables; complete = r.complete }) h.directory;
      memory = record {
        tiles = tiled;
        tables = record {
          named = λ t. any_map (names_table t) (names_table t) (moved_entry change) s.entries (λ x. refl) ∙ (m.tables.named t ∙ sym (any_map (is_on_table t) (is_on_table t) (λ b. (b.0, moved change b.1)) s.table_blocks (λ b. refl)));
          once = ap are_once (tables_moved change s.table_blocks) ∙ m.tables.once;
          words = all_map (λ (b : TableName × Block). b.1.words ≤ 127) (λ (b : TableName × Block). b.1.words ≤ 127) (λ b. (b.0, moved change b.1)) s.table_blocks (λ b k. subst (λ n. n ≤ 127) (sym (same_words change b.1)) k) m.tables.words;
        };
        chains = record {
          apart = ap are_distinct (serials_moved change s.chains) ∙ m.chains.apart;
          entered = all_map (λ e. has_chain e.serial s.chains ≡ true) (λ e. has_chain e.serial (map (moved_chain change) s.chains) ≡ true) (moved_entry change) s.entries (λ e k. has_moved change e.serial s.chains ∙ k) m.chains.entered;
          wanted = all_map (λ c. is_wanted s.entries s.tasks c.serial ≡ true) (λ c. is_wanted (map (moved_entry change) s.entries) s.tasks c.serial ≡ true) (moved_chain change) s.chains
              (λ c k. ap (λ b. b || list_any (is_task_on c.serial) s.tasks) (any_map (is_stored c.serial) (is_stored c.serial) (moved_entry change) s.entries (λ x. refl)) ∙ k) m.chains.wanted;
          fitting = all_map (ChainFits s.options j) (ChainFits s.options j) (moved_chain change) s.chains (λ c k. fits_moved change s.options j c k) m.chains.fitting;
          uncut = all_map (IsUncut s.options s.chains) (IsUncut s.options (map (moved_chain change) s.chains)) (moved_entry change) s.entries
              (λ e k c. subst (AllByRecursion (λ b. unit_words s.options ≤ b.words)) (sym (at_moved change e.serial s.chains)) (moved_large change (unit_words s.options) (blocks_at e.serial s.chains) (k c))) m.chains.uncut;
        };
        texts = all_map TextFits TextFits (moved_entry change) s.entries (λ e k. subst (λ n. n ≤ raised (words_of_bytes e.text_bytes) + 63) (sym (same_words change e.text)) k) m.texts;
      };
      contents = zip_map _ (IsSpelled over (map (moved_chain change) s.chains) j) (moved_entry change) s.entries (cache j)
          (λ x y p. record {
            key = text_all change words over (x.text ∷ []) x.text_bytes (p.1, tt) ∙ p.0.key;
            kept_answer = λ c. p.0.kept_answer c ∙ ap Some (sym (ap (λ l. text_of over l x.bytes) (at_moved change x.serial s.chains) ∙ text_all change words over (blocks_at x.serial s.chains) x.bytes (at_in P x.serial s.chains chains)));
          }) (zip_left (IsSpelled words s.chains j) (λ e. P e.text) s.entries (cache j) h.contents (texts_in P s.entries first.0));
      tasks = record {
        connected = h.tasks.connected;
        one_each = h.tasks.one_each;
        each = tasks_moved change j s.chains s.tasks h.tasks.each;
        filled = all_map (filled_in s) (filled_in s) (moved_entry change) s.entries (λ e k. k) h.tasks.filled;
        users = all_map (used_in s) (used_in s) (moved_entry change) s.entries (λ e k. k) h.tasks.users;
      };
    }

-- ---- what is listed

pub stays : (change : Move) (bs : List Block) → AllByRecursion (λ b. b.first ≢ change.from) bs → map (moved change) bs ≡ bs
stays change [] h = refl
stays change (b ∷ bs) h = λ i. ap (λ v. cond v (record { first = change.to; words = b.words }) b) (ne_eqb b.first change.from h.0) i ∷ stays change bs h.1 i

pub move_lists : MoveLists
move_lists s change tiles off = by s.tasks (each_in (λ b. b.first ≢ change.from) (blocks_of_tasks s) off)
  where
    blocks : (t : Task) → AllByRecursion (λ b. b.first ≢ change.from) (blocks_of s.chains t) → blocks_of (map (moved_chain change) s.chains) t ≡ blocks_of s.chains t
    blocks task.Rest h = refl
    blocks (task.Stream n) h = at_moved change n s.chains ∙ stays change (blocks_at n s.chains) h
    blocks (task.Fill n) h = at_moved change n s.chains ∙ stays change (blocks_at n s.chains) h

    by : (ws : List SeatTask) → AllByRecursion (λ b. b.first ≢ change.from) (flat_map (λ w. blocks_of s.chains w.task) ws) → map (listed (map (moved_chain change) s.chains)) ws ≡ map (listed s.chains) ws
    by [] h = refl
    by (w ∷ ws) h =
        let r = parts_of (λ b. b.first ≢ change.from) (blocks_of s.chains w.task) (flat_map (λ w. blocks_of s.chains w.task) ws) h in
        λ i. record { number = w.seat; task = w.task; blocks = blocks w.task r.0 i } ∷ by ws r.1 i
