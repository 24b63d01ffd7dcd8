-- A fill is done: its chain is unpinned and cut, its entry is complete, and the event says so.
use Rattle.std.proofs.Common.{◌≡◌, ◌≢◌, ℕ, zero, suc, ◌+◌, ◌-◌, ◌*◌, ◌<◌, ◌≤◌, eqb, eq-eqb, eqb-true, ne_eqb, true, false, cond, List, [], ◌∷◌, ◌++◌, map, length, refl, sym, ap, subst, ◌∙◌, arith, true≢false, length-append}
use Rattle.std.specs.Prelude.{not, ◌||◌, ◌==◌, Option, Some, None, IsSomeAnd, Contains, is_some, is_none, find, unwrap_or, option_map, slice_get, slice_set, option_and_then}
use Rattle.std.specs.List.{list_any, filter, flat_map, AllByRecursion}
use Rattle.std.proofs.lemmas.Option.{none-some, same_Some}
use Rattle.std.proofs.lemmas.List.{map-append}
use Rattle.qc_key.specs.Hash.{hash}
use Rattle.qc_laws.specs.history.Runs.{IsStarted, IsKept, are_distinct}
use Rattle.qc_laws.proofs.history.Events.{found_all}
use Rattle.qc_laws.proofs.history.Serials.{neither}
use Rattle.qc_laws.proofs.history.Stays.{answers_stay, is_serial}
use Rattle.qc_laws.proofs.history.Starts.{starts_once}
use Rattle.qc_model.specs.declared.events.Event.{Event}
use Rattle.qc_model.specs.declared.events.Event.TheVariants as event
use Rattle.qc_model.specs.declared.events.How.TheVariants as how
use Rattle.qc_model.specs.Journal.{Journal, present}
use Rattle.qc_model.specs.Cache.{cache, entry_of, is_entry}
use Rattle.qc_model.specs.Cache.{Entry as Cached}
use Rattle.qc_model.specs.Session.{answer}
use Rattle.qc_model.specs.Licence.{IsLicensed, IsLawful, region_words}
use Rattle.qc_types.specs.declared.options.Options.{Options}
use Rattle.qc_tiles.specs.declared.blocks.Tile.{Tile}
use Rattle.qc_tiles.specs.declared.blocks.Block.{Block}
use Rattle.qc_tiles.specs.Tiles.{handed_out}
use Rattle.qc_chain.specs.Words.{words_of}
use Rattle.qc_chain.specs.Chains.{Chained, chain_at, with_chain, but_last, cut_blocks, cut_chain, after_cut, used_words, EndsInLast}
use Rattle.qc_chain.specs.Chains.{Chain as Kept}
use Rattle.qc_dir.specs.declared.entries.Entry.{Entry}
use Rattle.qc_dir.specs.Directory.{IsDirectory, entry_at, has_serial, without, after_complete, moved_to_end, with_entries}
use Rattle.qc_turn.specs.declared.task.Task.{Task}
use Rattle.qc_turn.specs.declared.task.Task.TheVariants as task
use Rattle.qc_turn.specs.Tasks.{listed_for, own}
use Rattle.qc_sound.specs.PlainServer.{PlainServer, StoredEntry, EntryChain, SeatTask, blocks_at, blocks_of, serial_of, is_task_on, is_stored, listed_tasks}
use Rattle.qc_sound.specs.Moment.{Moment, at_rest}
use Rattle.qc_sound.specs.Sound.{IsSound}
use Rattle.qc_sound.specs.parts.Contents.{text_of}
use Rattle.qc_sound.specs.parts.Memory.{TilesAreSound, ChainFits, blocks_in_use}
use Rattle.qc_sound.specs.parts.Tasks.{TaskIsSound, SeatTaskIsSound}
use Rattle.qc_sound.specs.steps.Leaving.{is_of_seat, without_seat, filling}
use Rattle.qc_sound.specs.steps.Growing.{with_blocks}
use Rattle.qc_sound.specs.steps.Hits.{moved_stored}
use Rattle.qc_sound.specs.steps.Done.{completed_with, finished, SpellsAnswer}
use Rattle.qc_sound.proofs.Changed.{only_keyed, at_other}
use Rattle.qc_sound.proofs.Cuts.{cuts_spell}
use Rattle.qc_sound.proofs.Done.{done_step, done_lists}
use Rattle.qc_sound.proofs.Handed.{times, times_append, times_permuted, permuted}
use Rattle.qc_sound.proofs.Laws.{fills_alone, streams_apart}
use Rattle.qc_sound.proofs.Needs.{needs_push}
use Rattle.qc_core.specs.declared.server_state.RunningTask.{RunningTask}
use Rattle.qc_core.specs.declared.server_state.ServerState.{ServerState}
use Rattle.qc_core.specs.Whole.{Named, IsNamedAs, chain_blocks, chain_bytes, chain_in, stored, table_pair, work_in, task_blocks, plain, tasks_of, IsNamed, ChainsHaveRoom, IsWhole, with_event}
use Rattle.qc_core.specs.KeptLaws.{blocks_named, tasks_same}
use Rattle.qc_core.specs.ChainPins.{after_unpins, IsUnpinnedSo}
use Rattle.qc_core.specs.TaskEnd.{others, without_task_of, MayLetGo}
use Rattle.qc_core.specs.EntriesCut.{BlocksAreSound}
use Rattle.qc_core.specs.FillEnd.{Fills, HasWhole, MayCut, cut_to, cut_as, MayComplete, EndsFill}
use Rattle.qc_core.proofs.Seating.{all_less, all_push, found_less, distinct_parts}
use Rattle.qc_core.proofs.GivingUp.{room_of}
use Rattle.qc_core.proofs.Uses.{stored_at, stored_without, serial_at, find_all, all_without}
use Rattle.qc_core.proofs.OwnBlocks.{use_count, text_count}
use Rattle.qc_core.proofs.Remaining.{IsOther, differ, get_else, chain_found, entries_else}
use Rattle.qc_core.proofs.Striking.{EndingTask, others_in, found_in, seat_found, pins_after, un}
use Rattle.qc_core.proofs.Letting.{may_let_go}
use Rattle.qc_core.proofs.Cutting.{whole_blocks}
use Rattle.qc_core.proofs.Struck.{once_each}
use Rattle.qc_core.proofs.Trimming.{IsCutTo, cuts_chain}
use Rattle.qc_core.proofs.Sweeping.{one_listed, seat_there}
use Rattle.qc_core.proofs.Filling.{there_same, some_of, named_n, partial}

-- ---- what a cut leaves

cut_as_dir : (number bytes : ℕ) (o : Option Kept) (s : ServerState) → (cut_as number bytes o s).dir ≡ s.dir
cut_as_dir number bytes None s = refl
cut_as_dir number bytes (Some held) s = refl

cut_as_journal : (number bytes : ℕ) (o : Option Kept) (s : ServerState) → (cut_as number bytes o s).journal ≡ s.journal
cut_as_journal number bytes None s = refl
cut_as_journal number bytes (Some held) s = refl

pub cut_dir : (number bytes : ℕ) (s : ServerState) → (cut_to number bytes s).dir ≡ s.dir
cut_dir number bytes s = cut_as_dir number bytes (chain_at number s.chains) s

pub cut_journal : (number bytes : ℕ) (s : ServerState) → (cut_to number bytes s).journal ≡ s.journal
cut_journal number bytes s = cut_as_journal number bytes (chain_at number s.chains) s

-- ---- the entries

complete_is : (n : ℕ) (es : List Entry) (e : Entry) → entry_at n es ≡ Some e → after_complete n es ≡ without n es ++ record e { complete = true } ∷ []
complete_is n es e h = ap (λ o. moved_to_end o (λ e. record e { complete = true }) es) h ∙ ap (λ m. without m es ++ record e { complete = true } ∷ []) (serial_at n es e h)

chain_with : (cs : Chained) (k j : ℕ) (o : Option Kept) → j ≢ k → chain_at j (with_chain k o cs) ≡ chain_at j cs
chain_with cs k j o ne = ap (λ (x : Option (Option Kept)). option_and_then (λ y. y) x) (get_else cs.chains k j o ne)

set_same : (l : List (Option Kept)) (k : ℕ) (v w : Kept) → option_and_then (λ y. y) (slice_get l k) ≡ Some w → option_and_then (λ y. y) (slice_get (slice_set l k (Some v)) k) ≡ Some v
set_same [] k v w h = absurd (none-some w h)
set_same (x ∷ l) zero v w h = refl
set_same (x ∷ l) (suc k) v w h = set_same l k v w h

-- the last block is shorter, and no chain has more or fewer blocks
cut_length : (used : ℕ) (bs : List Block) → length (cut_blocks used bs) ≡ length bs
cut_length used [] = refl
cut_length used (b ∷ []) = refl
cut_length used (b ∷ c ∷ bs) = ap suc (cut_length used (c ∷ bs))

free_with : (l : List (Option Kept)) (k : ℕ) (v held : Kept) → option_and_then (λ y. y) (slice_get l k) ≡ Some held → length (filter (λ c. is_none c) (slice_set l k (Some v))) ≡ length (filter (λ c. is_none c) l)
free_with [] k v held h = absurd (none-some held h)
free_with (None ∷ l) zero v held h = absurd (none-some held h)
free_with (Some c ∷ l) zero v held h = refl
free_with (None ∷ l) (suc k) v held h = ap suc (free_with l k v held h)
free_with (Some c ∷ l) (suc k) v held h = free_with l k v held h

module _ (cs : Chained) (k bytes : ℕ) (held : Kept) (begun : chain_at k cs ≡ Some held) where
  abbrev shorter : Chained
  shorter = with_chain k (Some (cut_chain bytes held)) cs

  cut_long : (j : ℕ) → length (chain_blocks (chain_at j shorter)) ≡ length (chain_blocks (chain_at j cs))
  cut_long j = elim (eqb j k) as (λ b. eqb j k ≡ b → length (chain_blocks (chain_at j shorter)) ≡ length (chain_blocks (chain_at j cs))) [
    | true ↦ λ e.
        let is : j ≡ k = eqb-true j k e in
        ap (λ i. length (chain_blocks (chain_at i shorter))) is
        ∙ (ap (λ o. length (chain_blocks o)) (set_same cs.chains k (cut_chain bytes held) held begun)
        ∙ (cut_length (used_words held.blocks bytes) held.blocks ∙ (sym (ap (λ o. length (chain_blocks o)) begun) ∙ ap (λ i. length (chain_blocks (chain_at i cs))) (sym is))))
    | false ↦ λ e. ap (λ o. length (chain_blocks o)) (chain_with cs k j (Some (cut_chain bytes held)) (λ z. true≢false (sym (eq-eqb j k z) ∙ e)))
  ] refl

  all_long : (names : List Named) → length (flat_map (λ (c : EntryChain). c.blocks) (map (chain_in shorter) names)) ≡ length (flat_map (λ (c : EntryChain). c.blocks) (map (chain_in cs) names))
  all_long [] = refl
  all_long (x ∷ names) = omega (
    arith,
    cut_long x.number,
    all_long names,
    length-append (chain_blocks (chain_at x.number shorter)) (flat_map (λ (c : EntryChain). c.blocks) (map (chain_in shorter) names)),
    length-append (chain_blocks (chain_at x.number cs)) (flat_map (λ (c : EntryChain). c.blocks) (map (chain_in cs) names)),
  )

  cut_room : (names : List Named) (words : ℕ) → ChainsHaveRoom names cs words → ChainsHaveRoom names shorter words
  cut_room names words h = record { blocks = omega (arith, h.blocks, all_long names); free = omega (arith, h.free, free_with cs.chains k (cut_chain bytes held) held begun) }

stored_with : (cs : Chained) (k : ℕ) (o : Option Kept) (es : List Entry) → AllByRecursion (λ e. e.chain.number ≢ k) es → map (stored (with_chain k o cs)) es ≡ map (stored cs) es
stored_with cs k o [] h = refl
stored_with cs k o (e ∷ es) h = λ i. record { serial = e.serial; hash = e.hash; text = e.text; text_bytes = e.text_bytes; tables = e.tables; bytes = chain_bytes (chain_with cs k e.chain.number o h.0 i); complete = e.complete; users = e.users } ∷ stored_with cs k o es h.1 i

-- the entries are as the plain server has them
stored_complete : (cs : Chained) (n k bytes : ℕ) (held : Kept) (es : List Entry) (e : Entry) → entry_at n es ≡ Some e → e.chain.number ≡ k → AllByRecursion (λ e2. e2.chain.number ≢ k) (without n es) → chain_at k (with_chain k (Some (cut_chain bytes held)) cs) ≡ Some (cut_chain bytes held)
    → map (stored (with_chain k (Some (cut_chain bytes held)) cs)) (after_complete n es) ≡ moved_stored n (completed_with bytes) (find (is_stored n) (map (stored cs) es)) (map (stored cs) es)
stored_complete cs n k bytes held es e there number else at =
    let new = with_chain k (Some (cut_chain bytes held)) cs in
    let own : chain_bytes (chain_at e.chain.number new) ≡ bytes = ap (λ j. chain_bytes (chain_at j new)) number ∙ ap chain_bytes at in
    ap (map (stored new)) (complete_is n es e there)
    ∙ (map-append (stored new) (without n es) (record e { complete = true } ∷ [])
    ∙ ((λ i. stored_with cs k (Some (cut_chain bytes held)) (without n es) else i ++ record { serial = e.serial; hash = e.hash; text = e.text; text_bytes = e.text_bytes; tables = e.tables; bytes = own i; complete = true; users = e.users } ∷ [])
    ∙ (ap (λ l. l ++ completed_with bytes (stored cs e) ∷ []) (stored_without cs n es)
    ∙ sym (ap (λ o. moved_stored n (completed_with bytes) o (map (stored cs) es)) (stored_at cs n es e there)))))

complete_length : (n : ℕ) (es : List Entry) (e : Entry) → entry_at n es ≡ Some e → are_distinct (map (λ e. e.serial) es) ≡ true → length (after_complete n es) ≡ length es
complete_length n es e there d =
    let is = ap (λ (l : List Entry). length l) (complete_is n es e there) in
    omega (arith, is, length_push (without n es) (record e { complete = true }), found_less (λ (e : Entry). e.serial) n es e d there)
  where
    length_push : (xs : List Entry) (x : Entry) → length (xs ++ x ∷ []) ≡ length xs + 1
    length_push [] x = refl
    length_push (y ∷ xs) x = omega (arith, length_push xs x)

-- ---- the chains

chains_cut : (cs : Chained) (n k bytes : ℕ) (held : Kept) (names : List Named) → AllByRecursion (λ x. eqb x.serial n ≡ true → x ≡ record { serial = n; number = k }) names → AllByRecursion (IsOther n k) names → chain_at k cs ≡ Some held → chain_at k (with_chain k (Some (cut_chain bytes held)) cs) ≡ Some (cut_chain bytes held)
    → map (chain_in (with_chain k (Some (cut_chain bytes held)) cs)) names ≡ with_blocks n (cut_blocks (used_words held.blocks bytes)) (map (chain_in cs) names)
chains_cut cs n k bytes held [] own other begun at = refl
chains_cut cs n k bytes held (x ∷ names) own other begun at =
    let new = with_chain k (Some (cut_chain bytes held)) cs in
    let f = cut_blocks (used_words held.blocks bytes) in
    let more = chains_cut cs n k bytes held names own.1 other.1 begun at in
    elim (eqb x.serial n) as (λ b. eqb x.serial n ≡ b → chain_in new x ∷ map (chain_in new) names ≡ cond b (record (chain_in cs x) { blocks = f (chain_in cs x).blocks }) (chain_in cs x) ∷ with_blocks n f (map (chain_in cs) names)) [
      | true ↦ λ e.
          let is : x.number ≡ k = ap (λ (z : Named). z.number) (own.0 e) in
          let now : chain_blocks (chain_at x.number new) ≡ f held.blocks = ap (λ j. chain_blocks (chain_at j new)) is ∙ ap chain_blocks at in
          let was : f (chain_blocks (chain_at x.number cs)) ≡ f held.blocks = ap (λ j. f (chain_blocks (chain_at j cs))) is ∙ ap (λ o. f (chain_blocks o)) begun in
          λ i. record { serial = x.serial; blocks = (now ∙ sym was) i } ∷ more i
      | false ↦ λ e. λ i. record { serial = x.serial; blocks = chain_blocks (chain_with cs k x.number (Some (cut_chain bytes held)) (other.0 e) i) } ∷ more i
    ] refl

abbrev flat : List EntryChain → List Block
flat cs = flat_map (λ (c : EntryChain). c.blocks) cs

with_none : (n : ℕ) (f : List Block → List Block) (cs : List EntryChain) → list_any (λ m. m == n) (map (λ (c : EntryChain). c.serial) cs) ≡ false → with_blocks n f cs ≡ cs
with_none n f [] h = refl
with_none n f (c ∷ cs) h = let t = neither (c.serial == n) (list_any (λ m. m == n) (map (λ (c : EntryChain). c.serial) cs)) h in λ i. cond (t.0 i) (record c { blocks = f c.blocks }) c ∷ with_none n f cs t.1 i

flat_with : (n : ℕ) (f : List Block → List Block) (b : Block) (cs : List EntryChain) (x : EntryChain) → are_distinct (map (λ c. c.serial) cs) ≡ true → find (λ c. c.serial == n) cs ≡ Some x → times b (flat (with_blocks n f cs)) + times b x.blocks ≡ times b (flat cs) + times b (f x.blocks)
flat_with n f b [] x d h = absurd (none-some x h)
flat_with n f b (c ∷ cs) x d h =
    let parts = distinct_parts c.serial (map (λ (c : EntryChain). c.serial) cs) d in
    elim (eqb c.serial n) as (λ v. eqb c.serial n ≡ v → cond v (Some c) (find (λ c. c.serial == n) cs) ≡ Some x → times b (flat (cond v (record c { blocks = f c.blocks }) c ∷ with_blocks n f cs)) + times b x.blocks ≡ times b (c.blocks ++ flat cs) + times b (f x.blocks)) [
      | true ↦ λ e g.
          let same = same_Some c x g in
          let rest = with_none n f cs (subst (λ k. list_any (λ m. m == k) (map (λ (c : EntryChain). c.serial) cs) ≡ false) (eqb-true c.serial n e) parts.0) in
          omega (arith, times_append b (f c.blocks) (flat (with_blocks n f cs)), times_append b c.blocks (flat cs), ap (λ l. times b (flat l)) rest, ap (λ (z : EntryChain). times b z.blocks) same, ap (λ (z : EntryChain). times b (f z.blocks)) same)
      | false ↦ λ e g. omega (arith, times_append b c.blocks (flat (with_blocks n f cs)), times_append b c.blocks (flat cs), flat_with n f b cs x parts.1 g)
    ] refl h

-- ---- no other task is on it

none_left : (o : Options) (j : Journal) (cs : List EntryChain) (seat n : ℕ) (ws : List SeatTask) → IsLawful o j → 0 < seat → TaskIsSound j seat (task.Fill n) → AllByRecursion (SeatTaskIsSound j cs) ws → list_any (is_task_on n) (without_seat seat ws) ≡ false
none_left o j cs seat n [] lawful low mine all = refl
none_left o j cs seat n (w ∷ ws) lawful low mine all =
    let more = none_left o j cs seat n ws lawful low mine all.1 in
    elim (eqb w.seat seat) as (λ b. eqb w.seat seat ≡ b → list_any (is_task_on n) (cond (not b) (w ∷ without_seat seat ws) (without_seat seat ws)) ≡ false) [
      | true ↦ λ e. more
      | false ↦ λ e. ap (λ b. b || list_any (is_task_on n) (without_seat seat ws)) (by w.task refl all.0.task (λ z. true≢false (sym (eq-eqb w.seat seat z) ∙ e))) ∙ more
    ] refl
  where
    off : (m : ℕ) → (m ≡ n → ⊥) → eqb m n ≡ false
    off m h = ne_eqb m n h

    by : (t : Task) → w.task ≡ t → TaskIsSound j w.seat t → w.seat ≢ seat → unwrap_or (option_map (λ m. m == n) (serial_of w.task)) false ≡ false
    by task.Rest is sound ne = absurd sound
    by (task.Stream m) is sound ne = ap (λ x. unwrap_or (option_map (λ m. m == n) (serial_of x)) false) is ∙ off m (λ z. streams_apart o j seat w.seat n m lawful mine sound (sym z))
    by (task.Fill m) is sound ne = ap (λ x. unwrap_or (option_map (λ m. m == n) (serial_of x)) false) is ∙ off m (λ z. ne (fills_alone o j w.seat seat m n lawful all.0.seat.low low sound mine z))

-- the other tasks' blocks stay
tasks_stay : (n : ℕ) (f : List Block → List Block) (cs : List EntryChain) (ws : List SeatTask) → list_any (is_task_on n) ws ≡ false → flat_map (λ w. blocks_of (with_blocks n f cs) w.task) ws ≡ flat_map (λ w. blocks_of cs w.task) ws
tasks_stay n f cs [] h = refl
tasks_stay n f cs (w ∷ ws) h = let t = neither (is_task_on n w) (list_any (is_task_on n) ws) h in λ i. by w.task t.0 i ++ tasks_stay n f cs ws t.1 i
  where
    by : (t : Task) → unwrap_or (option_map (λ m. m == n) (serial_of t)) false ≡ false → blocks_of (with_blocks n f cs) t ≡ blocks_of cs t
    by task.Rest e = refl
    by (task.Stream m) e = at_other n f m cs e
    by (task.Fill m) e = at_other n f m cs e

module _ (seat n bytes : ℕ) (s : ServerState) (u : MayComplete seat n bytes s) where
  abbrev m : Moment
  m = at_rest hash

  abbrev p : PlainServer
  p = plain u.names s

  abbrev j : Journal
  j = s.journal.events

  abbrev bs : BlocksAreSound m u.names s
  bs = whole_blocks m u.names u.words s u.whole

  abbrev k : ℕ
  k = u.fills.work.chain.number

  abbrev named_k : IsNamedAs u.names n k
  named_k = named_n m u.names u.words s seat n u.whole u.fills

  abbrev c : MayLetGo k s
  c = may_let_go m u.names s n k bs named_k

  abbrev blocks : List Block
  blocks = c.held.blocks

  abbrev used : ℕ
  used = used_words blocks bytes

  abbrev text : List ℕ
  text = text_of u.words (chain_blocks (chain_at k s.chains)) bytes

  fits : ChainFits s.options j (chain_in s.chains (record { serial = n; number = k }))
  fits = find_all (ChainFits s.options j) (λ c. c.serial == n) p.chains (chain_in s.chains (record { serial = n; number = k })) u.whole.sound.memory.chains.fitting (chain_found s.chains n _ u.names named_k)

  -- what any start of it answered
  answered : (st : IsStarted j n) → answer st.key (present st.earlier) ≡ Some text
  answered st = let same = starts_once s.options j n st u.stored.start u.whole.sound.journal.lawful in (λ i. answer (same.2 i) (present (same.0 i))) ∙ u.stored.answered

  pub ends : EndsInLast blocks bytes
  ends =
      let same : chain_blocks (chain_at k s.chains) ≡ blocks = ap chain_blocks c.begun in
      let long : length (unwrap_or (answer fits.start.key (present fits.start.earlier)) []) ≡ bytes = ap (λ o. length (unwrap_or o [])) (answered fits.start) ∙ u.stored.long in
      record {
        some = subst (λ l. 0 < length l) same fits.first;
        more = subst (λ l. 8 * words_of (but_last l) < bytes) same (omega (arith, fits.needed, long));
        within = subst (λ l. bytes ≤ 8 * words_of l) same u.stored.within;
      }

  abbrev entry : (e : Entry) × (entry_at n s.dir.entries ≡ Some e)
  entry = some_of (entry_at n s.dir.entries) u.there

  abbrev cached : (y : Cached) × (entry_of n (cache j) ≡ Some y)
  cached = some_of (entry_of n (cache j)) (sym (there_same m u.names u.words s n u.whole) ∙ u.there)

  now_is : answer cached.0.key (present j) ≡ Some text
  now_is =
      let kept = found_all (IsKept j) (is_entry n) (cache j) cached.0 (answers_stay s.options j u.whole.sound.journal.lawful) cached.1 in
      let same = is_serial n cached.0 kept.1 in
      let st = kept.0.start in
      let mine : IsStarted j n = record { who = st.who; key = st.key; tables = st.tables; earlier = st.earlier; later = st.later; split = st.split ∙ (λ i. st.earlier ++ event.Run st.who (how.Start (same i) st.key st.tables) ∷ st.later) } in
      kept.0.now ∙ (sym kept.0.at_start ∙ (ap (λ key. answer key (present st.earlier)) (sym kept.0.key) ∙ answered mine))

  abbrev ev : Event
  ev = event.Done n

  licensed : IsLicensed s.options j ev
  licensed = subst (λ o. IsSomeAnd o (λ (y : Cached). (y.complete ≡ false) × IsSomeAnd (answer y.key (present j)) (λ bytes. length bytes ≤ s.options.limit))) (sym cached.1)
      (partial m u.names u.words s seat n u.whole u.fills cached.0 cached.1, subst (λ o. IsSomeAnd o (λ (b : List ℕ). length b ≤ s.options.limit)) (sym now_is) (omega (arith, u.stored.long, u.stored.limit)))

  chain_is : blocks_at n p.chains ≡ blocks
  chain_is = blocks_named s.chains u.names n _ named_k ∙ ap chain_blocks c.begun

  spells : SpellsAnswer u.words n bytes used p
  spells = λ y at.
      let same = same_Some cached.0 y (sym cached.1 ∙ at) in
      ap (λ (z : Cached). answer z.key (present j)) (sym same)
      ∙ (now_is ∙ ap Some (ap (λ o. text_of u.words (chain_blocks o) bytes) c.begun ∙ (sym (cuts_spell u.words blocks bytes ends) ∙ ap (λ l. text_of u.words (cut_blocks used l) bytes) (sym chain_is))))

  -- ---- the blocks

  abbrev t1 : List Tile
  t1 = after_unpins blocks s.tiles

  abbrev us : List Tile
  us = after_cut used blocks t1

  abbrev fill : EndingTask seat s
  fill = record { work = u.fills.work; serial = n; at = u.fills.at; on = ap serial_of u.fills.fill; chain = c }

  abbrev un1 : IsUnpinnedSo (region_words s.options) s.tiles t1 blocks
  un1 = un m u.names s seat bs fill

  cut_is : IsCutTo (region_words s.options) used t1 us blocks
  cut_is = cuts_chain (region_words s.options) used t1 blocks un1.tiling ends.some (λ b h. (subst (λ l. Contains l b) (sym un1.hands) (member b blocks h c.out.each), λ q. ((un1.pins b).0 q).1 h))
    where
      member : (b : Block) (xs : List Block) → Contains xs b → AllByRecursion (Contains (handed_out s.tiles)) xs → Contains (handed_out s.tiles) b
      member b [] h a = absurd (omega (arith, h.1))
      member b (x ∷ xs) (zero, within, same) a = subst (Contains (handed_out s.tiles)) same a.0
      member b (x ∷ xs) (suc i, within, same) a = member b xs (i, omega (arith, within), same) a.1

  abbrev after : PlainServer
  after = finished n seat bytes used us p

  seat_low : 0 < seat
  seat_low = subst (λ i. 0 < i) (seat_found seat s.tasks.items u.fills.work u.fills.at) (find_all (SeatTaskIsSound j p.chains) (is_of_seat seat) p.tasks (work_in u.fills.work) u.whole.sound.tasks.each (found_in seat s.tasks.items u.fills.work u.fills.at)).seat.low

  mine : TaskIsSound j seat (task.Fill n)
  mine = subst (λ i. TaskIsSound j i (task.Fill n)) (seat_found seat s.tasks.items u.fills.work u.fills.at)
      (subst (TaskIsSound j u.fills.work.seat) u.fills.fill (find_all (SeatTaskIsSound j p.chains) (is_of_seat seat) p.tasks (work_in u.fills.work) u.whole.sound.tasks.each (found_in seat s.tasks.items u.fills.work u.fills.at)).task)

  off : list_any (is_task_on n) (without_seat seat p.tasks) ≡ false
  off = none_left s.options j p.chains seat n p.tasks u.whole.sound.journal.lawful seat_low mine u.whole.sound.tasks.each

  pub number_is : entry.0.chain.number ≡ k
  number_is =
      let e = entry.0 in
      let own = find_all (λ e. IsNamedAs u.names e.serial e.chain.number) (has_serial n) s.dir.entries e u.whole.named.entries entry.1 in
      let at = subst (λ i. IsNamedAs u.names i e.chain.number) (serial_at n s.dir.entries e entry.1) own in
      ap (λ (x : Named). x.number) (same_Some _ _ (sym at ∙ named_k))

  tiles_are : TilesAreSound m after
  tiles_are =
      let f = cut_blocks used in
      let e = entry.0 in
      let d = ap are_distinct (stored_serials s.chains s.dir.entries) ∙ bs.serials in
      let there = stored_at s.chains n s.dir.entries e entry.1 in
      let texts = λ (b : Block). text_count b n p.entries (stored s.chains e) d there in
      let moved : map (λ e. e.text) after.entries ≡ map (λ e. e.text) (filter (λ x. not (is_stored n x)) p.entries) ++ e.text ∷ [] =
      ap (λ o. map (λ (e : StoredEntry). e.text) (moved_stored n (completed_with bytes) o p.entries)) there ∙ map-append (λ (e : StoredEntry). e.text) (filter (λ x. not (is_stored n x)) p.entries) (completed_with bytes (stored s.chains e) ∷ []) in
      let chains = λ (b : Block). flat_with n f b p.chains (chain_in s.chains (record { serial = n; number = k })) bs.apart (chain_found s.chains n _ u.names named_k) in
      let own = λ (b : Block). ap (λ o. times b (chain_blocks o)) c.begun in
      let cut = λ (b : Block). ap (λ o. times b (f (chain_blocks o))) c.begun in
      let pins = λ (b : Block). pins_after m u.names s seat bs fill t1 off un1 b in
      let still = tasks_stay n f p.chains (without_seat seat p.tasks) off in
      record {
        tiling = cut_is.tiling;
        in_use = permuted (handed_out us) (m.held ++ blocks_in_use after) (λ b.
            omega (arith, cut_is.count b, ap (times b) un1.hands, times_permuted b (handed_out s.tiles) (m.held ++ blocks_in_use p) bs.tiles.in_use, times_append b m.held (blocks_in_use p), times_append b m.held (blocks_in_use after), use_count b p, use_count b after, texts b, ap (times b) moved, times_append b (map (λ (e : StoredEntry). e.text) (filter (λ x. not (is_stored n x)) p.entries)) (e.text ∷ []), chains b, own b, cut b));
        pinned = λ b. (
          λ q. subst (λ l. Contains l b) (sym still) ((pins b).0 (subst (λ l. Contains l b) cut_is.pins q)),
          λ q. subst (λ l. Contains l b) (sym cut_is.pins) ((pins b).1 (subst (λ l. Contains l b) still q)),
        );
      }
    where
      stored_serials : (cs : Chained) (es : List Entry) → map (λ e. e.serial) (map (stored cs) es) ≡ map (λ e. e.serial) es
      stored_serials cs [] = refl
      stored_serials cs (x ∷ es) = ap (λ l. x.serial ∷ l) (stored_serials cs es)

  -- ---- the whole

  abbrev cs : Chained
  cs = with_chain k (Some (cut_chain bytes c.held)) s.chains

  abbrev after_parts : ServerState
  after_parts = record s {
    dir = with_entries (after_complete n s.dir.entries) s.dir;
    chains = cs;
    tiles = us;
    tasks = record { items = others seat s.tasks.items; room = s.tasks.room + 1 };
  }

  at_k : chain_at k cs ≡ Some (cut_chain bytes c.held)
  at_k = set_same s.chains.chains k (cut_chain bytes c.held) c.held c.begun

  numbers : AllByRecursion (IsOther n k) u.names
  numbers = differ n k u.names u.whole.named.numbers named_k

  name_serials : (xs : List Named) → map (λ c. c.serial) (map (chain_in s.chains) xs) ≡ map (λ x. x.serial) xs
  name_serials [] = refl
  name_serials (x ∷ xs) = ap (λ l. x.serial ∷ l) (name_serials xs)

  plain_is : plain u.names (with_event ev after_parts) ≡ after
  plain_is =
      let e = entry.0 in
      let entries = stored_complete s.chains n k bytes c.held s.dir.entries e entry.1 number_is (entries_else n k u.names s.dir.entries numbers u.whole.named.entries) at_k in
      let own = only_keyed (λ (x : Named). x.serial) n u.names (record { serial = n; number = k }) (ap are_distinct (sym (name_serials u.names)) ∙ bs.apart) named_k in
      let chains = chains_cut s.chains n k bytes c.held u.names own numbers c.begun at_k in
      λ i. record {
        options = s.options;
        journal = s.journal.events ++ ev ∷ [];
        spare = s.journal.spare - 1;
        database = s.database;
        entries = entries i;
        chains = chains i;
        table_blocks = map table_pair s.dir.tables;
        tiles = us;
        connected = s.connected.items;
        tasks = others_in seat s.tasks.items i;
      }

  fill_p : find (is_of_seat seat) p.tasks ≡ Some (filling seat n)
  fill_p = found_in seat s.tasks.items u.fills.work u.fills.at ∙ (λ i. Some (record { seat = seat_found seat s.tasks.items u.fills.work u.fills.at i; task = u.fills.fill i }))

  still_begun : (xs : List Named) → AllByRecursion (IsOther n k) xs → AllByRecursion (λ x. eqb x.serial n ≡ true → x ≡ record { serial = n; number = k }) xs → AllByRecursion (λ x. is_some (chain_at x.number s.chains) ≡ true) xs → AllByRecursion (λ x. is_some (chain_at x.number cs) ≡ true) xs
  still_begun [] o own b = tt
  still_begun (x ∷ xs) o own b = (
    elim (eqb x.serial n) as (λ v. eqb x.serial n ≡ v → is_some (chain_at x.number cs) ≡ true) [
      | true ↦ λ e. ap (λ (z : Named). is_some (chain_at z.number cs)) (own.0 e) ∙ ap is_some at_k
      | false ↦ λ e. ap is_some (chain_with s.chains k x.number (Some (cut_chain bytes c.held)) (o.0 e)) ∙ b.0
    ] refl,
    still_begun xs o.1 own.1 b.1,
  )

  pub completes : IsDirectory after_parts.dir → EndsFill ev seat u.words s (with_event ev after_parts)
  completes valid =
      let h = u.whole in
      let e = entry.0 in
      let own = only_keyed (λ (x : Named). x.serial) n u.names (record { serial = n; number = k }) (ap are_distinct (sym (name_serials u.names)) ∙ bs.apart) named_k in
      let sound = done_step m u.words p n seat bytes used us h.sound licensed (needs_push s.options j ev h.sound.journal.needs tt) fill_p spells tiles_are in
      let lists = done_lists m u.words p n seat bytes used us h.sound fill_p in
      let named : IsNamed u.names (with_event ev after_parts) = record {
        begun = still_begun u.names numbers own h.named.begun;
        numbers = h.named.numbers;
        entries = subst (AllByRecursion (λ (e : Entry). IsNamedAs u.names e.serial e.chain.number)) (sym (complete_is n s.dir.entries e entry.1))
            (all_push (λ e. IsNamedAs u.names e.serial e.chain.number) (without n s.dir.entries) (record e { complete = true }) (all_without (λ e. IsNamedAs u.names e.serial e.chain.number) n s.dir.entries h.named.entries) (find_all (λ e. IsNamedAs u.names e.serial e.chain.number) (has_serial n) s.dir.entries e h.named.entries entry.1));
        tasks = all_less (λ (w : RunningTask). w.seat) _ seat s.tasks.items h.named.tasks;
      } in
      let fewer : length (others seat s.tasks.items) + 1 ≡ length s.tasks.items = found_less (λ (w : RunningTask). w.seat) seat s.tasks.items u.fills.work (once_each m u.names u.words s h) u.fills.at in
      let whole : IsWhole m u.names u.words (with_event ev after_parts) = record {
        named = named;
        sound = subst (λ z. IsSound m u.words z) (sym plain_is) sound;
        directory = valid;
        seats = record { once = h.seats.once; room = h.seats.room; task_room = omega (arith, h.seats.task_room, fewer) };
        room = record { entries = omega (arith, h.room.entries, complete_length n s.dir.entries e entry.1 bs.serials); tables = h.room.tables; chains = cut_room s.chains k bytes c.held c.begun u.names (region_words s.options) h.room.chains; unpinner = h.room.unpinner };
      } in
      let same = tasks_same u.names (with_event ev after_parts) named ∙ ap listed_tasks plain_is in
      record {
        names = u.names;
        whole = whole;
        events = refl;
        rests = ap (listed_for seat) same ∙ lists.alone;
        listed = λ i ne. ap (listed_for i) same ∙ (lists.others i ne ∙ sym (ap (listed_for i) (tasks_same u.names s h.named)));
        options = refl;
        database = refl;
        connected = refl;
      }

  -- ---- what the code asks

  pub may_cut : MayCut k bytes (without_task_of seat s)
  may_cut = record { chain = record { held = c.held; begun = c.begun; room = c.room; tiling = c.tiling; out = c.out }; ends = ends }

  pub some_room : 1 ≤ s.journal.spare
  some_room = room_of (cache j) cached.0 n s.journal.spare cached.1 u.whole.sound.journal.room

  pub completed : (x : ServerState) → x ≡ cut_to k bytes (without_task_of seat s) → IsDirectory (with_entries (after_complete n x.dir.entries) x.dir) → EndsFill ev seat u.words s (with_event ev (record x { dir = with_entries (after_complete n x.dir.entries) x.dir }))
  completed x is valid =
      let same : x ≡ cut_as k bytes (Some c.held) (without_task_of seat s) = is ∙ ap (λ o. cut_as k bytes o (without_task_of seat s)) c.begun in
      subst (λ (z : ServerState). IsDirectory (with_entries (after_complete n z.dir.entries) z.dir) → EndsFill ev seat u.words s (with_event ev (record z { dir = with_entries (after_complete n z.dir.entries) z.dir }))) (sym same) completes valid

-- ---- what the call asks, of the chain

-- what is listed for the seat is the fill, with the blocks of its chain
fill_listed : (m : Moment) (names : List Named) (words : List ℕ) (s : ServerState) (seat n : ℕ) → IsWhole m names words s → (f : Fills seat n s) → listed_for seat (tasks_of s) ≡ own seat (task.Fill n) (chain_blocks (chain_at f.work.chain.number s.chains))
fill_listed m names words s seat n h f =
    let bs = chain_blocks (chain_at f.work.chain.number s.chains) in
    one_listed s.chains seat s.tasks.items f.work (once_each m names words s h) f.at ∙ (λ i. record { number = seat_there seat s.tasks.items f.work f.at i; task = f.fill i; blocks = task_blocks (f.fill i) bs } ∷ [])

pub stored_chain : (names : List Named) (words : List ℕ) (s : ServerState) (seat n bytes : ℕ) → IsWhole (at_rest hash) names words s → (f : Fills seat n s) → ((bs : List Block) → listed_for seat (tasks_of s) ≡ own seat (task.Fill n) bs → HasWhole words n bytes bs s) → HasWhole words n bytes (chain_blocks (chain_at f.work.chain.number s.chains)) s
stored_chain names words s seat n bytes h f stored = stored (chain_blocks (chain_at f.work.chain.number s.chains)) (fill_listed (at_rest hash) names words s seat n h f)
