-- An entry's blocks among those of the server.
use Rattle.std.proofs.Common.{◌≡◌, ℕ, zero, suc, ◌+◌, ◌<◌, ◌≤◌, eqb, eqb-true, ne_eqb, Bool, true, false, cond, List, [], ◌∷◌, ◌++◌, map, refl, sym, ap, subst, ◌∙◌, arith, true≢false, append-nil}
use Rattle.std.specs.Prelude.{not, ◌&&◌, ◌==◌, Some, Contains, IsPermutation, find, option_map, unwrap_or, sum_by, count_by}
use Rattle.std.specs.List.{filter, flat_map, AllByRecursion}
use Rattle.std.proofs.lemmas.List.{map-append}
use Rattle.std.proofs.lemmas.List.Sums.{sum_by-cons}
use Rattle.std.proofs.lemmas.List.Recursion.{is_sum_by}
use Rattle.std.proofs.lemmas.List.Elements.{Contains-append_right}
use Rattle.std.proofs.lemmas.List.Sorted.{sum_by-IsPermutation, IsPermutation-map}
use Rattle.qc_model.specs.Journal.{Journal}
use Rattle.qc_laws.specs.history.Runs.{are_distinct}
use Rattle.qc_tiles.specs.declared.blocks.Tile.{Tile}
use Rattle.qc_tiles.specs.declared.blocks.Block.{Block}
use Rattle.qc_tiles.specs.Tiles.{IsTiling, CoversFrom, handed_out, block_of}
use Rattle.qc_types.specs.Blocks.{least_block}
use Rattle.qc_chain.specs.Chains.{AreHandedOut, AreOnce}
use Rattle.qc_dir.specs.declared.entries.Entry.{Entry}
use Rattle.qc_dir.specs.declared.tables.TableBlock.{TableBlock}
use Rattle.qc_turn.specs.declared.task.Task.TheVariants as task
use Rattle.qc_turn.specs.declared.task.Task.{Task}
use Rattle.qc_sound.specs.PlainServer.{StoredEntry, EntryChain, SeatTask}
use Rattle.qc_sound.specs.PlainServer.{PlainServer}
use Rattle.qc_sound.specs.parts.Tasks.{SeatTaskIsSound, TaskIsSound, is_stream_of}
use Rattle.qc_sound.specs.parts.Memory.{blocks_in_use}
use Rattle.qc_sound.specs.PlainServer.{serial_of, is_task_on}
use Rattle.qc_sound.specs.Ended.{is_ended}
use Rattle.qc_sound.specs.PlainServer.{is_stored}
use Rattle.qc_sound.specs.steps.Leaving.{staying}
use Rattle.qc_sound.proofs.Moved.{moved_permutes}
use Rattle.qc_sound.proofs.Handed.{times, same_block, times_append, times_permuted, times_cut, self_one}
use Rattle.qc_core.specs.Whole.{table_pair}
use Rattle.qc_core.specs.EntryRemoval.{table_blocks, own_blocks}

-- ---- how often blocks stand in a tiling

hands_low : (b : Block) (first end : ℕ) (ts : List Tile) → CoversFrom first end ts → b.first < first → times b (handed_out ts) ≡ 0
hands_low b first end [] h low = refl
hands_low b first end (t ∷ ts) h low =
    let rest = hands_low b (first + t.words) end ts h.1 (omega (arith, low)) in
    elim t.free as (λ v. times b (map block_of (cond (not v) (t ∷ filter (λ t. not t.free) ts) (filter (λ t. not t.free) ts))) ≡ 0) [
      | true ↦ rest
      | false ↦ let other : (t.first == b.first) ≡ false = ne_eqb t.first b.first (λ e. absurd (omega (arith, e, low, h.0))) in
          let z : ◌≡◌ {A = ℕ} (cond (t.first == b.first && t.words == b.words) 1 0) 0 = ap (λ v. cond (v && t.words == b.words) 1 0) other in omega (arith, rest, z)
    ]

hands_once : (b : Block) (first end : ℕ) (ts : List Tile) → CoversFrom first end ts → AllByRecursion (λ t. least_block ≤ t.words) ts → times b (handed_out ts) ≤ 1
hands_once b first end [] h large = omega arith
hands_once b first end (t ∷ ts) h large =
    let rest = hands_once b (first + t.words) end ts h.1 large.1 in
    elim t.free as (λ v. times b (map block_of (cond (not v) (t ∷ filter (λ t. not t.free) ts) (filter (λ t. not t.free) ts))) ≤ 1) [
      | true ↦ rest
      | false ↦ elim (t.first == b.first) as (λ v. (t.first == b.first) ≡ v → cond (v && t.words == b.words) 1 0 + times b (handed_out ts) ≤ 1) [
        | true ↦ λ e. let none = hands_low b (first + t.words) end ts h.1 (omega (arith, eqb-true t.first b.first e, h.0, large.0)) in omega (arith, none, small (t.words == b.words))
        | false ↦ λ e. omega (arith, rest)
      ] refl
    ]
  where
    small : (v : Bool) → ◌≤◌ (cond v 1 0) 1
    small true = omega arith
    small false = omega arith

pub times_there : (b : Block) (bs : List Block) → Contains bs b → 0 < times b bs
times_there b [] h = absurd (omega (arith, h.1))
times_there b (x ∷ bs) (zero, within, same) = let z : ◌≡◌ {A = ℕ} (cond (same_block x b) 1 0) (cond (same_block b b) 1 0) = ap (λ (z : Block). cond (same_block z b) 1 0) same in omega (arith, z, self_one b)
times_there b (x ∷ bs) (suc k, within, same) = omega (arith, times_there b bs (k, omega arith, same))

pub there_times : (b : Block) (bs : List Block) → 0 < times b bs → Contains bs b
there_times b bs h = let cut = times_cut b bs h in subst (λ l. Contains l b) (sym cut.2) (Contains-append_right cut.0 (b ∷ cut.1) b (0, omega arith, refl))

once_from : (bs : List Block) → ((b : Block) → times b bs ≤ 1) → AreOnce bs
once_from [] h = tt
once_from (x ∷ bs) h = (λ c. absurd (omega (arith, h x, self_one x, times_there x bs c)), once_from bs (λ b. omega (arith, h b)))

each_from : (ts : List Tile) (bs : List Block) → ((b : Block) → times b bs ≤ times b (handed_out ts)) → AllByRecursion (Contains (handed_out ts)) bs
each_from ts [] h = tt
each_from ts (x ∷ bs) h = (there_times x (handed_out ts) (omega (arith, h x, self_one x)), each_from ts bs (λ b. omega (arith, h b)))

-- blocks that stand no more often than they are handed out are handed out, each once
pub part_out : (words : ℕ) (ts : List Tile) (bs : List Block) → IsTiling words ts → ((b : Block) → times b bs ≤ times b (handed_out ts)) → AreHandedOut ts bs
part_out words ts bs tiling h = record { each = each_from ts bs h; once = once_from bs (λ b. omega (arith, h b, hands_once b 0 words ts tiling.covers tiling.large)) }

-- a block that is also elsewhere isn't one of these
pub not_both : (words : ℕ) (ts : List Tile) (b : Block) (bs cs : List Block) → IsTiling words ts → ((b : Block) → times b bs + times b cs ≤ times b (handed_out ts)) → Contains bs b → Contains cs b → ⊥
not_both words ts b bs cs tiling h p q = absurd (omega (arith, h b, hands_once b 0 words ts tiling.covers tiling.large, times_there b bs p, times_there b cs q))

-- ---- an entry's blocks

times_flat : (b : Block) (cs : List EntryChain) → times b (flat_map (λ c. c.blocks) cs) ≡ sum_by (λ c. times b c.blocks) cs
times_flat b cs = is_sum_by (λ l. times b (flat_map (λ (c : EntryChain). c.blocks) l)) (λ c. times b c.blocks) refl (λ c l. times_append b c.blocks (flat_map (λ (c : EntryChain). c.blocks) l)) cs

pub chain_count : (b : Block) (n : ℕ) (cs : List EntryChain) (c : EntryChain) → are_distinct (map (λ c. c.serial) cs) ≡ true → find (λ c. c.serial == n) cs ≡ Some c
    → times b (flat_map (λ c. c.blocks) cs) ≡ times b (flat_map (λ c. c.blocks) (filter (λ c. not (c.serial == n)) cs)) + times b c.blocks
chain_count b n cs c d f =
    let rest = filter (λ (c : EntryChain). not (c.serial == n)) cs in
    let perm = moved_permutes (λ (c : EntryChain). c.serial) n cs c d f in
    let one : times b (flat_map (λ (c : EntryChain). c.blocks) (rest ++ c ∷ [])) ≡ times b (flat_map (λ (c : EntryChain). c.blocks) cs) = times_flat b (rest ++ c ∷ []) ∙ (sum_by-IsPermutation (λ (c : EntryChain). times b c.blocks) cs (rest ++ c ∷ []) perm ∙ sym (times_flat b cs)) in
    sym one ∙ flat_end b rest c
  where
    flat_end : (b : Block) (xs : List EntryChain) (c : EntryChain) → times b (flat_map (λ c. c.blocks) (xs ++ c ∷ [])) ≡ times b (flat_map (λ c. c.blocks) xs) + times b c.blocks
    flat_end b [] c = ap (times b) (append-nil c.blocks) ∙ nothing (times b c.blocks)
      where
        nothing : (n : ℕ) → n ≡ 0 + n
        nothing n = omega arith
    flat_end b (x ∷ xs) c = omega (arith, times_append b x.blocks (flat_map (λ (c : EntryChain). c.blocks) (xs ++ c ∷ [])), times_append b x.blocks (flat_map (λ (c : EntryChain). c.blocks) xs), flat_end b xs c)

pub text_count : (b : Block) (n : ℕ) (es : List StoredEntry) (x : StoredEntry) → are_distinct (map (λ e. e.serial) es) ≡ true → find (is_stored n) es ≡ Some x
    → times b (map (λ e. e.text) es) ≡ times b (map (λ e. e.text) (staying (is_stored n) es)) + times b (x.text ∷ [])
text_count b n es x d f =
    let rest = staying (is_stored n) es in
    let g = λ (e : StoredEntry). e.text in
    let perm = IsPermutation-map g es (rest ++ x ∷ []) (moved_permutes (λ (e : StoredEntry). e.serial) n es x d f) in
    sym (times_permuted b (map g es) (map g (rest ++ x ∷ [])) perm) ∙ (ap (times b) (map-append g rest (x ∷ [])) ∙ times_append b (map g rest) (x.text ∷ []))

pub pair_blocks : (ts : List TableBlock) → map (λ b. b.1) (map table_pair ts) ≡ table_blocks ts
pair_blocks [] = refl
pair_blocks (t ∷ ts) = ap (λ l. t.block ∷ l) (pair_blocks ts)

pub table_count : (b : Block) (old freed new : List TableBlock) → IsPermutation old (freed ++ new) → times b (map (λ b. b.1) (map table_pair old)) ≡ times b (map (λ b. b.1) (map table_pair new)) + times b (table_blocks freed)
table_count b old freed new h =
    let g = λ (t : TableBlock). t.block in
    let perm = times_permuted b (table_blocks old) (table_blocks (freed ++ new)) (IsPermutation-map g old (freed ++ new) h) in
    let parts = ap (times b) (map-append g freed new) ∙ times_append b (table_blocks freed) (table_blocks new) in
    omega (arith, perm, parts, ap (times b) (pair_blocks old), ap (times b) (pair_blocks new))

pub use_count : (b : Block) (p : PlainServer) → times b (blocks_in_use p) ≡ times b (map (λ e. e.text) p.entries) + (times b (map (λ b. b.1) p.table_blocks) + times b (flat_map (λ c. c.blocks) p.chains))
use_count b p =
    times_append b (map (λ e. e.text) p.entries) (map (λ b. b.1) p.table_blocks ++ flat_map (λ c. c.blocks) p.chains)
    ∙ ap (λ n. times b (map (λ e. e.text) p.entries) + n) (times_append b (map (λ b. b.1) p.table_blocks) (flat_map (λ c. c.blocks) p.chains))

pub own_count : (b : Block) (free : List Block) (e : Entry) (freed : List TableBlock) → times b (own_blocks free e freed) ≡ times b free + (times b (e.text ∷ []) + times b (table_blocks freed))
own_count b free e freed = omega (arith, times_append b free (e.text ∷ table_blocks freed), times_append b (e.text ∷ []) (table_blocks freed))

-- ---- no task is on an entry that is idle

pub no_work : (j : Journal) (n : ℕ) (cs : List EntryChain) (ws : List SeatTask) → is_ended n j ≡ true → count_by (λ w. is_stream_of n w.task) ws ≡ 0 → AllByRecursion (SeatTaskIsSound j cs) ws → AllByRecursion (λ w. is_task_on n w ≡ false) ws
no_work j n cs [] ended none all = tt
no_work j n cs (w ∷ ws) ended none all =
    let sum = sum_by-cons (λ (w : SeatTask). cond (is_stream_of n w.task) 1 0) w ws in
    (by w.task w.seat (omega (arith, sum, none)) all.0.task, no_work j n cs ws ended (omega (arith, sum, none)) all.1)
  where
    by : (t : Task) (seat : ℕ) → ◌≡◌ {A = ℕ} (cond (is_stream_of n t) 1 0) 0 → TaskIsSound j seat t → unwrap_or (option_map (λ m. m == n) (serial_of t)) false ≡ false
    by task.Rest seat h k = refl
    by (task.Stream m) seat h k = elim (eqb m n) as (λ b. ◌≡◌ {A = ℕ} (cond b 1 0) 0 → b ≡ false) [
      | true ↦ λ (e : ◌≡◌ {A = ℕ} 1 0). absurd (omega (arith, e))
      | false ↦ λ e. refl
    ] h
    by (task.Fill m) seat h k = elim (eqb m n) as (λ b. eqb m n ≡ b → b ≡ false) [
      | true ↦ λ e. absurd (true≢false (sym (subst (λ i. is_ended i j ≡ true) (sym (eqb-true m n e)) ended) ∙ k.1))
      | false ↦ λ e. refl
    ] refl
