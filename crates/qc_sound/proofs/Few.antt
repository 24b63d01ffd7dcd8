-- How many blocks and tasks there are at most.
use Rattle.std.proofs.Common.{◌≡◌, ℕ, ◌+◌, ◌*◌, ◌<◌, ◌≤◌, eqb, Bool, true, false, cond, List, [], ◌∷◌, ◌++◌, map, length, refl, sym, ap, subst, ◌∙◌, arith, true≢false, length-append}
use Rattle.std.specs.Prelude.{not, ◌||◌, Option, Some, IsSomeAnd, ◌==◌}
use Rattle.std.specs.List.{list_any, filter, find, flat_map, AllByRecursion}
use Rattle.std.proofs.lemmas.List.{length-map}
use Rattle.std.proofs.lemmas.List.Sorted.{length_permutation}
use Rattle.qc_types.specs.declared.options.Options.{Options}
use Rattle.qc_types.specs.Blocks.{least_block}
use Rattle.qc_model.specs.Journal.{Journal}
use Rattle.qc_model.specs.Licence.{region_words}
use Rattle.qc_laws.proofs.history.Events.{all_on}
use Rattle.qc_tiles.specs.declared.blocks.Tile.{Tile}
use Rattle.qc_tiles.specs.Tiles.{CoversFrom, block_of, handed_out}
use Rattle.qc_turn.specs.Words.{word_seats}
use Rattle.qc_sound.specs.PlainServer.{PlainServer, StoredEntry, EntryChain, SeatTask, has_chain}
use Rattle.qc_sound.specs.Moment.{Moment}
use Rattle.qc_sound.specs.parts.Memory.{ChainFits, blocks_in_use}
use Rattle.qc_sound.specs.parts.Tasks.{SeatTaskIsSound}
use Rattle.qc_sound.specs.Sound.{IsSound}
use Rattle.qc_sound.specs.Room.{AreFew}
use Rattle.qc_sound.proofs.Crowds.{length_chains}
use Rattle.qc_sound.proofs.Growing.{entries_apart}
use Rattle.qc_sound.proofs.Lists.{all_map}
use Rattle.qc_sound.proofs.Matched.{total, matched}
use Rattle.qc_sound.proofs.Pigeons.{IsFromOne, few_seats}

-- blocks that are handed out fit between the ends
handed_words : (first end : ℕ) (ts : List Tile) → CoversFrom first end ts → AllByRecursion (λ t. least_block ≤ t.words) ts → first + 64 * length (handed_out ts) ≤ end
handed_words first end [] c h = omega (arith, c)
handed_words first end (t ∷ ts) c h =
    let more = handed_words (first + t.words) end ts c.1 h.1 in
    elim (not t.free) as (λ b. first + 64 * length (map block_of (cond b (t ∷ filter (λ t. not t.free) ts) (filter (λ t. not t.free) ts))) ≤ end) [
      | true ↦ omega (arith, more, h.0)
      | false ↦ omega (arith, more)
    ]

-- a chain that is there has a block
partner : (o : Options) (j : Journal) (n : ℕ) (cs : List EntryChain) → AllByRecursion (ChainFits o j) cs → has_chain n cs ≡ true → IsSomeAnd (find (λ c. c.serial == n) cs) (λ c. 1 ≤ length c.blocks)
partner o j n [] h k = absurd (true≢false (sym k))
partner o j n (c ∷ cs) h k = elim (eqb c.serial n) as (λ b. (b || has_chain n cs) ≡ true → IsSomeAnd (cond b (Some c) (find (λ c. c.serial == n) cs)) (λ c. 1 ≤ length c.blocks)) [
  | true ↦ λ _. h.0.first
  | false ↦ λ f. partner o j n cs h.1 f
] k

ones : (es : List StoredEntry) → total (λ e. 1) es ≡ length es
ones [] = refl
ones (e ∷ es) = omega (arith, ones es)

pub are_few : AreFew
are_few moment words s h =
    let held : length (handed_out s.tiles) ≡ length (moment.held ++ blocks_in_use s) = sym (length_permutation (handed_out s.tiles) (moment.held ++ blocks_in_use s) h.memory.tiles.in_use) in
    let bound = handed_words 0 (region_words s.options) s.tiles h.memory.tiles.tiling.covers h.memory.tiles.tiling.large in
    let chains = flat_map (λ (c : EntryChain). c.blocks) s.chains in
    let parts = length-append moment.held (blocks_in_use s) in
    let first = length-append (map (λ (e : StoredEntry). e.text) s.entries) (map (λ b. b.1) s.table_blocks ++ chains) in
    let second = length-append (map (λ b. b.1) s.table_blocks) chains in
    let texts : length (map (λ (e : StoredEntry). e.text) s.entries) ≡ length s.entries = length-map s.entries (λ e. e.text) in
    let tables : length (map (λ b. b.1) s.table_blocks) ≡ length s.table_blocks = length-map s.table_blocks (λ b. b.1) in
    let enough : total (λ e. 1) s.entries ≤ total (λ c. length c.blocks) s.chains =
    matched (λ e. e.serial) (λ c. c.serial) (λ e. 1) (λ c. length c.blocks) s.entries s.chains (entries_apart moment words s h)
    (all_on _ (λ e. IsSomeAnd (find (λ c. c.serial == e.serial) s.chains) (λ c. 1 ≤ length c.blocks)) s.entries (λ e k. partner s.options s.journal e.serial s.chains h.memory.chains.fitting k) h.memory.chains.entered) in
    let seats : length (map (λ (w : SeatTask). w.seat) s.tasks) ≤ 65 = few_seats 65 (map (λ w. w.seat) s.tasks) h.tasks.one_each (all_map (SeatTaskIsSound s.journal s.chains) (IsFromOne 65) (λ w. w.seat) s.tasks (λ w k. (k.seat.low, k.seat.high)) h.tasks.each) in
    let same : length (map (λ (w : SeatTask). w.seat) s.tasks) ≡ length s.tasks = length-map s.tasks (λ w. w.seat) in
    record {
      blocks = omega (arith, held, bound, parts, first, second, texts, tables);
      chained = omega (arith, enough, ones s.entries, length_chains s.chains);
      tasks = omega (arith, seats, same);
    }
