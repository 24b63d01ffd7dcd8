-- The tiles after the lowest movable block moved down.
use Rattle.std.proofs.Common.{◌≡◌, ◌≢◌, ℕ, ◌+◌, ◌<◌, ◌≤◌, eqb, eq-eqb, ne_eqb, Bool, true, false, cond, List, [], ◌∷◌, ◌++◌, map, refl, sym, ap, subst, ◌∙◌, arith, true≢false}
use Rattle.std.specs.Prelude.{not, ◌&&◌, Option, Some, None, Contains, IsPermutation, ◌↔◌}
use Rattle.std.specs.List.{filter, flat_map, AllByRecursion}
use Rattle.std.proofs.lemmas.List.{map-append}
use Rattle.std.proofs.lemmas.List.Elements.{All-contains, All-from_recursion}
use Rattle.std.proofs.lemmas.List.Sorted.{IsPermutation-map}
use Rattle.qc_types.specs.declared.names.TableName.{TableName}
use Rattle.qc_model.specs.Licence.{region_words}
use Rattle.qc_tiles.specs.declared.blocks.Tile.{Tile}
use Rattle.qc_tiles.specs.declared.blocks.Block.{Block}
use Rattle.qc_tiles.specs.declared.blocks.Move.{Move}
use Rattle.qc_tiles.specs.Tiles.{CoversFrom, tile, free_tile, block_of, handed_out, may_move, movable, swapped, joined, moved, after_move_down}
use Rattle.qc_tiles.proofs.Tilings.{AreUnpinned}
use Rattle.qc_tiles.proofs.Keeps.{after_move_down-tiling}
use Rattle.qc_chain.proofs.Releases.{joined-used}
use Rattle.qc_turn.specs.declared.task.ListedTask.{ListedTask}
use Rattle.qc_sound.specs.PlainServer.{PlainServer, StoredEntry, EntryChain, SeatTask, blocks_of, listed, listed_tasks}
use Rattle.qc_sound.specs.Moment.{Moment}
use Rattle.qc_sound.specs.parts.Memory.{TilesAreSound, blocks_in_use, blocks_of_tasks, pinned_blocks}
use Rattle.qc_sound.specs.steps.Moving.{moved_entry, moved_chain, shifted, TilesMoved, MovesTiles}
use Rattle.qc_sound.proofs.Lists.{both_true, opposite, all_chains}
use Rattle.qc_sound.proofs.Moving.{stays, each_in, move_lists}
use Rattle.qc_sound.proofs.Places.{AreLarge, Goes, goes, from_first}
use Rattle.qc_sound.proofs.Handed.{joined-pins, unpinned-cons}

-- ---- one step of the walk

-- what the block that may move and the free one below it are
record Movable (t u : Tile) : Type 0 where
  pub free : t.free ≡ true
  pub used : u.free ≡ false
  pub unpinned : u.pinned ≡ false

is_movable : (t u : Tile) → may_move t u ≡ true → Movable t u
is_movable t u e =
    let parts = both_true t.free (not u.free && not u.pinned) e in
    let rest = both_true (not u.free) (not u.pinned) parts.1 in
    record { free = parts.0; used = opposite u.free rest.0; unpinned = opposite u.pinned rest.1 }

abbrev going : Tile → Tile → Move
going t u = record { from = u.first; to = t.first; words = u.words }

behind : (at first : ℕ) (bs : List Block) → at < first → AllByRecursion (λ b. first ≤ b.first) bs → AllByRecursion (λ b. b.first ≢ at) bs
behind at first [] l h = tt
behind at first (b ∷ bs) l h = ((λ e. absurd (omega (arith, e, h.0, l))), behind at first bs l h.1)

-- ---- what is handed out

swapped-used : (first end : ℕ) (ts : List Tile) (change : Move) → CoversFrom first end ts → AreLarge ts → movable ts ≡ Some change → handed_out (swapped ts) ≡ map (moved change) (handed_out ts)
swapped-used first end [] change c l m = absurd cc
swapped-used first end (t ∷ []) change c l m = absurd cc
swapped-used first end (t ∷ u ∷ ts) change c l m = elim (may_move t u) as (λ b. may_move t u ≡ b → cond b (Some (going t u)) (movable (u ∷ ts)) ≡ Some change → handed_out (cond b (tile t.first u.words false false ∷ free_tile (t.first + u.words) t.words ∷ ts) (t ∷ swapped (u ∷ ts))) ≡ map (moved change) (handed_out (t ∷ u ∷ ts))) [
  | true ↦ λ e f. subst (λ (z : Move). handed_out (tile t.first u.words false false ∷ free_tile (t.first + u.words) t.words ∷ ts) ≡ map (moved z) (handed_out (t ∷ u ∷ ts))) (some_is (going t u) change f) (here e)
  | false ↦ λ e f.
      let more = swapped-used (first + t.words) end (u ∷ ts) change c.1 l.1 f in
      let r = goes (first + t.words) end (u ∷ ts) change c.1 f in
      let same : moved change (block_of t) ≡ block_of t = ap (λ v. cond v (record { first = change.to; words = t.words }) (block_of t)) (ne_eqb t.first change.from (λ z. absurd (omega (arith, z, c.0, l.0, r.low, r.down)))) in
      elim (not t.free) as (λ b. map block_of (cond b (t ∷ filter (λ t. not t.free) (swapped (u ∷ ts))) (filter (λ t. not t.free) (swapped (u ∷ ts)))) ≡ map (moved change) (map block_of (cond b (t ∷ filter (λ t. not t.free) (u ∷ ts)) (filter (λ t. not t.free) (u ∷ ts))))) [
        | true ↦ λ i. sym same i ∷ more i
        | false ↦ more
      ]
] refl m
  where
    some_is : (a b : Move) → Some a ≡ Some b → a ≡ b
    some_is a b k = cc

    here : may_move t u ≡ true → handed_out (tile t.first u.words false false ∷ free_tile (t.first + u.words) t.words ∷ ts) ≡ map (moved (going t u)) (handed_out (t ∷ u ∷ ts))
    here e =
        let w = is_movable t u e in
        let first_is : moved (going t u) (block_of u) ≡ record { first = t.first; words = u.words } = ap (λ v. cond v (record { first = t.first; words = u.words }) (block_of u)) (eq-eqb u.first u.first refl) in
        let rest = stays (going t u) (handed_out ts) (behind u.first (first + t.words + u.words) (handed_out ts) (omega (arith, c.1.0, l.1.0)) (from_first (λ t. not t.free) (first + t.words + u.words) end ts c.1.1)) in
        rw w.free (rw w.used (λ i. sym first_is i ∷ sym rest i))

-- ---- what is pinned

swapped-pins : (ts : List Tile) → AreUnpinned ts → pinned_blocks (swapped ts) ≡ pinned_blocks ts
swapped-pins [] h = refl
swapped-pins (t ∷ []) h = refl
swapped-pins (t ∷ u ∷ ts) h = elim (may_move t u) as (λ b. may_move t u ≡ b → pinned_blocks (cond b (tile t.first u.words false false ∷ free_tile (t.first + u.words) t.words ∷ ts) (t ∷ swapped (u ∷ ts))) ≡ pinned_blocks (t ∷ u ∷ ts)) [
  | true ↦ λ e. let w = is_movable t u e in sym (unpinned-cons t (u ∷ ts) (h.0 w.free) ∙ unpinned-cons u ts w.unpinned)
  | false ↦ λ e.
      let more = swapped-pins (u ∷ ts) h.1 in
      elim t.pinned as (λ b. map block_of (cond b (t ∷ filter (λ t. t.pinned) (swapped (u ∷ ts))) (filter (λ t. t.pinned) (swapped (u ∷ ts)))) ≡ map block_of (cond b (t ∷ filter (λ t. t.pinned) (u ∷ ts)) (filter (λ t. t.pinned) (u ∷ ts)))) [
        | true ↦ ap (λ l. block_of t ∷ l) more
        | false ↦ more
      ]
] refl

swapped-unpinned : (ts : List Tile) → AreUnpinned ts → AreUnpinned (swapped ts)
swapped-unpinned [] h = tt
swapped-unpinned (t ∷ []) h = h
swapped-unpinned (t ∷ u ∷ ts) h = elim (may_move t u) as (λ b. AreUnpinned (cond b (tile t.first u.words false false ∷ free_tile (t.first + u.words) t.words ∷ ts) (t ∷ swapped (u ∷ ts)))) [
  | true ↦ ((λ _. refl), ((λ _. refl), h.1.1))
  | false ↦ (h.0, swapped-unpinned (u ∷ ts) h.1)
]

-- no pinned block is the one that moves
pinned_apart : (first end : ℕ) (ts : List Tile) (change : Move) → CoversFrom first end ts → AreLarge ts → AreUnpinned ts → movable ts ≡ Some change → AllByRecursion (λ b. b.first ≢ change.from) (pinned_blocks ts)
pinned_apart first end [] change c l n m = absurd cc
pinned_apart first end (t ∷ []) change c l n m = absurd cc
pinned_apart first end (t ∷ u ∷ ts) change c l n m = elim (may_move t u) as (λ b. may_move t u ≡ b → cond b (Some (going t u)) (movable (u ∷ ts)) ≡ Some change → AllByRecursion (λ b. b.first ≢ change.from) (pinned_blocks (t ∷ u ∷ ts))) [
  | true ↦ λ e f.
      let w = is_movable t u e in
      subst (λ (z : Move). AllByRecursion (λ b. b.first ≢ z.from) (pinned_blocks (t ∷ u ∷ ts))) (some_is (going t u) change f)
      (subst (AllByRecursion (λ b. b.first ≢ u.first)) (sym (unpinned-cons t (u ∷ ts) (n.0 w.free) ∙ unpinned-cons u ts w.unpinned))
      (behind u.first (first + t.words + u.words) (pinned_blocks ts) (omega (arith, c.1.0, l.1.0)) (from_first (λ t. t.pinned) (first + t.words + u.words) end ts c.1.1)))
  | false ↦ λ e f.
      let more = pinned_apart (first + t.words) end (u ∷ ts) change c.1 l.1 n.1 f in
      let r = goes (first + t.words) end (u ∷ ts) change c.1 f in
      elim t.pinned as (λ b. AllByRecursion (λ b. b.first ≢ change.from) (map block_of (cond b (t ∷ filter (λ t. t.pinned) (u ∷ ts)) (filter (λ t. t.pinned) (u ∷ ts))))) [
        | true ↦ ((λ z. absurd (omega (arith, z, c.0, l.0, r.low, r.down))), more)
        | false ↦ more
      ]
] refl m
  where
    some_is : (a b : Move) → Some a ≡ Some b → a ≡ b
    some_is a b k = cc

-- ---- what is in use

module _ (change : Move) where
  texts_moved : (es : List StoredEntry) → map (moved change) (map (λ e. e.text) es) ≡ map (λ e. e.text) (map (moved_entry change) es)
  texts_moved [] = refl
  texts_moved (e ∷ es) = ap (λ l. moved change e.text ∷ l) (texts_moved es)

  tables_moved : (bs : List (TableName × Block)) → map (moved change) (map (λ (b : TableName × Block). b.1) bs) ≡ map (λ (b : TableName × Block). b.1) (map (λ (b : TableName × Block). (b.0, moved change b.1)) bs)
  tables_moved [] = refl
  tables_moved (b ∷ bs) = ap (λ l. moved change b.1 ∷ l) (tables_moved bs)

  chains_moved : (cs : List EntryChain) → map (moved change) (all_chains cs) ≡ all_chains (map (moved_chain change) cs)
  chains_moved [] = refl
  chains_moved (c ∷ cs) = map-append (moved change) c.blocks (all_chains cs) ∙ ap (λ l. map (moved change) c.blocks ++ l) (chains_moved cs)

  use_moved : (tiles : List Tile) (s : PlainServer) → map (moved change) (blocks_in_use s) ≡ blocks_in_use (shifted change tiles s)
  use_moved tiles s =
      let texts = map (λ (e : StoredEntry). e.text) s.entries in
      let tables = map (λ (b : TableName × Block). b.1) s.table_blocks in
      map-append (moved change) texts (tables ++ all_chains s.chains)
      ∙ (λ i. texts_moved s.entries i ++ (map-append (moved change) tables (all_chains s.chains) ∙ (λ k. tables_moved s.table_blocks k ++ chains_moved s.chains k)) i)

  held_moved : (held : List Block) (tiles : List Tile) (s : PlainServer) → map (moved change) (held ++ blocks_in_use s) ≡ map (moved change) held ++ blocks_in_use (shifted change tiles s)
  held_moved held tiles s = map-append (moved change) held (blocks_in_use s) ∙ ap (λ l. map (moved change) held ++ l) (use_moved tiles s)

-- ---- the blocks of tasks

abbrev listed_blocks : PlainServer → List Block
listed_blocks s = flat_map (λ (t : ListedTask). t.blocks) (listed_tasks s)

of_tasks : (s : PlainServer) → blocks_of_tasks s ≡ listed_blocks s
of_tasks s = by s.tasks
  where
    by : (ws : List SeatTask) → flat_map (λ w. blocks_of s.chains w.task) ws ≡ flat_map (λ (t : ListedTask). t.blocks) (map (listed s.chains) ws)
    by [] = refl
    by (w ∷ ws) = ap (λ l. blocks_of s.chains w.task ++ l) (by ws)

-- ---- the law

pub moves_tiles : MovesTiles
moves_tiles moment s change h is =
    let W = region_words s.options in
    let us = after_move_down s.tiles in
    let out : handed_out us ≡ map (moved change) (handed_out s.tiles) = joined-used (swapped s.tiles) ∙ swapped-used 0 W s.tiles change h.tiling.covers h.tiling.large is in
    let pins : pinned_blocks us ≡ pinned_blocks s.tiles = joined-pins (swapped s.tiles) (swapped-unpinned s.tiles h.tiling.unpinned) ∙ swapped-pins s.tiles h.tiling.unpinned in
    let off = pinned_apart 0 W s.tiles change h.tiling.covers h.tiling.large h.tiling.unpinned is in
    let apart = λ (b : Block) (k : Contains (blocks_of_tasks s) b). All-contains (λ b. b.first ≢ change.from) (pinned_blocks s.tiles) b (All-from_recursion (λ b. b.first ≢ change.from) (pinned_blocks s.tiles) off) ((h.pinned b).1 k) in
    let same : listed_blocks (shifted change us s) ≡ listed_blocks s = ap (λ (ts : List ListedTask). flat_map (λ (t : ListedTask). t.blocks) ts) (move_lists s change us apart) in
    record {
      tiles = record {
        tiling = after_move_down-tiling W s.tiles h.tiling;
        in_use = subst (λ l. IsPermutation l (map (moved change) moment.held ++ blocks_in_use (shifted change us s))) (sym out)
            (subst (IsPermutation (map (moved change) (handed_out s.tiles))) (held_moved change moment.held us s) (IsPermutation-map (moved change) (handed_out s.tiles) (moment.held ++ blocks_in_use s) h.in_use));
        pinned = λ b. subst (λ l. Contains l b ↔ Contains (blocks_of_tasks (shifted change us s)) b) (sym pins) (subst (λ l. Contains (pinned_blocks s.tiles) b ↔ Contains l b) (sym (of_tasks (shifted change us s) ∙ (same ∙ sym (of_tasks s)))) (h.pinned b));
      };
      listed = move_lists s change us apart;
    }
