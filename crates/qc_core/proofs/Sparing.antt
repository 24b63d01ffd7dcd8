-- An entry is out, and the blocks of its tables were given back but for those that are kept.
use Rattle.std.proofs.Common.{◌≡◌, ℕ, ◌+◌, ◌≤◌, true, false, List, [], ◌∷◌, ◌++◌, length, refl, sym, ap, subst, ◌∙◌, arith, true≢false}
use Rattle.std.specs.Prelude.{Some, IsPermutation}
use Rattle.std.specs.List.{list_any}
use Rattle.std.proofs.lemmas.List.Sorted.{IsPermutation-trans, IsPermutation-append_left, length_permutation}
use Rattle.qc_tiles.specs.declared.blocks.Tile.{Tile}
use Rattle.qc_tiles.specs.Tiles.{after_give_back}
use Rattle.qc_chain.specs.Chains.{after_release}
use Rattle.qc_dir.specs.declared.entries.Entry.{Entry}
use Rattle.qc_dir.specs.declared.tables.TableBlock.{TableBlock}
use Rattle.qc_dir.specs.Directory.{Directory, entry_at, names_table, RemovesEntry}
use Rattle.qc_core.specs.declared.server_state.ServerState.{ServerState}
use Rattle.qc_core.specs.EntryRemoval.{table_blocks, own_blocks, has_task, free_chain, chain_left, MayLeave, left_by, Leaves, AreSorted}
use Rattle.qc_core.specs.declared.reserved_blocks.ReservedBlocks.{ReservedBlocks}
use Rattle.qc_core.specs.BlocksReserved.{nothing, own_in}
use Rattle.qc_core.specs.Allocation.{MayKeep, LeavesKeeping}
use Rattle.qc_core.proofs.Leaving.{release_append, same_entry}
use Rattle.qc_core.proofs.TheirBlocks.{permuted_all}

pub left_keeping : (n : ℕ) (s : ServerState) (u : MayLeave n s) (e : Entry) (there : entry_at n s.dir.entries ≡ Some e) (freed : List TableBlock) (dir : Directory) (removed : RemovesEntry n freed s.dir dir) (others : List TableBlock) (x : ServerState) (ts us : List Tile)
    → x ≡ chain_left (has_task n s) e.chain.number u.held (record s { dir = dir }) → ts ≡ after_give_back e.text.first x.tiles → us ≡ after_release (table_blocks others) ts → record x { tiles = us } ≡ left_by x.dir (has_task n s) u.entry u.held others s
left_keeping n s u e there freed dir removed others x ts us a c d =
    let free = free_chain (has_task n s) u.held in
    let mid = after_release free s.tiles in
    let same = same_entry n s u e there freed dir removed in
    let tiles : us ≡ after_release (own_blocks free u.entry others) s.tiles =
    d ∙ (ap (after_release (table_blocks others)) (c ∙ ap (λ (y : ServerState). after_give_back e.text.first y.tiles) a) ∙ (ap (λ (y : Entry). after_release (table_blocks others) (after_give_back y.text.first mid)) (sym same) ∙ sym (release_append free (u.entry.text ∷ table_blocks others) s.tiles))) in
    let number : x ≡ chain_left (has_task n s) u.entry.chain.number u.held (record s { dir = dir }) = a ∙ ap (λ (y : Entry). chain_left (has_task n s) y.chain.number u.held (record s { dir = dir })) (sym same) in
    (λ i. record (number i) { tiles = tiles i }) ∙ (λ i. left_by (sym (ap (λ (y : ServerState). y.dir) a) i) (has_task n s) u.entry u.held others s)

-- ---- nothing is kept for no tables

pub room_for_none : (n : ℕ) (s : ServerState) (hand : ReservedBlocks) → hand ≡ nothing → MayKeep n hand s
room_for_none n s hand is = λ freed rest left. subst (λ (h : ReservedBlocks). length h.fresh + own_in h.tables freed ≤ 8) (sym is) (few freed)
  where
    none : (bs : List TableBlock) → own_in [] bs ≡ 0
    none [] = refl
    none (b ∷ bs) = omega (arith, none bs)

    few : (bs : List TableBlock) → length nothing.fresh + own_in nothing.tables bs ≤ 8
    few bs = omega (arith, none bs)

none_kept : (kept others : List TableBlock) → AreSorted [] kept others → kept ≡ []
none_kept [] others h = refl
none_kept (b ∷ kept) others h = absurd (true≢false (sym h.own.0))

-- all blocks were given back
pub all_left : (n : ℕ) (s t : ServerState) (hand after : ReservedBlocks) → hand ≡ nothing → ((u : MayLeave n s) → LeavesKeeping n u.entry u.held hand after s t) → (u : MayLeave n s) → (freed : List TableBlock) × Leaves n u.entry u.held freed s t
all_left n s t hand after is f u =
    let g = f u in
    let r = g.removed in
    let none : g.kept ≡ [] = none_kept g.kept g.others (subst (λ (h : ReservedBlocks). AreSorted h.tables g.kept g.others) is g.sorts) in
    let parts : IsPermutation g.freed g.others = subst (λ l. IsPermutation g.freed (l ++ g.others)) none g.parts in (
      g.others,
      record {
        removed = record {
          entries = r.entries;
          tables = IsPermutation-trans s.dir.tables (g.freed ++ t.dir.tables) (g.others ++ t.dir.tables) r.tables (IsPermutation-append_left t.dir.tables g.freed g.others parts);
          kept = r.kept;
          unnamed = permuted_all (λ (b : TableBlock). list_any (names_table b.table) t.dir.entries ≡ false) g.freed g.others parts r.unnamed;
          room = r.room;
          table_room = r.table_room ∙ ap (λ k. s.dir.table_room + k) (sym (length_permutation g.freed g.others parts));
        };
        server = g.server;
      },
    )
