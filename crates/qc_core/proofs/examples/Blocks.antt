-- Whose blocks are kept of an entry that is pruned for a start, what hangs on it, and what a start adds to the chains.
use Rattle.std.proofs.Common.{◌≡◌, ℕ, List, [], ◌∷◌, refl, sym, true, false, true≢false}
use Rattle.std.specs.Prelude.{codes, Some, None}
use Rattle.qc_types.specs.declared.names.TableName.{TableName}
use Rattle.qc_tiles.specs.declared.blocks.Block.{Block}
use Rattle.qc_tiles.specs.declared.blocks.Tile.{Tile}
use Rattle.qc_tiles.specs.Tiles.{tile, free_tile, taken, after_take}
use Rattle.qc_chain.specs.Chains.{Chain, Chained, empty_chain, whole_chain, with_chain, after_append, after_release}
use Rattle.qc_dir.specs.declared.entries.Entry.{Entry}
use Rattle.qc_dir.specs.declared.tables.TableBlock.{TableBlock}
use Rattle.qc_core.specs.EntryRemoval.{AreSorted, own_blocks}

abbrev block : ℕ → ℕ → Block
block first words = record { first = first; words = words }

abbrev t : TableName
t = record { db = codes "d"; name = codes "t" }

abbrev u : TableName
u = record { db = codes "d"; name = codes "u" }

abbrev of_t : TableBlock
of_t = record { table = t; block = block 0 64 }

abbrev of_u : TableBlock
of_u = record { table = u; block = block 320 64 }

-- ---- an entry on t and u goes for a start on u: the block of u stays, and that of t is given back

sorted : AreSorted (u ∷ []) (of_u ∷ []) (of_t ∷ [])
sorted = record { own = (refl, tt); foreign = (refl, tt) }

-- the block of t doesn't stay
none_else : (others : List TableBlock) → AreSorted (u ∷ []) (of_t ∷ []) others → ⊥
none_else others h = true≢false (sym h.own.0)

-- nor is that of u given back
no_less : (kept : List TableBlock) → AreSorted (u ∷ []) kept (of_u ∷ []) → ⊥
no_less kept h = true≢false h.foreign.0

-- a fill, which has no tables, keeps none
none_kept : (kept others : List TableBlock) → AreSorted [] kept others → kept ≡ []
none_kept [] others h = refl
none_kept (b ∷ kept) others h = absurd (true≢false (sym h.own.0))

-- ---- 384 words, with a unit of 192: the entry on t, the block of u, and the start on u wants its unit and 128 words for its key

abbrev tiles : List Tile
tiles = tile 0 64 false false ∷ tile 64 64 false false ∷ free_tile 128 128 ∷ tile 256 64 false false ∷ tile 320 64 false false ∷ []

abbrev entry : Entry
entry = record { serial = 1; hash = 0; text = block 256 64; text_bytes = 1; tables = t ∷ []; chain = record { number = 0 }; complete = true; users = 0 }

-- all its blocks are given back, and both needs are met
abbrev gone : List Tile
gone = free_tile 0 320 ∷ tile 320 64 false false ∷ []

gives_back : after_release (own_blocks (block 64 64 ∷ []) entry (of_t ∷ [])) tiles ≡ gone
gives_back = refl

first_found : taken 192 gone ≡ Some (block 0 192)
first_found = refl

key_found : taken 128 (after_take 192 gone) ≡ Some (block 192 128)
key_found = refl

-- without the block of t the key would find none
abbrev less : List Tile
less = tile 0 64 false false ∷ free_tile 64 256 ∷ tile 320 64 false false ∷ []

gives_less : after_release (own_blocks (block 64 64 ∷ []) entry []) tiles ≡ less
gives_less = refl

key_lost : taken 128 (after_take 192 less) ≡ None
key_lost = refl

-- ---- a chain under the free name 1, and the others as they were

abbrev chain : ℕ → Chain
chain first = whole_chain (block first 64 ∷ [])

abbrev chains : Chained
chains = record { chains = Some (chain 64) ∷ None ∷ Some (chain 128) ∷ []; room = 4 }

one_more : after_append 1 (block 0 192) empty_chain (with_chain 1 (Some empty_chain) chains) ≡ record { chains = Some (chain 64) ∷ Some (whole_chain (block 0 192 ∷ [])) ∷ Some (chain 128) ∷ []; room = 3 }
one_more = refl
