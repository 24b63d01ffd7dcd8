-- Writes into a list of blocks, as the blocks before, at and behind the place.
use Rattle.std.proofs.Common.{◌≡◌, ℕ, ◌+◌, ◌-◌, ◌<◌, ◌≤◌, Bool, false, List, [], ◌∷◌, ◌++◌, length, take, drop, set, refl, ◌∙◌, zero, suc, add-one}
use Rattle.std.proofs.lemmas.Bool.{lt-leb}
use Rattle.std.proofs.lemmas.List.{set_split}
use Rattle.qc_tiles.specs.declared.blocks.Tile.{Tile}
use Rattle.qc_types.specs.Blocks.{least_block}
use Rattle.qc_tiles.specs.Tiles.{tile, cut}

pub set_is : (ts : List Tile) (k : ℕ) (t : Tile) → k < length ts → set ts k t ≡ take k ts ++ (t ∷ drop (k + 1) ts)
set_is ts k t within = rw add-one (set_split ts k t within)

pub cut_whole : (wanted : ℕ) (pinned : Bool) (t : Tile) → t.words < wanted + least_block → cut wanted pinned t ≡ tile t.first t.words false pinned ∷ []
cut_whole wanted pinned t h = rw (lt-leb (wanted + least_block) t.words h) refl
