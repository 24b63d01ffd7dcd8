use Rattle.std.proofs.Common.{◌≡◌, ℕ, sym, ◌∙◌, Option, Some, None, MatchOption}
use Rattle.qc_tiles.specs.declared.blocks.Tile.{Tile}
use Rattle.qc_tiles.specs.Tiles.{region_words, movable}
use Rattle.qc_tiles.specs.Cells.{block_at}
use Rattle.qc_tiles.specs.Ready.{IsPassed}
use Rattle.qc_tiles.proofs.Passing.{starts, quiet_at_0, nothing_at_0}
use Rattle.qc_tiles.proofs.walk.first_tile.Goals as goal

pub returns-in-Some : goal.returns-in-Some
returns-in-Some c = starts (region_words c.args.places.now) c.args.from c.args.places.now c.in-Some.tile c.requires.tiling c.requires.quiet (sym c.get.ensures ∙ c.in-Some.is)

pub returns-in-None : goal.returns-in-None
returns-in-None c =
    let ts = c.args.places.now in
    let by : (o : Option Tile) → o ≡ block_at 0 ts → MatchOption o (movable ts ≡ None) (λ t. (k : ℕ) × IsPassed ts k t) = (λ o. elim o as (λ (p : Option Tile). p ≡ block_at 0 ts → MatchOption p (movable ts ≡ None) (λ t. (k : ℕ) × IsPassed ts k t)) [
      | None ↦ λ e. nothing_at_0 (region_words ts) ts c.requires.tiling.covers (sym e)
      | Some t ↦ λ e. starts (region_words ts) 0 ts t c.requires.tiling (quiet_at_0 (region_words ts) ts c.requires.tiling) (sym e)
    ]) in
    by c.get-in-None.result c.get-in-None.ensures
