-- The bytes of a key are stored in a block.
use Rattle.std.specs.Prelude.{◌≡◌, ℕ, ◌+◌, ◌<◌, ◌≤◌, List, [], ◌∷◌, length, slice_index}
use Rattle.qc_model.specs.Licence.{words_of_bytes}
use Rattle.qc_tiles.specs.declared.blocks.Block.{Block}
use Rattle.qc_turn.specs.declared.kept.Kept.{Ghosts}
use Rattle.qc_turn.specs.Releases.{IsFreeOfOthers}
use Rattle.qc_turn.specs.Views.{idle_of}
use Rattle.qc_turn.specs.Seats.{Held, holder, words, taken, IsHeld, SameHolder}
use Rattle.qc_sound.specs.parts.Contents.{text_of}

module _ {V E : Type 0} {K : Ghosts V E} where
  -- the block has room for so many bytes, and its words are in no task of another seat
  pub record MayStore (h : Held V E K) (block : Block) (bytes : ℕ) : Type 0 where
    pub held : IsHeld h
    pub few : words_of_bytes bytes ≤ block.words
    pub within : block.first + block.words ≤ length (words h)
    pub free : (k : ℕ) → block.first ≤ k → k < block.first + block.words → IsFreeOfOthers K (holder h).number (idle_of (holder h).found) k (taken h)

  -- the block begins with these bytes, and no word outside of it changed
  pub record HasStored (h k : Held V E K) (block : Block) (key : List ℕ) : Type 0 where
    pub held : IsHeld k
    pub same : SameHolder h k
    pub value : k.value ≡ h.value
    pub ranges : k.ranges ≡ h.ranges
    pub long : length (words k) ≡ length (words h)
    pub text : text_of (words k) (block ∷ []) (length key) ≡ key
    pub others : (j : ℕ) → (block.first ≤ j → j < block.first + block.words → ⊥) → slice_index (words k) j ≡ slice_index (words h) j
