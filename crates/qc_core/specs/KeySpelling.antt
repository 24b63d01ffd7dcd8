-- Bytes in words, compared word by word.
use Rattle.std.specs.Prelude.{◌≡◌, ℕ, ◌+◌, ◌-◌, ◌*◌, ◌/◌, ◌%◌, ◌<◌, ◌≤◌, Bool, true, ◌&&◌, ◌==◌, List, [], ◌∷◌, map, take, drop, length, slice_index}
use Rattle.qc_tiles.specs.declared.blocks.Block.{Block}
use Rattle.qc_model.specs.Licence.{words_of_bytes}
use Rattle.qc_turn.specs.declared.kept.Kept.{Ghosts}
use Rattle.qc_turn.specs.Blocks.{counted}
use Rattle.qc_turn.specs.Tasks.{OutsideOtherFills}
use Rattle.qc_turn.specs.Seats.{Held, holder, words, taken, IsHeld, SameHolder}

-- the low bytes of a word are these
abbrev pub spells : ℕ → List ℕ → Bool
spells left [] = true
spells left (b ∷ p) = left % 256 == b && spells (left / 256) p

-- the words have these bytes, eight in each
abbrev pub is_text : List ℕ → List ℕ → Bool
is_text [] key = true
is_text (w ∷ ws) key = spells w (take 8 key) && is_text ws (drop 8 key)

-- so many words from a place on
abbrev pub read : List ℕ → ℕ → ℕ → List ℕ
read ws first count = map (λ i. slice_index ws i) (counted first count)

module _ {V E : Type 0} {K : Ghosts V E} where
  -- nothing changed but what the seat has read
  pub record IsSame (h k : Held V E K) : Type 0 where
    pub held : IsHeld k
    pub same : SameHolder h k
    pub words : words k ≡ words h
    pub value : k.value ≡ h.value
    pub ranges : k.ranges ≡ h.ranges

  -- the block's words may be read
  pub record MayRead (h : Held V E K) (block : Block) (bytes : ℕ) : Type 0 where
    pub few : words_of_bytes bytes ≤ block.words
    pub free : (k : ℕ) → block.first ≤ k → k < block.first + block.words → (k < length (words h)) × OutsideOtherFills (holder h).number (K.tasks (taken h)) k

  -- so many of the words have been compared
  pub record IsComparing (h k : Held V E K) (first count index : ℕ) (key : List ℕ) : Type 0 where
    pub same : IsSame h k
    pub rest : is_text (read (words h) (first + index) (count - index)) (drop (8 * index) key) ≡ is_text (read (words h) first count) key
