-- Blocks move down, with their words.
use Rattle.std.specs.Prelude.{◌≡◌, ℕ, zero, suc, ◌+◌, ◌<◌, ◌≤◌, List, [], ◌∷◌, length, slice_index, Some, None, if◌then◌else◌}
use Rattle.qc_tiles.specs.declared.blocks.Move.{Move}
use Rattle.qc_tiles.specs.declared.blocks.Tile.{Tile}
use Rattle.qc_tiles.specs.Tiles.{movable, after_move_down}
use Rattle.qc_chain.specs.Chains.{after_shift}
use Rattle.qc_dir.specs.Directory as dir
use Rattle.qc_turn.specs.declared.kept.Kept.{Ghosts}
use Rattle.qc_turn.specs.Tasks.{OutsideOtherFills}
use Rattle.qc_turn.specs.Seats.{Held, holder, words, taken, IsHeld, SameHolder}
use Rattle.qc_turn.specs.Releases.{IsFreeOfOthers}
use Rattle.qc_turn.specs.Views.{idle_of}
use Rattle.qc_core.specs.declared.server_state.ServerState.{ServerState}

-- the block of a move stands where it went, whatever it is for
abbrev pub shifted_by : Move → ServerState → ServerState
shifted_by change s = record s { tiles = after_move_down s.tiles; chains = after_shift change s.chains; dir = dir.after_shift change s.dir }

-- so many blocks moved, each the lowest that could: it was handed out, not pinned, and had a free block just below it
abbrev pub Moves : ℕ → ServerState → ServerState → Type 0
Moves zero old new = new ≡ old
Moves (suc k) old new = (mid : ServerState) × Moves k old mid × (change : Move) × (movable mid.tiles ≡ Some change) × (new ≡ shifted_by change mid)

-- At most one free block stands before the first pinned one, between two of them and behind the last. So many were seen since a pinned one.
abbrev pub OneFreeBetween : ℕ → List Tile → Type 0
OneFreeBetween seen [] = seen ≤ 1
OneFreeBetween seen (t ∷ ts) = (seen ≤ 1) × OneFreeBetween (if t.pinned then 0 else if t.free then seen + 1 else seen) ts

-- blocks moved until none could any more
pub record IsCompacted (old new : ServerState) : Type 0 where
  pub count : ℕ
  pub moves : Moves count old new
  pub last : movable new.tiles ≡ None
  pub free : OneFreeBetween 0 new.tiles

-- ---- the words of a move

module _ {V E : Type 0} {K : Ghosts V E} where
  -- the words that a move reads and writes are within the region, and in no task of another seat
  pub record MayCarry (h : Held V E K) (change : Move) : Type 0 where
    pub held : IsHeld h
    pub down : change.to < change.from
    pub within : change.from + change.words ≤ length (words h)
    pub free : (k : ℕ) → change.to ≤ k → k < change.from + change.words → OutsideOtherFills (holder h).number (K.tasks (taken h)) k × IsFreeOfOthers K (holder h).number (idle_of (holder h).found) k (taken h)

  -- so many words were carried; those that are still to be stand as they did, and so do those below and behind
  pub record HasCarried (h k : Held V E K) (change : Move) (count : ℕ) : Type 0 where
    pub held : IsHeld k
    pub same : SameHolder h k
    pub value : k.value ≡ h.value
    pub ranges : k.ranges ≡ h.ranges
    pub long : length (words k) ≡ length (words h)
    pub carried : (i : ℕ) → i < count → slice_index (words k) (change.to + i) ≡ slice_index (words h) (change.from + i)
    pub left : (i : ℕ) → count ≤ i → slice_index (words k) (change.from + i) ≡ slice_index (words h) (change.from + i)
    pub below : (j : ℕ) → j < change.to → slice_index (words k) j ≡ slice_index (words h) j
