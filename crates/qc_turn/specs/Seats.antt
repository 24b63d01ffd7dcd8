-- What a clause says of a turn, a seat and a holding.
use Rattle.std.specs.Prelude.{◌≡◌, ℕ, None, List, [], ◌∷◌, length}
use Rattle.atomic_table.specs.Seated.{TableId}
use Rattle.qc_chain.specs.Chains.{Ranged}
use Rattle.qc_tiles.specs.declared.blocks.Block.{Block}
use Rattle.qc_turn.specs.declared.held.TurnGuard.{TurnGuard}
use Rattle.qc_turn.specs.declared.kept.Kept.{Ghosts}
use Rattle.qc_turn.specs.declared.seat.Seat.{Seat}
use Rattle.qc_turn.specs.declared.turn.Turn.{Turn}
use Rattle.qc_turn.specs.declared.view.View.{View}
use Rattle.qc_turn.specs.declared.view.Holding.TheVariants.{Free, Holds}
use Rattle.qc_turn.specs.Releases.{Follows}
use Rattle.qc_turn.specs.Tasks.{HasBlocks, words_in}
use Rattle.qc_turn.specs.Views.{IsSoundJournal, words_of, base_of, idle_of, with_holding}

abbrev pub Held : (V E : Type 0) → Ghosts V E → Type 0
Held V E K = TurnGuard V Ranged E K

-- no blocks, and room for none
abbrev pub no_ranges : Ranged
no_ranges = record { blocks = []; bytes = 0; room = 0 }

module _ {V E : Type 0} where
  abbrev pub turn_id : Turn V E → TableId
  turn_id t = t.table.shared.table_id

  -- the words of the seat's task
  abbrev pub task_words : View V E → ℕ
  task_words v = words_in v.task v.blocks

module _ {V E : Type 0} {K : Ghosts V E} where
  -- what the seat knows
  abbrev pub view : Seat V E K → View V E
  view s = s.pass.me.0

  -- The seat is one of this turn's and doesn't hold it. What it has seen was the journal of a value that was sound.
  pub record IsSeatOf (t : Turn V E) (s : Seat V E K) : Type 0 where
    pub table : s.pass.table_id ≡ turn_id t
    pub out : s.pass.me.1 ≡ []
    pub free : (view s).holding ≡ Free
    pub ranges : HasBlocks (view s).task (view s).blocks s.ranges.blocks
    pub was_sound : IsSoundJournal K (view s).seen

  -- of whichever turn the one is a seat, the other is too
  abbrev pub StaysSeat : Seat V E K → Seat V E K → Type 0
  StaysSeat old new = (t : Turn V E) → IsSeatOf t old → IsSeatOf t new

  -- the view of the seat that holds the turn
  abbrev pub holder : Held V E K → View V E
  holder h = view h.seat.now

  -- the words as they are now, but for those of the other seats' fills
  abbrev pub words : Held V E K → List ℕ
  words h = words_of (holder h).holding

  -- the value as it was taken
  abbrev pub taken : Held V E K → V
  taken h = base_of h.value (holder h).holding

  -- the blocks that the seat keeps
  abbrev pub held_blocks : Held V E K → List Block
  held_blocks h = h.ranges.blocks

  -- The seat holds the turn.
  pub record IsHeld (h : Held V E K) : Type 0 where
    pub table : h.seat.now.pass.table_id ≡ turn_id h.turn.now
    pub out : h.seat.now.pass.me.1 ≡ (0, None) ∷ []
    pub holding : (holder h).holding ≡ Holds (taken h) (words h)
    pub width : length (words h) ≡ h.turn.now.words

  -- The same seat holds the same turn, and took the same value.
  pub record SameHolder (h k : Held V E K) : Type 0 where
    pub seat : k.seat.ghost_name ≡ h.seat.ghost_name
    pub turn : k.turn.now ≡ h.turn.now
    pub holder : holder k ≡ with_holding (holder h) (Holds (taken h) (words k))

  abbrev pub with_value : Held V E K → V → Held V E K
  with_value h x = record h { value = x }

  abbrev pub with_ranges : Held V E K → Ranged → Held V E K
  with_ranges h r = record h { ranges = r }

  -- The value may be released as it is.
  pub record MayRelease (h : Held V E K) : Type 0 where
    pub held : IsHeld h
    pub sound : K.sound (words h) h.value
    pub follows : Follows K (holder h).number (idle_of (holder h).found) (taken h) h.value
