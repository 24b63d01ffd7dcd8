-- What a value has to be at the start, at a release and at the end.
use Rattle.std.specs.Prelude.{◌≡◌, ◌≢◌, ◌⊎◌, ℕ, ◌+◌, ◌*◌, ◌<◌, ◌≤◌, false, Some, List, [], length, replicate, take}
use mathlib.Core.Option.{some}
use lib.ListN.{get_elem?}
use Rattle.qc_turn.specs.declared.kept.Kept.{Ghosts}
use Rattle.qc_turn.specs.declared.view.View.{View}
use Rattle.qc_turn.specs.declared.view.MetSeat.{MetSeat}
use Rattle.qc_turn.specs.declared.view.Holding.{Holding}
use Rattle.qc_turn.specs.declared.view.Holding.TheVariants.{Free, Holds}
use Rattle.qc_turn.specs.declared.task.Task.TheVariants.{Fill}
use Rattle.qc_turn.specs.Blocks.{places, Misses}
use Rattle.qc_turn.specs.Bytes.{filled, filled_piece}
use Rattle.qc_turn.specs.Rules.{ContentRule}
use Rattle.qc_turn.specs.Tasks.{listed_for, places_of, FoundIdle, IsEnded, task_in, blocks_in, is_stream, IsListed, KeepsListed, released_task, released_blocks}
use Rattle.qc_turn.specs.Views.{of_seat, after_release}
use Rattle.qc_turn.specs.Words.{StartsWith}

module _ {V E : Type 0} (K : Ghosts V E) where
  -- The value may be the first one, over words that are all 0.
  pub record IsFresh (size : ℕ) (x : V) : Type 0 where
    pub sound : K.sound (replicate size 0) x
    pub journal : K.journal x ≡ []
    pub connected : (n : ℕ) → K.connected x n ≡ false
    pub tasks : K.tasks x ≡ []

  -- The seat n made x of the value as taken: the journal goes on by events that name its session or none, and what other seats have stays.
  pub record Follows (n : ℕ) (idle : List ℕ) (taken x : V) : Type 0 where
    pub journal : StartsWith (K.journal x) (K.journal taken)
    pub others : (k : ℕ) → k ≢ n → of_seat K k (K.journal x) ≡ of_seat K k (K.journal taken)
    pub fixed : K.fixed x ≡ K.fixed taken
    pub connected : (k : ℕ) → k ≢ n → K.connected x k ≡ K.connected taken k
    pub tasks : (k : ℕ) → k ≢ n → KeepsListed idle k (listed_for k (K.tasks taken)) (listed_for k (K.tasks x))

  -- the word k is in no task of a seat other than n; a stream that was found ended is none
  abbrev pub IsFreeOfOthers : ℕ → List ℕ → ℕ → V → Type 0
  IsFreeOfOthers n idle k b = (m : ℕ) → m ≢ n → Misses k (places_of (listed_for m (K.tasks b))) ⊎ (FoundIdle idle m × IsEnded m (listed_for m (K.tasks b)))

  abbrev pub HeldFreeOfOthers : ℕ → List ℕ → ℕ → Holding V → Type 0
  HeldFreeOfOthers n idle k Free = ⊥
  HeldFreeOfOthers n idle k (Holds b ws) = IsFreeOfOthers n idle k b

  -- what the task spells that the seat has after the release
  abbrev pub SpellsReleased : View V E → V → List ℕ → Type 0
  SpellsReleased v x words = let w = after_release K v x words in ContentRule K x words w.task w.blocks w.content

  -- the task that the seat has after the release is listed, and its task word is set where that is a stream
  abbrev pub ListsReleased : View V E → V → Type 0
  ListsReleased v x = let ts = listed_for v.number (K.tasks x) in let t = released_task v.word_set (task_in ts) in IsListed v.number t (released_blocks t (blocks_in ts)) ts × (v.word_set ≡ is_stream t)

  -- The seat may store x at the index i of its fill, which then has count bytes.
  pub record MayFill (v : View V E) (i x count : ℕ) : Type 0 where
    pub serial : ℕ
    pub task : v.task ≡ Fill serial
    pub inside : i < length (places v.blocks)
    pub reached : 8 * i ≤ length v.content
    pub low : 8 * i ≤ count
    pub high : count ≤ 8 * i + 8
    pub fits : K.fits v.seen serial (filled v.content i x count)

  -- The seat may store these values one after another from the index i of its fill on, which then has count bytes.
  pub record MayFillPiece (v : View V E) (i : ℕ) (values : List ℕ) (count : ℕ) : Type 0 where
    pub serial : ℕ
    pub task : v.task ≡ Fill serial
    pub some : 0 < length values
    -- each value has a word of the fill
    pub inside : i + length values ≤ length (places v.blocks)
    -- the bytes so far reach the first of these words
    pub reached : 8 * i ≤ length v.content
    -- the bytes end in the last of these words
    pub low : 8 * (i + length values) ≤ count + 8
    pub high : count ≤ 8 * (i + length values)
    -- so do those that are there after each store
    pub fits : (n : ℕ) → 8 * i ≤ n → K.fits v.seen serial (take n (filled_piece v.content i values count))

  -- What the first seat, whose view is v, knows of the last value.
  pub record ClosesWith (v : View V E) (x : V) : Type 0 where
    pub sound : (words : List ℕ) × (length words ≡ v.size) × K.sound words x
    pub seen : StartsWith (K.journal x) v.seen
    pub fixed : v.fixed ≡ K.fixed x
    pub own : v.events ≡ of_seat K 1 (K.journal x)
    pub met : (k : ℕ) (kept : MetSeat E) → get_elem? v.registry k ≡ some (Some kept) → (kept.events ≡ of_seat K (k + 2) (K.journal x)) × StartsWith (K.journal x) kept.seen
    pub others : (n : ℕ) → length v.registry + 1 < n → of_seat K n (K.journal x) ≡ []
