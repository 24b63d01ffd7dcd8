-- What is true of the lock between any two steps of any threads.
use Rattle.std.specs.Prelude.{◌≡◌, ◌≢◌, ℕ, ◌+◌, ◌-◌, ◌<◌, ◌≤◌, true, false, Option, Some, None, List, [], length, take, slice_index}
use mathlib.Core.Option.{some, none}
use lib.ListN.{get_elem?}
use Rattle.atomic_table.specs.Table.{State}
use Rattle.qc_turn.specs.declared.kept.Kept.{Ghosts}
use Rattle.qc_turn.specs.declared.view.View.{View}
use Rattle.qc_turn.specs.declared.view.MetSeat.{MetSeat}
use Rattle.qc_tiles.specs.declared.blocks.Block.{Block}
use Rattle.qc_turn.specs.declared.view.Holding.{Holding}
use Rattle.qc_turn.specs.declared.view.Holding.TheVariants.{Free, Holds}
use Rattle.qc_turn.specs.declared.task.Task.{Task}
use Rattle.qc_turn.specs.declared.task.Task.TheVariants.{Rest, Stream, Fill}
use Rattle.qc_turn.specs.Blocks.{spelled}
use Rattle.qc_turn.specs.Bytes.{bytes_of}
use Rattle.qc_turn.specs.Tasks.{listed_for, is_stream, IsListed, FoundIdle, Agrees}
use Rattle.qc_turn.specs.Views.{Apart, of_seat, idle_of, IsSoundJournal}
use Rattle.qc_turn.specs.Words.{StartsWith, region, task_words_of, line_of, bit, extra_words, last_seat}

module _ {V E : Type 0} (K : Ghosts V E) where
  -- Who holds the turn has its number in the turn word, and knows the value as it was taken and the words but those of the others' fills.
  abbrev pub HoldingRule : ℕ → List ℕ → V → ℕ → Holding V → Type 0
  HoldingRule turn_word words base n Free = turn_word ≢ n
  HoldingRule turn_word words base n (Holds b us) = (turn_word ≡ n) × (b ≡ base) × Agrees n (K.tasks base) us words

  -- A stream's blocks spell its words. A fill's bytes are the first ones of its blocks, and may stand there by the value's journal.
  abbrev pub ContentRule : V → List ℕ → Task → List Block → List ℕ → Type 0
  ContentRule base words Rest bs content = Unit {0}
  ContentRule base words (Stream s) bs content = content ≡ spelled words bs
  ContentRule base words (Fill s) bs content = (content ≡ take (length content) (bytes_of (spelled words bs))) × K.fits (K.journal base) s content

  -- Of the seat that holds the turn the same is said with the words of the moment at which it took it.
  abbrev pub TaskRule : V → List ℕ → Holding V → Task → List Block → List ℕ → Type 0
  TaskRule base words Free task bs content = ContentRule base words task bs content
  TaskRule base words (Holds b us) task bs content = (over : List ℕ) × K.sound over b × ContentRule b over task bs content

  -- What a seat knows is true. `base` is the value in its slot, or as the holder took it.
  pub record SeatRule (size turn_word : ℕ) (words task_words : List ℕ) (base : V) (registry : List (Option (MetSeat E))) (v : View V E) : Type 0 where
    pub sized : v.size ≡ size
    pub numbered : v.number ≤ length registry + 1
    pub first : v.number ≡ 1 → v.registry ≡ registry
    pub unmet : 1 < v.number → get_elem? registry (v.number - 2) ≡ some None
    pub seen : StartsWith (K.journal base) v.seen
    pub was_sound : IsSoundJournal K v.seen
    pub fixed : v.fixed ≡ K.fixed base
    pub events : v.events ≡ of_seat K v.number (K.journal base)
    pub connected : v.connected ≡ K.connected base v.number
    pub listed : IsListed v.number v.task v.blocks (listed_for v.number (K.tasks base))
    pub task_word : slice_index task_words (line_of v.number) ≡ bit v.word_set
    pub word_set : v.holding ≡ Free → v.word_set ≡ is_stream v.task
    -- the stream of a seat that holds the turn goes on
    pub goes_on : is_stream v.task ≡ true → v.word_set ≡ true
    pub idle : (k : ℕ) → k ≢ v.number → FoundIdle (idle_of v.found) k → (0 < k) × (slice_index task_words (line_of k) ≡ 0)
    pub none_found : v.holding ≡ Free → v.found ≡ []
    pub holding : HoldingRule turn_word words base v.number v.holding
    pub content : TaskRule base words v.holding v.task v.blocks v.content

  -- A seat that was made and met has done what the registry keeps of it, and no task of it goes on.
  pub record MetRule (task_words : List ℕ) (base : V) (n : ℕ) (kept : MetSeat E) : Type 0 where
    pub events : kept.events ≡ of_seat K n (K.journal base)
    pub seen : StartsWith (K.journal base) kept.seen
    pub listed : IsListed n Rest [] (listed_for n (K.tasks base))
    pub task_word : slice_index task_words (line_of n) ≡ 0

  -- A seat that wasn't made has done nothing.
  pub record UnmadeRule (task_words : List ℕ) (base : V) (n : ℕ) : Type 0 where
    pub events : of_seat K n (K.journal base) ≡ []
    pub connected : K.connected base n ≡ false
    pub listed : listed_for n (K.tasks base) ≡ []
    pub task_word : slice_index task_words (line_of n) ≡ 0

  -- The rule of the turn.
  pub record TurnRule (size : ℕ) (s : State (Option V) (View V E)) : Type 0 where
    -- the value in its slot, or as the holder took it
    pub base : V
    -- of each seat made but the first, in order: what it did, once it was met
    pub registry : List (Option (MetSeat E))
    pub few : length registry + 1 ≤ last_seat
    pub width : length s.words ≡ size + extra_words
    -- where the turn word is 0, the value is in its slot and sound over the words
    pub in_slot : slice_index s.words 0 ≡ 0 → (get_elem? s.homes 0 ≡ some (some (Some base))) × K.sound (region size s.words) base
    -- else the turn word is the number of a seat, which has the slot
    pub out_of_slot : slice_index s.words 0 ≢ 0 → (get_elem? s.homes 0 ≡ some none) × ((holder : ℕ) × (v : View V E) × (get_elem? s.views holder ≡ some v) × (v.number ≡ slice_index s.words 0))
    pub was_sound : (over : List ℕ) × (length over ≡ size) × K.sound over base
    pub apart : Apart s.views
    pub each : (j : ℕ) (v : View V E) → get_elem? s.views j ≡ some v → v.number ≢ 0 → SeatRule size (slice_index s.words 0) (region size s.words) (task_words_of size s.words) base registry v
    pub met : (k : ℕ) (kept : MetSeat E) → get_elem? registry k ≡ some (Some kept) → MetRule (task_words_of size s.words) base (k + 2) kept
    pub unmade : (n : ℕ) → length registry + 1 < n → UnmadeRule (task_words_of size s.words) base n
    -- no seat has the number 0
    pub zero_number : (K.connected base 0 ≡ false) × (listed_for 0 (K.tasks base) ≡ [])
