-- The tasks that a value lists, each with the number of its seat.
use Rattle.std.specs.Prelude.{◌≡◌, ◌≢◌, ℕ, ◌⊎◌, ◌==◌, Bool, true, false, List, [], ◌∷◌, ◌++◌, length, filter, slice_index}
use Rattle.qc_tiles.specs.declared.blocks.Block.{Block}
use Rattle.qc_turn.specs.declared.task.ListedTask.{ListedTask}
use Rattle.qc_turn.specs.declared.task.Task.{Task}
use Rattle.qc_turn.specs.declared.task.Task.TheVariants.{Rest, Stream, Fill}
use Rattle.qc_turn.specs.Blocks.{places, Misses}

-- the tasks of the seat n
abbrev pub listed_for : ℕ → List ListedTask → List ListedTask
listed_for n ts = filter (λ t. t.number == n) ts

-- the places of all their words
abbrev pub places_of : List ListedTask → List ℕ
places_of [] = []
places_of (t ∷ ts) = places t.blocks ++ places_of ts

abbrev pub fill_of : Task → List Block → List ℕ
fill_of Rest bs = []
fill_of (Stream s) bs = []
fill_of (Fill s) bs = places bs

-- the places of the words of the fills among them
abbrev pub fill_places : List ListedTask → List ℕ
fill_places [] = []
fill_places (t ∷ ts) = fill_of t.task t.blocks ++ fill_places ts

-- what is listed for a seat that has this task and no other
abbrev pub own : ℕ → Task → List Block → List ListedTask
own n Rest bs = []
own n (Stream s) bs = record { number = n; task = Stream s; blocks = bs } ∷ []
own n (Fill s) bs = record { number = n; task = Fill s; blocks = bs } ∷ []

abbrev pub task_in : List ListedTask → Task
task_in [] = Rest
task_in (t ∷ ts) = t.task

abbrev pub blocks_in : List ListedTask → List Block
blocks_in [] = []
blocks_in (t ∷ ts) = t.blocks

-- how many words a task has
abbrev pub words_in : Task → List Block → ℕ
words_in Rest bs = 0
words_in (Stream s) bs = length (places bs)
words_in (Fill s) bs = length (places bs)

abbrev pub is_stream : Task → Bool
is_stream Rest = false
is_stream (Stream s) = true
is_stream (Fill s) = false

-- one stream is listed, which its seat has ended
abbrev pub IsEnded : ℕ → List ListedTask → Type 0
IsEnded n ts = (s : ℕ) × (bs : List Block) × (ts ≡ own n (Stream s) bs)

-- the task of the seat n is listed and no other of that seat; where it rests, an ended stream may be
abbrev pub IsListed : ℕ → Task → List Block → List ListedTask → Type 0
IsListed n t bs ts = (ts ≡ own n t bs) ⊎ ((t ≡ Rest) × IsEnded n ts)

-- the seat k is among those whose task word was found at 0
abbrev pub FoundIdle : List ℕ → ℕ → Type 0
FoundIdle idle k = Misses k idle → ⊥

-- what is listed for the seat k stays, but for a stream that was found ended and is struck off
abbrev pub KeepsListed : List ℕ → ℕ → List ListedTask → List ListedTask → Type 0
KeepsListed idle k old new = (new ≡ old) ⊎ (FoundIdle idle k × IsEnded k old × (new ≡ []))

-- the task that a seat has after its release, where this one is listed: an ended stream is none
abbrev pub released_task : Bool → Task → Task
released_task true t = t
released_task false (Stream s) = Rest
released_task false Rest = Rest
released_task false (Fill s) = Fill s

abbrev pub released_blocks : Task → List Block → List Block
released_blocks Rest bs = []
released_blocks (Stream s) bs = bs
released_blocks (Fill s) bs = bs

-- the ranges that a seat keeps are the blocks of its task
abbrev pub HasBlocks : Task → List Block → List Block → Type 0
HasBlocks Rest bs ranges = Unit {0}
HasBlocks (Stream s) bs ranges = ranges ≡ bs
HasBlocks (Fill s) bs ranges = ranges ≡ bs

-- the word k is in no fill of a seat other than n
abbrev pub OutsideOtherFills : ℕ → List ListedTask → ℕ → Type 0
OutsideOtherFills n ts k = (m : ℕ) → m ≢ n → Misses k (fill_places (listed_for m ts))

-- the same words but for those of the other seats' fills
abbrev pub Agrees : ℕ → List ListedTask → List ℕ → List ℕ → Type 0
Agrees n ts us ws = (length us ≡ length ws) × ((k : ℕ) → OutsideOtherFills n ts k → slice_index us k ≡ slice_index ws k)
