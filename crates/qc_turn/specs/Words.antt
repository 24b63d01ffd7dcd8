-- The words of the table: the turn word, the region, and a task word for each of the first seats.
-- The turn word and each task word stand on a line of the processor's cache of their own: 64 bytes, 8 words. Threads that use one of them leave the lines of the others where they are.
use Rattle.std.specs.Prelude.{◌≡◌, ℕ, ◌+◌, ◌*◌, Bool, true, false, List, ◌++◌, length, take, drop, cond, ltb}

-- the words of the largest region
abbrev pub most_words : ℕ
most_words = 8388608

-- how many seats have a task word: those with the numbers from 1 to this
abbrev pub word_seats : ℕ
word_seats = 65

-- the words of a line
abbrev pub line_words : ℕ
line_words = 8

-- the words of a table beside its region: the line of the turn word, a line behind the region, and that of each task word
abbrev pub extra_words : ℕ
extra_words = 536

-- the largest number of a seat
abbrev pub last_seat : ℕ
last_seat = 4294967295

-- where the table has this word of the region
abbrev pub region_word : ℕ → ℕ
region_word place = place + line_words

-- where the task word of the seat n stands behind the region
abbrev pub line_of : ℕ → ℕ
line_of n = line_words * n

-- where the table has the task word of the seat n, beside a region of this size
abbrev pub task_word : ℕ → ℕ → ℕ
task_word size n = region_word size + line_of n

-- the words of the region
abbrev pub region : ℕ → List ℕ → List ℕ
region size words = take size (drop line_words words)

-- the words behind the region; the task word of the seat n is the first one of the line n
abbrev pub task_words_of : ℕ → List ℕ → List ℕ
task_words_of size words = drop (region_word size) words

-- what a task word is: 1 where its seat has a stream
abbrev pub bit : Bool → ℕ
bit true = 1
bit false = 0

module _ {E : Type 0} where
  -- the list begins with these
  abbrev pub StartsWith : List E → List E → Type 0
  StartsWith xs ys = (rest : List E) × (xs ≡ ys ++ rest)

  abbrev pub longer : List E → List E → List E
  longer xs ys = cond (ltb (length xs) (length ys)) ys xs
