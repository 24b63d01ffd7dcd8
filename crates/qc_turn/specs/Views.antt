-- How each call changes what a seat knows.
use Rattle.std.specs.Prelude.{◌≡◌, ◌≢◌, ℕ, ◌+◌, ◌-◌, ◌==◌, Bool, false, Option, Some, None, List, [], ◌∷◌, ◌++◌, length, filter, slice_set, if◌then◌else◌}
use mathlib.Core.Option.{some}
use lib.ListN.{get_elem?}
use Rattle.qc_turn.specs.declared.kept.Kept.{Ghosts}
use Rattle.qc_turn.specs.declared.view.View.{View}
use Rattle.qc_turn.specs.declared.view.FoundWord.{FoundWord}
use Rattle.qc_turn.specs.declared.view.MetSeat.{MetSeat}
use Rattle.qc_tiles.specs.declared.blocks.Block.{Block}
use Rattle.qc_turn.specs.declared.view.Holding.{Holding}
use Rattle.qc_turn.specs.declared.view.Holding.TheVariants.{Free, Holds}
use Rattle.qc_turn.specs.declared.task.Task.{Task}
use Rattle.qc_turn.specs.declared.task.Task.TheVariants.{Rest, Stream, Fill}
use Rattle.qc_turn.specs.Blocks.{spelled}
use Rattle.qc_turn.specs.Tasks.{listed_for, task_in, blocks_in, released_task, released_blocks}
use Rattle.qc_turn.specs.Words.{longer}

-- the session is that of the seat n, whose number is one more
abbrev pub names : Option ℕ → ℕ → Bool
names None n = false
names (Some s) n = (s + 1) == n

abbrev pub found_word : ℕ → Bool → FoundWord
found_word n set = record { seat = n; set = set }

-- the seats whose task words were found at 0
abbrev pub idle_of : List FoundWord → List ℕ
idle_of [] = []
idle_of (f ∷ fs) = if f.set then idle_of fs else f.seat ∷ idle_of fs

module _ {V : Type 0} where
  -- the value as it was taken
  abbrev pub base_of : V → Holding V → V
  base_of v Free = v
  base_of v (Holds b ws) = b

  -- the words as the holder knows them
  abbrev pub words_of : Holding V → List ℕ
  words_of Free = []
  words_of (Holds b ws) = ws

  abbrev pub HoldsTurn : Holding V → Type 0
  HoldsTurn Free = ⊥
  HoldsTurn (Holds b ws) = Unit {0}

  -- the holder has stored x in its word k
  abbrev pub written : Holding V → ℕ → ℕ → Holding V
  written Free k x = Free
  written (Holds b ws) k x = Holds b (slice_set ws k x)

module _ {E : Type 0} where
  -- each seat in the registry was met
  abbrev pub AllMet : List (Option (MetSeat E)) → Type 0
  AllMet [] = Unit {0}
  AllMet (None ∷ registry) = ⊥
  AllMet (Some es ∷ registry) = AllMet registry

module _ {V E : Type 0} where
  -- no two seats have one number
  abbrev pub Apart : List (View V E) → Type 0
  Apart views = (i j : ℕ) (v w : View V E) → get_elem? views i ≡ some v → get_elem? views j ≡ some w → v.number ≡ w.number → v.number ≢ 0 → i ≡ j

  abbrev pub with_holding : View V E → Holding V → View V E
  with_holding v g = record v { holding = g }

  -- the seat has taken the turn with a value over these words
  abbrev pub with_turn : View V E → V → List ℕ → View V E
  with_turn v value words = record v { holding = Holds value words; turns = value ∷ v.turns }

  -- the seat asked once, and found this number
  abbrev pub with_refusal : View V E → ℕ → View V E
  with_refusal v n = record v { refusals = n ∷ v.refusals }

  abbrev pub with_content : View V E → List ℕ → View V E
  with_content v t = record v { content = t }

  abbrev pub with_word_set : View V E → Bool → View V E
  with_word_set v m = record v { word_set = m }

  abbrev pub with_found : View V E → List FoundWord → View V E
  with_found v f = record v { found = f }

  -- the seat has ended its stream
  abbrev pub after_stream : View V E → View V E
  after_stream v = record v { task = Rest; blocks = []; content = []; word_set = false }

  -- a seat that has done nothing yet
  abbrev pub new_seat : ℕ → ℕ → List E → List ℕ → View V E
  new_seat size n seen fixed = record { size = size; number = n; registry = []; seen = seen; fixed = fixed; events = []; connected = false; task = Rest; blocks = []; content = []; holding = Free; word_set = false; found = []; turns = []; refusals = [] }

  -- the seat that a new turn gives
  abbrev pub first_seat : ℕ → List ℕ → View V E
  first_seat size fixed = new_seat size 1 [] fixed

  -- the first seat, with one more in its registry
  abbrev pub after_split : View V E → View V E
  after_split v = record v { registry = v.registry ++ None ∷ [] }

  -- the seat that a split makes
  abbrev pub next_seat : View V E → View V E
  next_seat v = new_seat v.size (length v.registry + 2) v.seen v.fixed

  abbrev pub met_seat : View V E → MetSeat E
  met_seat w = record { events = w.events; seen = w.seen }

  -- the first seat, after it met another
  abbrev pub after_meet : View V E → View V E → View V E
  after_meet v w = record v { registry = slice_set v.registry (w.number - 2) (Some (met_seat w)); seen = longer v.seen w.seen }

  -- what is left of a seat that was met
  abbrev pub spent : View V E
  spent = new_seat 0 0 [] []

module _ {V E : Type 0} (K : Ghosts V E) where
  -- the events of the seat with this number
  abbrev pub of_seat : ℕ → List E → List E
  of_seat n es = filter (λ e. names (K.session e) n) es

  -- The events are the journal of a value that is sound over some words.
  pub record IsSoundJournal (es : List E) : Type 0 where
    pub value : V
    pub words : List ℕ
    pub sound : K.sound words value
    pub journal : K.journal value ≡ es

  -- a fill that the seat had when it took the turn goes on with its bytes, and a new one has none
  abbrev pub bytes_on : Task → ℕ → List ℕ → List ℕ
  bytes_on (Fill s) s' bytes = if s == s' then bytes else []
  bytes_on Rest s' bytes = []
  bytes_on (Stream s) s' bytes = []

  abbrev pub content_of : List ℕ → Task → List ℕ → Task → List Block → List ℕ
  content_of words old content Rest bs = []
  content_of words old content (Stream s) bs = spelled words bs
  content_of words old content (Fill s) bs = bytes_on old s content

  -- the seat, after it released the turn with the value x over these words
  abbrev pub after_release : View V E → V → List ℕ → View V E
  after_release v x words = let ts = listed_for v.number (K.tasks x) in let t = released_task v.word_set (task_in ts) in let bs = released_blocks t (blocks_in ts) in
      record v { seen = K.journal x; events = of_seat v.number (K.journal x); connected = K.connected x v.number; task = t; blocks = bs; content = content_of words v.task v.content t bs; holding = Free; found = [] }
