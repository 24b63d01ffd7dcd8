-- What each step tells the seat that makes it: m is what the seat knew and had, r the word found or stored, m' what it then knows and has.
use Rattle.std.specs.Prelude.{◌≡◌, ◌≢◌, ℕ, ◌-◌, ◌≤◌, ◌<◌, false, true, Option, Some, None, List, [], ◌∷◌, length, slice_index}
use Rattle.atomic_table.specs.Table.{Me, Step}
use Rattle.atomic_table.specs.declared.shared.Seat.{Seat}
use Rattle.qc_turn.specs.declared.kept.Kept.{Ghosts}
use Rattle.qc_turn.specs.declared.view.View.{View}
use Rattle.qc_turn.specs.declared.view.Holding.{Holding}
use Rattle.qc_turn.specs.declared.view.Holding.TheVariants.{Free, Holds}
use Rattle.qc_turn.specs.Blocks.{places}
use Rattle.qc_turn.specs.Bytes.{filled}
use Rattle.qc_turn.specs.Rules.{ContentRule}
use Rattle.qc_turn.specs.Tasks.{listed_for, is_stream, IsListed, OutsideOtherFills}
use Rattle.qc_turn.specs.Views.{of_seat, IsSoundJournal, words_of, written, with_holding, with_turn, with_refusal, with_content, with_word_set, with_found, found_word, after_stream, after_release}
use Rattle.qc_turn.specs.Words.{StartsWith, line_words, task_word, last_seat}

module _ {V E : Type 0} (K : Ghosts V E) where
  abbrev Known : Type 0
  Known = Me (Option V) (View V E)

  -- What the seat v knows of the value that it takes and of the words at that moment.
  pub record Taken (v : View V E) (value : V) (words : List ℕ) : Type 0 where
    pub width : length words ≡ v.size
    pub sound : K.sound words value
    pub seen : StartsWith (K.journal value) v.seen
    pub fixed : v.fixed ≡ K.fixed value
    pub events : v.events ≡ of_seat K v.number (K.journal value)
    pub connected : v.connected ≡ K.connected value v.number
    pub listed : IsListed v.number v.task v.blocks (listed_for v.number (K.tasks value))
    pub word_set : v.word_set ≡ is_stream v.task
    pub none_found : v.found ≡ []
    pub was_sound : IsSoundJournal K v.seen
    pub content : ContentRule K value words v.task v.blocks v.content
    pub zero_number : (K.connected value 0 ≡ false) × (listed_for 0 (K.tasks value) ≡ [])

  -- 0 was found in the turn word, and the slot with the value is the seat's
  abbrev pub GetsTurn : Known → Known → Type 0
  GetsTurn m m' = (value : V) × (words : List ℕ) × Taken m.0 value words × (m'.0 ≡ with_turn m.0 value words) × (m'.1 ≡ (0, Some value) ∷ m.1)

  -- a compare-exchange of the turn word: the seat gets the turn, or the number of another seat was found
  abbrev pub takes_turn : Step (Option V) → Known → ℕ → Known → Type 0
  takes_turn st m r m' = (r ≡ 0 → GetsTurn m m') × (r ≢ 0 → (m' ≡ m) × (r ≢ m.0.number) × (r ≤ last_seat))

  -- the same by a seat that asks once, and keeps the number
  abbrev pub tries_turn : Step (Option V) → Known → ℕ → Known → Type 0
  tries_turn st m r m' = (r ≡ 0 → GetsTurn m m') × (r ≢ 0 → (m' ≡ (with_refusal m.0 r, m.1)) × (r ≢ m.0.number) × (r ≤ last_seat))

  -- a store of 0 into the turn word, which gives the slot with its value back
  abbrev pub releases_turn : Step (Option V) → Known → ℕ → Known → Type 0
  releases_turn st m r m' = (x : V) → m.1 ≡ (0, Some x) ∷ [] → m' ≡ (after_release K m.0 x (words_of m.0.holding), [])

  -- a load under the turn
  abbrev pub loads_word : Step (Option V) → Known → ℕ → Known → Type 0
  loads_word st m r m' = (m' ≡ m) × ((b : V) (ws : List ℕ) → m.0.holding ≡ Holds b ws → OutsideOtherFills m.0.number (K.tasks b) (st.word - line_words) → r ≡ slice_index ws (st.word - line_words))

  -- a store under the turn
  abbrev pub stores_word : Step (Option V) → Known → ℕ → Known → Type 0
  stores_word st m r m' = m' ≡ (with_holding m.0 (written m.0.holding (st.word - line_words) r), m.1)

  -- a load by a seat that streams
  abbrev pub loads_streamed : Step (Option V) → Known → ℕ → Known → Type 0
  loads_streamed st m r m' = (m' ≡ m) × ((i : ℕ) → i < length (places m.0.blocks) → slice_index (places m.0.blocks) i ≡ st.word - line_words → r ≡ slice_index m.0.content i)

  -- a store by a seat that fills, at the index i of its fill, which then has count bytes
  abbrev pub stores_filled : ℕ → ℕ → Step (Option V) → Known → ℕ → Known → Type 0
  stores_filled i count st m r m' = m' ≡ (with_content m.0 (filled m.0.content i r count), m.1)

  -- the holder sets its own task word
  abbrev pub sets_task_word : Step (Option V) → Known → ℕ → Known → Type 0
  sets_task_word st m r m' = m' ≡ (with_word_set m.0 true, m.1)

  -- a seat clears its own task word
  abbrev pub clears_task_word : Step (Option V) → Known → ℕ → Known → Type 0
  clears_task_word st m r m' = m' ≡ (after_stream m.0, m.1)

  -- the holder reads the task word of the seat n
  abbrev pub reads_task_word : Step (Option V) → Known → ℕ → Known → Type 0
  reads_task_word st m r m' = (n : ℕ) → st.word ≡ task_word m.0.size n → (r ≡ 0 → m' ≡ (with_found m.0 (found_word n false ∷ m.0.found), m.1)) × (r ≢ 0 → m' ≡ (with_found m.0 (found_word n true ∷ m.0.found), m.1))

  -- The seat p has become q, which holds the turn, and the value came out of the slot.
  pub record TookTurn (p q : Seat (Option V) (View V E)) (x : V) : Type 0 where
    pub words : List ℕ
    pub taken : Taken p.me.0 x words
    pub view : q.me.0 ≡ with_turn p.me.0 x words
    pub out : q.me.1 ≡ (0, None) ∷ []
    pub table : q.table_id ≡ p.table_id

  -- what was read of a word under the turn: others may fill it
  abbrev pub LoadedWord : ℕ → ℕ → ℕ → Holding V → Type 0
  LoadedWord n k r Free = Unit {0}
  LoadedWord n k r (Holds b ws) = OutsideOtherFills n (K.tasks b) k → r ≡ slice_index ws k
