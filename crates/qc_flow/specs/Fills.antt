-- The fill of an entry: what is stored of its answer, and what each call makes of it.
use Rattle.std.specs.Prelude.{◌≡◌, ℕ, ◌+◌, ◌*◌, ◌/◌, ◌%◌, ◌≤◌, ◌⊎◌, Bool, true, false, List, ◌∷◌, ◌++◌, length, drop, Some, slice_index}
use Rattle.std.specs.List.{concat}
use Rattle.qc_model.specs.declared.events.Event.{Event}
use Rattle.qc_model.specs.declared.events.Event.TheVariants as event
use Rattle.qc_model.specs.declared.events.GoneWhy.TheVariants as gone
use Rattle.qc_model.specs.Journal.{Journal, present}
use Rattle.qc_model.specs.Session.{answer, answer_packets}
use Rattle.qc_laws.specs.history.Runs.{IsStarted}
use Rattle.qc_chain.specs.Words.{words_of}
use Rattle.qc_turn.specs.Bytes.{low_bytes}
use Rattle.qc_turn.specs.declared.seat.Seat.{Seat}
use Rattle.qc_turn.specs.declared.task.Task.TheVariants as task
use Rattle.qc_turn.specs.declared.view.View.{View}
use Rattle.qc_turn.specs.Seats.{view}
use Rattle.qc_turn.specs.Views.{with_content}
use Rattle.qc_core.specs.contracts.server.ServerKept.TheImpl.{ghosts}
use Rattle.qc_core.specs.declared.server_state.ServerState.{ServerState}
use Rattle.qc_core.specs.OvertakenFill.{IsOvertaken}
use Rattle.qc_flow.specs.Seats.{HasEnded, EndsIn, EndsAlone}
use Rattle.qc_flow.specs.Growths.{HoldFewer, GrowFor, LackedRoom}
use Rattle.qc_flow.specs.declared.fills.Fill.{Fill}
use Rattle.qc_flow.specs.declared.fills.FillStep.{FillStep}
use Rattle.qc_flow.specs.declared.fills.FillStep.TheVariants as step
use Rattle.qc_flow.specs.declared.fills.Ended.{Ended}
use Rattle.qc_flow.specs.declared.fills.Ended.TheVariants as ended

-- the size and the limit of the server's options, as a seat knows them
abbrev pub size_of : View ServerState Event → ℕ
size_of v = slice_index v.fixed 0

abbrev pub limit_of : View ServerState Event → ℕ
limit_of v = slice_index v.fixed 1

-- The seat fills the entry, and the fill knows how many bytes are stored and the last word that was begun. The limit is the server's, and the seat's ranges
-- have room for a whole region's blocks.
pub record IsFillOf (f : Fill) (s : Seat ServerState Event ghosts) : Type 0 where
  pub task : (view s).task ≡ task.Fill f.serial
  pub bytes : f.bytes ≡ length (view s).content
  pub last : low_bytes (f.bytes % 8) f.last ≡ drop (8 * (f.bytes / 8)) (view s).content
  pub stored : f.bytes ≤ 8 * words_of (view s).blocks
  pub limit : f.limit ≡ limit_of (view s)
  pub within : f.bytes ≤ f.limit
  pub room : size_of (view s) ≤ 512 * s.ranges.room

-- what is stored are whole packets of the entry's answer at its start, and this one comes next
pub record IsNextPacket (serial : ℕ) (packet : List ℕ) (v : View ServerState Event) : Type 0 where
  pub start : IsStarted v.seen serial
  pub earlier : List (List ℕ)
  pub later : List (List ℕ)
  pub packets : answer_packets start.key (present start.earlier) ≡ Some (earlier ++ packet ∷ later)
  pub stored : v.content ≡ concat earlier

-- what is stored is the whole answer of the entry at its start
pub record IsWholeAnswer (serial : ℕ) (v : View ServerState Event) : Type 0 where
  pub start : IsStarted v.seen serial
  pub answered : answer start.key (present start.earlier) ≡ Some v.content

-- ---- what a call answers

abbrev pub is_too_large : FillStep → Bool
is_too_large (step.TooLarge length) = true
is_too_large _ = false

-- The packet was stored behind those before it, and the fill goes on, with no more blocks than hold it. Where the blocks held it already, nothing else changed.
pub record Stores (f g : Fill) (packet : List ℕ) (old : View ServerState Event) (s : Seat ServerState Event ghosts) : Type 0 where
  pub fills : IsFillOf g s
  pub same : (g.serial ≡ f.serial) × (g.limit ≡ f.limit)
  pub content : (view s).content ≡ old.content ++ packet
  pub blocks : GrowFor (f.bytes + length packet) old.blocks (view s).blocks
  pub calm : f.bytes + length packet ≤ 8 * words_of old.blocks → view s ≡ with_content old (old.content ++ packet)

-- the event says that the reply is longer than the limit, unless the entry was taken out before
abbrev pub IsLargeIn : (serial total limit : ℕ) → Journal → Type 0
IsLargeIn serial total limit journal = EndsIn (event.Gone serial (gone.TooLarge total limit)) journal ⊎ ((by : ℕ) × IsOvertaken journal serial by)

abbrev pub Puts : Fill → Fill → List ℕ → View ServerState Event → Seat ServerState Event ghosts → FillStep → Type 0
Puts f g packet old s step.More = Stores f g packet old s
-- the packet needed a block, and a commit or a reset had taken the entry out
Puts f g packet old s (step.Overtaken by) = HoldFewer old.blocks (f.bytes + length packet) × HasEnded f.serial (view s) × IsOvertaken (view s).seen f.serial by
-- the one event of the one holding tells it, and no entry was pruned for it
Puts f g packet old s (step.TooLarge total) = HasEnded f.serial (view s) × (total ≡ f.bytes + length packet) × IsLargeIn f.serial total f.limit (view s).seen × EndsAlone (event.Gone f.serial (gone.TooLarge total f.limit)) old (view s)
-- the packet needed a block, and there was no room
Puts f g packet old s (step.NoRoom need largest) = HasEnded f.serial (view s) × LackedRoom f.serial (f.bytes + length packet) need largest old (view s)

-- the entry is done by this event, or was taken out by that one
abbrev pub Ends : ℕ → View ServerState Event → Ended → Type 0
Ends serial v (ended.Done place) = (place ≡ length v.seen) × EndsIn (event.Done serial) v.seen
Ends serial v (ended.Overtaken by) = IsOvertaken v.seen serial by

-- the entry is gone by the end of its session, or was taken out before
abbrev pub Abandons : ℕ → View ServerState Event → Type 0
Abandons serial v = EndsIn (event.Gone serial gone.Ended) v.seen ⊎ ((by : ℕ) × IsOvertaken v.seen serial by)
