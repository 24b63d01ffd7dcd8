-- Why a fill may be given up.
use Rattle.std.specs.Prelude.{◌≡◌, ℕ, ◌+◌, ◌<◌, ◌≤◌, List, length}
use Rattle.qc_model.specs.declared.events.Event.{Event}
use Rattle.qc_model.specs.declared.events.GoneWhy.{GoneWhy}
use Rattle.qc_turn.specs.declared.view.View.{View}
use Rattle.qc_turn.specs.Words.{StartsWith}
use Rattle.qc_core.specs.Calls.{MayBeGone}
use Rattle.qc_core.specs.Whole.{IsSomewhereSound}
use Rattle.qc_core.specs.contracts.server.ServerKept.TheImpl.{ghosts}
use Rattle.qc_core.specs.declared.server_state.ServerState.{ServerState}
use Rattle.qc_flow.specs.Fills.{IsNextPacket, limit_of}

-- the reason is licensed on each server that the seat may meet
abbrev pub IsGrantedFor : ℕ → GoneWhy → View ServerState Event → Type 0
IsGrantedFor serial why v = (s : ServerState) → IsSomewhereSound s → StartsWith s.journal.events v.seen → v.fixed ≡ ghosts.fixed s → MayBeGone serial why s

-- with the next packet the reply is longer than the limit
pub record IsTooLong (serial total limit : ℕ) (v : View ServerState Event) : Type 0 where
  pub packet : List ℕ
  pub next : IsNextPacket serial packet v
  pub sum : total ≡ length v.content + length packet
  pub before : length v.content ≤ limit
  pub above : limit < total
  pub options : limit ≡ limit_of v
