-- A stream of a hit: what of its entry hasn't gone out.
use Rattle.std.specs.Prelude.{◌≡◌, ℕ, ◌*◌, ◌≤◌, List, length, take, drop}
use Rattle.qc_model.specs.declared.events.Event.{Event}
use Rattle.qc_turn.specs.Blocks.{places}
use Rattle.qc_turn.specs.Bytes.{bytes_of}
use Rattle.qc_turn.specs.declared.task.Task.TheVariants as task
use Rattle.qc_turn.specs.declared.view.View.{View}
use Rattle.qc_core.specs.declared.server_state.ServerState.{ServerState}
use Rattle.qc_flow.specs.declared.streams.Stream.{Stream}

-- the seat streams the entry, and its words have the bytes
pub record IsStreamOf (s : Stream) (v : View ServerState Event) : Type 0 where
  pub task : v.task ≡ task.Stream s.serial
  pub words : length v.content ≡ length (places v.blocks)
  pub within : s.bytes ≤ 8 * length v.content

-- the bytes that are still to go out
abbrev pub left : Stream → View ServerState Event → List ℕ
left s v = drop s.sent (take s.bytes (bytes_of v.content))
