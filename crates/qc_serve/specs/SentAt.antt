-- What goes to a sink while the seat has a task.
use Rattle.std.specs.Prelude.{◌≡◌, ◌⊎◌, ℕ, List, ◌++◌, Option, IfSome}
use Rattle.qc_model.specs.declared.events.Event.{Event}
use Rattle.qc_model.specs.Journal.{Journal}
use Rattle.qc_types.specs.Streams.{BeginsWith}
use Rattle.qc_turn.specs.declared.task.Task.{Task}
use Rattle.qc_turn.specs.declared.task.Task.TheVariants as task
use Rattle.qc_turn.specs.declared.view.View.{View}
use Rattle.qc_core.specs.declared.server_state.ServerState.{ServerState}
use Rattle.qc_flow.specs.declared.fills.Fill.{Fill}
use Rattle.qc_select.specs.declared.selected.Selected.{Selected}
use Rattle.qc_select.specs.declared.selected.Selected.TheVariants as selected
use Rattle.qc_serve.specs.declared.sinks.Piece.{Piece}
use Rattle.qc_serve.specs.Executed.{AllAt}
use Rattle.qc_serve.specs.Filling.{IsGone}
use Rattle.qc_serve.specs.Sent.{Adds, SendsFrontOf, bytes_of}

-- exactly these bytes went out, in pieces at whose puts the seat had this task
abbrev pub SendsAt : Task → Option (List Piece) → Option (List Piece) → List ℕ → Type 0
SendsAt t held out bytes = Adds held out (λ more. (bytes_of more ≡ bytes) × AllAt t more)

-- a front of them did
abbrev pub SendsFrontAt : Task → Option (List Piece) → Option (List Piece) → List ℕ → Type 0
SendsFrontAt t held out bytes = Adds held out (λ more. BeginsWith bytes (bytes_of more) × AllAt t more)

-- they went out while the seat filled the entry, or that was gone before its last packet
abbrev pub FillsAt : ℕ → Journal → Option (List Piece) → Option (List Piece) → List ℕ → Type 0
FillsAt serial seen held out bytes = SendsAt (task.Fill serial) held out bytes ⊎ IsGone serial seen

-- where a fill goes on, all that went out meanwhile is stored, behind what was stored before
abbrev pub IsStored : Option Fill → View ServerState Event → View ServerState Event → Option (List Piece) → Option (List Piece) → Type 0
IsStored fill old new held out = IfSome fill (λ f. Adds held out (λ more. BeginsWith new.content (old.content ++ bytes_of more)))

-- those of a hit went out while the seat streamed it, and those of a start while it filled the entry
abbrev pub SendsAs : Selected → Journal → Option (List Piece) → Option (List Piece) → List ℕ → Type 0
SendsAs (selected.Hit hit) seen held out bytes = SendsAt (task.Stream hit.serial) held out bytes
SendsAs (selected.Start serial place plan) seen held out bytes = FillsAt serial seen held out bytes
SendsAs x seen held out bytes = Unit {0}

-- a front of them went out, of a hit's while the seat streamed it
abbrev pub SendsFrontAs : Selected → Option (List Piece) → Option (List Piece) → List ℕ → Type 0
SendsFrontAs (selected.Hit hit) held out bytes = SendsFrontAt (task.Stream hit.serial) held out bytes
SendsFrontAs x held out bytes = SendsFrontOf held out bytes
