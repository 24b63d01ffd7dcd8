-- What stays when streams are struck off.
use Rattle.std.proofs.Common.{◌≡◌, ℕ, Bool, true, false, List, [], ◌∷◌, refl, ap, ◌∙◌}
use Rattle.std.specs.Prelude.{Option, Some, None, is_some, if◌then◌else◌}
use Rattle.std.specs.List.{list_any, find}
use Rattle.qc_model.specs.declared.events.Event.{Event}
use Rattle.qc_turn.specs.declared.kept.Kept.{Ghosts}
use Rattle.qc_turn.specs.declared.view.FoundWord.{FoundWord}
use Rattle.qc_turn.specs.Seats.{Held, SameHolder, with_ranges}
use Rattle.qc_dir.specs.Directory.{entry_at}
use Rattle.qc_sound.specs.PlainServer.{serial_of}
use Rattle.qc_core.specs.declared.server_state.RunningTask.{RunningTask}
use Rattle.qc_core.specs.declared.server_state.ServerState.{ServerState}
use Rattle.qc_core.specs.Calls.{HasMoreRoom}
use Rattle.qc_core.specs.TaskEnd.{is_of, is_on, let_go, rested, rested_by, rested_from, with_user_less, without_task_of}
use Rattle.qc_core.specs.EndedStreams.{Finds, swept}

-- the same events, options and seats
pub record Keeps (old new : ServerState) : Type 0 where
  pub events : new.journal.events ≡ old.journal.events
  pub options : new.options ≡ old.options
  pub connected : new.connected ≡ old.connected

pub keeps_all : (s : ServerState) → Keeps s s
keeps_all s = record { events = refl; options = refl; connected = refl }

pub keeps_both : (a b c : ServerState) → Keeps a b → Keeps b c → Keeps a c
keeps_both a b c h k = record { events = k.events ∙ h.events; options = k.options ∙ h.options; connected = k.connected ∙ h.connected }

pub more_keeps : (a b : ServerState) → HasMoreRoom a b → Keeps a b
more_keeps a b m = record { events = m.events; options = ap (λ (p : ServerState). p.options) m.same; connected = ap (λ (p : ServerState). p.connected) m.same }

let_go_keeps : (on there : Bool) (number : ℕ) (s : ServerState) → Keeps s (let_go on there number s)
let_go_keeps true there number s = keeps_all s
let_go_keeps false true number s = record { events = refl; options = refl; connected = refl }
let_go_keeps false false number s = record { events = refl; options = refl; connected = refl }

from_keeps : (seat number : ℕ) (o : Option ℕ) (s : ServerState) → Keeps s (rested_from seat number o s)
from_keeps seat number None s = keeps_all s
from_keeps seat number (Some n) s =
    let t = without_task_of seat s in
    let k = let_go_keeps (list_any (is_on n) t.tasks.items) (is_some (entry_at n t.dir.entries)) number (with_user_less n t) in
    record { events = k.events; options = k.options; connected = k.connected }

pub rested_keeps : (seat : ℕ) (s : ServerState) → Keeps s (rested seat s)
rested_keeps seat s = by (find (is_of seat) s.tasks.items)
  where
    by : (o : Option RunningTask) → Keeps s (rested_by seat o s)
    by None = keeps_all s
    by (Some w) = from_keeps seat w.chain.number (serial_of w.task) s

pub swept_keeps : (found : List FoundWord) (s : ServerState) → Keeps s (swept found s)
swept_keeps [] s = keeps_all s
swept_keeps (f ∷ fs) s =
    let rest = swept_keeps fs s in
    elim f.set as (λ b. Keeps s (if b then swept fs s else rested f.seat (swept fs s))) [
      | true ↦ rest
      | false ↦ keeps_both s (swept fs s) (rested f.seat (swept fs s)) rest (rested_keeps f.seat (swept fs s))
    ]

module _ {K : Ghosts ServerState Event} where
  -- nothing was read
  pub finds_none : (h k : Held ServerState Event K) → SameHolder h k → Finds h (with_ranges k h.ranges) []
  finds_none h k same = record { seat = same.seat; turn = same.turn; holder = same.holder; ranges = refl }
