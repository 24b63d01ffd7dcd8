-- What of a server stays that sessions see, where blocks and entries change.
use Rattle.std.proofs.Common.{◌≡◌, ℕ, zero, suc, Bool, true, false, cond, List, [], ◌∷◌, Option, Some, None, refl, sym, ap, ◌∙◌, subst}
use Rattle.std.specs.Prelude.{find, is_some, ◌++◌}
use Rattle.std.specs.List.{list_any}
use Rattle.qc_sql.specs.declared.tables.RowOp.{RowOp}
use Rattle.qc_sql.specs.Database.{apply}
use Rattle.qc_model.specs.declared.events.Event.{Event}
use Rattle.qc_model.specs.declared.events.Event.TheVariants as event
use Rattle.qc_model.specs.declared.events.Who.{Who}
use Rattle.qc_turn.specs.declared.view.FoundWord.{FoundWord}
use Rattle.qc_sound.specs.PlainServer.{serial_of}
use Rattle.qc_dir.specs.Directory.{entry_at}
use Rattle.qc_core.specs.declared.server_state.ServerState.{ServerState}
use Rattle.qc_core.specs.declared.server_state.RunningTask.{RunningTask}
use Rattle.qc_core.specs.Calls.{HasMoreRoom}
use Rattle.qc_core.specs.Invalidation.{IsCommitted, with_database}
use Rattle.qc_core.specs.Compaction.{Moves}
use Rattle.qc_core.specs.EntriesCut.{LeaveInTurn, LeavesAlone}
use Rattle.qc_core.specs.Clearing.{IsReset}
use Rattle.qc_core.specs.TaskEnd.{after_end, is_of, is_on, let_go, rested, rested_by, rested_from, with_user_less, without_task_of}
use Rattle.qc_core.specs.EndedStreams.{swept}
use Rattle.qc_serve.specs.Seats.{SameBooks}

same_books : (s : ServerState) → SameBooks s s
same_books s = record { events = refl; database = refl; options = refl; connected = refl }

pub books_on : (a b c : ServerState) → SameBooks a b → SameBooks b c → SameBooks a c
books_on a b c p q = record { events = q.events ∙ p.events; database = q.database ∙ p.database; options = q.options ∙ p.options; connected = q.connected ∙ p.connected }

-- ---- a task is struck off

go_books : (on there : Bool) (number : ℕ) (s : ServerState) → SameBooks s (let_go on there number s)
go_books true there number s = same_books s
go_books false true number s = record { events = refl; database = refl; options = refl; connected = refl }
go_books false false number s = record { events = refl; database = refl; options = refl; connected = refl }

end_books : (n number : ℕ) (s : ServerState) → SameBooks s (after_end n number s)
end_books n number s =
    let left : ServerState = with_user_less n s in
    let b = go_books (list_any (is_on n) s.tasks.items) (is_some (entry_at n s.dir.entries)) number left in
    record { events = b.events; database = b.database; options = b.options; connected = b.connected }

from_books : (seat number : ℕ) (o : Option ℕ) (s : ServerState) → SameBooks s (rested_from seat number o s)
from_books seat number None s = same_books s
from_books seat number (Some n) s = let b = end_books n number (without_task_of seat s) in record { events = b.events; database = b.database; options = b.options; connected = b.connected }

by_books : (seat : ℕ) (o : Option RunningTask) (s : ServerState) → SameBooks s (rested_by seat o s)
by_books seat None s = same_books s
by_books seat (Some w) s = from_books seat w.chain.number (serial_of w.task) s

pub rested_books : (seat : ℕ) (s : ServerState) → SameBooks s (rested seat s)
rested_books seat s = by_books seat (find (is_of seat) s.tasks.items) s

pub swept_books : (found : List FoundWord) (s : ServerState) → SameBooks s (swept found s)
swept_books [] s = same_books s
swept_books (f ∷ fs) s = elim f.set as (λ b. SameBooks s (cond b (swept fs s) (rested f.seat (swept fs s)))) [
  | true ↦ swept_books fs s
  | false ↦ books_on s (swept fs s) (rested f.seat (swept fs s)) (swept_books fs s) (rested_books f.seat (swept fs s))
]

-- ---- room

pub more_books : (s t : ServerState) → HasMoreRoom s t → SameBooks s t
more_books s t m = record { events = m.events; database = ap (λ (x : ServerState). x.database) m.same; options = ap (λ (x : ServerState). x.options) m.same; connected = ap (λ (x : ServerState). x.connected) m.same }

-- ---- blocks move, and entries leave

pub moves_books : (count : ℕ) (s t : ServerState) → Moves count s t → SameBooks s t
moves_books zero s t h = subst (SameBooks s) (sym h) (same_books s)
moves_books (suc n) s t h = let b = moves_books n s h.0 h.1 in subst (SameBooks s) (sym h.4) (record { events = b.events; database = b.database; options = b.options; connected = b.connected })

leave_books : (n : ℕ) (s t : ServerState) → LeavesAlone n s t → SameBooks s t
leave_books n s t h =
    let left = h.left in
    record { events = ap (λ (x : ServerState). x.journal.events) left.server; database = ap (λ (x : ServerState). x.database) left.server; options = ap (λ (x : ServerState). x.options) left.server; connected = ap (λ (x : ServerState). x.connected) left.server }

pub turn_books : (serials : List ℕ) (s t : ServerState) → LeaveInTurn serials s t → SameBooks s t
turn_books [] s t h = subst (SameBooks s) (sym h) (same_books s)
turn_books (n ∷ ns) s t h = books_on s h.0 t (turn_books ns s h.0 h.1) (leave_books n h.0 t h.2)

-- ---- with the event that says so

-- one event more, and nothing else that sessions see but perhaps the database
pub record OneMore (e : Event) (s t : ServerState) : Type 0 where
  pub events : t.journal.events ≡ s.journal.events ++ e ∷ []
  pub connected : t.connected ≡ s.connected

pub reset_one : (who : Who) (s t : ServerState) → IsReset who s t → OneMore (event.Reset who) s t
reset_one who s t r =
    let emptied = r.emptied in
    let b = turn_books emptied.serials s r.mid emptied.left in
    record {
      events = ap (λ (x : ServerState). x.journal.events) r.server ∙ ap (λ (j : List Event). j ++ event.Reset who ∷ []) b.events;
      connected = ap (λ (x : ServerState). x.connected) r.server ∙ b.connected;
    }

pub commit_one : (who : Who) (ops : List RowOp) (s t : ServerState) → IsCommitted who ops s t → OneMore (event.Commit who ops) s t
commit_one who ops s t c =
    let out = c.out in
    let with_it : ServerState = with_database (apply ops s.database) s in
    let b = turn_books out.serials with_it c.mid out.left in
    record {
      events = ap (λ (x : ServerState). x.journal.events) c.server ∙ ap (λ (j : List Event). j ++ event.Commit who ops ∷ []) b.events;
      connected = ap (λ (x : ServerState). x.connected) c.server ∙ b.connected;
    }
