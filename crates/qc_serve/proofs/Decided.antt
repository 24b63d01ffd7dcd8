-- A SELECT was decided, and the turn was given back.
use Rattle.std.proofs.Common.{inl, ◌≡◌, ℕ, ◌*◌, ◌≤◌, List, sym, ap, ◌∙◌, subst, arith, ◌+◌}
use Rattle.std.specs.Prelude.{slice_index}
use Rattle.qc_sql.specs.declared.session.Asked.{Asked}
use Rattle.qc_sql.specs.declared.statements.Select.{Select}
use Rattle.qc_model.specs.declared.events.Event.{Event}
use Rattle.qc_model.specs.declared.events.Who.{Who}
use Rattle.qc_model.specs.Session.{State}
use Rattle.qc_turn.specs.declared.seat.Seat.{Seat}
use Rattle.qc_turn.specs.declared.task.Task.{Task}
use Rattle.qc_turn.specs.declared.task.Task.TheVariants as task
use Rattle.qc_turn.specs.declared.turn.Turn.{Turn}
use Rattle.qc_turn.specs.declared.view.View.{View}
use Rattle.qc_turn.specs.Seats.{Held, holder, view, words}
use Rattle.qc_turn.specs.Tasks.{blocks_in, is_stream, listed_for, own, released_blocks, released_task, task_in}
use Rattle.qc_turn.specs.Views.{bytes_on, content_of, with_word_set}
use Rattle.qc_core.specs.contracts.server.ServerKept.TheImpl.{ghosts}
use Rattle.qc_core.specs.declared.server_state.ServerState.{ServerState}
use Rattle.qc_core.specs.Whole.{tasks_of}
use Rattle.qc_flow.proofs.Begins.{fills_begin}
use Rattle.qc_select.specs.declared.selected.Selected.{Selected}
use Rattle.qc_select.specs.declared.selected.Selected.TheVariants as selected
use Rattle.qc_select.specs.Selects.{IsOfText}
use Rattle.qc_statements.proofs.States.{sound_of}
use Rattle.qc_serve.specs.declared.decision.Decision.{Decision}
use Rattle.qc_serve.specs.Holding.{IsPrepared, IsReleased, TurnsTo, standing_at}
use Rattle.qc_serve.specs.Seats.{GoesOn, IsReady, SameBooks}
use Rattle.qc_serve.specs.Ends.{Makes}
use Rattle.qc_serve.specs.Asking.{BeginsFill, GoesOnWith, HasHeld, IsAsking, Selects, DecideKeeps, DecideGives, task_decided, task_of}
use Rattle.qc_serve.proofs.Lookups.{streams_on}

-- ---- a seat that is prepared may ask

pub prepared_asks : (session : ℕ) (who : Who) (h : Held ServerState Event ghosts) → IsPrepared who h → session ≡ who.session → slice_index (holder h).fixed 0 ≤ 512 * h.ranges.room → IsAsking session h
prepared_asks session who h p named room =
    let r = p.ready in
    let next = r.next in
    let size : slice_index (holder h).fixed 0 ≡ h.value.options.size = ap (λ (l : List ℕ). slice_index l 0) p.known in
    record {
      idle = record {
        stands = r.stands;
        seat = r.seat ∙ ap (λ n. n + 1) (sym named);
        unset = r.unset;
        rests = inl next.free;
        connected = next.connected;
        goes_on = subst (λ n. GoesOn n (holder h).seen h.value.journal.events) (sym named) r.goes_on;
      };
      rested = p.rested;
      known = p.known;
      few = p.few;
      room = omega (arith, room, size);
    }

pub books_kept : (x y : ServerState) → y ≡ x → SameBooks x y
books_kept x y is = record { events = ap (λ (p : ServerState). p.journal.events) is; database = ap (λ (p : ServerState). p.database) is; options = ap (λ (p : ServerState). p.options) is; connected = ap (λ (p : ServerState). p.connected) is }

-- ---- the turn is given back

fills_on : (serial : ℕ) (k : Held ServerState Event ghosts) (new : Seat ServerState Event ghosts) → IsReleased (task.Fill serial) k new → (holder k).fixed ≡ ghosts.fixed k.value → k.value.options.size ≤ 512 * k.ranges.room → BeginsFill serial new
fills_on serial k new r known room =
    let may = r.may in
    let w = with_word_set (holder k) (is_stream (task.Fill serial)) in
    let us = words k in
    let limit : slice_index (view new).fixed 1 ≡ k.value.options.limit = ap (λ (l : List ℕ). slice_index l 1) (ap (λ (v : View ServerState Event). v.fixed) r.view ∙ known) in
    record {
      fills = λ f is most none. (fills_begin k f new (record {
        rested = may.rested;
        fixed = known;
        listed = subst (λ n. listed_for (holder k).number (tasks_of k.value) ≡ own (holder k).number (task.Fill n) k.ranges.blocks) (sym is) may.listed;
        room = room;
        limit = most ∙ limit;
        empty = none;
        view = r.view;
        ranges = r.ranges;
      })).0;
      empty = ap (λ (v : View ServerState Event). v.content) r.view
          ∙ (ap (λ ts. content_of ghosts us w.task w.content (released_task w.word_set (task_in ts)) (released_blocks (released_task w.word_set (task_in ts)) (blocks_in ts))) may.listed ∙ ap (λ (y : Task). bytes_on ghosts y serial w.content) may.rested);
    }

goes_with : (key : List ℕ) (x : Selected) (k : Held ServerState Event ghosts) (new : Seat ServerState Event ghosts) → IsReleased (task_of x) k new → HasHeld key k x → (holder k).fixed ≡ ghosts.fixed k.value → k.value.options.size ≤ 512 * k.ranges.room → GoesOnWith key new x
goes_with key (selected.Hit hit) k new r has known room = streams_on key hit k new r has.0 has.1
goes_with key (selected.Start serial place plan) k new r has known room = fills_on serial k new r known room
goes_with key (selected.Plain why place plan) k new r has known room = tt

pub selects_now : (t : Turn ServerState Event) (state : State) (old new : Seat ServerState Event ghosts) (text key : List ℕ) (select : Select) (asked : Asked) (n : ℕ) (d : Decision) → n ≡ state.session → IsOfText state key select asked text → TurnsTo t n (task_decided d) old new
    → DecideGives key select asked state (standing_at n old) d (view new).seen → (k : Held ServerState Event ghosts) × IsReleased (task_decided d) k new × DecideKeeps key d k → Selects t text key select state old new d.selected d.database
selects_now t state old new text key select asked n d is of turns gives keeps =
    let kept = keeps.2 in
    record {
      turns = subst (λ m. TurnsTo t m (task_of d.selected) old new) is turns;
      goes = goes_with key d.selected keeps.0 new keeps.1 kept.has kept.known kept.room;
      decided = λ o fixed. gives text of o fixed;
    }
