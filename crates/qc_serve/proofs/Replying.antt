-- The reply of a SELECT goes out, and the task of its seat ends.
use Rattle.std.proofs.Common.{◌≡◌, ℕ, ◌-◌, ◌<◌, List, [], map, refl, sym, ap, ◌∙◌, subst, arith, append-nil, Option}
use Rattle.std.specs.Prelude.{slice_index, unwrap_or}
use Rattle.std.specs.List.{AllByRecursion}
use Rattle.qc_types.specs.declared.names.Value.{Value}
use Rattle.qc_types.specs.declared.options.Options.{Options}
use Rattle.qc_sql.specs.declared.replies.ColumnDef.{ColumnDef}
use Rattle.qc_sql.specs.declared.replies.Reply.TheVariants as reply
use Rattle.qc_sql.specs.Packets.{packet_list, payloads}
use Rattle.qc_sql.specs.Rows.{text_of}
use Rattle.qc_laws.proofs.sizes.Payloads.{reply_payloads_fit}
use Rattle.qc_model.specs.declared.events.Event.{Event}
use Rattle.qc_model.specs.Journal.{Journal, events_of}
use Rattle.qc_eval.specs.Plans.{Loads, PlanView}
use Rattle.qc_chain.specs.Chains.{Ranged}
use Rattle.qc_turn.specs.declared.seat.Seat.{Seat}
use Rattle.qc_turn.specs.declared.task.Task.{Task}
use Rattle.qc_turn.specs.declared.task.Task.TheVariants as task
use Rattle.qc_turn.specs.declared.turn.Turn.{Turn}
use Rattle.qc_turn.specs.declared.view.View.{View}
use Rattle.qc_turn.specs.Seats.{IsSeatOf, view}
use Rattle.qc_turn.specs.Views.{after_stream, of_seat}
use Rattle.qc_core.specs.contracts.server.ServerKept.TheImpl.{ghosts}
use Rattle.qc_core.specs.declared.server_state.ServerState.{ServerState}
use Rattle.qc_flow.specs.Seats as flow
use Rattle.qc_flow.specs.declared.fills.Fill.{Fill}
use Rattle.qc_statements.specs.Answers.{IsReady, rest_of}
use Rattle.qc_statements.proofs.Values.{ready}
use Rattle.qc_serve.specs.Holding.{HasTask}
use Rattle.qc_serve.specs.Filling.{IsGoing}
use Rattle.qc_serve.specs.Going.{as_fixed}
use Rattle.qc_serve.specs.Querying.{EndsFill, EndsStream, EndsWith, FillsWith, IsPlanned, plan_packets}
use Rattle.qc_serve.specs.Seats.{GoesOn, SeatRests}
use Rattle.qc_serve.specs.Sent.{IsPacket}
use Rattle.qc_serve.proofs.Cutting.{numbered_are}
use Rattle.qc_serve.proofs.Seating.{goes_on, seat_events}

-- ---- the packets of a plan

pub planned : (old new : PlanView) → IsPlanned old → Loads old new → IsReady new
planned old new p loads = ready p.flags old new p.fits loads

pub packets_are : (old new : PlanView) (status : ℕ) → Loads old new → packet_list (reply.Rows new.columns (map (map text_of) (rest_of new)) status) ≡ plan_packets old status
packets_are old new status loads =
    ap (λ (cs : List ColumnDef). packet_list (reply.Rows cs (map (map text_of) (rest_of new)) status)) loads.columns
    ∙ ap (λ (l : Option (List (List Value))). packet_list (reply.Rows old.columns (map (map text_of) (unwrap_or l [])) status)) loads.left

pub plan_sized : (p : PlanView) (status : ℕ) → IsPlanned p → AllByRecursion IsPacket (plan_packets p status)
plan_sized p status h = numbered_are 1 (payloads (reply.Rows p.columns (map (map text_of) p.rows) status)) (reply_payloads_fit h.flags (record { columns = p.columns; rows = p.rows }) status h.fits)

-- ---- a stream ends

pub stream_ends : (t : Turn ServerState Event) (session serial : ℕ) (old between new : Seat ServerState Event ghosts) → HasTask t session (task.Stream serial) old → view between ≡ view old → between.ranges ≡ old.ranges
    → IsSeatOf t new → view new ≡ after_stream (view between) → new.ranges ≡ between.ranges → EndsStream t session old new
stream_ends t session serial old between new has same room seated is ranges =
    let now : view new ≡ after_stream (view old) = is ∙ ap after_stream same in
    let seen : (view new).seen ≡ (view old).seen = ap (λ (v : View ServerState Event). v.seen) now in
    record {
      rests = record {
        seated = seated;
        number = ap (λ (v : View ServerState Event). v.number) now ∙ has.number;
        few = has.few;
        task = ap (λ (v : View ServerState Event). v.task) now;
        connected = ap (λ (v : View ServerState Event). v.connected) now ∙ has.connected;
        events = ap (λ (v : View ServerState Event). v.events) now ∙ (has.events ∙ ap (events_of session) (sym seen));
      };
      seen = seen;
      fixed = ap (λ (v : View ServerState Event). v.fixed) now;
      registry = ap (λ (v : View ServerState Event). v.registry) now;
      room = ap (λ (r : Ranged). r.room) (ranges ∙ room);
    }

goes_nowhere : (session : ℕ) (old new : Journal) → new ≡ old → GoesOn session old new
goes_nowhere session old new is = subst (GoesOn session old) (sym is) (record { begins = ([], sym (append-nil old)); none = refl })

pub stream_with : (t : Turn ServerState Event) (session : ℕ) (old new : Seat ServerState Event ghosts) → EndsStream t session old new → EndsWith t session old new
stream_with t session old new e = record { rests = e.rests; goes_on = goes_nowhere session (view old).seen (view new).seen e.seen; fixed = e.fixed; registry = e.registry; room = e.room }

-- ---- a fill ends

-- the fill of an entry of which nothing is stored
pub fill_begins : (t : Turn ServerState Event) (session serial : ℕ) (packets : List (List ℕ)) (o : Options) (f : Fill) (s : Seat ServerState Event ghosts) → FillsWith t session serial packets s → (view s).fixed ≡ as_fixed o → f.serial ≡ serial → f.limit ≡ o.limit → f.bytes ≡ 0 → IsGoing serial packets f s
fill_begins t session serial packets o f s with_it fixed serial_is limit none = record {
  serial_is = serial_is;
  fills = with_it.begins.fills f serial_is (limit ∙ sym (ap (λ (l : List ℕ). slice_index l 1) fixed)) none;
  start = with_it.start;
  earlier = [];
  packets = with_it.answered;
  stored = with_it.begins.empty;
}

pub fill_ends : (t : Turn ServerState Event) (session : ℕ) (x : Task) (old new : Seat ServerState Event ghosts) → HasTask t session x old → IsSeatOf t new → flow.GoesOn (view old) (view new) → flow.IsAtRest (view new) → new.ranges.room ≡ old.ranges.room → EndsFill t session old new
fill_ends t session x old new has seated goes rests room =
    let number : (view new).number ≡ (view old).number = ap (λ (v : View ServerState Event). v.number) goes.same in
    let few : 0 < (view old).number = omega (arith, has.number) in
    let few_now : 0 < (view new).number = omega (arith, number, few) in
    let one : (view old).number - 1 ≡ session = omega (arith, has.number) in
    let one_now : (view new).number - 1 ≡ session = omega (arith, number, has.number) in
    let was : (view old).events ≡ of_seat ghosts (view old).number (view old).seen = has.events ∙ (ap (λ n. events_of n (view old).seen) (sym one) ∙ sym (seat_events (view old).number (view old).seen few)) in
    record {
      rests = record {
        seated = seated;
        number = number ∙ has.number;
        few = has.few;
        task = rests.task;
        connected = ap (λ (v : View ServerState Event). v.connected) goes.same ∙ has.connected;
        events = goes.told was ∙ (seat_events (view new).number (view new).seen few_now ∙ ap (λ n. events_of n (view new).seen) one_now);
      };
      goes_on = goes;
      room = room;
    }

pub fill_with : (t : Turn ServerState Event) (session : ℕ) (x : Task) (old new : Seat ServerState Event ghosts) → HasTask t session x old → EndsFill t session old new → EndsWith t session old new
fill_with t session x old new has e = record {
  rests = e.rests;
  goes_on = goes_on session (view old).seen (view new).seen e.goes_on.seen (sym e.rests.events ∙ (ap (λ (v : View ServerState Event). v.events) e.goes_on.same ∙ has.events));
  fixed = ap (λ (v : View ServerState Event). v.fixed) e.goes_on.same;
  registry = ap (λ (v : View ServerState Event). v.registry) e.goes_on.same;
  room = e.room;
}

-- ---- the seat rests

pub rests_with : (t : Turn ServerState Event) (session : ℕ) (s : Seat ServerState Event ghosts) → SeatRests t session s → EndsWith t session s s
rests_with t session s rests = record { rests = rests; goes_on = goes_nowhere session (view s).seen (view s).seen refl; fixed = refl; registry = refl; room = refl }
