-- A hit was looked for, and the turn was given back.
use Rattle.std.proofs.Common.{◌≡◌, ℕ, List, take, sym, ap, ◌∙◌, subst, refl}
use Rattle.std.specs.Prelude.{true, Option, Some, None, Result, Ok, Err, IfOk, OnErr, MatchOption}
use Rattle.qc_model.specs.declared.events.Event.{Event}
use Rattle.qc_model.specs.Journal.{Journal, present}
use Rattle.qc_model.specs.Session.{State, answer, key_of_text}
use Rattle.qc_laws.specs.history.Answers.{CanBeKeyed}
use Rattle.qc_statements.specs.Selects.{arrived_at, is_asked_for}
use Rattle.qc_turn.specs.declared.seat.Seat.{Seat}
use Rattle.qc_turn.specs.declared.task.Task.TheVariants as task
use Rattle.qc_turn.specs.declared.turn.Turn.{Turn}
use Rattle.qc_turn.specs.declared.view.View.{View}
use Rattle.qc_turn.specs.Blocks.{spelled}
use Rattle.qc_turn.specs.Bytes.{bytes_of}
use Rattle.qc_turn.specs.Seats.{Held, holder, view, words}
use Rattle.qc_turn.specs.Tasks.{blocks_in, is_stream, released_blocks, released_task, task_in}
use Rattle.qc_turn.specs.Views.{content_of, with_word_set}
use Rattle.qc_core.specs.contracts.server.ServerKept.TheImpl.{ghosts}
use Rattle.qc_core.specs.declared.hit_stream.Hit.{Hit}
use Rattle.qc_core.specs.declared.server_state.ServerState.{ServerState}
use Rattle.qc_flow.specs.Hits.{HasHit}
use Rattle.qc_flow.specs.Streams.{IsStreamOf}
use Rattle.qc_flow.proofs.Hits.{streams_begin}
use Rattle.qc_serve.specs.declared.lookup.Found.{Found}
use Rattle.qc_serve.specs.Holding.{IsReleased, TurnsTo, standing_at, task_left}
use Rattle.qc_serve.specs.Asking.{LooksOn, Streams, StreamsHit, LookGives, LookKeeps, task_found}
use Rattle.qc_serve.specs.declared.session.Session.{Session}
use Rattle.qc_serve.specs.Going.{number_of}
use Rattle.qc_serve.specs.Querying.{HasFound, LooksAgain}
use Rattle.qc_serve.specs.Seats.{GoesOn}
use Rattle.qc_serve.proofs.Turning.{rests_again}

pub streams_on : (key : List ℕ) (hit : Hit) (k : Held ServerState Event ghosts) (new : Seat ServerState Event ghosts) → IsReleased (task.Stream hit.serial) k new → HasHit k hit.serial key → hit.bytes ≡ k.ranges.bytes → Streams key hit new
streams_on key hit k new r has bytes =
    let w = with_word_set (holder k) (is_stream (task.Stream hit.serial)) in
    let us = words k in
    let seen : (view new).seen ≡ k.value.journal.events = ap (λ (v : View ServerState Event). v.seen) r.view in
    let content : (view new).content ≡ spelled us k.ranges.blocks = ap (λ (v : View ServerState Event). v.content) r.view ∙ ap (λ ts. content_of ghosts us w.task w.content (released_task w.word_set (task_in ts)) (released_blocks (released_task w.word_set (task_in ts)) (blocks_in ts))) has.listed in
    record {
      streams = λ s serial size. let b = streams_begin k s key (subst (λ n. HasHit k n key) (sym serial) has) (size ∙ bytes) in subst (λ (v : View ServerState Event). IsStreamOf s v) (sym r.view) b.streams;
      answered = ap (λ (j : Journal). answer key (present j)) seen ∙ (has.answered ∙ (λ i. Some (take (sym bytes i) (bytes_of (sym content i)))));
    }

module _ {E : Type 0} (t : Turn ServerState Event) (state : State) (old new : Seat ServerState Event ghosts) where
  found_now : (key : List ℕ) (r : Result (Option Found) E) → TurnsTo t state.session (task_left task_found r) old new → IfOk r (λ o. LookGives (standing_at state.session old) key state o (view new).seen)
      → IfOk r (λ o. (k : Held ServerState Event ghosts) × IsReleased (task_found o) k new × LookKeeps key o k) → IfOk r (λ o. MatchOption o (LooksOn t state.session old new) (StreamsHit t key state old new))
  found_now key (Ok (Some found)) turns gives keeps = record {
    turns = turns;
    streams = streams_on key found.hit keeps.0 new keeps.1 keeps.2.0 keeps.2.1;
    place = gives.place;
    decides = gives.decides;
  }
  found_now key (Ok None) turns gives keeps = record { again = rests_again t state.session task.Rest old new refl turns; goes_on = gives }
  found_now key (Err e) turns gives keeps = tt

  pub looks_now : (key : List ℕ) (n : ℕ) (r : Result (Option Found) E) → n ≡ state.session → TurnsTo t n (task_left task_found r) old new → IfOk r (λ o. LookGives (standing_at n old) key state o (view new).seen)
      → IfOk r (λ o. (k : Held ServerState Event ghosts) × IsReleased (task_found o) k new × LookKeeps key o k) → IfOk r (λ o. MatchOption o (LooksOn t state.session old new) (StreamsHit t key state old new))
  looks_now key n r is turns gives keeps =
      found_now key r (subst (λ m. TurnsTo t m (task_left task_found r) old new) is turns) (subst (λ m. IfOk r (λ o. LookGives (standing_at m old) key state o (view new).seen)) is gives) keeps

-- ---- a session has looked for one

pub looked : {E : Type 0} (t : Turn ServerState Event) (text key : List ℕ) (old : Session) (seat : Seat ServerState Event ghosts) (r : Result (Option Found) E) → is_asked_for old.options old.state.state text ≡ true → ((place : ℕ) → key ≡ key_of_text (arrived_at place old.state.state) text)
    → ((place : ℕ) → CanBeKeyed (arrived_at place old.state.state)) → IfOk r (λ o. MatchOption o (LooksOn t (number_of old) old.seat seat) (StreamsHit t key old.state.state old.seat seat))
    → IfOk r (λ o. MatchOption o (LooksAgain t old (record old { seat = seat })) (HasFound t text old (record old { seat = seat })))
looked t text key old seat (Ok (Some found)) asked key_is keyed streams = record { asked = asked; key = key; key_is = key_is; keyed = keyed; streams = streams; same = refl }
looked t text key old seat (Ok None) asked key_is keyed looks = record { seat = looks; same = refl }
looked t text key old seat (Err e) asked key_is keyed none = tt

pub looks_lacking : {E : Type 0} (t : Turn ServerState Event) (old : Session) (seat : Seat ServerState Event ghosts) (n : ℕ) (r : Result (Option Found) E) → n ≡ number_of old → TurnsTo t n (task_left task_found r) old.seat seat → OnErr r (GoesOn n (view old.seat).seen (view seat).seen)
    → OnErr r (LooksAgain t old (record old { seat = seat }))
looks_lacking t old seat n (Ok o) named turns goes = tt
looks_lacking t old seat n (Err e) named turns goes = record {
  seat = subst (λ m. LooksOn t m old.seat seat) named (record { again = rests_again t n task.Rest old.seat seat refl turns; goes_on = goes });
  same = refl;
}
