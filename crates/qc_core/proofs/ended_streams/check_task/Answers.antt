use Rattle.std.proofs.Common.{◌≡◌, ◌≢◌, true, false, ◌∷◌, Some, None, sym, ap, subst, ◌∙◌}
use Rattle.std.specs.Prelude.{slice_get}
use Rattle.qc_key.specs.Hash.{hash}
use Rattle.qc_turn.specs.Views.{found_word, with_found, words_of}
use Rattle.qc_turn.specs.Seats.{words, holder}
use Rattle.qc_sound.specs.Moment.{at_rest}
use Rattle.qc_core.specs.declared.server_state.ServerState.{ServerState}
use Rattle.qc_core.specs.TaskEnd.{MayRest, rested}
use Rattle.qc_core.specs.EndedStreams.{stream_seat}
use Rattle.qc_core.proofs.Sweeping.{Reads, ended_at, few_there, goes_on_at, may_rest_swept, none_at, own_at, stream_there}
use Rattle.qc_core.proofs.ended_streams.check_task.Goals as goal

pub returns-in_default-clause-swept : goal.returns-in_default-clause-swept
returns-in_default-clause-swept c =
    let h = c.args.held.now in
    let none : stream_seat (slice_get h.value.tasks.items c.args.index) ≡ None = sym (c.stream_at.ensures ∙ ap (λ (s : ServerState). stream_seat (slice_get s.tasks.items c.args.index)) c.value.ensures.value) ∙ c.in_default.is in
    (none_at h c.value.result.now c.args.index c.requires.stands c.value.ensures.value c.requires.within none).swept

pub returns-then-seat-number-clause-swept : goal.returns-then-seat-number-clause-swept
returns-then-seat-number-clause-swept c =
    let h = c.args.held.now in
    let is : stream_seat (slice_get h.value.tasks.items c.args.index) ≡ Some c.in-Some.seat = sym (c.stream_at.ensures ∙ ap (λ (s : ServerState). stream_seat (slice_get s.tasks.items c.args.index)) c.value.ensures.value) ∙ c.in-Some.is in
    (own_at h c.value.result.now c.args.index c.in-Some.seat c.requires.stands c.value.ensures.value is (c.if-seat-number.true ∙ c.number.ensures)).swept

pub streams-requires-clause-few : goal.streams-requires-clause-few
streams-requires-clause-few c =
    let h = c.args.held.now in
    let is : stream_seat (slice_get h.value.tasks.items c.args.index) ≡ Some c.in-Some.seat = sym (c.stream_at.ensures ∙ ap (λ (s : ServerState). stream_seat (slice_get s.tasks.items c.args.index)) c.value.ensures.value) ∙ c.in-Some.is in
    few_there h c.in-Some.seat c.requires.stands (stream_there h c.args.index c.in-Some.seat c.requires.stands is).is

pub returns-then-streams-clause-swept : goal.returns-then-streams-clause-swept
returns-then-streams-clause-swept c =
    let h = c.args.held.now in
    let is : stream_seat (slice_get h.value.tasks.items c.args.index) ≡ Some c.in-Some.seat = sym (c.stream_at.ensures ∙ ap (λ (s : ServerState). stream_seat (slice_get s.tasks.items c.args.index)) c.value.ensures.value) ∙ c.in-Some.is in
    let k = c.streams.new.self in
    let ne : c.in-Some.seat ≢ (holder h).number = λ e. c.if-seat-number.false (e ∙ sym c.number.ensures) in
    let e = c.streams.ensures in
    let r : Reads h k c.in-Some.seat true = record { held = e.held.0; same_seat = e.held.1; turn = e.held.2; value = e.same.0 ∙ c.value.ensures.value; ranges = e.same.1; found = e.found ∙ (λ i. with_found (holder h) (found_word c.in-Some.seat (c.if-streams.true i) ∷ (holder h).found)) } in
    (goes_on_at h k c.args.index c.in-Some.seat c.requires.stands ne is r).swept

pub returns-then-streams-clause-words : goal.returns-then-streams-clause-words
returns-then-streams-clause-words c = ap (λ v. words_of v.holding) c.streams.ensures.found

pub rest-requires-clause-may : goal.rest-requires-clause-may
rest-requires-clause-may c =
    let h = c.args.held.now in
    let is : stream_seat (slice_get h.value.tasks.items c.args.index) ≡ Some c.in-Some.seat = sym (c.stream_at.ensures ∙ ap (λ (s : ServerState). stream_seat (slice_get s.tasks.items c.args.index)) c.value.ensures.value) ∙ c.in-Some.is in
    let e = c.streams.ensures in
    let same : c.value-2.result.now ≡ h.value = c.value-2.ensures.value ∙ (e.same.0 ∙ c.value.ensures.value) in
    let sound = c.requires.stands.sound in
    subst (MayRest c.in-Some.seat) (sym same) (may_rest_swept (at_rest hash) sound.0 (words h) h.value c.in-Some.seat sound.1 (stream_there h c.args.index c.in-Some.seat c.requires.stands is).is)

pub returns-clause-stands : goal.returns-clause-stands
returns-clause-stands c =
    let h = c.args.held.now in
    let is : stream_seat (slice_get h.value.tasks.items c.args.index) ≡ Some c.in-Some.seat = sym (c.stream_at.ensures ∙ ap (λ (s : ServerState). stream_seat (slice_get s.tasks.items c.args.index)) c.value.ensures.value) ∙ c.in-Some.is in
    let k = c.streams.new.self in
    let ne : c.in-Some.seat ≢ (holder h).number = λ e. c.if-seat-number.false (e ∙ sym c.number.ensures) in
    let e = c.streams.ensures in
    let r : Reads h k c.in-Some.seat false = record { held = e.held.0; same_seat = e.held.1; turn = e.held.2; value = e.same.0 ∙ c.value.ensures.value; ranges = e.same.1; found = e.found ∙ (λ i. with_found (holder h) (found_word c.in-Some.seat (c.if-streams.false i) ∷ (holder h).found)) } in
    (ended_at h k c.args.index c.in-Some.seat c.rest.new.self c.requires.stands ne is r (c.rest.ensures.rested ∙ ap (rested c.in-Some.seat) c.value-2.ensures.value) c.rest.ensures.valid).stands

pub returns-clause-swept : goal.returns-clause-swept
returns-clause-swept c =
    let h = c.args.held.now in
    let is : stream_seat (slice_get h.value.tasks.items c.args.index) ≡ Some c.in-Some.seat = sym (c.stream_at.ensures ∙ ap (λ (s : ServerState). stream_seat (slice_get s.tasks.items c.args.index)) c.value.ensures.value) ∙ c.in-Some.is in
    let k = c.streams.new.self in
    let ne : c.in-Some.seat ≢ (holder h).number = λ e. c.if-seat-number.false (e ∙ sym c.number.ensures) in
    let e = c.streams.ensures in
    let r : Reads h k c.in-Some.seat false = record { held = e.held.0; same_seat = e.held.1; turn = e.held.2; value = e.same.0 ∙ c.value.ensures.value; ranges = e.same.1; found = e.found ∙ (λ i. with_found (holder h) (found_word c.in-Some.seat (c.if-streams.false i) ∷ (holder h).found)) } in
    (ended_at h k c.args.index c.in-Some.seat c.rest.new.self c.requires.stands ne is r (c.rest.ensures.rested ∙ ap (rested c.in-Some.seat) c.value-2.ensures.value) c.rest.ensures.valid).swept

pub returns-clause-words : goal.returns-clause-words
returns-clause-words c = ap (λ v. words_of v.holding) c.streams.ensures.found
