use Rattle.std.proofs.Common.{◌≡◌, ◌∙◌, ℕ, List, [], ap, sym}
use Rattle.std.specs.Prelude.{Result, Ok, Err, OnErr, option_map}
use Rattle.qc_model.specs.Cache.{Entry}
use Rattle.qc_turn.specs.Seats.{SameHolder, holder}
use Rattle.qc_turn.specs.Tasks.{listed_for}
use Rattle.qc_turn.proofs.Holders.{number_is}
use Rattle.qc_core.specs.Whole.{tasks_of}
use Rattle.qc_core.specs.Calls.{HasMoreRoom}
use Rattle.qc_core.specs.TaskEnd.{rested}
use Rattle.qc_select.specs.declared.selected.Selected.TheVariants as selected
use Rattle.qc_select.specs.Selects.{answering_asked}
use Rattle.qc_select.proofs.Composing.{H, ask_reserved, at_error, behind_both, behind_look, behind_reserve, err_behind, hit_decided, next_behind, next_reserved, ok_behind, ok_decides, one_behind, one_decides, ranges_reserved}
use Rattle.qc_select.proofs.selects.run_select.Goals as goal

-- more room lists nothing
err_free : {A E : Type 0} (r : Result A E) (h l m : H) → SameHolder h l → listed_for (holder l).number (tasks_of l.value) ≡ [] → OnErr r (SameHolder l m × HasMoreRoom l.value m.value × (m.ranges ≡ l.ranges)) → OnErr r (listed_for (holder h).number (tasks_of m.value) ≡ [])
err_free (Ok x) h l m same free e = tt
err_free (Err y) h l m same free e = (λ i. listed_for (sym (number_is h l same) i) (tasks_of (e.1.same i))) ∙ free

pub look_where_asked-requires-clause-next : goal.look_where_asked-requires-clause-next
look_where_asked-requires-clause-next c =
    let h = c.args.held.now in
    let k = c.reserve.new.held in
    let b = behind_reserve h k c.reserve.ensures.stands.1 c.reserve.ensures.same c.reserve.ensures.ranges in
    next_reserved h k c.args.who b c.requires.session c.requires.number c.requires.connected c.reserve.ensures.rests

pub look_where_asked-requires-clause-ranges : goal.look_where_asked-requires-clause-ranges
look_where_asked-requires-clause-ranges c =
    let h = c.args.held.now in
    let k = c.reserve.new.held in
    let b = behind_reserve h k c.reserve.ensures.stands.1 c.reserve.ensures.same c.reserve.ensures.ranges in
    ranges_reserved h k b c.requires.ranges

pub returns-in_err-reserve-clause-memory : goal.returns-in_err-reserve-clause-memory
returns-in_err-reserve-clause-memory c =
    let h = c.args.held.now in
    let k = c.reserve.new.held in
    let b = behind_reserve h k c.reserve.ensures.stands.1 c.reserve.ensures.same c.reserve.ensures.ranges in
    at_error c.from_residual.result (b.same, b.more, b.ranges)

pub returns-in_err-reserve-clause-rests : goal.returns-in_err-reserve-clause-rests
returns-in_err-reserve-clause-rests c = at_error c.from_residual.result c.reserve.ensures.rests

pub returns-in-Some-clause-decided : goal.returns-in-Some-clause-decided
returns-in-Some-clause-decided c =
    let h = c.args.held.now in
    let k = c.reserve.new.held in
    let b = behind_reserve h k c.reserve.ensures.stands.1 c.reserve.ensures.same c.reserve.ensures.ranges in
    let next = next_reserved h k c.args.who b c.requires.session c.requires.number c.requires.connected c.reserve.ensures.rests in
    let s = c.args.state.now.state in
    let looked = c.look_where_asked.ensures in
    let answers = hit_decided c.args.who c.args.key c.args.select.now c.args.asked s k c.look_where_asked.new.held c.look_where_asked.result c.in-Some.hit c.in-Some.is next looked.stands.1
    (looked.found ∙ ap (λ (key : List ℕ). option_map (λ (entry : Entry). entry.serial) (answering_asked k.value.options c.args.asked s k.value.journal.events key)) c.bytes.ensures) looked.server looked.hit looked.ranges looked.within looked.same_room looked.listed in
    one_behind c.args.who c.args.key c.args.select.now c.args.asked c.args.state.now.state h k c.look_where_asked.new.held (selected.Hit c.in-Some.hit) b next answers

pub returns-in-Some-clause-decides : goal.returns-in-Some-clause-decides
returns-in-Some-clause-decides c text t =
    let h = c.args.held.now in
    let k = c.reserve.new.held in
    let b = behind_reserve h k c.reserve.ensures.stands.1 c.reserve.ensures.same c.reserve.ensures.ranges in
    let next = next_reserved h k c.args.who b c.requires.session c.requires.number c.requires.connected c.reserve.ensures.rests in
    let s = c.args.state.now.state in
    let looked = c.look_where_asked.ensures in
    let answers = hit_decided c.args.who c.args.key c.args.select.now c.args.asked s k c.look_where_asked.new.held c.look_where_asked.result c.in-Some.hit c.in-Some.is next looked.stands.1
    (looked.found ∙ ap (λ (key : List ℕ). option_map (λ (entry : Entry). entry.serial) (answering_asked k.value.options c.args.asked s k.value.journal.events key)) c.bytes.ensures) looked.server looked.hit looked.ranges looked.within looked.same_room looked.listed in
    one_decides h k c.args.state.now c.args.key c.args.select.now c.args.asked text c.args.who b c.reserve.ensures.stands.0 next c.requires.state t c.look_where_asked.new.held (selected.Hit c.in-Some.hit) answers

pub run_unanswered-requires-clause-next : goal.run_unanswered-requires-clause-next
run_unanswered-requires-clause-next c =
    let h = c.args.held.now in
    let k = c.reserve.new.held in
    let b = behind_reserve h k c.reserve.ensures.stands.1 c.reserve.ensures.same c.reserve.ensures.ranges in
    let next = next_reserved h k c.args.who b c.requires.session c.requires.number c.requires.connected c.reserve.ensures.rests in
    let l = c.look_where_asked.new.held in
    let looked = behind_look c.look_where_asked.result k l c.in_default.is c.look_where_asked.ensures.stands.1 c.look_where_asked.ensures.none in
    next_behind k l c.args.who looked next

pub run_unanswered-requires-clause-ranges : goal.run_unanswered-requires-clause-ranges
run_unanswered-requires-clause-ranges c =
    let h = c.args.held.now in
    let k = c.reserve.new.held in
    let b = behind_reserve h k c.reserve.ensures.stands.1 c.reserve.ensures.same c.reserve.ensures.ranges in
    let l = c.look_where_asked.new.held in
    let looked = behind_look c.look_where_asked.result k l c.in_default.is c.look_where_asked.ensures.stands.1 c.look_where_asked.ensures.none in
    let reached = behind_both (rested (holder h).number h.value) h k l b looked in
    ranges_reserved h l reached c.requires.ranges

pub run_unanswered-requires-clause-state : goal.run_unanswered-requires-clause-state
run_unanswered-requires-clause-state c =
    let h = c.args.held.now in
    let k = c.reserve.new.held in
    let b = behind_reserve h k c.reserve.ensures.stands.1 c.reserve.ensures.same c.reserve.ensures.ranges in
    let l = c.look_where_asked.new.held in
    let looked = behind_look c.look_where_asked.result k l c.in_default.is c.look_where_asked.ensures.stands.1 c.look_where_asked.ensures.none in
    let reached = behind_both (rested (holder h).number h.value) h k l b looked in
    ask_reserved h l c.args.state.now reached c.requires.state

pub returns-clause-memory : goal.returns-clause-memory
returns-clause-memory c =
    let h = c.args.held.now in
    let k = c.reserve.new.held in
    let b = behind_reserve h k c.reserve.ensures.stands.1 c.reserve.ensures.same c.reserve.ensures.ranges in
    let l = c.look_where_asked.new.held in
    let looked = behind_look c.look_where_asked.result k l c.in_default.is c.look_where_asked.ensures.stands.1 c.look_where_asked.ensures.none in
    err_behind c.run_unanswered.result (rested (holder h).number h.value) h l c.run_unanswered.new.held (behind_both (rested (holder h).number h.value) h k l b looked) c.run_unanswered.ensures.memory

pub returns-clause-rests : goal.returns-clause-rests
returns-clause-rests c =
    let h = c.args.held.now in
    let k = c.reserve.new.held in
    let b = behind_reserve h k c.reserve.ensures.stands.1 c.reserve.ensures.same c.reserve.ensures.ranges in
    let l = c.look_where_asked.new.held in
    let looked = behind_look c.look_where_asked.result k l c.in_default.is c.look_where_asked.ensures.stands.1 c.look_where_asked.ensures.none in
    let next = next_reserved h k c.args.who b c.requires.session c.requires.number c.requires.connected c.reserve.ensures.rests in
    let reached = behind_both (rested (holder h).number h.value) h k l b looked in
    err_free c.run_unanswered.result h l c.run_unanswered.new.held reached.same (next_behind k l c.args.who looked next).free c.run_unanswered.ensures.memory

pub returns-clause-decided : goal.returns-clause-decided
returns-clause-decided c =
    let h = c.args.held.now in
    let k = c.reserve.new.held in
    let b = behind_reserve h k c.reserve.ensures.stands.1 c.reserve.ensures.same c.reserve.ensures.ranges in
    let next = next_reserved h k c.args.who b c.requires.session c.requires.number c.requires.connected c.reserve.ensures.rests in
    let l = c.look_where_asked.new.held in
    let looked = behind_look c.look_where_asked.result k l c.in_default.is c.look_where_asked.ensures.stands.1 c.look_where_asked.ensures.none in
    let reached = behind_both (rested (holder h).number h.value) h k l b looked in
    ok_behind c.args.who c.args.key c.args.select.now c.args.asked c.args.state.now.state c.run_unanswered.result h l c.run_unanswered.new.held reached (next_behind k l c.args.who looked next) c.run_unanswered.ensures.decided

pub returns-clause-decides : goal.returns-clause-decides
returns-clause-decides c text t =
    let h = c.args.held.now in
    let k = c.reserve.new.held in
    let b = behind_reserve h k c.reserve.ensures.stands.1 c.reserve.ensures.same c.reserve.ensures.ranges in
    let next = next_reserved h k c.args.who b c.requires.session c.requires.number c.requires.connected c.reserve.ensures.rests in
    let l = c.look_where_asked.new.held in
    let looked = behind_look c.look_where_asked.result k l c.in_default.is c.look_where_asked.ensures.stands.1 c.look_where_asked.ensures.none in
    let reached = behind_both (rested (holder h).number h.value) h k l b looked in
    ok_decides h l c.args.state.now c.args.key c.args.select.now c.args.asked text c.args.who reached c.look_where_asked.ensures.stands.0 (next_behind k l c.args.who looked next) c.requires.state t c.run_unanswered.result c.run_unanswered.new.held c.run_unanswered.ensures.decided
