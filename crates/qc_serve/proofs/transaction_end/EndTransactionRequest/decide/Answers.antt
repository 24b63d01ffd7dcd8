use Rattle.std.proofs.Common.{◌≡◌, ℕ, refl, sym, ap, ◌∙◌, subst, Some}
use Rattle.std.specs.Prelude.{option_map}
use Rattle.qc_model.specs.declared.events.Who.{Who}
use Rattle.qc_model.specs.Machine.{conflict_in}
use Rattle.qc_trx.specs.Endings.{meant}
use Rattle.qc_core.specs.declared.server_state.ServerState.{ServerState}
use Rattle.qc_statements.specs.Sound.{IsFitState}
use Rattle.qc_statements.proofs.Conflicts.{conflict_is_commit}
use Rattle.qc_serve.specs.Ends.{EndsAs}
use Rattle.qc_serve.specs.declared.transaction_end.Ended.TheVariants as ended
use Rattle.qc_serve.proofs.Deciding.{none_on, one_on}
use Rattle.qc_serve.proofs.Endings.{conflict_pushed}
use Rattle.qc_serve.proofs.Requests.{fit_prepared, none_given, none_turns}
use Rattle.qc_serve.proofs.Seating.{pushes_on, same_again}
use Rattle.qc_serve.proofs.Turning.{has_one, one_turns, turns_to_rest}
use Rattle.qc_serve.proofs.transaction_end.EndTransactionRequest.decide.Goals as goal

pub judge_now-requires-clause-fit : goal.judge_now-requires-clause-fit
judge_now-requires-clause-fit c = fit_prepared c.args.who c.args.held.now c.args.self.now.state.now c.requires.prepared c.requires.asks.0 c.requires.asks.1

pub commit_own-requires-clause-fit : goal.commit_own-requires-clause-fit
commit_own-requires-clause-fit c =
    let x = c.args.self.now.state.now in
    subst (λ (y : ServerState). IsFitState y.journal.events x) (sym c.in_ok-judge_now.ensures.ready.2) (fit_prepared c.args.who c.args.held.now x c.requires.prepared c.requires.asks.0 c.requires.asks.1)

pub commit_own-requires-clause-alone : goal.commit_own-requires-clause-alone
commit_own-requires-clause-alone c =
    let j = c.in_ok-judge_now.ensures in
    ap (λ (y : ServerState). conflict_in c.args.self.now.state.now.state y.journal.events) j.ready.2 ∙ sym (ap (option_map meant) (sym c.in-None.is) ∙ j.met)

pub push_conflict-place-requires-clause-commit : goal.push_conflict-place-requires-clause-commit
push_conflict-place-requires-clause-commit c =
    let j = c.in_ok-judge_now.ensures in
    let state = c.args.self.now.state.now.state in
    conflict_is_commit c.judge_now.new.held.value.journal.events state (meant c.in-Some.conflict) (ap (λ (y : ServerState). conflict_in state y.journal.events) j.ready.2 ∙ sym (ap (option_map meant) (sym c.in-Some.is) ∙ j.met))

pub returns-in_ok-ended-in-None-clause-turns : goal.returns-in_ok-ended-in-None-clause-turns
returns-in_ok-ended-in-None-clause-turns c =
    let h = c.args.held.now in
    let j = c.in_ok-judge_now.ensures.ready in
    let one = c.in_ok-ended-in-None.ensures.pushes in
    let k = c.commit_own.new.held in
    one_turns c.args.who one.event h k c.requires.prepared (pushes_on c.args.who one.event h c.judge_now.new.held k j.1 j.2 one.pushes)

pub returns-in_ok-ended-in-None-clause-gives : goal.returns-in_ok-ended-in-None-clause-gives
returns-in_ok-ended-in-None-clause-gives c =
    let h = c.args.held.now in
    let g = c.judge_now.new.held in
    let j = c.in_ok-judge_now.ensures.ready in
    let ok = c.in_ok-ended-in-None in
    let k = c.commit_own.new.held in
    let state = c.args.self.now.state.now.state in
    let one = one_on c.args.who h g k (λ journal e. EndsAs c.args.who state journal e ok.ended.1) j.1 j.2 ok.ensures.pushes in
    has_one c.args.who one.event (λ (w : Who) journal e. EndsAs w state journal e ok.ended.1) h k ok.ended.0 c.requires.prepared one.pushes ok.ensures.place one.is_so

pub returns-in_err-ended-in-None-clause-turns : goal.returns-in_err-ended-in-None-clause-turns
returns-in_err-ended-in-None-clause-turns c =
    let h = c.args.held.now in
    let j = c.in_ok-judge_now.ensures.ready in
    let k = c.commit_own.new.held in
    none_turns c.args.who h k c.from_residual-in_err-ended-in-None.result _ c.from_residual-in_err-ended-in-None.ensures.1 c.requires.prepared (none_on h c.judge_now.new.held k j.1 j.2 c.in_err-ended-in-None.ensures.none)

pub returns-in_err-ended-in-None-clause-none : goal.returns-in_err-ended-in-None-clause-none
returns-in_err-ended-in-None-clause-none c =
    let h = c.args.held.now in
    let j = c.in_ok-judge_now.ensures.ready in
    let k = c.commit_own.new.held in
    none_given c.args.who h k c.from_residual-in_err-ended-in-None.result c.requires.prepared (none_on h c.judge_now.new.held k j.1 j.2 c.in_err-ended-in-None.ensures.none)

pub returns-in-Some-clause-turns : goal.returns-in-Some-clause-turns
returns-in-Some-clause-turns c =
    let h = c.args.held.now in
    let p = c.requires.prepared in
    let k = c.push_conflict-place.new.held in
    let pushed = c.push_conflict-place.ensures.pushes in
    turns_to_rest h k p.rested p.few (same_again h c.judge_now.new.held k c.in_ok-judge_now.ensures.ready.1 pushed.same) pushed.rest

pub returns-in-Some-clause-gives : goal.returns-in-Some-clause-gives
returns-in-Some-clause-gives c =
    let who = c.args.who in
    let j = c.in_ok-judge_now.ensures in
    let g = c.judge_now.new.held in
    let k = c.push_conflict-place.new.held in
    let state = c.args.self.now.state.now.state in
    let met : conflict_in state g.value.journal.events ≡ Some (meant c.in-Some.conflict) = ap (λ (y : ServerState). conflict_in state y.journal.events) j.ready.2 ∙ sym (ap (option_map meant) (sym c.in-Some.is) ∙ j.met) in
    let one = one_on who c.args.held.now g k (λ journal e. EndsAs who state journal e ended.Conflict) j.ready.1 j.ready.2 (conflict_pushed who g k state c.in-Some.conflict met c.push_conflict-place.ensures.pushes) in
    has_one who one.event (λ (w : Who) journal e. EndsAs w state journal e ended.Conflict) c.args.held.now k c.push_conflict-place.result c.requires.prepared one.pushes c.push_conflict-place.ensures.number one.is_so
