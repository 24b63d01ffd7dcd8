use Rattle.std.proofs.Common.{ℕ, List, sym, subst, ◌∙◌}
use Rattle.qc_types.specs.declared.options.Options.{Options}
use Rattle.qc_core.specs.declared.server_state.ServerState.{ServerState}
use Rattle.qc_select.specs.Selects.{Decided, Decides, IsOfText}
use Rattle.qc_turn.specs.Seats.{holder}
use Rattle.qc_serve.specs.Ends.{Makes}
use Rattle.qc_serve.specs.Asking.{IsDecided}
use Rattle.qc_serve.specs.Holding.{TurnsHeld}
use Rattle.qc_serve.proofs.Decisions.{may_ask, options_are, selected_hit, selected_turns, selects_held, still_known, still_room}
use Rattle.qc_serve.proofs.Decided.{books_kept, prepared_asks}
use Rattle.qc_serve.proofs.decision.DecideRequest.decide.Goals as goal

pub run_select-requires-clause-state : goal.run_select-requires-clause-state
run_select-requires-clause-state c =
    let d = c.in_ok-database.ensures in
    let a = c.requires.asks in
    may_ask c.args.who c.args.held.now c.share_base.new.held c.args.self.now.state.now d.ready.1 (sym a.session) d.ready.0 a.may

pub returns-clause-turns : goal.returns-clause-turns
returns-clause-turns c =
    let a = c.requires.asks in
    let d = c.in_ok-database.ensures in
    let s = c.in_ok-selected.ensures in
    let q = c.args.self.now in
    let who = c.args.who in
    let h = c.args.held.now in
    let g = c.share_base.new.held in
    let k = c.run_select.new.held in
    let state = q.state.now.state in
    let decided = subst (λ (m : List ℕ). Decided (holder g).number who m q.select.now q.asked state g.value k.value g.ranges k.ranges s.decided.0 c.in_ok-selected.selected) c.replace-key.ensures.value s.decided.2 in
    subst (λ x. TurnsHeld x h k) (sym c.task_of-task.ensures) (selected_turns state.session who q.key q.select.now q.asked state h g k s.decided.0 c.in_ok-selected.selected (prepared_asks state.session who h c.requires.prepared a.session a.room) (sym a.session) d.ready.0
    d.ready.1 (books_kept h.value g.value d.ready.2) s.stands s.decided.1 decided)

pub returns-clause-gives : goal.returns-clause-gives
returns-clause-gives c = λ text of o fixed.
    let a = c.requires.asks in
    let d = c.in_ok-database.ensures in
    let s = c.in_ok-selected.ensures in
    let q = c.args.self.now in
    let who = c.args.who in
    let h = c.args.held.now in
    let g = c.share_base.new.held in
    let k = c.run_select.new.held in
    let x = c.in_ok-selected.selected in
    let state = q.state.now.state in
    let is = c.replace-key.ensures.value in
    let decided = subst (λ (m : List ℕ). Decided (holder g).number who m q.select.now q.asked state g.value k.value g.ranges k.ranges s.decided.0 x) is s.decided.2 in
    let decides = subst (λ (m : List ℕ). Decides who text m q.select.now state g.value k.value x) is (s.decides text (subst (λ (m : List ℕ). IsOfText state m q.select.now q.asked text) (sym is) of)) in
    let held = selects_held who text q.key q.select.now q.asked state h g k s.decided.0 x c.in_ok-database.database (prepared_asks state.session who h c.requires.prepared a.session a.room) (sym a.session) d.ready.0
    d.ready.1 (books_kept h.value g.value d.ready.2) (subst (λ (p : ServerState). Makes p.journal.events c.in_ok-database.database) (sym d.ready.2) d.makes) s.stands s.decided.1 decided decides in
    subst (λ (p : Options). IsDecided state.session p text q.key q.select.now state (holder h).seen k.value.journal.events x c.in_ok-database.database) (options_are h.value.options o (sym c.requires.prepared.known ∙ fixed)) held.decided

pub returns-clause-keeps : goal.returns-clause-keeps
returns-clause-keeps c =
    let a = c.requires.asks in
    let d = c.in_ok-database.ensures in
    let s = c.in_ok-selected.ensures in
    let q = c.args.self.now in
    let who = c.args.who in
    let h = c.args.held.now in
    let g = c.share_base.new.held in
    let k = c.run_select.new.held in
    let x = c.in_ok-selected.selected in
    let state = q.state.now.state in
    let asking = prepared_asks state.session who h c.requires.prepared a.session a.room in
    let books = books_kept h.value g.value d.ready.2 in
    let decided = subst (λ (m : List ℕ). Decided (holder g).number who m q.select.now q.asked state g.value k.value g.ranges k.ranges s.decided.0 x) c.replace-key.ensures.value s.decided.2 in
    record {
      has = selected_hit who q.key q.select.now q.asked state g k s.decided.0 x d.ready.0 s.stands s.decided.1 decided;
      known = still_known state.session who q.key q.select.now q.asked state h g k s.decided.0 x asking (sym a.session) d.ready.0 d.ready.1 books s.stands s.decided.1 decided;
      room = still_room state.session who q.key q.select.now q.asked state h g k s.decided.0 x asking (sym a.session) d.ready.0 d.ready.1 books s.stands s.decided.1 decided;
    }
