use Rattle.std.proofs.Common.{◌∙◌, sym, ap, subst, List}
use Rattle.std.specs.Prelude.{Some, None}
use Rattle.qc_types.specs.declared.names.TableName.{TableName}
use Rattle.qc_sql.specs.Rules.{select_tables}
use Rattle.qc_turn.specs.Seats.{holder, words}
use Rattle.qc_core.specs.declared.server_state.ServerState.{ServerState}
use Rattle.qc_core.specs.PlainRun.{MayRunPlain}
use Rattle.qc_core.specs.EntryStart.{MayBegin}
use Rattle.qc_select.proofs.Answering.{outside_first}
use Rattle.qc_select.proofs.Composing.{begins_decided, behind_same, err_behind, err_plain, go_on, next_behind, outside_of, plain_decided}
use Rattle.qc_select.proofs.Permitting.{may_begin, outside_may}
use Rattle.qc_select.proofs.selects.offer.Goals as goal

pub run_plain-requires-clause-next : goal.run_plain-requires-clause-next
run_plain-requires-clause-next c =
    let h = c.args.held.now in
    let k = c.outside_reason.new.held in
    let same = c.outside_reason.ensures.same in
    next_behind h k c.args.who (behind_same h k c.outside_reason.ensures.stands.1 same.0 same.1) c.requires.next

pub run_plain-requires-clause-may : goal.run_plain-requires-clause-may
run_plain-requires-clause-may c =
    let h = c.args.held.now in
    let s = c.args.state.now.state in
    let select = c.args.select.now in
    let same = c.outside_reason.ensures.same in
    let tables = c.in_ok-tables.ensures ∙ ap (λ d. select_tables d select) c.db.ensures in
    let named = c.items.ensures ∙ tables in
    let out = outside_of h s c.args.asked select c.items.result.now c.args.key c.bytes.result.now c.in_ok-reason.reason (Some c.in-Some.reason) named c.bytes.ensures c.in_ok-reason.ensures.reason c.in-Some.is in
    subst (λ (p : ServerState). MayRunPlain p c.args.who c.in-Some.reason) (sym same.0) (outside_may h.value c.args.who (go_on h c.args.who c.requires.stands c.requires.next) s c.args.asked select (select_tables s.db select) c.args.key c.in-Some.reason out)

pub returns-in-Some-clause-decided : goal.returns-in-Some-clause-decided
returns-in-Some-clause-decided c =
    let h = c.args.held.now in
    let k = c.outside_reason.new.held in
    let m = c.run_plain.new.held in
    let s = c.args.state.now.state in
    let select = c.args.select.now in
    let same = c.outside_reason.ensures.same in
    let tables = c.in_ok-tables.ensures ∙ ap (λ d. select_tables d select) c.db.ensures in
    let named = c.items.ensures ∙ tables in
    let out = outside_of h s c.args.asked select c.items.result.now c.args.key c.bytes.result.now c.in_ok-reason.reason (Some c.in-Some.reason) named c.bytes.ensures c.in_ok-reason.ensures.reason c.in-Some.is in
    let may = outside_may h.value c.args.who (go_on h c.args.who c.requires.stands c.requires.next) s c.args.asked select (select_tables s.db select) c.args.key c.in-Some.reason out in
    plain_decided c.args.who c.args.key select c.args.asked s c.run_plain.result h k m c.in-Some.reason c.args.plan c.requires.next c.requires.none c.requires.plan out may c.outside_reason.ensures.stands.1 same.0 c.run_plain.ensures.stands.1 c.run_plain.ensures.selected c.run_plain.ensures.pushed (c.run_plain.ensures.ranges ∙ same.1)

pub returns-in-Some-clause-memory : goal.returns-in-Some-clause-memory
returns-in-Some-clause-memory c =
    let same = c.outside_reason.ensures.same in
    err_plain c.run_plain.result c.args.held.now c.outside_reason.new.held c.run_plain.new.held c.outside_reason.ensures.stands.1 same.0 c.run_plain.ensures.stands.1 c.run_plain.ensures.memory (c.run_plain.ensures.ranges ∙ same.1)

pub begin-requires-clause-next : goal.begin-requires-clause-next
begin-requires-clause-next c =
    let h = c.args.held.now in
    let k = c.outside_reason.new.held in
    let same = c.outside_reason.ensures.same in
    next_behind h k c.args.who (behind_same h k c.outside_reason.ensures.stands.1 same.0 same.1) c.requires.next

pub begin-requires-clause-may : goal.begin-requires-clause-may
begin-requires-clause-may c =
    let h = c.args.held.now in
    let s = c.args.state.now.state in
    let select = c.args.select.now in
    let same = c.outside_reason.ensures.same in
    let tables = c.in_ok-tables.ensures ∙ ap (λ d. select_tables d select) c.db.ensures in
    let named = c.items.ensures ∙ tables in
    let out = outside_of h s c.args.asked select c.items.result.now c.args.key c.bytes.result.now c.in_ok-reason.reason None named c.bytes.ensures c.in_ok-reason.ensures.reason c.in-None.is in
    let first = outside_first (holder h).number c.args.who c.args.key select c.args.asked s h.value c.args.plan c.requires.plan in
    let own = may_begin (words h) h.value c.args.state.now c.args.key select c.args.asked c.requires.text.0 c.requires.stands.sound c.requires.state c.requires.text.1 c.requires.text.2 c.requires.none (first ∙ out) in
    subst (λ (ts : List TableName). MayBegin c.args.key ts c.outside_reason.new.held.value) (sym tables) (subst (λ (p : ServerState). MayBegin c.args.key (select_tables s.db select) p) (sym same.0) own)

pub returns-in-None-clause-decided : goal.returns-in-None-clause-decided
returns-in-None-clause-decided c =
    let h = c.args.held.now in
    let k = c.outside_reason.new.held in
    let m = c.begin.new.held in
    let s = c.args.state.now.state in
    let select = c.args.select.now in
    let same = c.outside_reason.ensures.same in
    let tables = c.in_ok-tables.ensures ∙ ap (λ d. select_tables d select) c.db.ensures in
    let named = c.items.ensures ∙ tables in
    let out = outside_of h s c.args.asked select c.items.result.now c.args.key c.bytes.result.now c.in_ok-reason.reason None named c.bytes.ensures c.in_ok-reason.ensures.reason c.in-None.is in
    begins_decided c.args.who c.args.key select c.args.asked s c.begin.result h k m c.args.plan c.in_ok-tables.tables c.requires.next c.requires.none c.requires.plan out tables c.outside_reason.ensures.stands.1 same.0 same.1 c.begin.ensures.begun

pub returns-in-None-clause-memory : goal.returns-in-None-clause-memory
returns-in-None-clause-memory c =
    let h = c.args.held.now in
    let k = c.outside_reason.new.held in
    let same = c.outside_reason.ensures.same in
    err_behind c.begin.result h.value h k c.begin.new.held (behind_same h k c.outside_reason.ensures.stands.1 same.0 same.1) c.begin.ensures.memory
