use Rattle.std.proofs.Common.{◌≡◌, sym, ap, subst, ◌∙◌, Option, Some, refl}
use Rattle.std.specs.Option.{IsSome}
use Rattle.qc_dir.specs.declared.entries.Entry.{Entry}
use Rattle.qc_dir.specs.Directory.{entry_at}
use Rattle.qc_model.specs.Licence.{IsComplete}
use Rattle.qc_turn.specs.Seats.{words}
use Rattle.qc_core.specs.declared.server_state.ServerState.{ServerState}
use Rattle.qc_core.specs.Calls.{MaySend}
use Rattle.qc_core.proofs.Seeking.{found_of, found_none, sendable, answer_no, answer_yes}
use Rattle.qc_core.proofs.lookup.look.Goals as goal

pub returns-in_default-clause-found : goal.returns-in_default-clause-found
returns-in_default-clause-found c = found_none c.args.held.now.value c.args.state.now.state c.args.key.now (sym c.in_default.is ∙ c.find_entry.ensures.found)

pub may_send-requires : goal.may_send-requires
may_send-requires c =
    let h = c.args.held.now in
    let same : c.value.result.now ≡ h.value = c.value.ensures.value ∙ c.find_entry.ensures.same.value in
    let f = found_of (words h) h.value c.args.key.now c.in-Some.serial c.requires.stands.sound (sym c.in-Some.is ∙ c.find_entry.ensures.found) in
    subst (λ (s : ServerState). IsSome (entry_at c.in-Some.serial s.dir.entries)) (sym same) (subst (λ (o : Option Entry). IsSome o) (sym f.there) refl)

pub returns-then-not-may_send-clause-found : goal.returns-then-not-may_send-clause-found
returns-then-not-may_send-clause-found c =
    let h = c.args.held.now in
    let same : c.value.result.now ≡ h.value = c.value.ensures.value ∙ c.find_entry.ensures.same.value in
    let f = found_of (words h) h.value c.args.key.now c.in-Some.serial c.requires.stands.sound (sym c.in-Some.is ∙ c.find_entry.ensures.found) in
    let test = subst (λ (s : ServerState). MaySend c.args.state.now.state c.in-Some.serial s c.may_send.result) same c.may_send.ensures f.entry f.there in
    answer_no (words h) h.value c.args.state.now.state c.args.key.now c.in-Some.serial c.requires.stands.sound f (sym (sendable h.value c.args.state.now.state c.args.key.now c.in-Some.serial c.may_send.result f test) ∙ c.if-not-may_send.true)

pub stream_entry-requires-clause-complete : goal.stream_entry-requires-clause-complete
stream_entry-requires-clause-complete c =
    let h = c.args.held.now in
    let same : c.value.result.now ≡ h.value = c.value.ensures.value ∙ c.find_entry.ensures.same.value in
    let f = found_of (words h) h.value c.args.key.now c.in-Some.serial c.requires.stands.sound (sym c.in-Some.is ∙ c.find_entry.ensures.found) in
    let test = subst (λ (s : ServerState). MaySend c.args.state.now.state c.in-Some.serial s c.may_send.result) same c.may_send.ensures f.entry f.there in
    subst (λ (s : ServerState). IsComplete s.journal.events c.in-Some.serial) (sym same)
    (answer_yes h.value c.args.state.now.state c.args.key.now c.in-Some.serial f (sym (sendable h.value c.args.state.now.state c.args.key.now c.in-Some.serial c.may_send.result f test) ∙ c.if-not-may_send.false)).1

pub returns-clause-found : goal.returns-clause-found
returns-clause-found c =
    let h = c.args.held.now in
    let same : c.value.result.now ≡ h.value = c.value.ensures.value ∙ c.find_entry.ensures.same.value in
    let f = found_of (words h) h.value c.args.key.now c.in-Some.serial c.requires.stands.sound (sym c.in-Some.is ∙ c.find_entry.ensures.found) in
    let test = subst (λ (s : ServerState). MaySend c.args.state.now.state c.in-Some.serial s c.may_send.result) same c.may_send.ensures f.entry f.there in
    ap Some c.stream_entry.ensures.hit.0
    ∙ (answer_yes h.value c.args.state.now.state c.args.key.now c.in-Some.serial f (sym (sendable h.value c.args.state.now.state c.args.key.now c.in-Some.serial c.may_send.result f test) ∙ c.if-not-may_send.false)).0
