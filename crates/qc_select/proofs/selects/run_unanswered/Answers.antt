use Rattle.std.proofs.Common.{◌∙◌, ap, sym}
use Rattle.qc_turn.specs.Seats.{with_value}
use Rattle.qc_turn.proofs.Holders.{same_value}
use Rattle.qc_core.specs.declared.server_state.ServerState.{ServerState}
use Rattle.qc_select.proofs.Composing.{given_there, refused_decided}
use Rattle.qc_select.proofs.selects.run_unanswered.Goals as goal

pub returns-in-Err-clause-decided : goal.returns-in-Err-clause-decided
returns-in-Err-clause-decided c =
    let h = c.args.held.now in
    let x = c.args.state.now in
    let select = c.args.select.now in
    let prepared = c.in_ok-error.ensures in
    let value = c.value.ensures.value in
    let given = given_there h x select c.database.result.now c.requires.stands c.requires.state prepared.state (c.database.ensures ∙ ap (λ (p : ServerState). p.database) value) in
    let k = with_value h c.value.result.now in
    refused_decided c.args.who c.args.key select c.args.asked x.state h k c.refuse.new.held c.in-Err.error c.refuse.result c.requires.next c.requires.none (sym c.in-Err.is ∙ prepared.plan ∙ given) (same_value h c.value.result.now c.requires.stands.held) value c.refuse.ensures.stands.1
    c.refuse.ensures.selected c.refuse.ensures.pushed c.refuse.ensures.ranges
