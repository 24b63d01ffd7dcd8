use Rattle.std.proofs.Common.{◌≡◌, ap, ◌∙◌, sym, subst}
use Rattle.qc_sql.specs.Database.{Database}
use Rattle.qc_statements.proofs.Calls.{if_ok}
use Rattle.qc_core.specs.declared.server_state.ServerState.{ServerState}
use Rattle.qc_serve.specs.Ends.{Makes}
use Rattle.qc_serve.proofs.Endings.{ready_makes}
use Rattle.qc_serve.proofs.Seating.{ready_same}
use Rattle.qc_serve.proofs.holding.share_base.Goals as goal

pub returns-clause-ready : goal.returns-clause-ready
returns-clause-ready c = ready_same c.args.who c.args.held.now c.value.result.now c.requires c.value.ensures.value

pub returns-clause-makes : goal.returns-clause-makes
returns-clause-makes c =
    let h = c.args.held.now in
    let J = h.value.journal.events in
    let is : c.database.result.now ≡ h.value.database = c.database.ensures ∙ ap (λ (x : ServerState). x.database) c.value.ensures.value in
    if_ok (λ (d : Database). d ≡ c.database.result.now) (Makes J) (λ d e. subst (Makes J) (sym (e ∙ is)) (ready_makes c.args.who h c.requires)) c.share.result c.share.ensures.same
