use Rattle.qc_model.specs.declared.events.Who.{Who}
use Rattle.qc_turn.specs.Seats.{holder}
use Rattle.qc_serve.specs.Ends.{RowsAs}
use Rattle.qc_serve.proofs.Changing.{closed_past}
use Rattle.qc_serve.proofs.Requests.{fit_prepared, none_given, none_turns}
use Rattle.qc_serve.proofs.Turning.{has_one, one_turns}
use Rattle.qc_serve.proofs.rows.ChangeRowsRequest.decide.Goals as goal

pub commit_rows-requires-clause-fit : goal.commit_rows-requires-clause-fit
commit_rows-requires-clause-fit g c =
    let a = c.requires.asks in
    let x = c.args.self.now.state.now in
    fit_prepared c.args.who c.args.held.now x c.requires.prepared a.fit (closed_past (holder c.args.held.now).seen x.state a.closed)

pub returns-clause-turns : goal.returns-clause-turns
returns-clause-turns g c =
    let one = c.in_ok-changed.ensures.pushes in
    one_turns c.args.who one.event c.args.held.now c.commit_rows.new.held c.requires.prepared one.pushes

pub returns-clause-gives : goal.returns-clause-gives
returns-clause-gives g c =
    let q = c.args.self.now in
    let ok = c.in_ok-changed in
    let one = ok.ensures.pushes in
    has_one c.args.who one.event (λ (w : Who) journal e. RowsAs w q.state.now.state q.statement.now journal e ok.changed.1) c.args.held.now c.commit_rows.new.held ok.changed.0 c.requires.prepared one.pushes ok.ensures.place one.is_so

pub returns-in_err-changed-clause-turns : goal.returns-in_err-changed-clause-turns
returns-in_err-changed-clause-turns g c = none_turns c.args.who c.args.held.now c.commit_rows.new.held c.from_residual.result _ c.from_residual.ensures.1 c.requires.prepared c.in_err-changed.ensures.none

pub returns-in_err-changed-clause-none : goal.returns-in_err-changed-clause-none
returns-in_err-changed-clause-none g c = none_given c.args.who c.args.held.now c.commit_rows.new.held c.from_residual.result c.requires.prepared c.in_err-changed.ensures.none
