use Rattle.std.proofs.Common.{subst}
use Rattle.qc_select.specs.declared.selected.Selected.{Selected}
use Rattle.qc_serve.specs.Going.{number_of}
use Rattle.qc_serve.specs.Querying.{MaySend}
use Rattle.qc_serve.proofs.Replying.{fill_with}
use Rattle.qc_serve.proofs.session.Session.send_selected.Goals as goal

pub returns-in-Start-clause-seat : goal.returns-in-Start-clause-seat
returns-in-Start-clause-seat g c =
    let s = c.args.self.now in
    let may = subst (λ (x : Selected). MaySend c.args.turn.now s x) c.in-Start.is c.requires in
    fill_with c.args.turn.now (number_of s) _ s.seat c.fill_entry.new.self.seat may.0.has c.fill_entry.ensures.seat
