use Rattle.qc_serve.proofs.Parting.{apart_on}
use Rattle.qc_serve.proofs.connecting.connect.Goals as goal

pub enter_now-session-requires-clause-apart : goal.enter_now-session-requires-clause-apart
enter_now-session-requires-clause-apart g c =
    let w = c.with_room in
    apart_on c.args.turn.now c.args.seat w.new.self c.requires.apart w.ensures.seated.0 w.ensures.seated.1
