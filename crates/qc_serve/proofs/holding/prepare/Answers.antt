use Rattle.std.proofs.Common.{refl}
use Rattle.qc_serve.proofs.Seating.{reserved_ready}
use Rattle.qc_serve.proofs.holding.prepare.Goals as goal

pub returns-clause-ready : goal.returns-clause-ready
returns-clause-ready c =
    let r = c.in_ok-reserve.ensures in
    (refl, reserved_ready c.args.session c.args.held.now c.reserve.new.held c.value.result.now c.next_number-number.result c.requires.idle r.stands r.ranges r.same r.rests r.room c.value.ensures.value c.next_number-number.ensures)
