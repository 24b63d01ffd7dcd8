use Rattle.std.proofs.Common.{◌≡◌, Ok, Err, sym}
use Rattle.qc_trx.specs.Endings.{end_of, meant}
use Rattle.qc_statements.proofs.Endings.{ends_in, ends_with}
use Rattle.qc_serve.proofs.Endings.{ready_present}
use Rattle.qc_serve.proofs.Seating.{ready_same}
use Rattle.qc_serve.proofs.transaction_end.judge_now.Goals as goal

pub check_conflicts-requires-clause-sound : goal.check_conflicts-requires-clause-sound
check_conflicts-requires-clause-sound c = rw (c.journal.ensures, c.value.ensures.value) (ready_present c.args.who c.args.held.now c.requires.ready)

pub returns-in-Ok-clause-ready : goal.returns-in-Ok-clause-ready
returns-in-Ok-clause-ready c = ready_same c.args.who c.args.held.now c.value.result.now c.requires.ready c.value.ensures.value

pub returns-in-Err-Other-clause-ready : goal.returns-in-Err-Other-clause-ready
returns-in-Err-Other-clause-ready c = ready_same c.args.who c.args.held.now c.value.result.now c.requires.ready c.value.ensures.value

pub returns-in-Err-Memory-clause-ready : goal.returns-in-Err-Memory-clause-ready
returns-in-Err-Memory-clause-ready c = ready_same c.args.who c.args.held.now c.value.result.now c.requires.ready c.value.ensures.value

pub returns-in-Ok-clause-met : goal.returns-in-Ok-clause-met
returns-in-Ok-clause-met c =
    let J = c.args.held.now.value.journal.events in
    let is : end_of c.args.state.now.state J ≡ Ok c.in-Ok.field-0.now = rw (c.journal.ensures, c.value.ensures.value) at c.in-Ok.ensures.gives in
    sym (ends_with J c.args.state.now.state c.in-Ok.field-0.now is).0

pub returns-in-Err-Other-clause-met : goal.returns-in-Err-Other-clause-met
returns-in-Err-Other-clause-met c =
    let J = c.args.held.now.value.journal.events in
    let is : end_of c.args.state.now.state J ≡ Err (meant c.in-Err-Other.conflict) = rw (c.in-Err-Other.field-0-is, c.journal.ensures, c.value.ensures.value) at c.in-Err-Other.ensures.gives in
    sym (ends_in J c.args.state.now.state (meant c.in-Err-Other.conflict) is)
