use Rattle.std.proofs.Common.{ap, arith}
use Rattle.qc_dir.specs.Uses.{Used}
use Rattle.qc_dir.proofs.UseSteps.{room-is}
use Rattle.qc_dir.proofs.uses.Uses.room.Goals as goal

pub overflow_sub-result : goal.overflow_sub-result
overflow_sub-result c =
    let u = c.self.invariant in
    omega (arith, c.len.ensures, u.all, room-is c.self.inside.slots c.self.inside.order u.ordered)

pub returns : goal.returns
returns c =
    let u = c.self.invariant in
    omega (arith, c.len.ensures, u.all, room-is c.self.inside.slots c.self.inside.order u.ordered, ap (λ (d : Used). d.room) c.self.view_is)
