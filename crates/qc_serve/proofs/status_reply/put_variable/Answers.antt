use Rattle.std.proofs.Common.{SFits, pos, rules, to_z-of_z}
use mir.Syntax.{w128}
use Rattle.qc_serve.proofs.StatusPackets.{variable_fits}
use Rattle.qc_serve.proofs.status_reply.put_variable.Goals as goal

pub put_row-requires : goal.put_row-requires
put_row-requires c =
    let fits : SFits w128 (pos c.args.value) = search rules in
    rw (c.in_ok-push-2.ensures.ok, c.in_ok-push.ensures.ok, c.new-cells.ensures, c.from.ensures, to_z-of_z fits) (variable_fits c.args.name.now c.args.value c.requires.short)
