use Rattle.std.proofs.Common.{arith}
use Rattle.std.proofs.lemmas.List.{length-append}
use Rattle.qc_wire.proofs.Lengths.{string_bound}
use Rattle.qc_wire_tests.proofs.packets.text_cells.Goals as goal

pub returns : goal.returns
returns c = rw c.in_ok-push.ensures.ok (rw c.new-cells.ensures (simp length-append (omega (arith, string_bound c.args.text.now, c.requires))))
