use Rattle.std.proofs.Common.{arith, ap, length}
use Rattle.qc_model.specs.ScriptLines.{lines_of}
use Rattle.qc_script.specs.Drafts.{so_far}
use Rattle.qc_script.proofs.FewSessions.{few_read}
use Rattle.qc_script.proofs.script.read_script.Goals as goal

pub returns-clause-few : goal.returns-clause-few
returns-clause-few c =
    let few = few_read 1 (so_far c.loop-line.draft) (lines_of c.args.bytes.now) (rw c.in_default.ensures.lines at c.loop-line.invariant.0) in
    omega (arith, few, ap length c.from_vec.ensures)
