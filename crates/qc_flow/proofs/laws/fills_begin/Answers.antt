use Rattle.qc_flow.proofs.Begins.{fills_begin}
use Rattle.qc_flow.proofs.laws.fills_begin.Goals as goal

pub returns : goal.returns
returns c = fills_begin
