use Rattle.qc_flow.proofs.Hits.{streams_begin}
use Rattle.qc_flow.proofs.laws.streams_begin.Goals as goal

pub returns : goal.returns
returns c = streams_begin
