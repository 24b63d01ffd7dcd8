use Rattle.qc_script.proofs.Cuts.{cut_found, cut_lacks}
use Rattle.qc_script.proofs.reading.fields.cut.Goals as goal

pub returns-in-Some-clause-front : goal.returns-in-Some-clause-front
returns-in-Some-clause-front c = (cut_found c.args.byte c.args.text.now c.in-Some.end c.in-Some.ensures.place).0

pub returns-in-Some-clause-behind : goal.returns-in-Some-clause-behind
returns-in-Some-clause-behind c = (cut_found c.args.byte c.args.text.now c.in-Some.end c.in-Some.ensures.place).1

pub returns-in-None-clause-front : goal.returns-in-None-clause-front
returns-in-None-clause-front c = (cut_lacks c.args.byte c.args.text.now c.in-None.ensures.place).0

pub returns-in-None-clause-behind : goal.returns-in-None-clause-behind
returns-in-None-clause-behind c = (cut_lacks c.args.byte c.args.text.now c.in-None.ensures.place).1
