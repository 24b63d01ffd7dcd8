use Rattle.qc_eval.proofs.masks.narrow.Goals as goal

pub returns-in-Compare : goal.returns-in-Compare
returns-in-Compare g c = rw c.in-Compare.is c.narrow_by_comparison.ensures

pub returns-in-Between : goal.returns-in-Between
returns-in-Between g c = rw c.in-Between.is c.narrow_between.ensures
