use Rattle.std.proofs.Common.{◌∙◌, [], arith}
use Rattle.std.proofs.lemmas.List.{get_or_default}
use Rattle.qc_eval.proofs.KeptRows.{fails_one}
use Rattle.qc_eval.proofs.matching.range_in.Goals as goal

pub returns : goal.returns
returns g c =
    let two = c.requires.levels in
    fails_one c.args.tables.now c.args.filters.now c.items-tests.result.now c.range_of.result two
    (c.items-tests.ensures ∙ c.index-filters-1.is ∙ get_or_default c.args.filters.now 1 c.index-filters-1.result [] (omega (arith, two))) c.range_of.ensures
