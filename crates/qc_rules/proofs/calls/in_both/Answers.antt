use Rattle.std.proofs.Common.{◌∙◌}
use Rattle.qc_sql.specs.Rules.{calls_of}
use Rattle.qc_rules.proofs.Firsts.{in_first, in_second}
use Rattle.qc_rules.proofs.calls.in_both.Goals as goal

pub returns-in-Some : goal.returns-in-Some
returns-in-Some c = in_first (calls_of c.args.a.now) (calls_of c.args.b.now) c.in-Some.name.now c.in-Some.ensures

pub returns : goal.returns
returns c = c.in_expression-2.ensures ∙ in_second (calls_of c.args.a.now) (calls_of c.args.b.now) c.in_default.ensures
