-- The key that is asked for is the one that is given.
use Rattle.std.proofs.Common.{◌≡◌, ◌∙◌, rules, to_z, of_z}
use Rattle.std.specs.Int.{w64}
use Rattle.qc_table.proofs.Found.{found_is}
use Rattle.qc_table.proofs.fitting.has_row.Goals as goal

pub returns-in-Some : goal.returns-in-Some
returns-in-Some g c =
    let key : to_z w64 (of_z w64 c.args.key) ≡ c.args.key = search rules in
    let told = c.is_some.ensures ∙ found_is c.find.result c.args.key c.in-Some.table.now.rows (rw key at c.find.ensures.found) in
    rw c.in-Some.is told
