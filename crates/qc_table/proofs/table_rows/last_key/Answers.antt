-- The last of some keys is that at the index before their number.
use Rattle.std.proofs.Common.{◌-◌, length, get_or, pos, rules, w64, FitsSigned, arith}
use Rattle.std.proofs.lemmas.Bool.Decides.{nat_tests}
use Rattle.std.proofs.lemmas.Int.{to_z-of_z}
use Rattle.qc_table.proofs.Appending.{last_read}
use Rattle.qc_table.proofs.table_rows.last_key.Goals as goal

pub returns : goal.returns
returns c =
    let keys = c.args.keys.now in
    let last = get_or keys (length keys - 1) (pos 0) in
    let fits : FitsSigned w64 last = search rules in
    rw (to_z-of_z w64 last fits) (last_read keys (pos 0) (λ e. grind (arith, nat_tests)))
