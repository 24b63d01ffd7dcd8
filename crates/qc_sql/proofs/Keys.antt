-- What can stand in a key.
use Rattle.std.proofs.Common.{◌≡◌, ℕ, ◌^◌, ◌<◌, true, List, arith}
use Rattle.std.specs.Prelude.{◌||◌, ◌==◌}
use Rattle.std.proofs.lemmas.Bool.{and_parts}
use Rattle.std.proofs.lemmas.Bool.Decides.{nat_tests}
use Rattle.qc_sql.specs.declared.session.Flags.{Flags}
use Rattle.qc_sql.specs.Keys.{can_be_keyed}

set_is_small : (n : ℕ) → (n == 33 || n == 45) ≡ true → n < 2 ^ 16
set_is_small n h = grind (arith, nat_tests)

-- the character set of flags that can stand in a key fits its two bytes
pub charset_fits : (f : Flags) (db : List ℕ) → can_be_keyed f db ≡ true → f.charset < 2 ^ 16
charset_fits f db can = set_is_small f.charset (and_parts _ _ (and_parts _ _ (and_parts _ _ can).0).0).1
