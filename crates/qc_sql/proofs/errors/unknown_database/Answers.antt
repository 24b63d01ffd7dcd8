use Rattle.std.proofs.Common.{◌≡◌, ◌++◌, take, List, ℕ, subst, codes}
use Rattle.std.specs.Prelude.{IfOk}
use Rattle.std.proofs.lemmas.List.{take_min}
use Rattle.qc_sql.specs.Errors.{error_of}
use Rattle.qc_sql.proofs.errors.unknown_database.Goals as goal

pub returns : goal.returns
returns c =
    let told : take c.min.result c.args.name.now ≡ take 64 c.args.name.now = rw c.min.ensures (take_min 64 c.args.name.now) in
    subst (λ (t : List ℕ). IfOk c.error_with.result (λ e. e ≡ error_of 1049 (codes "42000") (codes "Unknown database: " ++ t))) told c.error_with.ensures
