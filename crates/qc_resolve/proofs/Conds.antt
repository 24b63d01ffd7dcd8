-- The variants of a condition whose parts are lists.
use Rattle.std.specs.Prelude.{codes}
use Rattle.std.specs.List.{list_any}
use Rattle.std.proofs.Common.{◌≡◌, Bool, true, false, List, map, ap, ◌∙◌, Result, Ok, Err, sym}
use Rattle.qc_types.specs.declared.sql_error.SqlError.{SqlError}
use Rattle.qc_sql.specs.declared.statements.Cond.{Cond}
use Rattle.qc_sql.specs.declared.statements.Cond.TheVariants.{Or, And}
use Rattle.qc_types.specs.declared.names.Value.{Value}
use Rattle.qc_sql.specs.declared.statements.Expr.{Expr}
use Rattle.qc_sql.specs.Errors.{not_supported}
use Rattle.qc_sql.specs.Rows.{Scope, mixes, sort_of_value, refuse_if, each, value_cmp, sorted, ◌>>=◌}
use Rattle.qc_resolve.specs.Values.{Validated, row_validated}
use Rattle.qc_sql.specs.Trees.{fold_cond-Or, fold_cond-And}
use Rattle.qc_resolve.specs.declared.test.Test.{Test}
use Rattle.qc_resolve.specs.declared.test.Test.TheVariants as made
use Rattle.qc_resolve.specs.Validated.{in_validated, test_at, test_validated}
use Rattle.qc_resolve.proofs.Steps.{each_of_map}

pub any_validated : (scope : Scope) (c : Cond) (all ys : List Cond) → c ≡ Or all → ys ≡ all → test_validated scope c ≡ (each (test_validated scope) ys >>= λ ts. Ok (made.Any ts))
any_validated scope c all ys h k =
    ap (test_validated scope) h
    ∙ fold_cond-Or (test_at scope) all
    ∙ ap (λ r. r >>= λ ts. Ok (made.Any ts)) (each_of_map (λ t. t) (test_validated scope) all)
    ∙ ap (λ zs. each (test_validated scope) zs >>= λ ts. Ok (made.Any ts)) (sym k)

pub all_validated : (scope : Scope) (c : Cond) (all ys : List Cond) → c ≡ And all → ys ≡ all → test_validated scope c ≡ (each (test_validated scope) ys >>= λ ts. Ok (made.All ts))
all_validated scope c all ys h k =
    ap (test_validated scope) h
    ∙ fold_cond-And (test_at scope) all
    ∙ ap (λ r. r >>= λ ts. Ok (made.All ts)) (each_of_map (λ t. t) (test_validated scope) all)
    ∙ ap (λ zs. each (test_validated scope) zs >>= λ ts. Ok (made.All ts)) (sym k)

-- ---- literals that a value is compared with

abbrev pub mixes_any : Validated → List Value → Bool
mixes_any x vs = list_any (λ v. mixes x.sort (sort_of_value v)) vs

pub in_refused : (scope : Scope) (a : Expr) (vs ys : List Value) (x : Validated) → row_validated scope a ≡ Ok x → ys ≡ vs → mixes_any x ys ≡ true → in_validated scope a vs ≡ Err (not_supported (codes "mixed comparison"))
in_refused scope a vs ys x h e k =
    ap (λ r. r >>= λ x. refuse_if (mixes_any x vs) (not_supported (codes "mixed comparison")) >>= λ _. Ok (made.In x.formula (sorted value_cmp vs))) h
    ∙ ap (λ b. refuse_if b (not_supported (codes "mixed comparison")) >>= λ _. Ok (made.In x.formula (sorted value_cmp vs))) (ap (mixes_any x) (sym e) ∙ k)

pub in_taken : (scope : Scope) (a : Expr) (vs ys : List Value) (x : Validated) → row_validated scope a ≡ Ok x → ys ≡ vs → mixes_any x ys ≡ false → in_validated scope a vs ≡ Ok (made.In x.formula (sorted value_cmp vs))
in_taken scope a vs ys x h e k =
    ap (λ r. r >>= λ x. refuse_if (mixes_any x vs) (not_supported (codes "mixed comparison")) >>= λ _. Ok (made.In x.formula (sorted value_cmp vs))) h
    ∙ ap (λ b. refuse_if b (not_supported (codes "mixed comparison")) >>= λ _. Ok (made.In x.formula (sorted value_cmp vs))) (ap (mixes_any x) (sym e) ∙ k)
