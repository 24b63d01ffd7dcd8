-- The row of a tuple whose values were found good.
use Rattle.std.proofs.Common.{◌≡◌, ℕ, ℤ, Bool, true, false, List, refl, ap, sym, ◌∙◌, Ok, Err, Result, cond}
use Rattle.std.specs.Prelude.{◌||◌}
use Rattle.qc_types.specs.declared.names.Value.{Value}
use Rattle.qc_types.specs.declared.sql_error.SqlError.{SqlError}
use Rattle.qc_sql.specs.declared.tables.Column.{Column}
use Rattle.qc_sql.specs.Database.{key_of}
use Rattle.qc_sql.specs.Rows.{◌>>=◌, Bound}
use Rattle.qc_write.specs.Inserts.{tuple_validated, key_validated, row_validated}

module _ (b : Bound) (named : List Column) (seen : ℤ → Bool) (number : ℕ) (tuple row : List Value) (key : ℤ) (fine : tuple_validated named b.table.columns number tuple ≡ Ok row) (of_row : key ≡ key_of b.table.columns row) where
  known : row_validated b named seen number tuple ≡ (key_validated b seen number key >>= λ _. Ok row)
  known =
      ap (λ (r : Result (List Value) SqlError). r >>= λ y. key_validated b seen number (key_of b.table.columns y) >>= λ _. Ok y) fine
      ∙ ap (λ (k : ℤ). key_validated b seen number k >>= λ _. Ok row) (sym of_row)

  pub key_refused : (error : SqlError) → key_validated b seen number key ≡ Err error → row_validated b named seen number tuple ≡ Err error
  key_refused error h = known ∙ ap (λ (r : Result (Unit {0}) SqlError). r >>= λ _. Ok row) h

  pub row_good : key_validated b seen number key ≡ Ok (tt {0}) → row_validated b named seen number tuple ≡ Ok row
  row_good h = known ∙ ap (λ (r : Result (Unit {0}) SqlError). r >>= λ _. Ok row) h

pub cond_or : (b x : Bool) → cond b true x ≡ (b || x)
cond_or true x = refl
cond_or false x = refl
