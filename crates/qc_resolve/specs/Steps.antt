-- Steps over a list, any of which may be refused.
use Rattle.std.specs.Prelude.{List, [], ◌∷◌, ◌++◌, Result, Ok, Err}
use Rattle.qc_types.specs.declared.sql_error.SqlError.{SqlError}
use Rattle.qc_sql.specs.Rows.{◌>>=◌}

-- what the steps make of a state, or the first refusal
abbrev pub run : {A S : Type 0} → (A → S → Result S SqlError) → List A → S → Result S SqlError
run step [] s = Ok s
run step (x ∷ xs) s = step x s >>= run step xs

-- what one step puts at the end of a list
abbrev pub push_made : {A B : Type 0} → (A → Result B SqlError) → A → List B → Result (List B) SqlError
push_made f x ys = f x >>= λ y. Ok (ys ++ y ∷ [])
