-- The names of an INSERT, one by one.
use Rattle.std.proofs.Common.{◌≡◌, ℕ, ◌+◌, ◌<◌, true, false, List, [], ◌∷◌, ◌++◌, length, drop, take, get_or, refl, ap, sym, ◌∙◌, Ok, Err, Result, append_assoc}
use Rattle.std.specs.Prelude.{bytes_eq}
use Rattle.std.specs.List.{list_any}
use Rattle.std.proofs.lemmas.List.{append-nil}
use Rattle.qc_types.specs.declared.sql_error.SqlError.{SqlError}
use Rattle.qc_sql.specs.declared.tables.Column.{Column}
use Rattle.qc_sql.specs.Database.{Name}
use Rattle.qc_sql.specs.Errors.{column_named_twice}
use Rattle.qc_sql.specs.Rows.{◌>>=◌}
use Rattle.qc_sql.specs.Effects.{column_called, named_columns}
use Rattle.qc_resolve.proofs.Steps.{rest_at}
use Rattle.qc_resolve.proofs.Lists.{SameSeen, next_at, seen_more}

pub seen_next : (seen names : List Name) (i : ℕ) (name : Name) → i < length names → name ≡ get_or names i name → SameSeen seen (take i names) → SameSeen (name ∷ seen) (take (i + 1) names)
seen_next seen names i name h e same n = seen_more seen (take i names) name same n ∙ ap (list_any (bytes_eq n)) (sym (next_at names i name h e))

abbrev pub named_on : List Name → List Column → List Column → List Name → Result (List Column) SqlError
named_on seen columns named names = named_columns seen columns names >>= λ cs. Ok (named ++ cs)

pub all_named : (columns : List Column) (r : Result (List Column) SqlError) → r ≡ (r >>= λ cs. Ok ([] ++ cs))
all_named columns (Ok cs) = refl
all_named columns (Err e) = refl

one_named : (named : List Column) (c : Column) (r : Result (List Column) SqlError) → ((r >>= λ cs. Ok (c ∷ cs)) >>= λ cs. Ok (named ++ cs)) ≡ (r >>= λ cs. Ok ((named ++ c ∷ []) ++ cs))
one_named named c (Ok cs) = ap Ok (sym (append_assoc named (c ∷ []) cs))
one_named named c (Err e) = refl

module _ (columns named : List Column) (seen names : List Name) (i : ℕ) (name : Name) (h : i < length names) (e : name ≡ get_or names i name) (same : SameSeen seen (take i names)) where
  at_name : named_on seen columns named (drop i names) ≡ named_on seen columns named (name ∷ drop (i + 1) names)
  at_name = ap (named_on seen columns named) (rest_at names i name h e)

  pub name_unknown : (error : SqlError) → column_called name columns ≡ Err error → named_on seen columns named (drop i names) ≡ Err error
  name_unknown error k = at_name ∙ rw k refl

  pub named_twice : (c : Column) → column_called name columns ≡ Ok c → list_any (bytes_eq name) (take i names) ≡ true → named_on seen columns named (drop i names) ≡ Err (column_named_twice name)
  named_twice c k again = at_name ∙ rw (k, same name ∙ again) refl

  pub named_once : (c : Column) → column_called name columns ≡ Ok c → list_any (bytes_eq name) (take i names) ≡ false → named_on seen columns named (drop i names) ≡ named_on (name ∷ seen) columns (named ++ c ∷ []) (drop (i + 1) names)
  named_once c k first = at_name ∙ rw (k, same name ∙ first) (one_named named c (named_columns (name ∷ seen) columns (drop (i + 1) names)))

pub names_ended : (columns named : List Column) (seen names : List Name) (i : ℕ) → drop i names ≡ [] → named_on seen columns named (drop i names) ≡ Ok named
names_ended columns named seen names i h = ap (named_on seen columns named) h ∙ ap Ok (append-nil named)
