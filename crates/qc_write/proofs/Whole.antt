-- INSERT, part by part.
use Rattle.std.proofs.Common.{◌≡◌, ℕ, suc, List, [], ◌∷◌, length, refl, ap, sym, ◌∙◌, Ok, Err, Result}
use Rattle.qc_types.specs.declared.names.TableName.{TableName}
use Rattle.qc_types.specs.declared.names.Value.{Value}
use Rattle.qc_types.specs.declared.sql_error.SqlError.{SqlError}
use Rattle.qc_sql.specs.declared.tables.Column.{Column}
use Rattle.qc_sql.specs.declared.statements.Insert.{Insert}
use Rattle.qc_sql.specs.Database.{Name, Database}
use Rattle.qc_sql.specs.Rules.{full_name}
use Rattle.qc_sql.specs.Rows.{◌>>=◌, Bound}
use Rattle.qc_sql.specs.Effects.{Effect, Validated, effect_of, columns_of_insert, lacking, refuse_lacking, new_rows, insert_effect}
use Rattle.qc_write.specs.Inserts.{puts, insert_validated}
use Rattle.qc_write.specs.Targets.{target_in}

abbrev Step : Type 0
Step = Result (Unit {0}) SqlError

module _ (t : TableName) where
  length_puts : (rows : List (List Value)) → length (puts t rows) ≡ length rows
  length_puts [] = refl
  length_puts (row ∷ rows) = ap suc (length_puts rows)

  counted : (rows : List (List Value)) → effect_of (puts t rows) (length rows) ≡ effect_of (puts t rows) (length (puts t rows))
  counted rows = ap (effect_of (puts t rows)) (sym (length_puts rows))

  put_all : (r : Result (List (List Value)) SqlError)
      → (r >>= λ rows. Ok (effect_of (puts t rows) (length rows))) ≡ ((r >>= λ rows. Ok (puts t rows)) >>= λ ops. Ok (effect_of ops (length ops)))
  put_all (Ok rows) = ap (λ (e : Effect). Ok e) (counted rows)
  put_all (Err e) = refl

  none_lacks : (named : List Column) (s : Step) (n : List Column → Result (List (List Value)) SqlError)
      → (s >>= λ _. n named >>= λ rows. Ok (effect_of (puts t rows) (length rows))) ≡ ((s >>= λ _. Ok named) >>= λ cs. (n cs >>= λ rows. Ok (puts t rows)) >>= λ ops. Ok (effect_of ops (length ops)))
  none_lacks named (Ok u) n = put_all (n named)
  none_lacks named (Err e) n = refl

  in_parts : (r : Result (List Column) SqlError) (s : List Column → Step) (n : List Column → Result (List (List Value)) SqlError)
      → (r >>= λ named. s named >>= λ _. n named >>= λ rows. Ok (effect_of (puts t rows) (length rows)))
      ≡ ((r >>= λ named. s named >>= λ _. Ok named) >>= λ cs. (n cs >>= λ rows. Ok (puts t rows)) >>= λ ops. Ok (effect_of ops (length ops)))
  in_parts (Ok named) s n = none_lacks named (s named) n
  in_parts (Err e) s n = refl

module _ (d : Database) (db : Name) (insert : Insert) where
  abbrev inserted : TableName → Bound → Validated
  inserted t b =
      columns_of_insert b.table.columns insert.names >>= λ named.
      refuse_lacking (lacking b.table.columns named) >>= λ _.
      new_rows t b.table named [] 1 insert.rows >>= λ rows.
      Ok (effect_of (puts t rows) (length rows))

  pub insert_refused : (e : SqlError) → target_in d db insert.table ≡ Err e → insert_effect d db insert ≡ Err e
  insert_refused e h = ap (λ (r : Result Bound SqlError). r >>= inserted (full_name db insert.table)) h

  pub insert_is : (b : Bound) → target_in d db insert.table ≡ Ok b → b.name ≡ full_name db insert.table → insert_effect d db insert ≡ insert_validated b insert
  insert_is b h e =
      ap (λ (r : Result Bound SqlError). r >>= inserted (full_name db insert.table)) h
      ∙ ap (λ (t : TableName). inserted t b) (sym e)
      ∙ in_parts b.name (columns_of_insert b.table.columns insert.names) (λ named. refuse_lacking (lacking b.table.columns named)) (λ named. new_rows b.name b.table named [] 1 insert.rows)
