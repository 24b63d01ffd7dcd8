-- What the index finds after a change.
use Rattle.std.proofs.Common.{◌≡◌, ℕ, Bool, true, false, cond, ◌&&◌, refl, ap, sym, ◌∙◌}
use Rattle.std.specs.Prelude.{Option, Some, bytes_eq, unwrap_or}
use Rattle.std.specs.Option.{option_map_or}
use Rattle.qc_types.specs.declared.names.TableName.{TableName}
use Rattle.qc_sql.specs.Database.{Name, at_name}
use Rattle.qc_journal.specs.declared.changes.InDatabase.{InDatabase}
use Rattle.qc_journal.specs.declared.changes.Changes.{Changes}
use Rattle.qc_journal.specs.Indexed.{found, number_in}
use Rattle.qc_journal.proofs.Maps.{same_bytes}

unwrap_or-cond : (b : Bool) (w d : ℕ) (o : Option ℕ) → unwrap_or (cond b (Some w) o) d ≡ cond b w (unwrap_or o d)
unwrap_or-cond true w d o = refl
unwrap_or-cond false w d o = refl

-- a table that is entered has the number, and the others have theirs
pub number_in-entered : (q name : Name) (number : ℕ) (old new : InDatabase) → new.dropped ≡ old.dropped → at_name q new.tables ≡ cond (bytes_eq q name) (Some number) (at_name q old.tables)
    → number_in q new ≡ cond (bytes_eq q name) number (number_in q old)
number_in-entered q name number old new dropped has =
    ap (unwrap_or (at_name q new.tables)) dropped
    ∙ (ap (λ o. unwrap_or o old.dropped) has ∙ unwrap_or-cond (bytes_eq q name) number old.dropped (at_name q old.tables))

module _ (old new : Changes) (db : Name) (tables : InDatabase) (has : (q : Name) → at_name q new.databases ≡ cond (bytes_eq q db) (Some tables) (at_name q old.databases)) where
  -- one table of a database is entered
  pub found-entered : (t : TableName) (name : Name) (number : ℕ) → ((q : Name) → number_in q tables ≡ cond (bytes_eq q name) number (option_map_or (number_in q) (at_name db old.databases) 0))
      → found t new ≡ cond (bytes_eq t.db db && bytes_eq t.name name) number (found t old)
  found-entered t name number says =
      ap (λ o. option_map_or (number_in t.name) o 0) (has t.db)
      ∙ elim (bytes_eq t.db db) as (λ b. bytes_eq t.db db ≡ b → option_map_or (number_in t.name) (cond b (Some tables) (at_name t.db old.databases)) 0 ≡ cond (b && bytes_eq t.name name) number (found t old)) [
        | true ↦ λ p. says t.name ∙ ap (λ n. cond (bytes_eq t.name name) number (option_map_or (number_in t.name) (at_name n old.databases) 0)) (sym (same_bytes t.db db p))
        | false ↦ λ p. refl
      ] refl

  -- all tables of a database have one number
  pub found-dropped : (t : TableName) (number : ℕ) → ((q : Name) → number_in q tables ≡ number) → found t new ≡ cond (bytes_eq t.db db) number (found t old)
  found-dropped t number says =
      ap (λ o. option_map_or (number_in t.name) o 0) (has t.db)
      ∙ elim (bytes_eq t.db db) as (λ b. option_map_or (number_in t.name) (cond b (Some tables) (at_name t.db old.databases)) 0 ≡ cond b number (found t old)) [
        | true ↦ says t.name
        | false ↦ refl
      ]
