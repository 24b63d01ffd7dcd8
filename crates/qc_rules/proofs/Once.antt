-- The first table of a system database is the same where each table is taken once.
use Rattle.std.proofs.Common.{◌≡◌, Bool, true, false, cond, List, [], ◌∷◌, refl, ap, sym, ◌∙◌}
use Rattle.std.specs.Prelude.{◌||◌, ◌&&◌, Option, Some, find, bytes_eq}
use Rattle.std.specs.List.{list_any}
use Rattle.std.proofs.lemmas.Slice.Eq.{bytes_eq-Decides}
use Rattle.qc_types.specs.declared.names.TableName.{TableName}
use Rattle.qc_sql.specs.Database.{same_table}
use Rattle.qc_sql.specs.Rules.{each_once, is_system, same_word, system_databases}

first_of_both : (a b : Bool) → (a && b) ≡ true → a ≡ true
first_of_both true b h = refl
first_of_both false b h = absurd cc

-- one table is of one database
system_alike : (t u : TableName) → same_table t u ≡ true → is_system t ≡ is_system u
system_alike t u h = ap (λ db. list_any (same_word db) system_databases) ((bytes_eq-Decides t.db u.db).0 (first_of_both (bytes_eq t.db u.db) (bytes_eq t.name u.name) h))

ahead : (a b : Bool) → (a || b) ≡ false → a ≡ false
ahead true b h = absurd cc
ahead false b h = refl

behind : (a b : Bool) → (a || b) ≡ false → b ≡ false
behind true b h = absurd cc
behind false b h = h

-- a table that was seen is of none, where none that was seen is
not_system_step : (t u : TableName) (seen : List TableName) (same : Bool) → same_table t u ≡ same → (same || list_any (same_table t) seen) ≡ true → (is_system u || list_any is_system seen) ≡ false
    → (list_any (same_table t) seen ≡ true → list_any is_system seen ≡ false → is_system t ≡ false) → is_system t ≡ false
not_system_step t u seen true e h k ih = system_alike t u e ∙ ahead (is_system u) (list_any is_system seen) k
not_system_step t u seen false e h k ih = ih h (behind (is_system u) (list_any is_system seen) k)

not_system : (t : TableName) (seen : List TableName) → list_any (same_table t) seen ≡ true → list_any is_system seen ≡ false → is_system t ≡ false
not_system t [] h k = absurd cc
not_system t (u ∷ seen) h k = not_system_step t u seen (same_table t u) refl h k (not_system t seen)

-- one table more, whether it was seen or not
once_step : (t : TableName) (seen ts : List TableName) (there : Bool) → list_any (same_table t) seen ≡ there → list_any is_system seen ≡ false
    → ((others : List TableName) → list_any is_system others ≡ false → find is_system (each_once others ts) ≡ find is_system ts)
    → find is_system (cond there (each_once seen ts) (t ∷ each_once (t ∷ seen) ts)) ≡ find is_system (t ∷ ts)
once_step t seen ts true e h ih = ih seen h ∙ sym (ap (λ b. cond b (Some t) (find is_system ts)) (not_system t seen e h))
once_step t seen ts false e h ih = found (is_system t) refl
  where
    found : (system : Bool) → is_system t ≡ system → cond system (Some t) (find is_system (each_once (t ∷ seen) ts)) ≡ cond system (Some t) (find is_system ts)
    found true k = refl
    found false k = ih (t ∷ seen) (ap (λ b. b || list_any is_system seen) k ∙ h)

pub first_once : (seen ts : List TableName) → list_any is_system seen ≡ false → find is_system (each_once seen ts) ≡ find is_system ts
first_once seen [] h = refl
first_once seen (t ∷ ts) h = once_step t seen ts (list_any (same_table t) seen) refl h (λ others. first_once others ts)
