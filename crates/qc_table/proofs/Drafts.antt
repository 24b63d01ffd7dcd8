-- Tables with changes, and databases of them.
use Rattle.std.proofs.Common.{◌≡◌, ℤ, true, false, List, [], ◌∷◌, ◌++◌, length, refl, ap, ◌∙◌, arith, subst, cond, Option, Some, None}
use Rattle.std.specs.Prelude.{Err, nat_lt}
use Rattle.std.specs.Ordering.{int_cmp, match_ordering}
use Rattle.std.specs.declared.cmp.Ordering.TheVariants.{Less, Equal, Greater}
use Rattle.std.specs.BTreeMap.{insert_entry}
use Rattle.std.specs.List.{AllByRecursion}
use Rattle.std.specs.List.Sorted.{IsStrictlySortedBy}
use Rattle.std.specs.Map.{keys_of}
use Rattle.std.proofs.lemmas.Cmp.{nat_list_cmp_total}
use Rattle.std.proofs.lemmas.Map.Keys.{sorted_head, sorted_tail}
use Rattle.std.proofs.lemmas.Map.Lookups.{exact_signed}
use Rattle.std.specs.Ordering.{ordering_reverse}
use Rattle.qc_types.specs.Answers.{Gives}
use Rattle.qc_types.specs.declared.memory.Or.{Or}
use Rattle.qc_types.specs.declared.memory.Or.TheVariants as or
use Rattle.qc_types.specs.declared.names.TableName.{TableName}
use Rattle.qc_types.specs.declared.names.Value.{Value}
use Rattle.qc_sql.specs.declared.tables.Column.{Column}
use Rattle.qc_sql.specs.Database.{Name, MapOf, Table, Tables, name_cmp, key_of, with_row, without_row, most_rows}
use Rattle.qc_model.specs.Licence.{columns_fit}
use Rattle.qc_model.specs.Machine.{full_in}
use Rattle.qc_table.specs.declared.database.TableFull.{TableFull}
use Rattle.qc_table.specs.Fitting.{unless, fitting_table, IsRefusal}
use Rattle.qc_table.specs.Tables.{Changes, IsChange, IsDraft, IsStored, with_changes}
use Rattle.qc_table.proofs.Merging.{one_more, rises_none}

-- a change that fits, put among those that fit
pub change_put : (cs : List Column) (k : ℤ) (c : Option (List Value)) (m : Changes) → IsChange cs (k, c) → AllByRecursion (IsChange cs) m → AllByRecursion (IsChange cs) (insert_entry int_cmp m k c)
change_put cs k c [] one all = (one, tt)
change_put cs k c (d ∷ m) one all =
    elim (int_cmp k d.0) as (λ r. int_cmp k d.0 ≡ r → AllByRecursion (IsChange cs) (match_ordering r ((k, c) ∷ d ∷ m) ((d.0, c) ∷ m) (d ∷ insert_entry int_cmp m k c))) [
      | Less ↦ λ p. (one, all)
      | Equal ↦ λ p. (subst (λ j. IsChange cs (j, c)) (exact_signed k d.0 p) one, all.1)
      | Greater ↦ λ p. (all.0, change_put cs k c m one all.1)
    ] refl

pub put_is_row : (t : Table) (m : Changes) (row : List Value) → IsDraft t m → with_changes t (insert_entry int_cmp m (key_of t.columns row) (Some row)) ≡ with_row row (with_changes t m)
put_is_row t m row d =
    ap (λ (rows : MapOf ℤ (List Value)). let made : Table = record { columns = t.columns; rows = rows } in made) (one_more (key_of t.columns row) (Some row) t.rows m d.base.sound.ordered d.ordered)

pub del_is_row : (t : Table) (m : Changes) (k : ℤ) → IsDraft t m → with_changes t (insert_entry int_cmp m k None) ≡ without_row k (with_changes t m)
del_is_row t m k d =
    ap (λ (rows : MapOf ℤ (List Value)). let made : Table = record { columns = t.columns; rows = rows } in made) (one_more k None t.rows m d.base.sound.ordered d.ordered)

pub none_stored : (columns : List Column) → columns_fit columns ≡ true → IsStored (record { columns = columns; rows = [] })
none_stored columns fit = record { sound = record { columns = fit; rows = tt; ordered = rises_none }; within = omega arith }

-- ---- by names in order

module _ {X : Type 0} where
  insert_after : (k : Name) (v : X) (e : Name × X) (m : MapOf Name X) → name_cmp e.0 k ≡ Less → insert_entry name_cmp (e ∷ m) k v ≡ e ∷ insert_entry name_cmp m k v
  insert_after k v e m p = rw (nat_list_cmp_total.antisymm k e.0 ∙ ap ordering_reverse p) refl

  below_entry : (j : Name) (es : MapOf Name X) (k : Name) (v : X) (rest : MapOf Name X) → AllByRecursion (λ y. name_cmp j y ≡ Less) (keys_of (es ++ (k, v) ∷ rest)) → name_cmp j k ≡ Less
  below_entry j [] k v rest a = a.0
  below_entry j (e ∷ es) k v rest a = below_entry j es k v rest a.1

  -- an entry comes behind those in front of it
  pub insert_behind : (es : MapOf Name X) (k : Name) (v : X) (rest : MapOf Name X) → IsStrictlySortedBy name_cmp (keys_of (es ++ (k, v) ∷ rest)) → insert_entry name_cmp es k v ++ rest ≡ es ++ (k, v) ∷ rest
  insert_behind [] k v rest s = refl
  insert_behind (e ∷ es) k v rest s =
      ap (λ m. m ++ rest) (insert_after k v e es (below_entry e.0 es k v rest (sorted_head name_cmp e.0 (keys_of (es ++ (k, v) ∷ rest)) s)))
      ∙ ap (λ m. e ∷ m) (insert_behind es k v rest (sorted_tail name_cmp e.0 (keys_of (es ++ (k, v) ∷ rest)) s))

pub refused : {X : Type 0} (r : Or TableFull) (t : TableName) (full : Option TableName) (x : X) → IsRefusal t r → full ≡ Some t → Gives (λ y. y) (λ f. f.table) (Err r) (unless full x)
refused or.Memory t full x is f = tt
refused (or.Other e) t full x is f = rw (f, is) refl

too_many : (t : Table) → None ≡ fitting_table t → nat_lt most_rows (length t.rows) ≡ true
too_many t is =
    elim (nat_lt most_rows (length t.rows)) as (λ b. None ≡ cond b None (Some t) → b ≡ true) [
      | true ↦ λ p. refl
      | false ↦ λ p. absurd cc
    ] is

-- a table that has no more rows than may be stored
pub not_full : (t v : Table) → Some v ≡ fitting_table t → (nat_lt most_rows (length t.rows) ≡ false) × (v ≡ t)
not_full t v is =
    elim (nat_lt most_rows (length t.rows)) as (λ b. Some v ≡ cond b None (Some t) → (b ≡ false) × (v ≡ t)) [
      | true ↦ λ p. absurd cc
      | false ↦ λ p. (refl, cc)
    ] is

-- a table that has too many rows is the first such table of those that it leads
pub first_full : (db name : Name) (t : Table) (ts : Tables) → None ≡ fitting_table t → full_in db ((name, t) ∷ ts) ≡ Some (record { db = db; name = name })
first_full db name t ts is = rw (too_many t is) refl
