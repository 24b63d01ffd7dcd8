-- Databases that operations change where they stand.
use Rattle.std.proofs.Common.{◌≡◌, ◌<◌, ◌≤◌, Bool, true, false, cond, List, [], ◌∷◌, length, get_or, refl, ap, sym, ◌∙◌, subst, arith, Some}
use Rattle.std.specs.Prelude.{◌&&◌, not, Result, Ok, Err}
use Rattle.std.specs.Result.{IsErrAnd}
use Rattle.std.specs.Ordering.{match_ordering}
use Rattle.std.specs.declared.cmp.Ordering.TheVariants.{Less, Equal, Greater}
use Rattle.std.specs.BTreeMap.{insert_entry, is_at}
use Rattle.std.specs.Map.{remove_entry}
use Rattle.std.specs.List.{list_all}
use Rattle.qc_types.specs.declared.memory.NoMemory.{NoMemory}
use Rattle.qc_types.specs.declared.names.TableName.{TableName}
use Rattle.qc_sql.specs.declared.tables.RowOp.{RowOp}
use Rattle.qc_sql.specs.Database.{Name, MapOf, Database, Table, Tables, name_cmp, at_name, apply, change_at, change_table, empty_database}
use Rattle.qc_model.specs.Licence.{is_within_rows}
use Rattle.qc_table.specs.Borrowed.{IsSetAt, EndsWith}
use Rattle.qc_table.specs.Fitting.{AreCarriedOut, IsChanged, fitting, is_within}
use Rattle.qc_table.specs.Tables.{IsHeld}
use Rattle.qc_sql.specs.Order.{IsOrdered}
use Rattle.qc_sql.proofs.Order.{stays_ordered}
use Rattle.qc_table.proofs.Fits.{none_full}
use Rattle.qc_table.proofs.Maps.{changed, none_in_order}
use Rattle.qc_table.proofs.Rows.{both}

-- ---- values that hold throughout

module _ {X : Type 0} (P : X → Bool) where
  abbrev pub each : MapOf Name X → Bool
  each m = list_all (λ e. P e.1) m

  both_of : (a b : Bool) → a ≡ true → b ≡ true → (a && b) ≡ true
  both_of true b p q = q
  both_of false b p q = p

  pub each_changed : (name : Name) (w : X) (m : MapOf Name X) → each m ≡ true → P w ≡ true → each (change_at name (λ _. w) m) ≡ true
  each_changed name w [] all one = refl
  each_changed name w (e ∷ m) all one =
      both_of _ _ (
      elim (is_at (name_cmp name) e.0) as (λ b. P (cond b (e.0, w) e).1 ≡ true) [ true ↦ one | false ↦ (both _ _ all).0 ]
      ) (each_changed name w m (both _ _ all).1 one)

  pub each_inserted : (name : Name) (w : X) (m : MapOf Name X) → each m ≡ true → P w ≡ true → each (insert_entry name_cmp m name w) ≡ true
  each_inserted name w [] all one = both_of _ _ one refl
  each_inserted name w (e ∷ m) all one =
      elim (name_cmp name e.0) as (λ r. each (match_ordering r ((name, w) ∷ e ∷ m) ((e.0, w) ∷ m) (e ∷ insert_entry name_cmp m name w)) ≡ true) [
        | Less ↦ both_of _ _ one all
        | Equal ↦ both_of _ _ one (both _ _ all).1
        | Greater ↦ both_of _ _ (both _ _ all).0 (each_inserted name w m (both _ _ all).1 one)
      ]

  pub each_removed : (test : Name → Bool) (m : MapOf Name X) → each m ≡ true → each (remove_entry test m) ≡ true
  each_removed test [] all = refl
  each_removed test (e ∷ m) all =
      elim (test e.0) as (λ b. each (cond b m (e ∷ remove_entry test m)) ≡ true) [
        | true ↦ (both _ _ all).1
        | false ↦ both_of _ _ (both _ _ all).0 (each_removed test m (both _ _ all).1)
      ]

  pub each_found : (name : Name) (v : X) (m : MapOf Name X) → each m ≡ true → Some v ≡ at_name name m → P v ≡ true
  each_found name v [] all is = absurd cc
  each_found name v (e ∷ m) all is =
      elim (is_at (name_cmp name) e.0) as (λ b. Some v ≡ cond b (Some e.1) (at_name name m) → P v ≡ true) [
        | true ↦ λ p. let same : v ≡ e.1 = cc in rw same (both _ _ all).0
        | false ↦ λ p. each_found name v m (both _ _ all).1 p
      ] is

-- what is changed to itself
pub change_at-same : {X : Type 0} (name : Name) (m : MapOf Name X) → change_at name (λ v. v) m ≡ m
change_at-same name [] = refl
change_at-same name (e ∷ m) =
    elim (is_at (name_cmp name) e.0) as (λ b. (cond b (e.0, e.1) e) ∷ change_at name (λ v. v) m ≡ e ∷ m) [
      | true ↦ ap (λ rest. e ∷ rest) (change_at-same name m)
      | false ↦ ap (λ rest. e ∷ rest) (change_at-same name m)
    ]

-- ---- the tables of one database

abbrev are_within : Tables → Bool
are_within ts = each is_within ts

-- where the tables of a database end within rows, so does the whole
pub within_changed : (d d' : Database) (db : Name) (ts ts' : Tables) → IsSetAt db d ts' d' × EndsWith db d ts' d' → Some ts ≡ at_name db d → is_within_rows d ≡ true → are_within ts' ≡ true → is_within_rows d' ≡ true
within_changed d d' db ts ts' ends found within one =
    rw (changed db d ts ts' d' (λ _. ts') ends found refl) (each_changed are_within db ts' d within one)

pub tables_within : (d : Database) (db : Name) (ts : Tables) → Some ts ≡ at_name db d → is_within_rows d ≡ true → are_within ts ≡ true
tables_within d db ts found within = each_found are_within db ts d within found

-- where the tables of a database end as they were, so does the whole
pub stays : {X : Type 0} (m m' : MapOf Name X) (name : Name) (v v' : X) → IsSetAt name m v' m' × EndsWith name m v' m' → Some v ≡ at_name name m → v' ≡ v → m' ≡ m
stays m m' name v v' ends found same = changed name m v v' m' (λ w. w) ends found same ∙ change_at-same name m

-- ---- one table

pub table_carried : (ops : List RowOp) (d d' : Database) (t : TableName) (make : Table → Table) → apply ops d ≡ change_table t make d
    → (ts ts' : Tables) → IsSetAt t.db d ts' d' × EndsWith t.db d ts' d' → Some ts ≡ at_name t.db d
    → (v v' : Table) → IsSetAt t.name ts v' ts' × EndsWith t.name ts v' ts' → Some v ≡ at_name t.name ts
    → is_within_rows d ≡ true → (r : Result Bool NoMemory) → IsChanged (make v) v r v' → AreCarriedOut ops d r d'
table_carried ops d d' t make is ts ts' outer found v v' inner there within (Ok true) c =
    let tables = changed t.name ts v v' ts' (λ _. v') inner there refl in
    let one : are_within ts' ≡ true = rw tables (each_changed is_within t.name v' ts (tables_within d t.db ts found within) c.1) in (
      changed t.db d ts ts' d' (change_at t.name make) outer found (changed t.name ts v v' ts' make inner there c.0) ∙ sym is,
      within_changed d d' t.db ts ts' outer found within one,
    )
table_carried ops d d' t make is ts ts' outer found v v' inner there within (Ok false) c = stays d d' t.db ts ts' outer found (stays ts ts' t.name v v' inner there c)
table_carried ops d d' t make is ts ts' outer found v v' inner there within (Err e) c = stays d d' t.db ts ts' outer found (stays ts ts' t.name v v' inner there c)

pub is_new : (b : Bool) → not b ≡ true → b ≡ false
is_new true h = absurd cc
is_new false h = refl

-- ---- the whole

pub none_held : IsHeld empty_database
none_held = record { ordered = record { names = none_in_order; tables = tt }; within = refl }

pub carried_held : (ops : List RowOp) (d d' : Database) (r : Result Bool NoMemory) → IsHeld d → AreCarriedOut ops d r d' → IsHeld d'
carried_held ops d d' (Ok true) held c = record { ordered = subst IsOrdered (sym c.0) (stays_ordered ops d held.ordered); within = c.1 }
carried_held ops d d' (Ok false) held c = subst IsHeld (sym c) held
carried_held ops d d' (Err e) held c = subst IsHeld (sym c) held

pub carried_fits : (ops : List RowOp) (d d' : Database) (r : Result Bool NoMemory) → r ≡ Ok true → AreCarriedOut ops d r d' → fitting (apply ops d) ≡ Ok d'
carried_fits ops d d' (Ok true) is c = ap fitting (sym c.0) ∙ rw (none_full d' c.1) refl
carried_fits ops d d' (Ok false) is c = absurd cc
carried_fits ops d d' (Err e) is c = absurd cc

-- what comes to nothing leaves all as it was
pub left : (ops : List RowOp) (d d' : Database) (r : Result Bool NoMemory) → r ≡ Ok false → AreCarriedOut ops d r d' → d' ≡ d
left ops d d' (Ok true) is c = absurd cc
left ops d d' (Ok false) is c = c
left ops d d' (Err e) is c = c

pub alone : {X : Type 0} (x : X) (xs : List X) → length xs < 2 → 1 ≤ length xs → x ≡ get_or xs 0 x → xs ≡ x ∷ []
alone x [] few some is = absurd (omega arith)
alone x (y ∷ []) few some is = ap (λ z. z ∷ []) (sym is)
alone x (y ∷ z ∷ zs) few some is = absurd (omega arith)

pub refused : (ops : List RowOp) (d d' : Database) (r : Result Bool NoMemory) (P : NoMemory → Type 0) → IsErrAnd r P → d' ≡ d → AreCarriedOut ops d r d'
refused ops d d' (Ok b) P h same = absurd h
refused ops d d' (Err e) P h same = same
