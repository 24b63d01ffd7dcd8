-- One turn more of the loops over columns, values and rows.
use Rattle.std.proofs.Common.{◌≡◌, ℕ, zero, suc, ◌+◌, ◌<◌, ◌≤◌, Bool, true, false, cond, List, [], ◌∷◌, ◌++◌, length, map, drop, get_or, refl, sym, ap, ◌∙◌, subst, arith, Result, Ok, Err, append-nil}
use Rattle.std.specs.Prelude.{◌&&◌, bytes_eq, Option, Some, None}
use Rattle.std.specs.List.{AllByRecursion, slice_get}
use Rattle.std.specs.Ordering.{is_eq}
use Rattle.std.proofs.lemmas.List.{drop_all, get_or_default}
use Rattle.qc_types.specs.declared.names.Value.{Value}
use Rattle.qc_types.specs.declared.sql_error.SqlError.{SqlError}
use Rattle.qc_sql.specs.declared.tables.Column.{Column}
use Rattle.qc_sql.specs.declared.tables.RowOp.{RowOp}
use Rattle.qc_sql.specs.Database.{Name}
use Rattle.qc_sql.specs.Effects.{same_values}
use Rattle.qc_sql.specs.Errors.{unknown_column}
use Rattle.qc_sql.specs.Rows.{◌>>=◌, value_cmp}
use Rattle.qc_resolve.specs.Steps.{run}
use Rattle.qc_write.specs.Placing.{Placing, changed_row, place_called, placed}
use Rattle.qc_resolve.proofs.Steps.{rest_at}

-- ---- columns

pub place_met : (name : Name) (cs : List Column) (i : ℕ) (x : Column) → i < length cs → x ≡ get_or cs i x → bytes_eq x.name name ≡ true → place_called name i (drop i cs) ≡ Ok (i, x)
place_met name cs i x h e k = ap (place_called name i) (rest_at cs i x h e) ∙ ap (λ b. cond b (Ok (i, x)) (place_called name (i + 1) (drop (i + 1) cs))) k

pub place_passed : (name : Name) (cs : List Column) (i : ℕ) (x : Column) → i < length cs → x ≡ get_or cs i x → bytes_eq x.name name ≡ false
    → place_called name i (drop i cs) ≡ place_called name (i + 1) (drop (i + 1) cs)
place_passed name cs i x h e k = ap (place_called name i) (rest_at cs i x h e) ∙ ap (λ b. cond b (Ok (i, x)) (place_called name (i + 1) (drop (i + 1) cs))) k

pub place_missed : (name : Name) (cs : List Column) (i : ℕ) → length cs ≤ i → place_called name i (drop i cs) ≡ Err (unknown_column name)
place_missed name cs i h = ap (place_called name i) (drop_all i cs h)

-- ---- values

values_at : (vs ws : List Value) (i : ℕ) (v w : Value) → i < length vs → i < length ws → v ≡ get_or vs i v → w ≡ get_or ws i w
    → same_values (drop i vs) (drop i ws) ≡ (is_eq (value_cmp v w) && same_values (drop (i + 1) vs) (drop (i + 1) ws))
values_at vs ws i v w h k e f = (λ j. same_values (rest_at vs i v h e j) (rest_at ws i w k f j))

pub values_differ : (vs ws : List Value) (i : ℕ) (v w : Value) → i < length vs → i < length ws → v ≡ get_or vs i v → w ≡ get_or ws i w → is_eq (value_cmp v w) ≡ false
    → same_values (drop i vs) (drop i ws) ≡ false
values_differ vs ws i v w h k e f differ = values_at vs ws i v w h k e f ∙ ap (λ b. b && same_values (drop (i + 1) vs) (drop (i + 1) ws)) differ

pub values_agree : (vs ws : List Value) (i : ℕ) (v w : Value) → i < length vs → i < length ws → v ≡ get_or vs i v → w ≡ get_or ws i w → is_eq (value_cmp v w) ≡ true
    → same_values (drop i vs) (drop i ws) ≡ same_values (drop (i + 1) vs) (drop (i + 1) ws)
values_agree vs ws i v w h k e f agree = values_at vs ws i v w h k e f ∙ ap (λ b. b && same_values (drop (i + 1) vs) (drop (i + 1) ws)) agree

pub values_ended : (vs ws : List Value) (i : ℕ) → length vs ≤ i → length ws ≡ length vs → same_values (drop i vs) (drop i ws) ≡ true
values_ended vs ws i h long = (λ j. same_values (drop_all i vs h j) (drop_all i ws within j))
  where
    within : length ws ≤ i
    within = omega arith

-- ---- lists

pub all_at : {A : Type 0} (P : A → Type 0) (xs : List A) (i : ℕ) (x : A) → AllByRecursion P xs → i < length xs → x ≡ get_or xs i x → P x
all_at P [] i x all h e = absurd (omega arith)
all_at P (y ∷ ys) zero x all h e = subst P (sym e) all.0
all_at P (y ∷ ys) (suc i) x all h e = all_at P ys i x all.1 (omega arith) e

pub mapped_at : {A B : Type 0} (P : B → Type 0) (f : A → B) (xs : List A) (i : ℕ) (x : A) → AllByRecursion P (map f xs) → i < length xs → x ≡ get_or xs i x → P (f x)
mapped_at P f [] i x all h e = absurd (omega arith)
mapped_at P f (y ∷ ys) zero x all h e = subst (λ z. P (f z)) (sym e) all.0
mapped_at P f (y ∷ ys) (suc i) x all h e = mapped_at P f ys i x all.1 (omega arith) e

-- ---- steps over a list that is mapped

module _ {A B S : Type 0} (step : B → S → Result S SqlError) (f : A → B) where
  pub mapped_on : (xs : List A) (i : ℕ) (x : A) (s t : S) → i < length xs → x ≡ get_or xs i x → step (f x) s ≡ Ok t → run step (map f (drop i xs)) s ≡ run step (map f (drop (i + 1) xs)) t
  mapped_on xs i x s t h e k = ap (λ ys. run step (map f ys) s) (rest_at xs i x h e) ∙ ap (λ r. r >>= run step (map f (drop (i + 1) xs))) k

  pub mapped_refused : (xs : List A) (i : ℕ) (x : A) (s : S) (error : SqlError) → i < length xs → x ≡ get_or xs i x → step (f x) s ≡ Err error → run step (map f (drop i xs)) s ≡ Err error
  mapped_refused xs i x s error h e k = ap (λ ys. run step (map f ys) s) (rest_at xs i x h e) ∙ ap (λ r. r >>= run step (map f (drop (i + 1) xs))) k

  pub mapped_ended : (xs : List A) (i : ℕ) (s : S) → length xs ≤ i → run step (map f (drop i xs)) s ≡ Ok s
  mapped_ended xs i s h = ap (λ ys. run step (map f ys) s) (drop_all i xs h)

-- ---- the row that is put in place of another

module _ (ps : List Placing) (old row : List Value) where
  -- what the assignments come to
  abbrev chosen_of : Result (List Value) SqlError → Result (Option (List Value)) SqlError
  chosen_of r = r >>= λ new. Ok (cond (same_values row new) None (Some new))

  pub change_refused : (e : SqlError) → old ≡ row → placed ps old ≡ Err e → changed_row ps row ≡ Err e
  change_refused e same h = ap (λ (vs : List Value). chosen_of (placed ps vs)) (sym same) ∙ ap chosen_of h

  changed_at : (new vs ws : List Value) (b : Bool) → old ≡ row → placed ps old ≡ Ok new → vs ≡ old → ws ≡ new → b ≡ same_values vs ws → changed_row ps row ≡ Ok (cond b None (Some new))
  changed_at new vs ws b same h was is differ =
      ap (λ (vs : List Value). chosen_of (placed ps vs)) (sym same) ∙ ap chosen_of h
      ∙ ap (λ (d : Bool). Ok (cond d None (Some new))) (sym (differ ∙ (λ i. same_values ((was ∙ same) i) (is i))))

  pub changed_none : (new vs ws : List Value) → old ≡ row → placed ps old ≡ Ok new → vs ≡ old → ws ≡ new → true ≡ same_values vs ws → changed_row ps row ≡ Ok None
  changed_none new vs ws same h was is differ = changed_at new vs ws true same h was is differ

  pub changed_some : (new vs ws : List Value) → old ≡ row → placed ps old ≡ Ok new → vs ≡ old → ws ≡ new → false ≡ same_values vs ws → changed_row ps row ≡ Ok (Some new)
  changed_some new vs ws same h was is differ = changed_at new vs ws false same h was is differ

-- ---- numbers

pub number_is : (xs : List ℕ) (i : ℕ) → i < length xs → get_or xs i 0 ≡ get_or xs i (get_or xs i 0)
number_is xs i h = get_or_default xs i 0 (get_or xs i 0) h

pub number_at : (P : ℕ → Type 0) (xs : List ℕ) (i : ℕ) → AllByRecursion P xs → i < length xs → P (get_or xs i 0)
number_at P xs i all h = all_at P xs i (get_or xs i 0) all h (number_is xs i h)
