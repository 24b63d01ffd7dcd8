-- Each combination of rows of sound tables fits.
use Rattle.std.proofs.Common.{◌≡◌, ℕ, ◌+◌, zero, suc, Bool, true, false, List, [], ◌∷◌, ◌++◌, map, drop, filter, get_or, refl, ap, sym, ◌∙◌, subst, add-one, cond}
use Rattle.std.specs.Prelude.{◌&&◌, ◌||◌, not}
use Rattle.std.specs.List.{AllByRecursion, flat_map}
use Rattle.std.specs.Ordering.{is_gt}
use Rattle.std.specs.declared.cmp.Ordering.{Ordering}
use Rattle.qc_types.specs.declared.names.Value.{Value}
use Rattle.qc_types.specs.declared.names.Value.TheVariants as value
use Rattle.qc_sql.specs.declared.tables.Column.{Column}
use Rattle.qc_model.specs.Licence.{kind_fits, row_fits, value_fits}
use Rattle.qc_sql.specs.Database.{MapOf}
use Rattle.qc_sql.specs.Rows.{Bound, Combination, combinations, insert_before_ties, sorted, is_null}
use Rattle.qc_table.specs.Tables.{IsSound}
use Rattle.qc_model.specs.Sound.{IsRow}
use Rattle.qc_resolve.specs.Columns.{Spot, spots_from, all_spots}
use Rattle.qc_resolve.specs.Fit.{IsSoundBound, FitsAt, IsFit, AreFit}

-- ---- all of a list

pub all_append : {A : Type 0} (P : A → Type 0) (xs ys : List A) → AllByRecursion P xs → AllByRecursion P ys → AllByRecursion P (xs ++ ys)
all_append P [] ys h k = k
all_append P (x ∷ xs) ys h k = (h.0, all_append P xs ys h.1 k)

pub all_map : {A B : Type 0} (P : A → Type 0) (Q : B → Type 0) (f : A → B) → ((x : A) → P x → Q (f x)) → (xs : List A) → AllByRecursion P xs → AllByRecursion Q (map f xs)
all_map P Q f k [] h = tt
all_map P Q f k (x ∷ xs) h = (k x h.0, all_map P Q f k xs h.1)

pub all_flat_map : {A B : Type 0} (P : A → Type 0) (Q : B → Type 0) (f : A → List B) → ((x : A) → P x → AllByRecursion Q (f x)) → (xs : List A) → AllByRecursion P xs → AllByRecursion Q (flat_map f xs)
all_flat_map P Q f k [] h = tt
all_flat_map P Q f k (x ∷ xs) h = all_append Q (f x) (flat_map f xs) (k x h.0) (all_flat_map P Q f k xs h.1)

all_filter_at : {A : Type 0} (P : A → Type 0) (x : A) (ys : List A) (b : Bool) → P x → AllByRecursion P ys → AllByRecursion P (cond b (x ∷ ys) ys)
all_filter_at P x ys true h k = (h, k)
all_filter_at P x ys false h k = k

pub all_filter : {A : Type 0} (P : A → Type 0) (p : A → Bool) (xs : List A) → AllByRecursion P xs → AllByRecursion P (filter p xs)
all_filter P p [] h = tt
all_filter P p (x ∷ xs) h = all_filter_at P x (filter p xs) (p x) h.0 (all_filter P p xs h.1)

all_insert_at : {A : Type 0} (P : A → Type 0) (x y : A) (ys zs : List A) (b : Bool) → P x → P y → AllByRecursion P ys → AllByRecursion P zs → AllByRecursion P (cond b (y ∷ zs) (x ∷ y ∷ ys))
all_insert_at P x y ys zs true h j k l = (j, l)
all_insert_at P x y ys zs false h j k l = (h, (j, k))

all_insert : {A : Type 0} (P : A → Type 0) (cmp : A → A → Ordering) (x : A) (ys : List A) → P x → AllByRecursion P ys → AllByRecursion P (insert_before_ties cmp x ys)
all_insert P cmp x [] h k = (h, tt)
all_insert P cmp x (y ∷ ys) h k = all_insert_at P x y ys (insert_before_ties cmp x ys) (is_gt (cmp x y)) h k.0 k.1 (all_insert P cmp x ys h k.1)

pub all_sorted : {A : Type 0} (P : A → Type 0) (cmp : A → A → Ordering) (xs : List A) → AllByRecursion P xs → AllByRecursion P (sorted cmp xs)
all_sorted P cmp [] h = tt
all_sorted P cmp (x ∷ xs) h = all_insert P cmp x (sorted cmp xs) h.0 (all_sorted P cmp xs h.1)

-- ---- a row

both_true : (a b : Bool) → (a && b) ≡ true → (a ≡ true) × (b ≡ true)
both_true true b h = (refl, h)
both_true false b h = absurd cc

-- what stands at an index, and behind it
dropped : (r : List Value) (i : ℕ) (v : Value) (rest : List Value) → drop i r ≡ v ∷ rest → (get_or r i value.Null ≡ v) × (drop (suc i) r ≡ rest)
dropped [] zero v rest h = absurd cc
dropped [] (suc i) v rest h = absurd cc
dropped (x ∷ xs) zero v rest h = (cc, cc)
dropped (x ∷ xs) (suc i) v rest h = dropped xs i v rest h

module _ (c : Combination) (b : Bound) (slot : ℕ) where
  row : List Value
  row = get_or c slot []

  columns_fit : (i : ℕ) (cs : List Column) (left : List Value) → drop i row ≡ left → row_fits cs left ≡ true → AllByRecursion (FitsAt c) (spots_from b slot i cs)
  unfolding row
  columns_fit i [] left e h = tt
  columns_fit i (k ∷ ks) [] e h = absurd cc
  columns_fit i (k ∷ ks) (v ∷ vs) e h =
      let here = dropped row i v vs e in
      let parts = both_true (value_fits k v) (row_fits ks vs) h in
      let kinds = both_true (kind_fits k.kind v) (not ((k.not_null || k.primary) && is_null v)) parts.0 in
      (ap (kind_fits k.kind) here.0 ∙ kinds.0, columns_fit (i + 1) ks vs (ap (λ (n : ℕ). drop n row) (add-one i) ∙ here.1) parts.1)

  pub table_fits : row_fits b.table.columns (get_or c slot []) ≡ true → AllByRecursion (FitsAt c) (spots_from b slot 0 b.table.columns)
  unfolding row
  table_fits h = columns_fit 0 b.table.columns row refl h

-- ---- a combination

abbrev FitsFrom : ℕ → List Bound → Combination → Type 0
FitsFrom slot [] c = Unit {0}
FitsFrom slot (b ∷ bs) c = (row_fits b.table.columns (get_or c slot []) ≡ true) × FitsFrom (slot + 1) bs c

spots_fit : (slot : ℕ) (bs : List Bound) (c : Combination) → FitsFrom slot bs c → AllByRecursion (FitsAt c) (all_spots slot bs)
spots_fit slot [] c h = tt
spots_fit slot (b ∷ bs) c h = all_append (FitsAt c) (spots_from b slot 0 b.table.columns) (all_spots (slot + 1) bs) (table_fits c b slot h.0) (spots_fit (slot + 1) bs c h.1)

behind : (r : List Value) (c : Combination) (slot : ℕ) → get_or (r ∷ c) (slot + 1) [] ≡ get_or c slot []
behind r c slot = ap (λ (n : ℕ). get_or (r ∷ c) n []) (add-one slot)

shifted : (slot : ℕ) (bs : List Bound) (r : List Value) (c : Combination) → FitsFrom slot bs c → FitsFrom (slot + 1) bs (r ∷ c)
shifted slot [] r c h = tt
shifted slot (b ∷ bs) r c h = (ap (row_fits b.table.columns) (behind r c slot) ∙ h.0, shifted (slot + 1) bs r c h.1)

from_start : (bs : List Bound) → AllByRecursion IsSoundBound bs → AllByRecursion (FitsFrom 0 bs) (combinations bs)
from_start [] h = (tt, tt)
from_start (b ∷ bs) h =
    all_flat_map (IsRow b.table.columns) (FitsFrom 0 (b ∷ bs)) (λ entry. map (λ c. entry.1 ∷ c) (combinations bs))
    (λ entry r. all_map (FitsFrom 0 bs) (FitsFrom 0 (b ∷ bs)) (λ c. entry.1 ∷ c) (λ c k. (r.0, shifted 0 bs entry.1 c k)) (combinations bs) (from_start bs h.1))
    b.table.rows h.0.rows

abbrev all_of_fit : (bs : List Bound) (cs : List Combination) → AllByRecursion (FitsFrom 0 bs) cs → AreFit bs cs
all_of_fit bs [] h = tt
all_of_fit bs (c ∷ cs) h = (spots_fit 0 bs c h.0, all_of_fit bs cs h.1)

pub combinations_fit : (bs : List Bound) → AllByRecursion IsSoundBound bs → AreFit bs (combinations bs)
combinations_fit bs h = all_of_fit bs (combinations bs) (from_start bs h)
