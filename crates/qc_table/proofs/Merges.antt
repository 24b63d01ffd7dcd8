-- A part of each row of a merge, as its key or a value: passing entries, and what a change leaves.
use Rattle.std.proofs.Common.{◌≡◌, ℕ, ◌+◌, ◌≤◌, ℤ, Bool, true, false, List, [], ◌∷◌, ◌++◌, map, length, take, drop, refl, sym, ap, ◌∙◌, arith, append_assoc, append-nil, length-drop, Option, Some, None}
use Rattle.std.specs.Prelude.{is_some, IfSome}
use Rattle.std.specs.List.{AllByRecursion}
use Rattle.std.specs.List.Sorted.{IsStrictlySortedBy}
use Rattle.std.specs.Map.{keys_of}
use Rattle.std.specs.Ordering.{int_cmp, match_ordering}
use Rattle.std.specs.declared.cmp.Ordering.TheVariants.{Less, Equal, Greater}
use Rattle.std.proofs.lemmas.List.{take_all, drop-map, take-map, map-append}
use Rattle.qc_types.specs.declared.names.Value.{Value}
use Rattle.qc_sql.specs.declared.tables.Column.{Column}
use Rattle.qc_sql.specs.Database.{MapOf, Table, is_int}
use Rattle.qc_model.specs.Licence.{kind_fits, row_fits}
use Rattle.qc_table.specs.Changes.{above, below, left_by, merged}
use Rattle.qc_types.specs.declared.names.Value.TheVariants as value
use Rattle.qc_sql.specs.declared.tables.Kind.{Kind}
use Rattle.qc_sql.specs.declared.tables.Kind.TheVariants as kind
use Rattle.qc_table.specs.Stored.{takes}
use Rattle.qc_table.specs.Tables.{Changes, IsChange, with_changes}
use Rattle.qc_model.specs.Sound.{IsRow, IsSoundTable}
use Rattle.qc_table.proofs.Merging.{merged_rises}
use Rattle.qc_table.proofs.Rows.{row_length}

module _ {Y : Type 0} (g : ℤ × List Value → Y) where
  part : (rows : MapOf ℤ (List Value)) (from n : ℕ) → take n (drop from (map g rows)) ≡ map g (take n (drop from rows))
  part rows from n = ap (take n) (drop-map g from rows) ∙ take-map g n (drop from rows)

  passed : (old now : List Y) (rows : MapOf ℤ (List Value)) (from n : ℕ) (key : ℤ) → now ≡ old ++ take n (drop from (map g rows)) → below key (drop from rows) ≡ take n (drop from rows) → now ≡ old ++ map g (below key (drop from rows))
  passed old now rows from n key is low = is ∙ ap (λ l. old ++ l) (part rows from n ∙ ap (map g) (sym low))

  pub passed_none : (old now : List Y) (rows : MapOf ℤ (List Value)) (from n : ℕ) (key : ℤ) (c : Option (List Value)) → now ≡ old ++ take n (drop from (map g rows)) → below key (drop from rows) ≡ take n (drop from rows) → c ≡ None
      → now ≡ old ++ map g (below key (drop from rows) ++ left_by key c)
  passed_none old now rows from n key c is low none = passed old now rows from n key is low ∙ rw (none, append-nil) refl

  pub passed_some : (old now last : List Y) (rows : MapOf ℤ (List Value)) (from n : ℕ) (key : ℤ) (c : Option (List Value)) (row : List Value) → now ≡ old ++ take n (drop from (map g rows)) → below key (drop from rows) ≡ take n (drop from rows) → c ≡ Some row
      → last ≡ now ++ g (key, row) ∷ [] → last ≡ old ++ map g (below key (drop from rows) ++ left_by key c)
  passed_some old now last rows from n key c row is low some put =
      put ∙ (ap (λ l. l ++ g (key, row) ∷ []) (passed old now rows from n key is low)
      ∙ (append_assoc old (map g (below key (drop from rows))) (g (key, row) ∷ [])
      ∙ rw some (ap (λ l. old ++ l) (sym (map-append g (below key (drop from rows)) ((key, row) ∷ []))))))

  pub step : (all old now : List Y) (es fs : MapOf ℤ (List Value)) (k : ℤ) (c : Option (List Value)) (rest : Changes) → now ≡ old ++ map g (below k es ++ left_by k c) → fs ≡ above k es → old ++ map g (merged es ((k, c) ∷ rest)) ≡ all
      → now ++ map g (merged fs rest) ≡ all
  step all old now es fs k c rest is behind made =
      let m = merged (above k es) rest in
      ap (λ (l : MapOf ℤ (List Value)). now ++ map g (merged l rest)) behind
      ∙ (ap (λ l. l ++ map g m) is
      ∙ (append_assoc old (map g (below k es ++ left_by k c)) (map g m)
      ∙ (ap (λ l. old ++ l) (sym (map-append g (below k es ++ left_by k c) m) ∙ ap (map g) (append_assoc (below k es) (left_by k c) m)) ∙ made)))

  pub end : (all old now : List Y) (rows : MapOf ℤ (List Value)) (next n : ℕ) → length rows ≤ next + n → now ≡ old ++ take n (drop next (map g rows)) → old ++ map g (drop next rows) ≡ all → now ≡ all
  end all old now rows next n enough is made =
      is ∙ (ap (λ l. old ++ l) (part rows next n ∙ ap (map g) (take_all n (drop next rows) (omega (arith, length-drop next rows)))) ∙ made)

-- ---- what is merged fits

all_append : (P : ℤ × List Value → Type 0) (us vs : MapOf ℤ (List Value)) → AllByRecursion P us → AllByRecursion P vs → AllByRecursion P (us ++ vs)
all_append P [] vs a b = b
all_append P (u ∷ us) vs a b = (a.0, all_append P us vs a.1 b)

below_fits : (P : ℤ × List Value → Type 0) (k : ℤ) (es : MapOf ℤ (List Value)) → AllByRecursion P es → AllByRecursion P (below k es)
below_fits P k [] a = tt
below_fits P k (e ∷ es) a =
    elim (int_cmp e.0 k) as (λ r. AllByRecursion P (match_ordering r (e ∷ below k es) [] [])) [
      | Less ↦ (a.0, below_fits P k es a.1)
      | Equal ↦ tt
      | Greater ↦ tt
    ]

above_fits : (P : ℤ × List Value → Type 0) (k : ℤ) (es : MapOf ℤ (List Value)) → AllByRecursion P es → AllByRecursion P (above k es)
above_fits P k [] a = tt
above_fits P k (e ∷ es) a =
    elim (int_cmp e.0 k) as (λ r. AllByRecursion P (match_ordering r (above k es) es (e ∷ es))) [
      | Less ↦ above_fits P k es a.1
      | Equal ↦ a.1
      | Greater ↦ a
    ]

left_fits : (cs : List Column) (k : ℤ) (c : Option (List Value)) → IsChange cs (k, c) → AllByRecursion (IsRow cs) (left_by k c)
left_fits cs k None h = tt
left_fits cs k (Some row) h = (h, tt)

merged_fits : (cs : List Column) (es : MapOf ℤ (List Value)) (changes : Changes) → AllByRecursion (IsRow cs) es → AllByRecursion (IsChange cs) changes → AllByRecursion (IsRow cs) (merged es changes)
merged_fits cs es [] a b = a
merged_fits cs es (c ∷ changes) a b =
    all_append (IsRow cs) (below c.0 es) _ (below_fits (IsRow cs) c.0 es a)
    (all_append (IsRow cs) (left_by c.0 c.1) _ (left_fits cs c.0 c.1 b.0) (merged_fits cs (above c.0 es) changes (above_fits (IsRow cs) c.0 es a) b.1))

pub merged_sound : (t : Table) (changes : Changes) → IsSoundTable t → AllByRecursion (IsChange t.columns) changes → IsStrictlySortedBy int_cmp (keys_of changes) → IsSoundTable (with_changes t changes)
merged_sound t changes s fits rise = record {
  columns = s.columns;
  rows = merged_fits t.columns t.rows changes s.rows fits;
  ordered = merged_rises t.rows changes s.ordered rise;
}

pub rows_wide : (cs : List Column) (es : MapOf ℤ (List Value)) → AllByRecursion (IsRow cs) es → AllByRecursion (λ e. length e.1 ≡ length cs) es
rows_wide cs [] a = tt
rows_wide cs (e ∷ es) a = (row_length cs e.1 a.0.0, rows_wide cs es a.1)

-- ---- what a change puts

pub some_there : {X : Type 0} (o : Option X) → is_some o ≡ true → (x : X) × (o ≡ Some x)
some_there None h = absurd cc
some_there (Some x) h = (x, refl)

pub none_there : {X : Type 0} (o : Option X) → is_some o ≡ false → o ≡ None
none_there None h = refl
none_there (Some x) h = absurd cc

pub put_row : (cs : List Column) (key : ℤ) (c : Option (List Value)) (row : List Value) → IsChange cs (key, c) → c ≡ Some row → row_fits cs row ≡ true
put_row cs key None row h is = absurd cc
put_row cs key (Some r) row h is = let same : r ≡ row = cc in rw (← same) h.0

-- a value of a kind goes into a column of that kind
pub kind_taken : (o : Option Kind) (k : Kind) (b : Bool) (v : Value) → o ≡ Some k → IfSome o (λ k. b ≡ is_int k) → IfSome o (λ k. kind_fits k v ≡ true) → takes b v ≡ true
kind_taken None k b v there same fits = absurd cc
kind_taken (Some kind.Int) k b value.Null there same fits = refl
kind_taken (Some kind.Int) k b (value.Int n) there same fits = rw same refl
kind_taken (Some kind.Int) k b (value.Str t) there same fits = absurd cc
kind_taken (Some (kind.Str m)) k b value.Null there same fits = refl
kind_taken (Some (kind.Str m)) k b (value.Int n) there same fits = absurd cc
kind_taken (Some (kind.Str m)) k b (value.Str t) there same fits = rw same refl
