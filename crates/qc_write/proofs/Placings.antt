-- Assignments by places do what those by names do.
use Rattle.std.proofs.Common.{◌≡◌, ℕ, zero, suc, ◌+◌, ◌<◌, Bool, true, false, cond, List, [], ◌∷◌, length, refl, sym, ap, ◌∙◌, subst, arith, Option, Some, None, Result, Ok, Err}
use Rattle.std.proofs.Math.ListN.{length-set}
use Rattle.std.specs.Prelude.{bytes_eq, codes, find, slice_set}
use Rattle.std.specs.List.{AllByRecursion, slice_get}
use Rattle.qc_types.specs.declared.names.Value.{Value}
use Rattle.qc_types.specs.declared.sql_error.SqlError.{SqlError}
use Rattle.qc_sql.specs.declared.tables.Column.{Column}
use Rattle.qc_sql.specs.declared.statements.Assignment.{Assignment}
use Rattle.qc_sql.specs.declared.statements.Right.{Right}
use Rattle.qc_sql.specs.declared.statements.Right.TheVariants as right
use Rattle.qc_sql.specs.Database.{Name}
use Rattle.qc_sql.specs.Effects.{Set, assigned, assignment, column_called, is_other_sort, labelled, right_side, stored, value_named, values_in, with_value}
use Rattle.qc_sql.specs.Errors.{not_supported, unknown_column}
use Rattle.qc_sql.specs.Rows.{◌>>=◌, each, mixes, refuse_if, sort_of_kind}
use Rattle.qc_write.specs.Placing.{Origin, Given, Copied, Placing, place_called, origin_placed, assignment_placed, IsOriginIn, IsPlacingIn, placed, value_from}
use Rattle.qc_write.proofs.Named.{Differ, same_name, named_value, set_named, unlabelled}

-- ---- columns by their names

-- the column that was looked for
abbrev called_in : Name → Option Column → Result Column SqlError
called_in name None = Err (unknown_column name)
called_in name (Some c) = Ok c

found_same : (name : Name) (i : ℕ) (cs : List Column) → called_in name (find (λ c. bytes_eq c.name name) cs) ≡ (place_called name i cs >>= λ f. Ok f.1)
found_same name i [] = refl
found_same name i (c ∷ cs) = by (bytes_eq c.name name) (found_same name (i + 1) cs)
  where
    by : (b : Bool) → called_in name (find (λ c. bytes_eq c.name name) cs) ≡ (place_called name (i + 1) cs >>= λ f. Ok f.1)
        → called_in name (cond b (Some c) (find (λ c. bytes_eq c.name name) cs)) ≡ (cond b (Ok (i, c)) (place_called name (i + 1) cs) >>= λ f. Ok f.1)
    by true rest = refl
    by false rest = rest

pub called_same : (name : Name) (cs : List Column) → column_called name cs ≡ (place_called name 0 cs >>= λ f. Ok f.1)
called_same name cs = found_same name 0 cs

-- it stands at its index, counted from another one, and has the name
record IsFound (name : Name) (i : ℕ) (cs : List Column) (f : ℕ × Column) : Type 0 where
  index : ℕ
  is : f.0 ≡ i + index
  at : slice_get cs index ≡ Some f.1
  called : f.1.name ≡ name

one_found : (f g : ℕ × Column) → ◌≡◌ {A = Result (ℕ × Column) SqlError} (Ok f) (Ok g) → f ≡ g
one_found f g e = cc

place_found : (name : Name) (i : ℕ) (cs : List Column) (f : ℕ × Column) → place_called name i cs ≡ Ok f → IsFound name i cs f
place_found name i [] f h = absurd cc
place_found name i (c ∷ cs) f h = by (bytes_eq c.name name) refl h (place_found name (i + 1) cs f)
  where
    by : (b : Bool) → bytes_eq c.name name ≡ b → cond b (Ok (i, c)) (place_called name (i + 1) cs) ≡ Ok f → (place_called name (i + 1) cs ≡ Ok f → IsFound name (i + 1) cs f) → IsFound name i (c ∷ cs) f
    by true e h rest =
        let same = one_found (i, c) f h in
        record {
          index = 0;
          is = sym (ap (λ (g : ℕ × Column). g.0) same) ∙ (let zero_on : i ≡ i + 0 = omega arith in zero_on);
          at = ap (λ (g : ℕ × Column). Some g.1) same;
          called = sym (ap (λ (g : ℕ × Column). g.1.name) same) ∙ same_name c.name name e;
        }
    by false e h rest =
        let behind = rest h in
        let index = behind.index in
        let is = behind.is in
        record { index = suc index; is = omega arith; at = behind.at; called = behind.called }

inside : (cs : List Column) (i : ℕ) (c : Column) → slice_get cs i ≡ Some c → i < length cs
inside [] i c e = absurd cc
inside (d ∷ ds) zero c e = omega arith
inside (d ∷ ds) (suc i) c e = let rest = inside ds i c e in omega arith

-- the same where the columns begin
record IsThere (name : Name) (cs : List Column) (f : ℕ × Column) : Type 0 where
  at : slice_get cs f.0 ≡ Some f.1
  called : f.1.name ≡ name
  within : f.0 < length cs

there : (name : Name) (cs : List Column) (f : ℕ × Column) → place_called name 0 cs ≡ Ok f → IsThere name cs f
there name cs f h =
    let found = place_found name 0 cs f h in
    let same : f.0 ≡ found.index = let is = found.is in omega arith in
    let at : slice_get cs f.0 ≡ Some f.1 = ap (slice_get cs) same ∙ found.at in
    record { at = at; called = found.called; within = inside cs f.0 f.1 at }

-- ---- assignments

-- it gives the same values in rows of so many columns
record IsSameOrigin (cs : List Column) (f : List (Name × Value) → Value) (o : Origin) : Type 0 where
  value : (row : List Value) → length row ≡ length cs → f (labelled cs row) ≡ value_from o row
  within : IsOriginIn (length cs) o

abbrev SameOrigin : List Column → Result (List (Name × Value) → Value) SqlError → Result Origin SqlError → Type 0
SameOrigin cs (Ok f) (Ok o) = IsSameOrigin cs f o
SameOrigin cs (Err e) (Err f) = e ≡ f
SameOrigin cs (Ok f) (Err e) = ⊥
SameOrigin cs (Err e) (Ok o) = ⊥

pub record IsSame (cs : List Column) (s : Set) (p : Placing) : Type 0 where
  column : s.column ≡ p.column
  at : slice_get cs p.place ≡ Some p.column
  value : (row : List Value) → length row ≡ length cs → s.value_in (labelled cs row) ≡ value_from p.origin row
  within : IsPlacingIn (length cs) p

abbrev SameSet : List Column → Result Set SqlError → Result Placing SqlError → Type 0
SameSet cs (Ok s) (Ok p) = IsSame cs s p
SameSet cs (Err e) (Err f) = e ≡ f
SameSet cs (Ok s) (Err e) = ⊥
SameSet cs (Err e) (Ok p) = ⊥

abbrev pub AreSame : List Column → List Set → List Placing → Type 0
AreSame cs [] [] = Unit {0}
AreSame cs (s ∷ ss) (p ∷ ps) = IsSame cs s p × AreSame cs ss ps
AreSame cs [] (p ∷ ps) = ⊥
AreSame cs (s ∷ ss) [] = ⊥

abbrev pub SameSets : List Column → Result (List Set) SqlError → Result (List Placing) SqlError → Type 0
SameSets cs (Ok ss) (Ok ps) = AreSame cs ss ps
SameSets cs (Err e) (Err f) = e ≡ f
SameSets cs (Ok ss) (Err e) = ⊥
SameSets cs (Err e) (Ok ps) = ⊥

-- a row, and what it becomes
abbrev pub paired : List Value → List Value → Result (List Value × List Value) SqlError
paired old new = Ok (old, new)

module _ (cs : List Column) (differ : Differ cs) where
  literal_case : (v : Value) (b : Bool) → SameOrigin cs (refuse_if b (not_supported (codes "mixed value")) >>= λ _. Ok (λ row. v)) (refuse_if b (not_supported (codes "mixed value")) >>= λ _. Ok (Given v))
  literal_case v true = refl
  literal_case v false = record { value = λ row h. refl; within = tt }

  copied_at : (name : Name) (f : ℕ × Column) (b : Bool) → IsThere name cs f
      → SameOrigin cs (refuse_if b (not_supported (codes "mixed value")) >>= λ _. Ok (value_named name)) (refuse_if b (not_supported (codes "mixed value")) >>= λ _. Ok (Copied f.0))
  copied_at name f true h = refl
  copied_at name f false h = record {
    value = λ row long. ap (λ (n : Name). value_named n (labelled cs row)) (sym h.called) ∙ named_value cs row f.0 f.1 differ h.at long;
    within = h.within;
  }

  copied_case : (name : Name) (c : Column) (r : Result (ℕ × Column) SqlError) → ((f : ℕ × Column) → r ≡ Ok f → IsThere name cs f)
      → SameOrigin cs ((r >>= λ f. Ok f.1) >>= λ from. refuse_if (mixes (sort_of_kind c.kind) (sort_of_kind from.kind)) (not_supported (codes "mixed value")) >>= λ _. Ok (value_named name))
      (r >>= λ from. refuse_if (mixes (sort_of_kind c.kind) (sort_of_kind from.1.kind)) (not_supported (codes "mixed value")) >>= λ _. Ok (Copied from.0))
  copied_case name c (Ok f) h = copied_at name f (mixes (sort_of_kind c.kind) (sort_of_kind f.1.kind)) (h f refl)
  copied_case name c (Err e) h = refl

  right_case : (c : Column) (x : Right) → SameOrigin cs (right_side cs c x) (origin_placed cs c x)
  right_case c (right.Literal v) = literal_case v (is_other_sort c.kind v)
  right_case c (right.Column name) =
      subst (λ (r : Result Column SqlError). SameOrigin cs (r >>= λ from. refuse_if (mixes (sort_of_kind c.kind) (sort_of_kind from.kind)) (not_supported (codes "mixed value")) >>= λ _. Ok (value_named name)) (origin_placed cs c (right.Column name)))
      (sym (called_same name cs)) (copied_case name c (place_called name 0 cs) (there name cs))

  made_case : (name : Name) (f : ℕ × Column) (r : Result (List (Name × Value) → Value) SqlError) (w : Result Origin SqlError) → IsThere name cs f → SameOrigin cs r w
      → SameSet cs (r >>= λ g. Ok (record { column = f.1; value_in = g })) (w >>= λ o. Ok (record { place = f.0; column = f.1; origin = o }))
  made_case name f (Ok g) (Ok o) h same = record { column = refl; at = h.at; value = same.value; within = (h.within, same.within) }
  made_case name f (Err e) (Err x) h same = same
  made_case name f (Ok g) (Err e) h same = same
  made_case name f (Err e) (Ok o) h same = same

  key_case : (name : Name) (x : Right) (f : ℕ × Column) (b : Bool) → IsThere name cs f
      → SameSet cs (refuse_if b (not_supported (codes "key change")) >>= λ _. right_side cs f.1 x >>= λ g. Ok (record { column = f.1; value_in = g }))
      (refuse_if b (not_supported (codes "key change")) >>= λ _. origin_placed cs f.1 x >>= λ o. Ok (record { place = f.0; column = f.1; origin = o }))
  key_case name x f true h = refl
  key_case name x f false h = made_case name f (right_side cs f.1 x) (origin_placed cs f.1 x) h (right_case f.1 x)

  set_case : (name : Name) (x : Right) (r : Result (ℕ × Column) SqlError) → ((f : ℕ × Column) → r ≡ Ok f → IsThere name cs f)
      → SameSet cs ((r >>= λ f. Ok f.1) >>= λ c. refuse_if c.primary (not_supported (codes "key change")) >>= λ _. right_side cs c x >>= λ g. Ok (record { column = c; value_in = g }))
      (r >>= λ f. refuse_if f.1.primary (not_supported (codes "key change")) >>= λ _. origin_placed cs f.1 x >>= λ o. Ok (record { place = f.0; column = f.1; origin = o }))
  set_case name x (Ok f) h = key_case name x f f.1.primary (h f refl)
  set_case name x (Err e) h = refl

  set_same : (a : Assignment) → SameSet cs (assignment cs a) (assignment_placed cs a)
  set_same a =
      subst (λ (r : Result Column SqlError). SameSet cs (r >>= λ c. refuse_if c.primary (not_supported (codes "key change")) >>= λ _. right_side cs c a.right >>= λ g. Ok (record { column = c; value_in = g })) (assignment_placed cs a))
      (sym (called_same a.name cs)) (set_case a.name a.right (place_called a.name 0 cs) (there a.name cs))

  more_case : (r : Result Set SqlError) (w : Result Placing SqlError) (rs : Result (List Set) SqlError) (ws : Result (List Placing) SqlError) → SameSet cs r w → SameSets cs rs ws
      → SameSets cs (r >>= λ y. rs >>= λ ys. Ok (y ∷ ys)) (w >>= λ v. ws >>= λ vs. Ok (v ∷ vs))
  more_case (Ok s) (Ok p) (Ok ss) (Ok ps) h k = (h, k)
  more_case (Ok s) (Ok p) (Err e) (Err f) h k = k
  more_case (Ok s) (Ok p) (Ok ss) (Err f) h k = absurd k
  more_case (Ok s) (Ok p) (Err e) (Ok ps) h k = absurd k
  more_case (Err e) (Err f) rs ws h k = h
  more_case (Ok s) (Err f) rs ws h k = absurd h
  more_case (Err e) (Ok p) rs ws h k = absurd h

  pub sets_same : (all : List Assignment) → SameSets cs (each (assignment cs) all) (each (assignment_placed cs) all)
  sets_same [] = tt
  sets_same (a ∷ all) = more_case (assignment cs a) (assignment_placed cs a) (each (assignment cs) all) (each (assignment_placed cs) all) (set_same a) (sets_same all)

  -- ---- rows

  step_case : (old : List Value) (ss : List Set) (ps : List Placing) (row : List Value) (name : Name) (place : ℕ) (r : Result Value SqlError)
      → ((v : Value) → (assigned ss (with_value name v (labelled cs row)) >>= λ cells. paired old (values_in cells)) ≡ (placed ps (slice_set row place v) >>= paired old))
      → ((r >>= λ v. assigned ss (with_value name v (labelled cs row))) >>= λ cells. paired old (values_in cells)) ≡ (((r >>= λ v. Ok (slice_set row place v)) >>= placed ps) >>= paired old)
  step_case old ss ps row name place (Ok v) h = h v
  step_case old ss ps row name place (Err e) h = refl

  -- the assignments of a row
  pub row_same : (old : List Value) (ss : List Set) (ps : List Placing) (row : List Value) → AreSame cs ss ps → length row ≡ length cs
      → (assigned ss (labelled cs row) >>= λ cells. paired old (values_in cells)) ≡ (placed ps row >>= paired old)
  row_same old [] [] row h long = ap (paired old) (unlabelled cs row long)
  row_same old [] (p ∷ ps) row h long = absurd h
  row_same old (s ∷ ss) [] row h long = absurd h
  row_same old (s ∷ ss) (p ∷ ps) row h long =
      ap (λ (r : Result Value SqlError). (r >>= λ v. assigned ss (with_value s.column.name v (labelled cs row))) >>= λ cells. paired old (values_in cells))
      (λ i. stored (h.0.column i) (h.0.value row long i))
      ∙ step_case old ss ps row s.column.name p.place (stored p.column (value_from p.origin row)) (λ v.
      ap (λ (cells : List (Name × Value)). assigned ss cells >>= λ cells. paired old (values_in cells))
      (ap (λ (c : Column). with_value c.name v (labelled cs row)) h.0.column ∙ set_named cs row p.place p.column v differ h.0.at long)
      ∙ row_same old ss ps (slice_set row p.place v) h.1 (length-set row p.place v ∙ long))

-- the places are among the columns
pub all_within : (cs : List Column) (ss : List Set) (ps : List Placing) → AreSame cs ss ps → AllByRecursion (IsPlacingIn (length cs)) ps
all_within cs [] [] h = tt
all_within cs (s ∷ ss) (p ∷ ps) h = (h.0.within, all_within cs ss ps h.1)
all_within cs [] (p ∷ ps) h = absurd h
all_within cs (s ∷ ss) [] h = absurd h
