-- Rows whose values are named by columns of distinct names.
use Rattle.std.proofs.Common.{◌≡◌, ℕ, zero, suc, Bool, true, false, cond, List, [], ◌∷◌, length, map, get_or, refl, sym, ap, ◌∙◌, subst, arith, Option, Some, None, true≢false}
use Rattle.std.specs.Prelude.{not, ◌&&◌, ◌||◌, bytes_eq, slice_set}
use Rattle.std.specs.List.{list_any, slice_get}
use Rattle.std.proofs.lemmas.Slice.Eq.{bytes_eq-Decides}
use Rattle.qc_types.specs.declared.names.Value.{Value}
use Rattle.qc_types.specs.declared.names.Value.TheVariants as value
use Rattle.qc_sql.specs.declared.tables.Column.{Column}
use Rattle.qc_sql.specs.Database.{Name}
use Rattle.qc_sql.specs.Effects.{labelled, value_named, values_in, with_value}
use Rattle.qc_model.specs.Licence.{differ_in_name}

-- ---- tests

pub and_parts : (a b : Bool) → (a && b) ≡ true → (a ≡ true) × (b ≡ true)
and_parts true b h = (refl, h)
and_parts false b h = absurd (true≢false (sym h))

or_parts : (a b : Bool) → (a || b) ≡ false → (a ≡ false) × (b ≡ false)
or_parts true b h = absurd (true≢false h)
or_parts false b h = (refl, h)

not_so : (a : Bool) → not a ≡ true → a ≡ false
not_so true h = absurd (true≢false (sym h))
not_so false h = refl

-- ---- names

pub same_name : (a b : Name) → bytes_eq a b ≡ true → a ≡ b
same_name a b h = (bytes_eq-Decides a b).0 h

its_name : (a : Name) → bytes_eq a a ≡ true
its_name a = (bytes_eq-Decides a a).1 refl

apart : (a b : Name) → bytes_eq a b ≡ false → bytes_eq b a ≡ false
apart a b h = by (bytes_eq b a) refl
  where
    by : (t : Bool) → bytes_eq b a ≡ t → bytes_eq b a ≡ false
    by true e = absurd (true≢false (sym (ap (bytes_eq a) (same_name b a e) ∙ its_name a) ∙ h))
    by false e = e

-- no two of the columns have one name
abbrev pub Differ : List Column → Type 0
Differ cs = differ_in_name cs ≡ true

abbrev has_other : Name → List Column → Bool
has_other name cs = list_any (λ other. bytes_eq other.name name) cs

differ_parts : (c : Column) (cs : List Column) → Differ (c ∷ cs) → (has_other c.name cs ≡ false) × Differ cs
differ_parts c cs h = let p = and_parts (not (has_other c.name cs)) (differ_in_name cs) h in (not_so (has_other c.name cs) p.0, p.1)

one_column : (c d : Column) → ◌≡◌ {A = Option Column} (Some c) (Some d) → c ≡ d
one_column c d e = cc

-- a column behind one has another name
behind_differs : (name : Name) (cs : List Column) (i : ℕ) (c : Column) → has_other name cs ≡ false → slice_get cs i ≡ Some c → bytes_eq name c.name ≡ false
behind_differs name [] i c h e = absurd cc
behind_differs name (d ∷ ds) zero c h e =
    apart c.name name (subst (λ (x : Column). bytes_eq x.name name ≡ false) (one_column d c e) (or_parts (bytes_eq d.name name) (has_other name ds) h).0)
behind_differs name (d ∷ ds) (suc i) c h e = behind_differs name ds i c (or_parts (bytes_eq d.name name) (has_other name ds) h).1 e

-- ---- labelled rows

pub unlabelled : (cs : List Column) (row : List Value) → length row ≡ length cs → values_in (labelled cs row) ≡ row
unlabelled [] [] h = refl
unlabelled [] (v ∷ vs) h = absurd (omega arith)
unlabelled (c ∷ cs) [] h = refl
unlabelled (c ∷ cs) (v ∷ vs) h = ap (λ ws. v ∷ ws) (unlabelled cs vs (omega arith))

pub named_value : (cs : List Column) (row : List Value) (i : ℕ) (c : Column) → Differ cs → slice_get cs i ≡ Some c → length row ≡ length cs → value_named c.name (labelled cs row) ≡ get_or row i value.Null
named_value [] row i c d e h = absurd cc
named_value (x ∷ xs) [] i c d e h = absurd (omega arith)
named_value (x ∷ xs) (v ∷ vs) zero c d e h =
    ap (λ b. cond b v (value_named c.name (labelled xs vs))) (ap (λ (y : Column). bytes_eq y.name c.name) (one_column x c e) ∙ its_name c.name)
named_value (x ∷ xs) (v ∷ vs) (suc i) c d e h =
    let p = differ_parts x xs d in
    ap (λ b. cond b v (value_named c.name (labelled xs vs))) (behind_differs x.name xs i c p.0 e) ∙ named_value xs vs i c p.1 e (omega arith)

abbrev Cells : Type 0
Cells = List (Name × Value)

-- a value that no column has the name for
unnamed : (name : Name) (v : Value) (cs : List Column) (row : List Value) → has_other name cs ≡ false → with_value name v (labelled cs row) ≡ labelled cs row
unnamed name v [] row h = refl
unnamed name v (c ∷ cs) [] h = refl
unnamed name v (c ∷ cs) (w ∷ ws) h =
    let p = or_parts (bytes_eq c.name name) (has_other name cs) h in
    let cell : Name × Value = (c.name, w) in
    let new : Name × Value = (name, v) in
    (λ i. cond (p.0 i) new cell ∷ unnamed name v cs ws p.1 i)

with_value_here : (c : Column) (cs : List Column) (v w : Value) (ws : List Value) → has_other c.name cs ≡ false → with_value c.name v (labelled (c ∷ cs) (w ∷ ws)) ≡ labelled (c ∷ cs) (v ∷ ws)
with_value_here c cs v w ws h =
    let cell : Name × Value = (c.name, w) in
    let new : Name × Value = (c.name, v) in
    (λ i. cond (its_name c.name i) new cell ∷ unnamed c.name v cs ws h i)

pub set_named : (cs : List Column) (row : List Value) (i : ℕ) (c : Column) (v : Value) → Differ cs → slice_get cs i ≡ Some c → length row ≡ length cs → with_value c.name v (labelled cs row) ≡ labelled cs (slice_set row i v)
set_named [] row i c v d e h = absurd cc
set_named (x ∷ xs) [] i c v d e h = absurd (omega arith)
set_named (x ∷ xs) (w ∷ ws) zero c v d e h =
    subst (λ (y : Column). with_value y.name v (labelled (x ∷ xs) (w ∷ ws)) ≡ labelled (x ∷ xs) (v ∷ ws)) (one_column x c e) (with_value_here x xs v w ws (differ_parts x xs d).0)
set_named (x ∷ xs) (w ∷ ws) (suc i) c v d e h =
    let p = differ_parts x xs d in
    let cell : Name × Value = (x.name, w) in
    let new : Name × Value = (c.name, v) in
    (λ n. cond (behind_differs x.name xs i c p.0 e n) new cell ∷ set_named xs ws i c v p.1 e (omega arith) n)
