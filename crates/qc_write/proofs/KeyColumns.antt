-- The primary column of a sound table, and the keys of its rows.
use Rattle.std.proofs.Common.{◌≡◌, ℕ, ℤ, pos, zero, suc, ◌+◌, ◌<◌, ◌≤◌, Bool, true, false, cond, List, [], ◌∷◌, length, map, drop, get_or, refl, sym, ap, ◌∙◌, subst, arith, add-one, Option, Some, None, true≢false}
use Rattle.std.specs.Prelude.{◌&&◌, ◌||◌, ◌==◌, nat_le, unwrap_or, option_map, count_by}
use Rattle.std.specs.List.{AllByRecursion, list_any, slice_get}
use Rattle.std.proofs.lemmas.Bool.Decides.{Decides-eqb}
use Rattle.std.proofs.lemmas.List.{drop_all}
use Rattle.std.proofs.lemmas.List.Sums.{sum_by-cons}
use Rattle.qc_types.specs.declared.names.Value.{Value}
use Rattle.qc_types.specs.declared.names.Value.TheVariants as value
use Rattle.qc_sql.specs.declared.tables.Column.{Column}
use Rattle.qc_sql.specs.declared.tables.Kind.{Kind}
use Rattle.qc_sql.specs.declared.tables.Kind.TheVariants as kind
use Rattle.qc_sql.specs.Database.{MapOf, key_of, key_value}
use Rattle.qc_model.specs.Licence.{columns_fit, differ_in_name, is_number_key, most_columns}
use Rattle.qc_table.specs.Tables.{IsSound}
use Rattle.qc_model.specs.Sound.{IsRow}
use Rattle.qc_table.specs.Views.{int_value, kind_at, row_at, value_at}
use Rattle.qc_eval.specs.Entries.{entry_at}
use Rattle.qc_write.specs.Removing.{IsKeyColumn}
use Rattle.qc_resolve.proofs.Steps.{rest_at}
use Rattle.qc_write.proofs.Named.{Differ, and_parts}

-- ---- the primary column

abbrev key_count : List Column → ℕ
key_count cs = count_by (λ c. c.primary) cs

-- no column before an index is primary
pub record IsAhead (cs : List Column) (i : ℕ) : Type 0 where
  pub key : (row : List Value) → key_of cs row ≡ key_of (drop i cs) (drop i row)
  pub number : list_any is_number_key (drop i cs) ≡ true
  pub one : key_count (drop i cs) ≡ 1

-- what columns that fit have
record IsFitting (cs : List Column) : Type 0 where
  differ : Differ cs
  one : key_count cs ≡ 1
  number : list_any is_number_key cs ≡ true

fitting : (cs : List Column) → columns_fit cs ≡ true → IsFitting cs
fitting cs h =
    let a = and_parts (nat_le (length cs) most_columns && differ_in_name cs && key_count cs == 1) (list_any is_number_key cs) h in
    let b = and_parts (nat_le (length cs) most_columns && differ_in_name cs) (key_count cs == 1) a.0 in
    let c = and_parts (nat_le (length cs) most_columns) (differ_in_name cs) b.0 in
    record { differ = c.1; one = (Decides-eqb (key_count cs) 1).0 b.1; number = a.1 }

pub names_differ : (cs : List Column) → columns_fit cs ≡ true → Differ cs
names_differ cs h = (fitting cs h).differ

pub ahead_first : (cs : List Column) → columns_fit cs ≡ true → IsAhead cs 0
ahead_first cs h = let f = fitting cs h in record { key = λ row. refl; number = f.number; one = f.one }

nil_key : (cs : List Column) → key_of cs [] ≡ pos 0
nil_key [] = refl
nil_key (c ∷ cs) = refl

key_behind : (x : Column) (rest : List Column) (row : List Value) (i : ℕ) → x.primary ≡ false → key_of (x ∷ rest) (drop i row) ≡ key_of rest (drop (suc i) row)
key_behind x rest [] zero p = sym (nil_key rest)
key_behind x rest [] (suc i) p = sym (nil_key rest)
key_behind x rest (v ∷ vs) zero p = ap (λ b. cond b (key_value v) (key_of rest vs)) p
key_behind x rest (v ∷ vs) (suc i) p = key_behind x rest vs i p

key_read : (x : Column) (rest : List Column) (row : List Value) (i : ℕ) → x.primary ≡ true → key_of (x ∷ rest) (drop i row) ≡ key_value (value_at row i)
key_read x rest [] zero p = refl
key_read x rest [] (suc i) p = refl
key_read x rest (v ∷ vs) zero p = ap (λ b. cond b (key_value v) (key_of rest vs)) p
key_read x rest (v ∷ vs) (suc i) p = key_read x rest vs i p

-- a column that isn't primary is no key
not_number : (x : Column) → x.primary ≡ false → is_number_key x ≡ false
not_number x p = by x.kind x.primary p
  where
    by : (k : Kind) (b : Bool) → b ≡ false → is_number_key (record { name = x.name; kind = k; not_null = x.not_null; primary = b }) ≡ false
    by k true e = absurd (true≢false e)
    by k false e = refl

number_kind : (x : Column) → is_number_key x ≡ true → x.kind ≡ kind.Int
number_kind x h = by x.kind x.primary h
  where
    by : (k : Kind) (b : Bool) → is_number_key (record { name = x.name; kind = k; not_null = x.not_null; primary = b }) ≡ true → k ≡ kind.Int
    by kind.Int b e = refl
    by (kind.Str n) true e = absurd (true≢false (sym e))
    by (kind.Str n) false e = absurd (true≢false (sym e))

-- one for a primary column
weight : Column → ℕ
weight c = cond c.primary 1 0

weight_is : (c : Column) (b : Bool) → c.primary ≡ b → weight c ≡ cond b 1 0
unfolding weight
weight_is c b e = ap (λ (p : Bool). let n : ℕ = cond p 1 0 in n) e

count_on : (c : Column) (cs : List Column) → key_count (c ∷ cs) ≡ weight c + key_count cs
unfolding weight
count_on c cs = sum_by-cons (λ (d : Column). cond d.primary 1 0) c cs

number_counts : (cs : List Column) → list_any is_number_key cs ≡ true → 1 ≤ key_count cs
number_counts [] h = absurd (true≢false (sym h))
number_counts (c ∷ cs) h = by c.primary refl (number_counts cs)
  where
    by : (b : Bool) → c.primary ≡ b → (list_any is_number_key cs ≡ true → 1 ≤ key_count cs) → 1 ≤ key_count (c ∷ cs)
    by true e behind = let one : weight c ≡ 1 = weight_is c true e in let all = count_on c cs in omega (arith, one, all)
    by false e behind =
        let rest : 1 ≤ key_count cs = behind (sym (ap (λ b. b || list_any is_number_key cs) (not_number c e)) ∙ h) in
        let all = count_on c cs in
        omega (arith, rest, all)

pub ahead_next : (cs : List Column) (i : ℕ) (x : Column) → i < length cs → x ≡ get_or cs i x → x.primary ≡ false → IsAhead cs i → IsAhead cs (i + 1)
ahead_next cs i x h e p a =
    let cut = rest_at cs i x h e in
    record {
      key = λ row. a.key row ∙ ap (λ ds. key_of ds (drop i row)) cut ∙ key_behind x (drop (i + 1) cs) row i p ∙ ap (λ k. key_of (drop (i + 1) cs) (drop k row)) (sym (add-one i));
      number = sym (ap (λ b. b || list_any is_number_key (drop (i + 1) cs)) (not_number x p)) ∙ sym (ap (list_any is_number_key) cut) ∙ a.number;
      one =
          let none : weight x ≡ 0 = weight_is x false p in
          let all : weight x + key_count (drop (i + 1) cs) ≡ 1 = sym (count_on x (drop (i + 1) cs)) ∙ sym (ap key_count cut) ∙ a.one in
          omega (arith, none, all);
    }

column_at : (cs : List Column) (i : ℕ) (x : Column) → i < length cs → x ≡ get_or cs i x → slice_get cs i ≡ Some x
column_at [] i x h e = absurd (omega arith)
column_at (c ∷ cs) zero x h e = ap Some (sym e)
column_at (c ∷ cs) (suc i) x h e = column_at cs i x (omega arith) e

pub kind_there : (cs : List Column) (i : ℕ) (x : Column) → i < length cs → x ≡ get_or cs i x → kind_at cs i ≡ Some x.kind
kind_there cs i x h e = ap (option_map (λ (c : Column). c.kind)) (column_at cs i x h e)

-- the one primary column is the one of numbers
key_number : (x : Column) (rest : List Column) → x.primary ≡ true → list_any is_number_key (x ∷ rest) ≡ true → key_count (x ∷ rest) ≡ 1 → is_number_key x ≡ true
key_number x rest p number one = by (is_number_key x) refl
  where
    by : (b : Bool) → is_number_key x ≡ b → is_number_key x ≡ true
    by true e = e
    by false e =
        let more : 1 ≤ key_count rest = number_counts rest (sym (ap (λ b. b || list_any is_number_key rest) e) ∙ number) in
        let first : weight x ≡ 1 = weight_is x true p in
        let all : weight x + key_count rest ≡ 1 = sym (count_on x rest) ∙ one in
        absurd (omega (arith, more, first, all))

pub key_here : (cs : List Column) (i : ℕ) (x : Column) → i < length cs → x ≡ get_or cs i x → x.primary ≡ true → IsAhead cs i → IsKeyColumn cs i
key_here cs i x h e p a =
    let cut = rest_at cs i x h e in
    let number = key_number x (drop (i + 1) cs) p (sym (ap (list_any is_number_key) cut) ∙ a.number) (sym (ap key_count cut) ∙ a.one) in
    record {
      kind = kind_there cs i x h e ∙ ap Some (number_kind x number);
      key = λ row. a.key row ∙ ap (λ ds. key_of ds (drop i row)) cut ∙ key_read x (drop (i + 1) cs) row i p;
    }

pub key_nowhere : (cs : List Column) (i : ℕ) → length cs ≤ i → IsAhead cs i → ⊥
key_nowhere cs i h a = true≢false (sym a.number ∙ ap (list_any is_number_key) (drop_all i cs h))

-- ---- the keys of rows

abbrev Entry : Type 0
Entry = ℤ × List Value

-- the row at an index is that of its entry
pub row_of_entry : (rows : List Entry) (i : ℕ) → row_at rows i ≡ (entry_at rows i).1
row_of_entry [] i = refl
row_of_entry (e ∷ es) zero = refl
row_of_entry (e ∷ es) (suc i) = row_of_entry es i

keyed_at : (cs : List Column) (rows : List Entry) (i : ℕ) → AllByRecursion (IsRow cs) rows → i < length rows → (entry_at rows i).0 ≡ key_of cs (entry_at rows i).1
keyed_at cs [] i all h = absurd (omega arith)
keyed_at cs (e ∷ es) zero all h = all.0.1
keyed_at cs (e ∷ es) (suc i) all h = keyed_at cs es i all.1 (omega arith)

number_read : (o : Option ℤ) → key_value (int_value o) ≡ unwrap_or o (pos 0)
number_read None = refl
number_read (Some n) = refl

-- what the key column holds is the key
pub key_of_row : (cs : List Column) (rows : List Entry) (i column : ℕ) (o : Option ℤ) → AllByRecursion (IsRow cs) rows → i < length rows → IsKeyColumn cs column
    → int_value o ≡ value_at (row_at rows i) column → unwrap_or o (pos 0) ≡ (entry_at rows i).0
key_of_row cs rows i column o all h key read =
    sym (number_read o) ∙ ap key_value read ∙ ap (λ row. key_value (value_at row column)) (row_of_entry rows i)
    ∙ sym (key.key (entry_at rows i).1) ∙ sym (keyed_at cs rows i all h)
