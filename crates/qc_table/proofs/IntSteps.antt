-- The numbers of a column, and one more.
use Rattle.std.proofs.Common.{◌≡◌, ℕ, ◌+◌, ◌<◌, ℤ, pos, Bool, true, false, List, [], ◌∷◌, ◌++◌, map, length, get_or, set, zero, suc, refl, sym, ap, ◌∙◌, arith, ◌≤◌, ◌⊎◌, inl, inr, nat_lt, Option, Some, None, add-zero}
use Rattle.std.specs.Prelude.{◌==◌, if◌then◌else◌, is_none, is_some, not, unwrap_or}
use Rattle.std.proofs.lemmas.Bool.Decides.{nat_tests}
use Rattle.std.proofs.lemmas.List.{map-append, map-set}
use Rattle.qc_types.specs.declared.names.Value.{Value}
use Rattle.qc_types.specs.declared.names.Value.TheVariants as value
use Rattle.qc_sql.specs.Database.{key_value}
use Rattle.qc_table.specs.Bits.{bit_at, IsPacked}
use Rattle.qc_table.specs.Columns.{ints_from}
use Rattle.qc_sql.specs.Rows.{is_null}
use Rattle.std.proofs.lemmas.List.{get_or_default}
use Rattle.qc_table.specs.Views.{int_value, value_at, IsNulls}

abbrev pub Agree : ℕ → Bool → List ℕ → List ℕ → Type 0
Agree at null ws vs = (j : ℕ) → bit_at vs j ≡ (if j == at then null else bit_at ws j)

pub bit_new : (at : ℕ) (null : Bool) (ws vs : List ℕ) → Agree at null ws vs → bit_at vs at ≡ null
bit_new at null ws vs agree =
    let same : (at == at) ≡ true = grind (arith, nat_tests) in
    agree at ∙ rw same refl

pub bit_kept : (at i : ℕ) (null : Bool) (ws vs : List ℕ) → Agree at null ws vs → i < at → bit_at vs i ≡ bit_at ws i
bit_kept at i null ws vs agree low =
    let other : (i == at) ≡ false = grind (arith, nat_tests) in
    agree i ∙ rw other refl

abbrev pub int_cell : Bool → ℤ → Value
int_cell null n = if null then value.Null else value.Int n

pub pushed : (at i : ℕ) (ns : List ℤ) (n : ℤ) (null : Bool) (ws vs : List ℕ) → Agree at null ws vs → at ≡ i + length ns → ints_from i (ns ++ n ∷ []) vs ≡ ints_from i ns ws ++ int_cell null n ∷ []
pushed at i [] n null ws vs agree is =
    let here : i ≡ at = omega arith in
    rw (here, bit_new at null ws vs agree) refl
pushed at i (m ∷ ns) n null ws vs agree is =
    rw (bit_kept at i null ws vs agree (omega arith)) (ap (λ rest. int_cell (bit_at ws i) m ∷ rest) (pushed at (i + 1) ns n null ws vs agree (omega arith)))

-- ---- one in the place of another

bit_other : (at i : ℕ) (null : Bool) (ws vs : List ℕ) → Agree at null ws vs → (i ≡ at → ⊥) → bit_at vs i ≡ bit_at ws i
bit_other at i null ws vs agree apart =
    let other : (i == at) ≡ false = grind (arith, nat_tests) in
    agree i ∙ rw other refl

behind : (at i : ℕ) (ns : List ℤ) (null : Bool) (ws vs : List ℕ) → Agree at null ws vs → at < i → ints_from i ns vs ≡ ints_from i ns ws
behind at i [] null ws vs agree low = refl
behind at i (n ∷ ns) null ws vs agree low =
    rw (bit_other at i null ws vs agree (λ e. omega (arith, e, low))) (ap (λ rest. int_cell (bit_at ws i) n ∷ rest) (behind at (i + 1) ns null ws vs agree (omega arith)))

pub replaced : (at i r : ℕ) (ns : List ℤ) (n : ℤ) (null : Bool) (ws vs : List ℕ) → Agree at null ws vs → at ≡ i + r → ints_from i (set ns r n) vs ≡ set (ints_from i ns ws) r (int_cell null n)
replaced at i r [] n null ws vs agree is = refl
replaced at i zero (m ∷ ns) n null ws vs agree is =
    let here : i ≡ at = omega arith in
    rw (here, bit_new at null ws vs agree) (ap (λ rest. int_cell null n ∷ rest) (behind at (at + 1) ns null ws vs agree (omega arith)))
replaced at i (suc r) (m ∷ ns) n null ws vs agree is =
    rw (bit_kept at i null ws vs agree (omega arith)) (ap (λ rest. int_cell (bit_at ws i) m ∷ rest) (replaced at (i + 1) r ns n null ws vs agree (omega arith)))

pub packed_kept : (at n : ℕ) (null : Bool) (ws vs : List ℕ) → Agree at null ws vs → length vs ≡ length ws → at < n → IsPacked ws n → IsPacked vs n
packed_kept at n null ws vs agree same low packed = record {
  enough = same ∙ packed.enough;
  rest = λ i high. bit_other at i null ws vs agree (λ e. omega (arith, e, high, low)) ∙ packed.rest i high;
}

pub cell_is : (o : Option ℤ) → int_cell (is_none o) (unwrap_or o (pos 0)) ≡ int_value o
cell_is None = refl
cell_is (Some n) = refl

pub number_is : (o : Option ℤ) → key_value (int_value o) ≡ unwrap_or o (pos 0)
number_is None = refl
number_is (Some n) = refl

pub zero_kept : (vs : List Value) (ns : List ℤ) (o : Option ℤ) → map key_value vs ≡ ns → map key_value (vs ++ int_value o ∷ []) ≡ ns ++ unwrap_or o (pos 0) ∷ []
zero_kept vs ns o is = map-append key_value vs (int_value o ∷ []) ∙ rw (is, number_is o) refl

pub zero_put : (vs : List Value) (ns : List ℤ) (r : ℕ) (o : Option ℤ) → map key_value vs ≡ ns → map key_value (set vs r (int_value o)) ≡ set ns r (unwrap_or o (pos 0))
zero_put vs ns r o is = map-set key_value vs r (int_value o) ∙ rw (is, number_is o) refl

pub ints_length : (i : ℕ) (ns : List ℤ) (ws : List ℕ) → length (ints_from i ns ws) ≡ length ns
ints_length i [] ws = refl
ints_length i (n ∷ ns) ws = ap suc (ints_length (i + 1) ns ws)

int_from_at : (i r : ℕ) (ns : List ℤ) (ws : List ℕ) (d : ℤ) → r < length ns → value_at (ints_from i ns ws) r ≡ int_cell (bit_at ws (i + r)) (get_or ns r d)
int_from_at i r [] ws d low = absurd (omega arith)
int_from_at i zero (n ∷ ns) ws d low = rw add-zero refl
int_from_at i (suc r) (n ∷ ns) ws d low =
    let same : i + 1 + r ≡ i + suc r = omega arith in
    int_from_at (i + 1) r ns ws d (omega arith) ∙ ap (λ j. int_cell (bit_at ws j) (get_or ns r d)) same

pub int_at : (r : ℕ) (ns : List ℤ) (ws : List ℕ) (d : ℤ) → r < length ns → value_at (ints_from 0 ns ws) r ≡ int_cell (bit_at ws r) (get_or ns r d)
int_at r ns ws d low =
    let same : 0 + r ≡ r = omega arith in
    int_from_at 0 r ns ws d low ∙ ap (λ j. int_cell (bit_at ws j) (get_or ns r d)) same

pub null_is : {X : Type 0} (o : Option X) (b : Bool) → is_some o ≡ not b → b ≡ is_none o
null_is None true h = refl
null_is None false h = absurd cc
null_is (Some n) true h = absurd cc
null_is (Some n) false h = refl

past_end : (vs : List Value) (i : ℕ) (d : Value) → length vs ≤ i → get_or vs i d ≡ d
past_end [] i d low = refl
past_end (v ∷ vs) zero d low = absurd (omega arith)
past_end (v ∷ vs) (suc i) d low = past_end vs i d (omega arith)

null_cell : (b : Bool) (n : ℤ) → b ≡ is_null (int_cell b n)
null_cell true n = refl
null_cell false n = refl

within_or_not : (i n : ℕ) → (i < n) ⊎ (n ≤ i)
within_or_not i n =
    elim (nat_lt i n) as (λ b. nat_lt i n ≡ b → (i < n) ⊎ (n ≤ i)) [
      | true ↦ λ p. inl (grind (arith, nat_tests))
      | false ↦ λ p. inr (grind (arith, nat_tests))
    ] refl

-- the bits tell which values are NULL, where each value does by its bit
pub nulls_from : (vs : List Value) (ws : List ℕ) (n : ℕ) → length vs ≡ n → IsPacked ws n → ((i : ℕ) → i < n → bit_at ws i ≡ is_null (value_at vs i)) → IsNulls ws vs
nulls_from vs ws n many packed each = record {
  count = rw many packed.enough;
  bits = λ i. elim (within_or_not i n) [
    | inl low ↦ each i low ∙ ap is_null (get_or_default vs i value.Null (value.Int (pos 0)) (omega (arith, many)))
    | inr high ↦ packed.rest i high ∙ sym (ap is_null (past_end vs i (value.Int (pos 0)) (omega (arith, many))))
  ];
}

pub int_nulls : (ns : List ℤ) (ws : List ℕ) → IsPacked ws (length ns) → IsNulls ws (ints_from 0 ns ws)
int_nulls ns ws packed =
    nulls_from (ints_from 0 ns ws) ws (length ns) (ints_length 0 ns ws) packed
    (λ i low. null_cell (bit_at ws i) (get_or ns i (pos 0)) ∙ sym (ap is_null (int_at i ns ws (pos 0) low)))
