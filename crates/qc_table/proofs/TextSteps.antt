-- The texts of a column, and one more.
use Rattle.std.proofs.Common.{◌≡◌, ℕ, ◌+◌, ◌-◌, ◌<◌, ◌≤◌, Bool, true, false, List, [], ◌∷◌, ◌++◌, length, get_or, take, drop, zero, suc, refl, sym, ap, ◌∙◌, arith, Option, Some, None, add-zero, length-append}
use Rattle.std.specs.Prelude.{if◌then◌else◌, is_none, unwrap_or, option_copied}
use Rattle.std.specs.Borrow.{Bor}
use Rattle.std.proofs.lemmas.List.{take-append-le, take_all}
use Rattle.qc_types.specs.declared.names.Value.{Value}
use Rattle.qc_types.specs.declared.names.Value.TheVariants as value
use Rattle.qc_sql.specs.Rows.{is_null}
use Rattle.qc_table.specs.Bits.{bit_at, IsPacked}
use Rattle.qc_table.specs.Columns.{texts_from, Climbs}
use Rattle.qc_table.specs.Views.{text_value, value_at, IsNulls}
use Rattle.qc_table.proofs.IntSteps.{Agree, bit_new, bit_kept, nulls_from}

abbrev pub text_cell : Bool → List ℕ → Value
text_cell null t = if null then value.Null else value.Str t

drop_within : (n : ℕ) (xs ys : List ℕ) → n ≤ length xs → drop n (xs ++ ys) ≡ drop n xs ++ ys
drop_within zero xs ys low = refl
drop_within (suc n) [] ys low = absurd (omega arith)
drop_within (suc n) (x ∷ xs) ys low = drop_within n xs ys (omega arith)

drop_whole : (xs : List ℕ) → drop (length xs) xs ≡ []
drop_whole [] = refl
drop_whole (x ∷ xs) = drop_whole xs

length_dropped : (n : ℕ) (xs : List ℕ) → n ≤ length xs → length (drop n xs) + n ≡ length xs
length_dropped zero xs low = omega arith
length_dropped (suc n) [] low = absurd (omega arith)
length_dropped (suc n) (x ∷ xs) low = let rest = length_dropped n xs (omega arith) in omega (arith, rest)

pub part_kept : (from e : ℕ) (bytes t : List ℕ) → from ≤ e → e ≤ length bytes → take (e - from) (drop from (bytes ++ t)) ≡ take (e - from) (drop from bytes)
part_kept from e bytes t low high =
    let all = length_dropped from bytes (omega arith) in
    ap (take (e - from)) (drop_within from bytes t (omega arith)) ∙ take-append-le (e - from) (drop from bytes) t (omega (arith, all))

part_new : (bytes t : List ℕ) → take (length (bytes ++ t) - length bytes) (drop (length bytes) (bytes ++ t)) ≡ t
part_new bytes t =
    let behind : drop (length bytes) (bytes ++ t) ≡ t = drop_within (length bytes) bytes t (omega arith) ∙ ap (λ l. l ++ t) (drop_whole bytes) in
    rw behind (take_all _ _ (omega (arith, length-append bytes t)))

pub climbs_up : (from : ℕ) (es : List ℕ) (last : ℕ) → Climbs from es last → from ≤ last
climbs_up from [] last c = omega (arith, c)
climbs_up from (e ∷ es) last c = omega (arith, c.0, climbs_up e es last c.1)

pub climbs_on : (from : ℕ) (es : List ℕ) (last new : ℕ) → Climbs from es last → last ≤ new → Climbs from (es ++ new ∷ []) new
climbs_on from [] last new c up = (omega (arith, c), refl)
climbs_on from (e ∷ es) last new c up = (c.0, climbs_on e es last new c.1 up)

pub pushed : (at i from : ℕ) (es bytes t : List ℕ) (null : Bool) (ws vs : List ℕ) → Agree at null ws vs → at ≡ i + length es → Climbs from es (length bytes)
    → texts_from i from (es ++ length (bytes ++ t) ∷ []) (bytes ++ t) vs ≡ texts_from i from es bytes ws ++ text_cell null t ∷ []
pushed at i from [] bytes t null ws vs agree is climbs =
    let here : i ≡ at = omega arith in
    rw (here, bit_new at null ws vs agree, climbs, part_new bytes t) refl
pushed at i from (e ∷ es) bytes t null ws vs agree is climbs =
    let high = climbs_up e es (length bytes) climbs.1 in
    rw (bit_kept at i null ws vs agree (omega arith), part_kept from e bytes t climbs.0 high)
    (ap (λ rest. text_cell (bit_at ws i) (take (e - from) (drop from bytes)) ∷ rest) (pushed at (i + 1) e es bytes t null ws vs agree (omega arith) climbs.1))

pub cell_is : (o : Option (List ℕ)) → text_cell (is_none o) (unwrap_or o []) ≡ text_value o
cell_is None = refl
cell_is (Some t) = refl

pub texts_length : (i from : ℕ) (es bytes ws : List ℕ) → length (texts_from i from es bytes ws) ≡ length es
texts_length i from [] bytes ws = refl
texts_length i from (e ∷ es) bytes ws = ap suc (texts_length (i + 1) e es bytes ws)

text_from_at : (i from r : ℕ) (es bytes ws : List ℕ) → r < length es → value_at (texts_from i from es bytes ws) r ≡ text_cell (bit_at ws (i + r)) (take (get_or es r 0 - get_or (from ∷ es) r 0) (drop (get_or (from ∷ es) r 0) bytes))
text_from_at i from r [] bytes ws low = absurd (omega arith)
text_from_at i from zero (e ∷ es) bytes ws low = rw add-zero refl
text_from_at i from (suc r) (e ∷ es) bytes ws low =
    let same : i + 1 + r ≡ i + suc r = omega arith in
    text_from_at (i + 1) e r es bytes ws (omega arith) ∙ ap (λ j. text_cell (bit_at ws j) (take (get_or es r 0 - get_or (e ∷ es) r 0) (drop (get_or (e ∷ es) r 0) bytes))) same

pub text_at : (r : ℕ) (es bytes ws : List ℕ) → r < length es → value_at (texts_from 0 0 es bytes ws) r ≡ text_cell (bit_at ws r) (take (get_or es r 0 - get_or (0 ∷ es) r 0) (drop (get_or (0 ∷ es) r 0) bytes))
text_at r es bytes ws low =
    let same : 0 + r ≡ r = omega arith in
    text_from_at 0 0 r es bytes ws low ∙ ap (λ j. text_cell (bit_at ws j) (take (get_or es r 0 - get_or (0 ∷ es) r 0) (drop (get_or (0 ∷ es) r 0) bytes))) same

pub climbs_at : (from r : ℕ) (es : List ℕ) (last : ℕ) → Climbs from es last → r < length es → (get_or (from ∷ es) r 0 ≤ get_or es r 0) × (get_or es r 0 ≤ last)
climbs_at from r [] last c low = absurd (omega arith)
climbs_at from zero (e ∷ es) last c low = (c.0, climbs_up e es last c.1)
climbs_at from (suc r) (e ∷ es) last c low = climbs_at e r es last c.1 (omega arith)

pub none_lent : (o : Option (Bor (List ℕ))) → is_none o ≡ is_none (option_copied o)
none_lent None = refl
none_lent (Some t) = refl

pub lent_or : (o : Option (Bor (List ℕ))) (d : Bor (List ℕ)) → (unwrap_or o d).now ≡ unwrap_or (option_copied o) d.now
lent_or None d = refl
lent_or (Some t) d = refl

null_cell : (b : Bool) (t : List ℕ) → b ≡ is_null (text_cell b t)
null_cell true t = refl
null_cell false t = refl

pub text_nulls : (es bytes ws : List ℕ) → IsPacked ws (length es) → IsNulls ws (texts_from 0 0 es bytes ws)
text_nulls es bytes ws packed =
    nulls_from (texts_from 0 0 es bytes ws) ws (length es) (texts_length 0 0 es bytes ws) packed
    (λ i low. null_cell (bit_at ws i) _ ∙ sym (ap is_null (text_at i es bytes ws low)))
