-- The numbers of a column, of which one is put between others or taken out.
use Rattle.std.proofs.Common.{◌≡◌, ℕ, ◌+◌, ◌<◌, ◌≤◌, ℤ, pos, Bool, List, [], ◌∷◌, map, length, get_or, zero, suc, refl, sym, ap, ◌∙◌, arith, Option}
use Rattle.std.specs.Prelude.{unwrap_or}
use Rattle.std.specs.List.{insert, remove}
use Rattle.qc_types.specs.declared.names.Value.{Value}
use Rattle.qc_sql.specs.Database.{key_value}
use Rattle.qc_table.specs.Bits.{bit_at, HasBitAt}
use Rattle.qc_table.specs.Columns.{ints_from}
use Rattle.qc_table.specs.Views.{int_value}
use Rattle.qc_table.proofs.IntSteps.{int_cell, ints_length, number_is}
use Rattle.qc_table.proofs.Moves.{insert_removed, map_insert, map_remove, remove_inserted}

-- behind the place, each stands one further
further : (at i : ℕ) (ns : List ℤ) (bit : Bool) (ws vs : List ℕ) → HasBitAt at bit ws vs → at ≤ i → ints_from (i + 1) ns vs ≡ ints_from i ns ws
further at i [] bit ws vs h above = refl
further at i (n ∷ ns) bit ws vs h above = rw (h.behind i above) (ap (λ rest. int_cell (bit_at ws i) n ∷ rest) (further at (i + 1) ns bit ws vs h (omega arith)))

put_from : (at i r : ℕ) (ns : List ℤ) (n : ℤ) (bit : Bool) (ws vs : List ℕ) → HasBitAt at bit ws vs → at ≡ i + r → r ≤ length ns → ints_from i (insert ns r n) vs ≡ insert (ints_from i ns ws) r (int_cell bit n)
put_from at i zero ns n bit ws vs h is low =
    let here : i ≡ at = omega (arith, is) in
    let one : bit_at vs i ≡ bit = ap (bit_at vs) here ∙ h.here in
    ap (λ b. int_cell b n ∷ ints_from (i + 1) ns vs) one ∙ ap (λ rest. int_cell bit n ∷ rest) (further at i ns bit ws vs h (omega (arith, is)))
put_from at i (suc r) [] n bit ws vs h is low = absurd (omega arith)
put_from at i (suc r) (m ∷ ns) n bit ws vs h is low =
    ap (λ b. int_cell b m ∷ ints_from (i + 1) (insert ns r n) vs) (h.front i (omega (arith, is)))
    ∙ ap (λ rest. int_cell (bit_at ws i) m ∷ rest) (put_from at (i + 1) r ns n bit ws vs h (omega (arith, is)) (omega arith))

pub inserted : (at : ℕ) (ns : List ℤ) (n : ℤ) (bit : Bool) (ws vs : List ℕ) → HasBitAt at bit ws vs → at ≤ length ns → ints_from 0 (insert ns at n) vs ≡ insert (ints_from 0 ns ws) at (int_cell bit n)
inserted at ns n bit ws vs h low = put_from at 0 at ns n bit ws vs h (omega arith) low

pub removed : (at : ℕ) (ns : List ℤ) (bit : Bool) (ws vs : List ℕ) → HasBitAt at bit vs ws → at < length ns → length (remove ns at) + 1 ≡ length ns → ints_from 0 (remove ns at) vs ≡ remove (ints_from 0 ns ws) at
removed at ns bit ws vs h low fewer =
    let n = get_or ns at (pos 0) in
    let before = inserted at (remove ns at) n bit vs ws h (omega (arith, low, fewer)) in
    let whole = ap (λ (ms : List ℤ). ints_from 0 ms ws) (insert_removed ns at (pos 0) low) in
    let count = ints_length 0 (remove ns at) vs in
    sym (remove_inserted (ints_from 0 (remove ns at) vs) at (int_cell bit n) (omega (arith, low, fewer, count))) ∙ ap (λ (us : List Value). remove us at) (sym before ∙ whole)

pub zero_inserted : (vs : List Value) (ns : List ℤ) (at : ℕ) (o : Option ℤ) → map key_value vs ≡ ns → map key_value (insert vs at (int_value o)) ≡ insert ns at (unwrap_or o (pos 0))
zero_inserted vs ns at o is = map_insert key_value vs at (int_value o) ∙ (ap (λ (ms : List ℤ). insert ms at (key_value (int_value o))) is ∙ ap (λ (n : ℤ). insert ns at n) (number_is o))

pub zero_removed : (vs : List Value) (ns : List ℤ) (at : ℕ) → map key_value vs ≡ ns → map key_value (remove vs at) ≡ remove ns at
zero_removed vs ns at is = map_remove key_value vs at ∙ ap (λ (ms : List ℤ). remove ms at) is
