-- Parts of lists of values.
use Rattle.std.proofs.Common.{◌≡◌, ℕ, ◌+◌, ◌-◌, ◌<◌, ◌≤◌, List, [], ◌∷◌, ◌++◌, length, take, drop, zero, suc, refl, ap, ◌∙◌, arith, append_assoc, length-drop}
use Rattle.std.proofs.lemmas.List.{get_or-drop}
use Rattle.qc_types.specs.declared.names.Value.{Value}
use Rattle.qc_types.specs.declared.names.Value.TheVariants as value
use Rattle.qc_table.specs.Views.{value_at}

take_one : (n : ℕ) (vs : List Value) → n < length vs → take (suc n) vs ≡ take n vs ++ value_at vs n ∷ []
take_one n [] low = absurd (omega arith)
take_one zero (v ∷ vs) low = refl
take_one (suc n) (v ∷ vs) low = ap (λ rest. v ∷ rest) (take_one n vs (omega arith))

drop_at : (from n : ℕ) (vs : List Value) → value_at (drop from vs) n ≡ value_at vs (from + n)
drop_at from n vs = get_or-drop from vs n value.Null

-- one more value of a part
pub part_more : (old vs now : List Value) (from row : ℕ) → from ≤ row → row < length vs → now ≡ old ++ take (row - from) (drop from vs) → now ++ value_at vs row ∷ [] ≡ old ++ take (row + 1 - from) (drop from vs)
part_more old vs now from row low high is =
    let count : row + 1 - from ≡ suc (row - from) = omega arith in
    let there : from + (row - from) ≡ row = omega arith in
    let within : row - from < length (drop from vs) = omega (arith, length-drop from vs) in
    let one = take_one (row - from) (drop from vs) within ∙ ap (λ v. take (row - from) (drop from vs) ++ v ∷ []) (drop_at from (row - from) vs ∙ ap (value_at vs) there) in
    rw (is, count, one) (append_assoc old (take (row - from) (drop from vs)) (value_at vs row ∷ []))
