-- Products that stop at a limit.
use Rattle.std.proofs.Common.{◌≡◌, ℕ, ◌+◌, ◌*◌, ◌<◌, ◌≤◌, zero, suc, arith, refl, sym, ap, ◌∙◌, List, [], ◌∷◌, length, drop, get_or, ◌⊎◌, inl, inr}
use Rattle.std.specs.Prelude.{min}
use Rattle.std.proofs.Math.Nat.{mul-suc, mul-zero, mul_assoc}
use Rattle.qc_sql.specs.Rows.{Bound, combination_count}
use Rattle.qc_resolve.proofs.Steps.{rest_at}

-- a factor may stop at the limit first
pub stopped : (m a r : ℕ) → min (min a m * r) m ≡ min (a * r) m
stopped m a zero = simp mul-zero
stopped m a (suc r) = by_order (order m a)
  where
    order : (m a : ℕ) → (a ≤ m) ⊎ (m ≤ a)
    order zero a = inr (omega arith)
    order (suc m) zero = inl (omega arith)
    order (suc m) (suc a) = elim (order m a) [ inl h ↦ inl (omega arith) | inr h ↦ inr (omega arith) ]

    by_order : (a ≤ m) ⊎ (m ≤ a) → min (min a m * suc r) m ≡ min (a * suc r) m
    by_order (inl h) = let e : min a m ≡ a = omega arith in ap (λ b. min (b * suc r) m) e
    by_order (inr h) =
        let e : min a m ≡ m = omega arith in
        let k : m * suc r ≡ m * r + m = mul-suc m r in
        let l : a * suc r ≡ a * r + a = mul-suc a r in
        let full : min (m * suc r) m ≡ min (a * suc r) m = omega (arith, k, l) in
        ap (λ b. min (b * suc r) m) e ∙ full

-- one table more
pub count_on : (m count : ℕ) (bs : List Bound) (i : ℕ) (b : Bound) → i < length bs → b ≡ get_or bs i b
    → min (min (count * length b.table.rows) m * combination_count (drop (i + 1) bs)) m ≡ min (count * combination_count (drop i bs)) m
count_on m count bs i b h e =
    stopped m (count * length b.table.rows) (combination_count (drop (i + 1) bs))
    ∙ ap (λ n. min n m) (mul_assoc count (length b.table.rows) (combination_count (drop (i + 1) bs)))
    ∙ ap (λ xs. min (count * combination_count xs) m) (sym (rest_at bs i b h e))
