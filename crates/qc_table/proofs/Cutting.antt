-- Entries by rising key, cut at a key by going over them.
use Rattle.std.proofs.Common.{◌≡◌, ℕ, ◌+◌, ◌<◌, ℤ, [], ◌∷◌, ◌++◌, length, get_or, take, drop, zero, suc, refl, ap, arith, add-one}
use Rattle.std.specs.Ordering.{int_cmp}
use Rattle.std.specs.declared.cmp.Ordering.TheVariants.{Less, Equal, Greater}
use Rattle.std.specs.Map.{keys_of}
use Rattle.qc_sql.specs.Database.{MapOf}
use Rattle.qc_table.specs.Changes.{above, below}

module _ {X : Type 0} (key : ℤ) where
  below_next : (es : MapOf ℤ X) (i : ℕ) (k : ℤ) → i < length es → k ≡ get_or (keys_of es) i k → int_cmp k key ≡ Less → take i es ++ below key (drop i es) ≡ take (suc i) es ++ below key (drop (suc i) es)
  below_next [] i k within is p = absurd (omega arith)
  below_next (d ∷ es) zero k within is p = rw (← is, p) refl
  below_next (d ∷ es) (suc i) k within is p = ap (λ rest. d ∷ rest) (below_next es i k (omega arith) is p)

  above_next : (es : MapOf ℤ X) (i : ℕ) (k : ℤ) → i < length es → k ≡ get_or (keys_of es) i k → int_cmp k key ≡ Less → above key (drop i es) ≡ above key (drop (suc i) es)
  above_next [] i k within is p = absurd (omega arith)
  above_next (d ∷ es) zero k within is p = rw (← is, p) refl
  above_next (d ∷ es) (suc i) k within is p = above_next es i k (omega arith) is p

  -- one more entry below the key
  pub passed : (es : MapOf ℤ X) (i : ℕ) (k : ℤ) → i < length es → k ≡ get_or (keys_of es) i k → int_cmp k key ≡ Less → (take i es ++ below key (drop i es) ≡ take (i + 1) es ++ below key (drop (i + 1) es)) × (above key (drop i es) ≡ above key (drop (i + 1) es))
  passed es i k within is p = rw add-one (below_next es i k within is p, above_next es i k within is p)

  met_below : (es : MapOf ℤ X) (i : ℕ) (k : ℤ) → i < length es → k ≡ get_or (keys_of es) i k → int_cmp k key ≡ Equal → take i es ++ below key (drop i es) ≡ take i es
  met_below [] i k within is p = absurd (omega arith)
  met_below (d ∷ es) zero k within is p = rw (← is, p) refl
  met_below (d ∷ es) (suc i) k within is p = ap (λ rest. d ∷ rest) (met_below es i k (omega arith) is p)

  met_above : (es : MapOf ℤ X) (i : ℕ) (k : ℤ) → i < length es → k ≡ get_or (keys_of es) i k → int_cmp k key ≡ Equal → above key (drop i es) ≡ drop (suc i) es
  met_above [] i k within is p = absurd (omega arith)
  met_above (d ∷ es) zero k within is p = rw (← is, p) refl
  met_above (d ∷ es) (suc i) k within is p = met_above es i k (omega arith) is p

  -- an entry of the key
  pub met : (es : MapOf ℤ X) (i : ℕ) (k : ℤ) → i < length es → k ≡ get_or (keys_of es) i k → int_cmp k key ≡ Equal → (take i es ++ below key (drop i es) ≡ take i es) × (above key (drop i es) ≡ drop (i + 1) es)
  met es i k within is p = rw add-one (met_below es i k within is p, met_above es i k within is p)

  -- an entry above the key
  pub overshot : (es : MapOf ℤ X) (i : ℕ) (k : ℤ) → i < length es → k ≡ get_or (keys_of es) i k → int_cmp k key ≡ Greater → (take i es ++ below key (drop i es) ≡ take i es) × (above key (drop i es) ≡ drop i es)
  overshot [] i k within is p = absurd (omega arith)
  overshot (d ∷ es) zero k within is p = rw (← is, p) (refl, refl)
  overshot (d ∷ es) (suc i) k within is p = let rest = overshot es i k (omega arith) is p in (ap (λ r. d ∷ r) rest.0, rest.1)
