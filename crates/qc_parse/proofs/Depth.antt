-- What may be open at once.
use Rattle.std.proofs.Common.{◌≡◌, ℕ, zero, suc, ◌-◌, true, false, refl, arith, Ok}
use Rattle.std.specs.Prelude.{codes}
use Rattle.qc_sql.specs.Reading.{Unread, ◌>>=◌, at_word, at_sign, bracketed}
use Rattle.qc_sql.specs.Grammar.{value_at, test_of, member_at, brackets_or_test_at, without_not_at, any_of, Joined, joined, at_further, further_source, with_source}

-- without NOT in front
pub no_not : (n : ℕ) (u : Unread) → at_word (codes "NOT") u ≡ false → member_at n u ≡ without_not_at n u
unfolding member_at brackets_or_test_at
no_not zero u h = rw h refl
no_not (suc n) u h = rw h refl

-- without a bracket in front
pub no_bracket : (n : ℕ) (u : Unread) → at_sign (codes "(") u ≡ false → brackets_or_test_at n u ≡ test_of (value_at n false) u
unfolding brackets_or_test_at
no_bracket zero u h = rw h refl
no_bracket (suc n) u h = rw h refl

-- with one in front
pub bracket_opens : (n : ℕ) (u : Unread) → at_sign (codes "(") u ≡ true → (n ≡ 0 → ⊥) → brackets_or_test_at n u ≡ bracketed (any_of (member_at (n - 1))) u
unfolding brackets_or_test_at
bracket_opens zero u h not_zero = absurd (not_zero refl)
bracket_opens (suc n) u h not_zero = let less : suc n - 1 ≡ n = omega arith in rw (less, h) refl

-- further sources
pub joins_on : (n : ℕ) (j : Joined) (u : Unread) → at_further u ≡ true → (n ≡ 0 → ⊥) → joined n j u ≡ (further_source >>= λ f. joined (n - 1) (with_source j f)) u
unfolding joined
joins_on zero j u h not_zero = absurd (not_zero refl)
joins_on (suc n) j u h not_zero = let less : suc n - 1 ≡ n = omega arith in rw (less, h) refl

pub joins_no_more : (n : ℕ) (j : Joined) (u : Unread) → at_further u ≡ false → joined n j u ≡ Ok (j, u)
unfolding joined
joins_no_more zero j u h = rw h refl
joins_no_more (suc n) j u h = rw h refl
