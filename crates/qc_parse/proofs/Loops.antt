-- Reading one after another, as a loop does.
use Rattle.std.proofs.Common.{◌≡◌, ℕ, zero, suc, ◌≤◌, Bool, true, false, cond, List, [], ◌∷◌, ◌++◌, length, Result, Ok, Err, ◌<◌, arith, refl, sym, subst, ap, ◌∙◌, append_assoc, append-nil}
use Rattle.std.specs.Prelude.{codes}
use Rattle.qc_sql.specs.Tokens.{Lexeme, Token}
use Rattle.qc_sql.specs.Words.{when}
use Rattle.qc_sql.specs.Reading.{Unread, Stop, Reader, pure, then_read, ◌>>=◌, token_is, next_is, next, is_sign, at_most, many, read_first}
use Rattle.qc_types.specs.declared.memory.Or.{Or}
use Rattle.qc_parse.specs.declared.halt.Halt.{Halt}
use Rattle.qc_parse.specs.Cursors.{beyond, beyond_first, Reads, beside}
use Rattle.qc_parse.specs.Shorter.{Shortens, Takes, reads_take, takes_then}

-- nothing passes where nothing is next
none_passes : (f : Lexeme → Bool) (ts : List Token) → length ts ≤ 0 → token_is f ts ≡ false
none_passes f [] h = refl
none_passes f (t ∷ ts) h = absurd (omega (arith, h))

there : (f : Lexeme → Bool) (ts : List Token) → token_is f ts ≡ true → 1 ≤ length ts
there f [] h = absurd cc
there f (t ∷ ts) h = omega arith

module _ {A : Type 0} (f : Lexeme → Bool) (q : Reader A) (takes : (u : Unread) → Takes u.tokens (q u)) where
  -- as many rounds as there are tokens are enough
  enough : (n m : ℕ) (u : Unread) → length u.tokens ≤ n → length u.tokens ≤ m → at_most n (next_is f) q u ≡ at_most m (next_is f) q u
  enough zero zero u h g = refl
  enough zero (suc m) u h g = rw (none_passes f u.tokens h) refl
  enough (suc n) zero u h g = rw (none_passes f u.tokens g) refl
  enough (suc n) (suc m) u h g =
      ap (λ r. cond (next_is f u) r (pure [] u)) (same (q u) (takes u) (λ v le ge. enough n m v le ge))
    where
      same : (r : Result (A × Unread) Stop) → Takes u.tokens r → ((v : Unread) → length v.tokens ≤ n → length v.tokens ≤ m → at_most n (next_is f) q v ≡ at_most m (next_is f) q v)
          → then_read r (λ x. at_most n (next_is f) q >>= λ xs. pure (x ∷ xs)) ≡ then_read r (λ x. at_most m (next_is f) q >>= λ xs. pure (x ∷ xs))
      same (Ok x) less again = ap (λ r. then_read r (λ xs. pure (x.0 ∷ xs))) (again x.1 (omega (arith, h, less)) (omega (arith, g, less)))
      same (Err e) less again = refl

  -- the first of many, and the others
  first : (u : Unread) → next_is f u ≡ true → many (next_is f) q u ≡ then_read (q u) (λ x. many (next_is f) q >>= λ xs. pure (x ∷ xs))
  first u h = by (length u.tokens) refl
    where
      same : (n : ℕ) → length u.tokens ≡ suc n → (r : Result (A × Unread) Stop) → Takes u.tokens r
          → then_read r (λ x. at_most n (next_is f) q >>= λ xs. pure (x ∷ xs)) ≡ then_read r (λ x. many (next_is f) q >>= λ xs. pure (x ∷ xs))
      same n e (Ok x) less = ap (λ r. then_read r (λ xs. pure (x.0 ∷ xs))) (enough n (length x.1.tokens) x.1 (omega (arith, e, less)) (omega arith))
      same n e (Err why) less = refl

      by : (n : ℕ) → length u.tokens ≡ n → at_most n (next_is f) q u ≡ then_read (q u) (λ x. many (next_is f) q >>= λ xs. pure (x ∷ xs))
      by zero e = absurd (omega (arith, e, there f u.tokens h))
      by (suc n) e = rw h (same n e (q u) (takes u))

  -- what a loop has read, and what it will read
  abbrev pub all_of : List A → Unread → Result (List A × Unread) Stop
  all_of xs u = then_read (many (next_is f) q u) (λ ys. pure (xs ++ ys))

  pub read_on : (xs : List A) (x : A) (u v : Unread) → next_is f u ≡ true → q u ≡ Ok (x, v) → all_of xs u ≡ all_of (xs ++ x ∷ []) v
  read_on xs x u v h e = rw (first u h, e) (by (many (next_is f) q v))
    where
      by : (r : Result (List A × Unread) Stop) → then_read (then_read r (λ ys. pure (x ∷ ys))) (λ ys. pure (xs ++ ys)) ≡ then_read r (λ ys. pure ((xs ++ x ∷ []) ++ ys))
      by (Ok ys) = ap (λ zs. Ok (zs, ys.1)) (sym (append_assoc xs (x ∷ []) ys.0))
      by (Err e) = refl

  pub read_all : (xs : List A) (u : Unread) → next_is f u ≡ false → all_of xs u ≡ Ok (xs, u)
  read_all xs u h = by (length u.tokens)
    where
      by : (n : ℕ) → then_read (at_most n (next_is f) q u) (λ ys. pure (xs ++ ys)) ≡ Ok (xs, u)
      by zero = ap (λ ys. Ok (ys, u)) (append-nil xs)
      by (suc n) = rw h (ap (λ ys. Ok (ys, u)) (append-nil xs))

  pub read_stops : (xs : List A) (u : Unread) (why : Stop) → next_is f u ≡ true → q u ≡ Err why → all_of xs u ≡ Err why
  read_stops xs u why h e = rw (first u h, e) refl

-- ---- with something between each two

abbrev pub comma : Lexeme → Bool
comma = is_sign (codes ",")

-- what is between, and a member
abbrev pub further : {A : Type 0} → (Lexeme → Bool) → Reader A → Reader A
further f p = next f >>= λ _. p

pub further_takes : {A : Type 0} (f : Lexeme → Bool) (p : Reader A) → Shortens p → (u : Unread) → Takes u.tokens (further f p u)
further_takes f p h u = takes_then u.tokens (next f u) (λ _. p) (reads_take _ u u.tokens) (λ _. h)

pub further_less : {A : Type 0} (f : Lexeme → Bool) (p : Reader A) → Shortens p → (u : Unread) (x : A) (v : Unread) → further f p u ≡ Ok (x, v) → length v.tokens < length u.tokens
further_less f p h u x v e = omega (arith, subst (Takes u.tokens) e (further_takes f p h u))

-- ---- where a test holds, one token is passed

passes : (f : Lexeme → Bool) (u : Unread) → next_is f u ≡ true → next f u ≡ Ok (tt, beyond u)
passes f u h = by u.tokens h
  where
    by : (ts : List Token) → token_is f ts ≡ true → read_first (λ l. when (f l) (tt {0})) u ts ≡ Ok (tt, beyond_first u ts)
    by [] is = absurd cc
    by (t ∷ ts) is = rw is refl

-- what was read before stays, and what is read beside it is what the reader gives
beside_reads : {A B : Type 0} (x : A) (r : Result B (Or Halt)) (y : A × B) (u : Unread) (read : Result (B × Unread) Stop) → Ok y ≡ beside x r → Reads (λ z. z) r u read → (y.0 ≡ x) × (read ≡ Ok (y.1, u))
beside_reads x (Ok z) y u read e h = let both : y ≡ (x, z) = cc e in (ap (λ p. p.0) both, h ∙ ap (λ p. Ok (p.1, u)) (sym both))
beside_reads x (Err why) y u read e h = absurd (cc e)

module _ {A : Type 0} (f : Lexeme → Bool) (p : Reader A) (shortens : Shortens p) where
  -- what is read so far, and what is read on from there
  abbrev pub and_further : List A → Unread → Result (List A × Unread) Stop
  and_further xs u = all_of f (further f p) (further_takes f p shortens) xs u

  one_more : (x : A) (u v w : Unread) → next_is f u ≡ true → v ≡ beyond u → p v ≡ Ok (x, w) → further f p u ≡ Ok (x, w)
  one_more x u v w h e g = ap (λ r. then_read r (λ _. p)) (passes f u h) ∙ (ap p (sym e) ∙ g)

  -- one more is read, beside those before
  pub goes_on : (xs : List A) (r : Result A (Or Halt)) (so_far : List A) (x : A) (ys : List A) (u v w : Unread) (all : Result (List A × Unread) Stop)
      → next_is f u ≡ true → v ≡ beyond u → Reads (λ z. z) r w (p v) → Ok (so_far, x) ≡ beside xs r → ys ≡ so_far ++ x ∷ [] → and_further xs u ≡ all → and_further ys w ≡ all
  goes_on xs r so_far x ys u v w all h e g both more so =
      let read = beside_reads xs r (so_far, x) w (p v) both g in
      ap (λ zs. and_further zs w) (more ∙ ap (λ zs. zs ++ x ∷ []) read.0)
      ∙ (sym (read_on f (further f p) (further_takes f p shortens) xs x u w h (one_more x u v w h e read.1)) ∙ so)

  -- fewer tokens are left then
  pub leaves_fewer : (xs : List A) (r : Result A (Or Halt)) (so_far : List A) (x : A) (u v w : Unread)
      → next_is f u ≡ true → v ≡ beyond u → Reads (λ z. z) r w (p v) → Ok (so_far, x) ≡ beside xs r → length w.tokens < length u.tokens
  leaves_fewer xs r so_far x u v w h e g both =
      further_less f p shortens u x w (one_more x u v w h e (beside_reads xs r (so_far, x) w (p v) both g).1)
