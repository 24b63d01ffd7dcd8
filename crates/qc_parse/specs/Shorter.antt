-- Readers give no tokens back.
use Rattle.std.proofs.Common.{ℕ, zero, suc, ◌≤◌, Bool, true, false, cond, List, [], ◌∷◌, length, Option, Some, None, Result, Ok, Err, arith}
use Rattle.qc_sql.specs.Tokens.{Lexeme, Token}
use Rattle.qc_sql.specs.Reading.{Unread, Stop, Before, Refused, Reader, pure, then_read, ◌>>=◌, stop, refuse, reads, read_first, read_as, branch, at_most, many, separated, with_words, in_place_of_syntax}

-- what is left has at most so many tokens
abbrev pub Within : {A : Type 0} → ℕ → Result (A × Unread) Stop → Type 0
Within n (Ok x) = length x.1.tokens ≤ n
Within n (Err e) = Unit {0}

-- a reader gives no tokens back
abbrev pub Shortens : {A : Type 0} → Reader A → Type 0
Shortens p = (u : Unread) → Within (length u.tokens) (p u)

within_more : {A : Type 0} (m n : ℕ) (r : Result (A × Unread) Stop) → m ≤ n → Within m r → Within n r
within_more m n (Ok x) le h = omega (arith, le, h)
within_more m n (Err e) le h = tt

within_then : {A B : Type 0} (n : ℕ) (r : Result (A × Unread) Stop) (f : A → Reader B) → Within n r → ((x : A) → Shortens (f x)) → Within n (then_read r f)
within_then n (Ok x) f h g = within_more (length x.1.tokens) n (f x.0 x.1) h (g x.0 x.1)
within_then n (Err e) f h g = tt

within_chosen : {A : Type 0} (n : ℕ) (t : Bool) (r s : Result (A × Unread) Stop) → Within n r → Within n s → Within n (cond t r s)
within_chosen n true r s h g = h
within_chosen n false r s h g = g

-- ---- the small readers

pub shortens_pure : {A : Type 0} (x : A) → Shortens (pure x)
shortens_pure x u = omega arith

pub shortens_stop : (A : Type 0) → Shortens (stop {A = A})
shortens_stop A u = tt

pub shortens_refuse : (A : Type 0) (what : List ℕ) → Shortens (refuse {A = A} what)
shortens_refuse A what u = tt

pub shortens_then : {A B : Type 0} (p : Reader A) (f : A → Reader B) → Shortens p → ((x : A) → Shortens (f x)) → Shortens (p >>= f)
shortens_then p f h g u = within_then (length u.tokens) (p u) f (h u) g

pub shortens_branch : {A : Type 0} (test : Unread → Bool) (p q : Reader A) → Shortens p → Shortens q → Shortens (branch test p q)
shortens_branch test p q h g u = within_chosen (length u.tokens) (test u) (p u) (q u) (h u) (g u)

pub shortens_if : {A : Type 0} (t : Bool) (p q : Reader A) → Shortens p → Shortens q → Shortens (cond t p q)
shortens_if true p q h g = h
shortens_if false p q h g = g

-- what takes a token leaves fewer
abbrev pub Takes : {A : Type 0} → List Token → Result (A × Unread) Stop → Type 0
Takes ts (Ok x) = suc (length x.1.tokens) ≤ length ts
Takes ts (Err e) = Unit {0}

takes_first : {A : Type 0} (u : Unread) (t : Token) (ts : List Token) (x : Option A) → Takes (t ∷ ts) (read_as u t ts x)
takes_first u t ts None = tt
takes_first u t ts (Some x) = omega arith

pub reads_take : {A : Type 0} (f : Lexeme → Option A) (u : Unread) (ts : List Token) → Takes ts (read_first f u ts)
reads_take f u [] = tt
reads_take f u (t ∷ ts) = takes_first u t ts (f t.what)

takes_within : {A : Type 0} (ts : List Token) (r : Result (A × Unread) Stop) → Takes ts r → Within (length ts) r
takes_within ts (Ok x) h = omega (arith, h)
takes_within ts (Err e) h = tt

pub shortens_reads : {A : Type 0} (f : Lexeme → Option A) → Shortens (reads f)
shortens_reads f u = takes_within u.tokens (reads f u) (reads_take f u u.tokens)

pub shortens_at_most : {A : Type 0} (n : ℕ) (test : Unread → Bool) (p : Reader A) → Shortens p → Shortens (at_most n test p)
shortens_at_most {A = A} zero test p h = shortens_pure {A = List A} []
shortens_at_most {A = A} (suc n) test p h =
    shortens_branch test (p >>= λ x. at_most n test p >>= λ xs. pure (x ∷ xs)) (pure [])
    (shortens_then p _ h (λ x. shortens_then (at_most n test p) (λ xs. pure (x ∷ xs)) (shortens_at_most n test p h) (λ xs. shortens_pure (x ∷ xs))))
    (shortens_pure {A = List A} [])

pub shortens_many : {A : Type 0} (test : Unread → Bool) (p : Reader A) → Shortens p → Shortens (many test p)
shortens_many test p h u = shortens_at_most (length u.tokens) test p h u

pub takes_then : {A B : Type 0} (ts : List Token) (r : Result (A × Unread) Stop) (f : A → Reader B) → Takes ts r → ((x : A) → Shortens (f x)) → Takes ts (then_read r f)
takes_then ts (Ok x) f h g = later (length x.1.tokens) h (f x.0 x.1) (g x.0 x.1)
  where
    later : {B : Type 0} (n : ℕ) → suc n ≤ length ts → (r : Result (B × Unread) Stop) → Within n r → Takes ts r
    later n h (Ok y) g = omega (arith, h, g)
    later n h (Err e) g = tt
takes_then ts (Err e) f h g = tt

pub shortens_separated : {A : Type 0} (test : Unread → Bool) (between : Reader (Unit {0})) (p : Reader A) → Shortens between → Shortens p → Shortens (separated test between p)
shortens_separated test between p g h =
    shortens_then p _ h (λ x. shortens_then (many test (between >>= λ _. p)) (λ xs. pure (x ∷ xs))
    (shortens_many test (between >>= λ _. p) (shortens_then between (λ _. p) g (λ _. h))) (λ xs. shortens_pure (x ∷ xs)))

in_place_within : {A : Type 0} (n : ℕ) (f : Unread → Option (List ℕ)) (r : Result (A × Unread) Stop) → Within n r → Within n (with_words f r)
in_place_within n f (Ok x) h = h
in_place_within n f (Err (Before u)) h = tt
in_place_within n f (Err (Refused fault)) h = tt

pub shortens_in_place : {A : Type 0} (f : Unread → Option (List ℕ)) (p : Reader A) → Shortens p → Shortens (in_place_of_syntax f p)
shortens_in_place f p h u = in_place_within (length u.tokens) f (p u) (h u)
