-- What stands behind a refusal is not looked at, but for one token.
use Rattle.std.proofs.Common.{◌≡◌, ℕ, zero, suc, ◌+◌, ◌-◌, ◌≤◌, ◌<◌, Bool, true, false, cond, List, [], ◌∷◌, length, take, drop, Option, Some, None, Result, Ok, Err, inl, inr, refl, sym, subst, ap, ◌∙◌, arith, length-drop}
use Rattle.std.specs.Prelude.{◌&&◌, codes, nat_le, is_some}
use Rattle.std.proofs.lemmas.Bool.{cases_lt}
use Rattle.std.proofs.lemmas.Bool.Decides.{nat_tests}
use Rattle.qc_sql.specs.declared.statements.Item.{Item}
use Rattle.qc_sql.specs.declared.statements.Expr.{Expr}
use Rattle.qc_sql.specs.declared.statements.Statement.{Statement}
use Rattle.qc_sql.specs.Database.{Name}
use Rattle.qc_sql.specs.Tokens.{Lexeme, Token, LexFault, BadByte, OpenQuote, OpenComment, NumberTooLarge, TextTooLong, LongName, Executable, Lexed, lexed, lexemes}
use Rattle.qc_sql.specs.Reading.{ParseFault, Syntax, Unsupported, TooManyTables, of_lexer, Unread, Stop, Before, Refused, Reader, pure, then_read, ◌>>=◌, stop, read_as, read_first, reads, next, next_is, branch, at_most, many, separated, with_word, with_words, in_place_of_syntax, at_word}
use Rattle.qc_sql.specs.Grammar.{value_at, most_open, alias, item, spanned, span_text, place, token_place, look, any_text, whole, unsupported_at, fault_before, end_fault, statement_of, from_front, meaning}
use Rattle.qc_parse.specs.Laws.{fault_place, end_place, place_of, SameFirst, FirstTokensRefuse}
use Rattle.qc_parse.proofs.Congruence.{Congruence, next_two, Sees, sees_next, Each, each_refl, SameItem, SameTree, good_text}
use Rattle.qc_parse.proofs.Alike.{AlikeResult, rest_of, steady_text}

-- ---- readers take tokens from the left, and refuse with no place

abbrev NoPlace : ParseFault → Type 0
NoPlace (Syntax at) = ⊥
NoPlace _ = Unit {0}

-- what is left has at most n tokens
abbrev Short : {A : Type 0} → ℕ → Result (A × Unread) Stop → Type 0
Short n (Ok x) = length x.1.tokens ≤ n
Short n (Err (Before u)) = length u.tokens ≤ n
Short n (Err (Refused f)) = NoPlace f

abbrev Shorter : {A : Type 0} → Reader A → Type 0
Shorter p = (u : Unread) → Short (length u.tokens) (p u)

short_more : {A : Type 0} (m n : ℕ) (r : Result (A × Unread) Stop) → m ≤ n → Short m r → Short n r
short_more m n (Ok x) le h = omega (arith, le, h)
short_more m n (Err (Before u)) le h = omega (arith, le, h)
short_more m n (Err (Refused f)) le h = h

short_then : {A B : Type 0} (n : ℕ) (r : Result (A × Unread) Stop) (f : A → Reader B) → Short n r → ((x : A) → Shorter (f x)) → Short n (then_read r f)
short_then n (Ok x) f h g = short_more (length x.1.tokens) n (f x.0 x.1) h (g x.0 x.1)
short_then n (Err (Before u)) f h g = h
short_then n (Err (Refused c)) f h g = h

short_worded : (A : Type 0) (n : ℕ) (u : Unread) (w : Option (List ℕ)) → length u.tokens ≤ n → Short {A = A} n (Err (with_word w u))
short_worded A n u None h = h
short_worded A n u (Some what) h = tt

short_placed : {A : Type 0} (f : Unread → Option (List ℕ)) (n : ℕ) (r : Result (A × Unread) Stop) → Short n r → Short n (with_words f r)
short_placed f n (Ok x) h = h
short_placed {A = A} f n (Err (Before u)) h = short_worded A n u (f u) h
short_placed f n (Err (Refused c)) h = h

short_chosen : {A : Type 0} (n : ℕ) (t : Bool) (r s : Result (A × Unread) Stop) → Short n r → Short n s → Short n (cond t r s)
short_chosen n true r s h g = h
short_chosen n false r s h g = g

short_first : {A : Type 0} (u : Unread) (t : Token) (ts : List Token) (n : ℕ) → length u.tokens ≤ suc n → length ts ≤ n → (x : Option A) → Short (suc n) (read_as u t ts x)
short_first u t ts n le lt None = le
short_first u t ts n le lt (Some x) = omega (arith, lt)

short_reads : {A : Type 0} (f : Lexeme → Option A) (u : Unread) (ts : List Token) → u.tokens ≡ ts → Short (length ts) (read_first f u ts)
short_reads f u [] e = omega (arith, ap length e)
short_reads f u (t ∷ ts) e = let d = ap length e in short_more (suc (length ts)) (length (t ∷ ts)) (read_first f u (t ∷ ts)) (omega arith) (short_first u t ts (length ts) (omega (arith, d)) (omega arith) (f t.what))

short_at_most : {A : Type 0} (n : ℕ) (test : Unread → Bool) (p : Reader A) → Shorter p → Shorter (at_most n test p)
short_at_most zero test p h u = omega arith
short_at_most (suc n) test p h u =
    short_chosen (length u.tokens) (test u) (then_read (p u) (λ x. at_most n test p >>= λ xs. pure (x ∷ xs))) (pure [] u)
    (short_then (length u.tokens) (p u) (λ x. at_most n test p >>= λ xs. pure (x ∷ xs)) (h u)
    (λ x v. short_then (length v.tokens) (at_most n test p v) (λ xs. pure (x ∷ xs)) (short_at_most n test p h v) (λ xs w. omega arith)))
    (omega arith)

-- what is left is less
abbrev Less : {A : Type 0} → ℕ → Result (A × Unread) Stop → Type 0
Less n (Ok x) = length x.1.tokens < n
Less n (Err (Before u)) = length u.tokens ≤ n
Less n (Err (Refused f)) = NoPlace f

less_short : {A : Type 0} (n : ℕ) (r : Result (A × Unread) Stop) → Less n r → Short n r
less_short n (Ok x) h = omega (arith, h)
less_short n (Err (Before u)) h = h
less_short n (Err (Refused f)) h = h

short_less : {A : Type 0} (m n : ℕ) (r : Result (A × Unread) Stop) → m < n → Short m r → Less n r
short_less m n (Ok x) le h = omega (arith, le, h)
short_less m n (Err (Before u)) le h = omega (arith, le, h)
short_less m n (Err (Refused f)) le h = h

less_then : {A B : Type 0} (n : ℕ) (r : Result (A × Unread) Stop) (f : A → Reader B) → Less n r → ((x : A) → Shorter (f x)) → Less n (then_read r f)
less_then n (Ok x) f h g = short_less (length x.1.tokens) n (f x.0 x.1) h (g x.0 x.1)
less_then n (Err (Before u)) f h g = h
less_then n (Err (Refused c)) f h g = h

less_first : {A : Type 0} (u : Unread) (t : Token) (ts : List Token) (n : ℕ) → length u.tokens ≤ suc n → length ts ≤ n → (x : Option A) → Less (suc n) (read_as u t ts x)
less_first u t ts n le lt None = le
less_first u t ts n le lt (Some x) = omega (arith, lt)

less_reads : {A : Type 0} (f : Lexeme → Option A) (u : Unread) (ts : List Token) → u.tokens ≡ ts → Less (length ts) (read_first f u ts)
less_reads f u [] e = omega (arith, ap length e)
less_reads f u (t ∷ ts) e =
    let d = ap length e in let c : length (t ∷ ts) ≡ suc (length ts) = omega arith in
    rw c (less_first u t ts (length ts) (omega (arith, d)) (omega arith) (f t.what))

-- ---- the first tokens

two_same : (n : ℕ) (ts us : List Token) → 2 ≤ n → 2 ≤ length ts → take n (lexemes ts) ≡ take n (lexemes us) → next_two ts ≡ next_two us
two_same zero ts us le lt e = absurd (omega arith)
two_same (suc zero) ts us le lt e = absurd (omega arith)
two_same (suc (suc n)) [] us le lt e = absurd (omega arith)
two_same (suc (suc n)) (t ∷ []) us le lt e = absurd (omega arith)
two_same (suc (suc n)) (t ∷ s ∷ ts) [] le lt e = absurd cc
two_same (suc (suc n)) (t ∷ s ∷ ts) (u ∷ []) le lt e = absurd cc
two_same (suc (suc n)) (t ∷ s ∷ ts) (u ∷ v ∷ us) le lt e = cc

module _ (all those : Lexed) (m n : ℕ) where
  -- the tokens in front of the last m and n are the same
  record Common (u v : Unread) : Type 0 where
    common : ℕ
    passed : ℕ
    first : u.tokens ≡ drop passed all.0
    second : v.tokens ≡ drop passed those.0
    first_length : length u.tokens ≡ common + m
    second_length : length v.tokens ≡ common + n
    same : take common (lexemes u.tokens) ≡ take common (lexemes v.tokens)

  abbrev ReadsToo : {A : Type 0} → (A → A → Type 0) → A × Unread → Result (A × Unread) Stop → Type 0
  ReadsToo R x (Ok y) = R x.0 y.0 × Common x.1 y.1
  ReadsToo R x (Err e) = ⊥

  abbrev StopsToo : {A : Type 0} → Unread → Result (A × Unread) Stop → Type 0
  StopsToo u (Ok y) = ⊥
  StopsToo u (Err (Before v)) = Common u v
  StopsToo u (Err (Refused f)) = ⊥

  abbrev Follows : {A : Type 0} → (A → A → Type 0) → Result (A × Unread) Stop → Result (A × Unread) Stop → Type 0
  Follows R (Ok x) s = 2 + m ≤ length x.1.tokens → ReadsToo R x s
  Follows R (Err (Before u)) s = 2 + m ≤ length u.tokens → StopsToo u s
  Follows R (Err (Refused f)) s = Unit {0}

  abbrev Inside : Unread → Type 0
  Inside u = 2 + m ≤ length u.tokens

  abbrev Together : {A : Type 0} → (A → A → Type 0) → Reader A → Reader A → Type 0
  Together R p q = (u v : Unread) → Common u v → Inside u → Follows R (p u) (q v)

  abbrev Settled : {A : Type 0} → (A → A → Type 0) → Reader A → Reader A → Type 0
  Settled R p q = Shorter p × Together R p q

  two_next : (u v : Unread) → Common u v → Inside u → next_two u.tokens ≡ next_two v.tokens
  two_next u v near le = two_same near.common u.tokens v.tokens (omega (arith, near.first_length)) (omega arith) near.same

  none_left : {A : Type 0} (R : A → A → Type 0) (k : ℕ) (r s : Result (A × Unread) Stop) → Short k r → k < 2 + m → Follows R r s
  none_left R k (Ok x) s h lt = λ le. absurd (omega (arith, h))
  none_left R k (Err (Before u)) s h lt = λ le. absurd (omega (arith, h))
  none_left R k (Err (Refused f)) s h lt = tt

  weaker_follows : {A : Type 0} (R S : A → A → Type 0) → ((x y : A) → R x y → S x y) → (r s : Result (A × Unread) Stop) → Follows R r s → Follows S r s
  weaker_follows R S k (Ok x) (Ok y) h = λ le. (k x.0 y.0 (h le).0, (h le).1)
  weaker_follows R S k (Ok x) (Err e) h = λ le. absurd (h le)
  weaker_follows R S k (Err (Before u)) s h = h
  weaker_follows R S k (Err (Refused f)) s h = tt

  -- both go on, where the first is inside
  both_go_on : {A B : Type 0} (R : A → A → Type 0) (S : B → B → Type 0) (x : A × Unread) (s : Result (A × Unread) Stop) (f g : A → Reader B)
      → ReadsToo R x s → Inside x.1 → ((y : A × Unread) → R x.0 y.0 → Common x.1 y.1 → Follows S (f x.0 x.1) (g y.0 y.1)) → Follows S (f x.0 x.1) (then_read s g)
  both_go_on R S x (Ok y) f g h le k = k y h.0 h.1
  both_go_on R S x (Err e) f g h le k = absurd h

  still_stops : {A B : Type 0} (u : Unread) (s : Result (A × Unread) Stop) (g : A → Reader B) → StopsToo u s → StopsToo u (then_read s g)
  still_stops u (Ok y) g h = absurd h
  still_stops u (Err (Before v)) g h = h
  still_stops u (Err (Refused f)) g h = absurd h

  then_follows : {A B : Type 0} (R : A → A → Type 0) (S : B → B → Type 0) (r s : Result (A × Unread) Stop) (f g : A → Reader B) → Follows R r s
      → ((x : A) → Shorter (f x)) → ((x y : A × Unread) → r ≡ Ok x → Inside x.1 → R x.0 y.0 → Common x.1 y.1 → Follows S (f x.0 x.1) (g y.0 y.1)) → Follows S (then_read r f) (then_read s g)
  then_follows R S (Ok x) s f g h short k =
      elim (cases_lt (length x.1.tokens) (2 + m)) [
        | inl lt ↦ none_left S (length x.1.tokens) (f x.0 x.1) (then_read s g) (short x.0 x.1) lt
        | inr le ↦ both_go_on R S x s f g (h le) le (λ y e near. k x y refl le e near)
      ]
  then_follows R S (Err (Before u)) s f g h short k = λ le. still_stops u s g (h le)
  then_follows R S (Err (Refused c)) s f g h short k = tt

  settled_then : {A B : Type 0} (R : A → A → Type 0) (S : B → B → Type 0) (p q : Reader A) (f g : A → Reader B)
      → ((x : A) → R x x) → Settled R p q → ((x y : A) → R x y → Settled S (f x) (g y)) → Settled S (p >>= f) (q >>= g)
  settled_then R S p q f g same h k =
      let short : (x : _) → Shorter (f x) = λ x. (k x x (same x)).0 in (
        (λ u. short_then (length u.tokens) (p u) f (h.0 u) short),
        (λ u v near le. then_follows R S (p u) (q v) f g (h.1 u v near le) short (λ x y e inside d close. (k x.0 y.0 d).1 x.1 y.1 close inside)),
      )

  chosen_follows : {A : Type 0} (R : A → A → Type 0) (c : Bool) (r s r' s' : Result (A × Unread) Stop) → Follows R r s → Follows R r' s' → Follows R (cond c r r') (cond c s s')
  chosen_follows R true r s r' s' h g = h
  chosen_follows R false r s r' s' h g = g

  settled_branch : {A : Type 0} (R : A → A → Type 0) (test : Unread → Bool) (p p' q q' : Reader A) → Sees test → Settled R p q → Settled R p' q' → Settled R (branch test p p') (branch test q q')
  settled_branch R test p p' q q' sees h g = (
    (λ u. short_chosen (length u.tokens) (test u) (p u) (p' u) (h.0 u) (g.0 u)),
    (λ u v near le. subst (λ c. Follows R (branch test p p' u) (cond c (q v) (q' v))) (sees u v (two_next u v near le))
        (chosen_follows R (test u) (p u) (q v) (p' u) (q' v) (h.1 u v near le) (g.1 u v near le))),
  )

  placed : {A : Type 0} (R : A → A → Type 0) (u : Unread) (w : Option (List ℕ)) (f : Unread → Option (List ℕ)) (s : Result (A × Unread) Stop) → f u ≡ w → Sees f
      → (Inside u → StopsToo u s) → Follows R (Err (with_word w u)) (with_words f s)
  placed R u (Some what) f s e sees h = tt
  placed {A = A} R u None f s e sees h = λ le. by s le (h le)
    where
      stays : (v : Unread) (w : Option (List ℕ)) → f v ≡ w → w ≡ None → Common u v → StopsToo {A = A} u (Err (with_word w v))
      stays v None d c near = near
      stays v (Some that) d c near = absurd cc

      by : (s : Result (A × Unread) Stop) → Inside u → StopsToo u s → StopsToo u (with_words f s)
      by (Ok y) le h = absurd h
      by (Err (Before v)) le h = stays v (f v) refl (sym (sees u v (two_next u v h le)) ∙ e) h
      by (Err (Refused d)) le h = absurd h

  place_follows : {A : Type 0} (R : A → A → Type 0) (f : Unread → Option (List ℕ)) (r s : Result (A × Unread) Stop) → Sees f → Follows R r s → Follows R (with_words f r) (with_words f s)
  place_follows R f (Ok x) (Ok y) sees h = h
  place_follows R f (Ok x) (Err e) sees h = λ le. absurd (h le)
  place_follows R f (Err (Before u)) s sees h = placed R u (f u) f s refl sees h
  place_follows R f (Err (Refused c)) s sees h = tt

  read_both : {A : Type 0} (u v : Unread) (near : Common u v) (t s : Token) (ts ss : List Token) → u.tokens ≡ t ∷ ts → v.tokens ≡ s ∷ ss
      → (c : ℕ) → near.common ≡ suc c → take c (lexemes ts) ≡ take c (lexemes ss) → (x : Option A) → Follows ◌≡◌ (read_as u t ts x) (read_as v s ss x)
  read_both u v near t s ts ss e d c more same None = λ le. near
  read_both u v near t s ts ss e d c more same (Some x) = λ le. (
    refl,
    record {
      common = c;
      passed = suc near.passed;
      first = sym (rest_of near.passed all.0 t ts (sym near.first ∙ e));
      second = sym (rest_of near.passed those.0 s ss (sym near.second ∙ d));
      first_length = omega (arith, near.first_length, ap length e);
      second_length = omega (arith, near.second_length, ap length d);
      same = same;
    },
  )

  first_both : {A : Type 0} (f : Lexeme → Option A) (u v : Unread) (near : Common u v) (c : ℕ) (ts ss : List Token) → near.common ≡ suc c → u.tokens ≡ ts → v.tokens ≡ ss
      → take (suc c) (lexemes ts) ≡ take (suc c) (lexemes ss) → 1 ≤ length ts → Follows ◌≡◌ (read_first f u ts) (read_first f v ss)
  first_both f u v near c [] ss more e d same le = absurd (omega arith)
  first_both f u v near c (t ∷ ts) [] more e d same le = absurd cc
  first_both f u v near c (t ∷ ts) (s ∷ ss) more e d same le =
      let what : t.what ≡ s.what = cc in
      subst (λ l. Follows ◌≡◌ (read_as u t ts (f t.what)) (read_as v s ss (f l))) what (read_both u v near t s ts ss e d c more (cc) (f t.what))

  together_reads : {A : Type 0} (f : Lexeme → Option A) → Together ◌≡◌ (reads f) (reads f)
  together_reads f u v near le = by near.common refl
    where
      by : (c : ℕ) → near.common ≡ c → Follows ◌≡◌ (reads f u) (reads f v)
      by zero e = absurd (omega (arith, near.first_length))
      by (suc c) e = first_both f u v near c u.tokens v.tokens e refl refl (subst (λ k. take k (lexemes u.tokens) ≡ take k (lexemes v.tokens)) e near.same) (omega arith)

  settled_reads : {A : Type 0} (f : Lexeme → Option A) → Settled ◌≡◌ (reads f) (reads f)
  settled_reads f = ((λ u. short_reads f u u.tokens refl), together_reads f)

  -- ---- one after another

  module _ {A : Type 0} (R : A → A → Type 0) (p q : Reader A) (less : (u : Unread) → Less (length u.tokens) (p u)) (together : Together R p q) (f : Lexeme → Bool) where
    rounds : (k l : ℕ) (u v : Unread) → Common u v → Inside u → length u.tokens ≤ k → length v.tokens ≤ l → Follows (Each R) (at_most k (next_is f) p u) (at_most l (next_is f) q v)
    rounds zero l u v near le lt gt = absurd (omega arith)
    rounds (suc k) zero u v near le lt gt = absurd (omega (arith, near.first_length, near.second_length))
    rounds (suc k) (suc l) u v near le lt gt =
        subst (λ c. Follows (Each R) (at_most (suc k) (next_is f) p u) (cond c (then_read (q v) (λ x. at_most l (next_is f) q >>= λ xs. pure (x ∷ xs))) (pure [] v))) (sees_next f u v (two_next u v near le))
        (chosen_follows (Each R) (next_is f u) (then_read (p u) (λ x. at_most k (next_is f) p >>= λ xs. pure (x ∷ xs))) (then_read (q v) (λ x. at_most l (next_is f) q >>= λ xs. pure (x ∷ xs))) (pure [] u) (pure [] v)
        (then_follows R (Each R) (p u) (q v) (λ x. at_most k (next_is f) p >>= λ xs. pure (x ∷ xs)) (λ x. at_most l (next_is f) q >>= λ xs. pure (x ∷ xs)) (together u v near le)
        (λ x w. short_then (length w.tokens) (at_most k (next_is f) p w) (λ xs. pure (x ∷ xs)) (short_at_most k (next_is f) p (λ z. less_short (length z.tokens) (p z) (less z)) w) (λ xs z. omega arith))
        (λ x y e inside d close.
        let fewer : length x.1.tokens < length u.tokens = subst (Less (length u.tokens)) e (less u) in
        then_follows (Each R) (Each R) (at_most k (next_is f) p x.1) (at_most l (next_is f) q y.1) (λ xs. pure (x.0 ∷ xs)) (λ xs. pure (y.0 ∷ xs))
        (rounds k l x.1 y.1 close inside (omega (arith, fewer, lt)) (omega (arith, fewer, gt, near.first_length, near.second_length, close.first_length, close.second_length)))
        (λ xs z. omega arith) (λ xs ys c i es n g. ((d, es), n))))
        (λ g. (tt, near)))

  settled_further : {A : Type 0} (R : A → A → Type 0) (f : Lexeme → Bool) (p q : Reader A) → Settled R p q → Settled R (next f >>= λ _. p) (next f >>= λ _. q)
  settled_further R f p q h = settled_then ◌≡◌ R (next f) (next f) (λ _. p) (λ _. q) (λ x. refl) (settled_reads _) (λ x y e. h)

  settled_many : {A : Type 0} (R : A → A → Type 0) (f : Lexeme → Bool) (p q : Reader A) → Settled R p q → Settled (Each R) (many (next_is f) (next f >>= λ _. p)) (many (next_is f) (next f >>= λ _. q))
  settled_many R f p q h =
      let further = settled_further R f p q h in (
        (λ u. short_at_most (length u.tokens) (next_is f) (next f >>= λ _. p) further.0 u),
        (λ u v near le. rounds R (next f >>= λ _. p) (next f >>= λ _. q) (λ w. less_then (length w.tokens) (next f w) (λ _. p) (less_reads _ w w.tokens refl) (λ _. h.0)) further.1 f
            (length u.tokens) (length v.tokens) u v near le (omega arith) (omega arith)),
      )

  settled_pure : {A : Type 0} (R : A → A → Type 0) (x y : A) → R x y → Settled R (pure x) (pure y)
  settled_pure R x y e = ((λ u. omega arith), (λ u v near le _. (e, near)))

  settled_separated : {A : Type 0} (R : A → A → Type 0) (f : Lexeme → Bool) (p q : Reader A) → ((x : A) → R x x) → Settled R p q
      → Settled (Each R) (separated (next_is f) (next f) p) (separated (next_is f) (next f) q)
  settled_separated R f p q same h =
      settled_then R (Each R) p q (λ x. many (next_is f) (next f >>= λ _. p) >>= λ xs. pure (x ∷ xs)) (λ x. many (next_is f) (next f >>= λ _. q) >>= λ xs. pure (x ∷ xs)) same h (λ x y e.
      settled_then (Each R) (Each R) (many (next_is f) (next f >>= λ _. p)) (many (next_is f) (next f >>= λ _. q)) (λ xs. pure (x ∷ xs)) (λ xs. pure (y ∷ xs)) (each_refl R same) (settled_many R f p q h)
      (λ xs ys es. settled_pure (Each R) (x ∷ xs) (y ∷ ys) (e, es)))

  settled_look : Settled ◌≡◌ look look
  unfolding look
  settled_look = (
    (λ u. short_chosen (length u.tokens) (is_some u.fault && nat_le (length u.tokens) 0) (stop u) (pure tt u) (omega arith) (omega arith)),
    (λ u v near le. chosen u v near (is_some u.fault) (is_some v.fault) u.tokens v.tokens le (omega (arith, near.first_length, near.second_length))),
  )
    where
      none_behind : (c : Bool) (ts : List Token) → 1 ≤ length ts → (c && nat_le (length ts) 0) ≡ false
      none_behind false ts le = refl
      none_behind true ts le = grind (arith, nat_tests)

      chosen : (u v : Unread) → Common u v → (c d : Bool) (ts ss : List Token) → 2 + m ≤ length ts → 2 ≤ length ss
          → Follows ◌≡◌ (cond (c && nat_le (length ts) 0) (stop u) (pure (tt {0}) u)) (cond (d && nat_le (length ss) 0) (stop v) (pure (tt {0}) v))
      chosen u v near c d ts ss le lt = rw (none_behind c ts (omega arith), none_behind d ss (omega arith)) (λ _. (refl, near))

  settled_item : Settled ◌≡◌ (value_at most_open true) (value_at most_open true) → Settled ◌≡◌ alias alias → Settled SameItem item item
  unfolding item
  settled_item h g = (
    (λ u. short_then (length u.tokens) (spanned value u) (item_of u.text) (short_then (length u.tokens) (value u) (in_span u) (h.0 u) (λ e w. omega arith)) (short_item u.text)),
    (λ u v near le. then_follows (λ x y. x.0 ≡ y.0) SameItem (spanned value u) (spanned value v) (item_of u.text) (item_of v.text)
        (then_follows ◌≡◌ (λ x y. x.0 ≡ y.0) (value u) (value v) (in_span u) (in_span v) (h.1 u v near le) (λ e w. omega arith) (λ x y e inside d close _. (d, close)))
        (short_item u.text)
        (λ x y e inside d close. then_follows ◌≡◌ SameItem (alias x.1) (alias y.1) (λ n. pure (item_with u.text x.0 n)) (λ n. pure (item_with v.text y.0 n)) (g.1 x.1 y.1 close inside) (λ n w. omega arith)
        (λ k l _ _ c n _. ((λ i. record { value = d i; name = c i; from = 0; to = 0; words = [] }), n)))),
  )
    where
      value : Reader Expr
      value = value_at most_open true

      item_with : List ℕ → Expr × ℕ × ℕ → Option Name → Item
      item_with text v n = record { value = v.0; name = n; from = v.1; to = v.2; words = span_text v.1 v.2 text }

      item_of : List ℕ → Expr × ℕ × ℕ → Reader Item
      item_of text v = alias >>= λ n. pure (item_with text v n)

      in_span : Unread → Expr → Reader (Expr × ℕ × ℕ)
      in_span u e rest = Ok ((e, place u, rest.behind), rest)

      short_item : (text : List ℕ) (v : Expr × ℕ × ℕ) → Shorter (item_of text v)
      short_item text v u = short_then (length u.tokens) (alias u) (λ n. pure (item_with text v n)) (g.0 u) (λ n w. omega arith)

  settlement : Congruence
  settlement = record {
    Good = Settled;
    weaker = λ {R = R} {S = S} {p = p} {q = q} k h. (h.0, (λ u v near le. weaker_follows R S k (p u) (q v) (h.1 u v near le)));
    gives = λ {R = R} {x = x} {y = y} e. settled_pure R x y e;
    stops = ((λ u. omega arith), (λ u v near le _. near));
    refuses = λ what. ((λ u. tt), (λ u v near le. tt));
    refuses_tables = ((λ u. tt), (λ u v near le. tt));
    reads_same = settled_reads;
    goes_on = λ {R = R} {S = S} {p = p} {q = q} {f = f} {g = g} same h k. settled_then R S p q f g same h k;
    chooses = λ {R = R} {test = test} {p = p} {p' = p'} {q = q} {q' = q'} sees h g. settled_branch R test p p' q q' sees h g;
    in_place = λ {R = R} {f = f} {p = p} {q = q} sees h. ((λ u. short_placed f (length u.tokens) (p u) (h.0 u)), (λ u v near le. place_follows R f (p u) (q v) sees (h.1 u v near le)));
    separates = λ {R = R} {p = p} {q = q} f same h. settled_separated R f p q same h;
    looks = settled_look;
    spans = settled_item;
  }

  settled_text : Settled SameTree any_text any_text
  unfolding any_text settlement
  settled_text = (
    (λ u. (good_text settlement (at_word (codes "SELECT") u)).0 u),
    (λ u v near le. subst (λ t. Follows SameTree (rule (at_word (codes "SELECT") u) u) (rule t v)) (sees_next _ u v (two_next u v near le)) ((good_text settlement (at_word (codes "SELECT") u)).1 u v near le)),
  )
    where
      rule : Bool → Reader Statement
      rule t = in_place_of_syntax (unsupported_at t) whole

-- ---- what a text is refused for

lexer_place : (f : LexFault) (at : ℕ) → of_lexer f ≡ Syntax at → at ≡ fault_place f
lexer_place (BadByte n) at e = cc
lexer_place (OpenQuote n) at e = cc
lexer_place (OpenComment n) at e = cc
lexer_place (NumberTooLarge n) at e = cc
lexer_place (TextTooLong n) at e = cc
lexer_place (LongName n) at e = cc
lexer_place (Executable n) at e = absurd cc

end_refused : (end : ℕ) (f : Option LexFault) (at : ℕ) → end_fault end f ≡ Syntax at → at ≡ end_place end f
end_refused end None at e = cc
end_refused end (Some f) at e = lexer_place f at e

no_place : {at : ℕ} (f : ParseFault) → NoPlace f → f ≡ Syntax at → ⊥
no_place (Syntax at) h e = h
no_place (Unsupported what) h e = cc
no_place TooManyTables h e = cc

module _ (ansi : Bool) (a : List ℕ) where
  -- where a reader that stands behind i tokens refuses
  stands_at : (u : Unread) (i at : ℕ) → u.tokens ≡ drop i (lexed a ansi).0 → u.fault ≡ (lexed a ansi).1 → (ts : List Token) → u.tokens ≡ ts → fault_before (length a) ts u.fault ≡ Syntax at
      → at ≡ place_of ansi a i
  stands_at u i at first fault [] e d =
      let c : end_fault (length a) (lexed a ansi).1 ≡ Syntax at = rw (← fault) d in
      end_refused (length a) (lexed a ansi).1 at c ∙ ap (token_place (end_place (length a) (lexed a ansi).1)) (sym e ∙ first)
  stands_at u i at first fault (t ∷ ts) e d = let p : t.from ≡ at = cc in sym p ∙ ap (token_place (end_place (length a) (lexed a ansi).1)) (sym e ∙ first)

module _ (ansi : Bool) (a b : List ℕ) where
  abbrev behind_first : ℕ → List ℕ → ℕ
  behind_first i text = length (lexed text ansi).0 - (i + 2)

  -- b is refused where a is, if it has the same tokens up to there and one more
  refused_too : (i : ℕ) (u : Unread) (r : Result (Statement × Unread) Stop) → SameFirst ansi a b (i + 2) → length u.tokens ≡ length (lexed a ansi).0 - i
      → u.tokens ≡ drop i (lexed a ansi).0 → StopsToo (lexed a ansi) (lexed b ansi) (behind_first i a) (behind_first i b) u r → statement_of (length b) r ≡ Err (Syntax (place_of ansi b i))
  refused_too i u (Ok x) same e first h = absurd h
  refused_too i u (Err (Refused f)) same e first h = absurd h
  refused_too i u (Err (Before v)) same e first h = ap (λ f. Err f) (by v.tokens refl)
    where
      i_passed : h.passed ≡ i
      i_passed = let d = ap length h.first in omega (arith, e, d, length-drop h.passed (lexed a ansi).0, same.0)

      by : (ts : List Token) → v.tokens ≡ ts → fault_before (length b) ts v.fault ≡ Syntax (place_of ansi b i)
      by [] c = absurd (omega (arith, ap length c, h.first_length, h.second_length, e, same.0))
      by (t ∷ ts) c = ap Syntax (ap (token_place (end_place (length b) (lexed b ansi).1)) (sym c ∙ h.second ∙ ap (λ k. drop k (lexed b ansi).0) i_passed))

pub first_tokens_refuse : FirstTokensRefuse
unfolding meaning
first_tokens_refuse ansi a at e = by (any_text here) refl (steady_text a a (lexed a ansi) (lexed a ansi) here here
    (record { passed = 0; first = refl; second = refl; first_text = refl; second_text = refl; first_fault = refl; second_fault = refl; lexemes_alike = refl; faults_alike = refl }))
    ((settled_text (lexed a ansi) (lexed a ansi) 0 0).0 here) e
  where
    here : Unread
    here = from_front a (lexed a ansi)

    by : (r : Result (Statement × Unread) Stop) → any_text here ≡ r → AlikeResult a a (lexed a ansi) (lexed a ansi) SameTree r r → Short (length here.tokens) r → statement_of (length a) r ≡ Err (Syntax at)
        → (i : ℕ) × (at ≡ place_of ansi a i) × ((b : List ℕ) → SameFirst ansi a b (i + 2) → meaning b ansi ≡ Err (Syntax (place_of ansi b i)))
    by (Ok x) runs alike short d = absurd cc
    by (Err (Refused f)) runs alike short d = absurd (no_place f short (let g : f ≡ Syntax at = cc in g))
    by (Err (Before u)) runs alike short d =
        let left : length u.tokens ≡ length (lexed a ansi).0 - alike.passed = ap length alike.first ∙ length-drop alike.passed (lexed a ansi).0 in (
          alike.passed,
          stands_at ansi a u alike.passed at alike.first alike.first_fault u.tokens refl (let g : fault_before (length a) u.tokens u.fault ≡ Syntax at = cc in g),
          (λ b same.
              let m = behind_first ansi a b alike.passed a in
              let n = behind_first ansi a b alike.passed b in
              let there = from_front b (lexed b ansi) in
              let follows = subst (λ r. Follows (lexed a ansi) (lexed b ansi) m n SameTree r (any_text there)) runs ((settled_text (lexed a ansi) (lexed b ansi) m n).1 here there
              (record { common = alike.passed + 2; passed = 0; first = refl; second = refl; first_length = omega (arith, same.0); second_length = omega (arith, same.1); same = same.2 }) (omega (arith, same.0))) in
              refused_too ansi a b alike.passed u (any_text there) same left alike.first (follows (omega (arith, left, same.0)))),
        )
