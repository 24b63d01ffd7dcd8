-- What a reader gives passes a test, where the tokens that it reads are short.
use Rattle.std.proofs.Common.{◌≡◌, ℕ, zero, suc, Bool, true, false, cond, List, [], ◌∷◌, length, refl, subst, Option, Some, None, Result, Ok, Err}
use Rattle.std.specs.Prelude.{codes, ◌&&◌}
use Rattle.std.specs.List.{list_all}
use Rattle.std.proofs.lemmas.Bool.{and_parts, and_from}
use Rattle.qc_sql.specs.Words.{when}
use Rattle.qc_sql.specs.Database.{Name}
use Rattle.qc_sql.specs.Tokens.{Lexeme, Word, Quoted, Words, Digits, Sign, Token}
use Rattle.qc_sql.specs.Reading.{Unread, Stop, Before, Refused, Reader, pure, then_read, ◌>>=◌, stop, refuse, refuse_any, at_token, is_reserved, opened, read_as, read_first, reads, branch, optional, passed, at_most, many, separated, listed, bracketed, with_words, in_place_of_syntax, name_in, word_in, words_in, digits_in, name, words, number, any_word, word, sign, is_word, is_sign, at_word, at_sign}
use Rattle.qc_laws.specs.sizes.Names.{is_short, is_bounded, is_short_lexeme, are_short_tokens, passes_if_there}

abbrev pub anything : {A : Type 0} → A → Bool
anything x = true

abbrev pub Gave : {A : Type 0} → (A → Bool) → Result (A × Unread) Stop → Type 0
Gave t (Ok x) = (t x.0 ≡ true) × (are_short_tokens x.1.tokens ≡ true)
Gave t (Err why) = Unit {0}

-- where the tokens are short, what is given passes, and the tokens that are left are short
pub record Passes {A : Type 0} (t : A → Bool) (p : Reader A) : Type 0 where
  pub at : (u : Unread) → are_short_tokens u.tokens ≡ true → Gave t (p u)

module _ {A : Type 0} where
  pub one : (t : A → Bool) (b : Bool) (x y : Result (A × Unread) Stop) → Gave t x → Gave t y → Gave t (cond b x y)
  one t true x y p q = p
  one t false x y p q = q

  pub gives : {t : A → Bool} {x : A} → t x ≡ true → Passes t (pure x)
  gives h = record { at = λ u g. (h, g) }

  pub stops : {t : A → Bool} → Passes t stop
  stops = record { at = λ u h. tt }

  pub refuses : {t : A → Bool} {w : List ℕ} → Passes t (refuse w)
  refuses = record { at = λ u h. tt }

  pub refuses_any : {t : A → Bool} {w : List ℕ} → Passes t (refuse_any w)
  refuses_any {t = t} {w = w} = record { at = λ u h. one t (at_token u) (refuse w u) (stop u) tt tt }

  as_read : (t : A → Bool) (u : Unread) (token : Token) (ts : List Token) (x : Option A) → ((y : A) → x ≡ Some y → t y ≡ true) → are_short_tokens ts ≡ true → Gave t (read_as u token ts x)
  as_read t u token ts None k h = tt
  as_read t u token ts (Some x) k h = (k x refl, h)

  first_read : (t : A → Bool) (f : Lexeme → Option A) (u : Unread) (ts : List Token) → ((l : Lexeme) → is_short_lexeme l ≡ true → (y : A) → f l ≡ Some y → t y ≡ true)
      → are_short_tokens ts ≡ true → Gave t (read_first f u ts)
  first_read t f u [] k h = tt
  first_read t f u (token ∷ ts) k h =
      let parts = and_parts (is_short_lexeme token.what) (are_short_tokens ts) h in
      as_read t u token ts (f token.what) (k token.what parts.0) parts.1

  pub read : {t : A → Bool} {f : Lexeme → Option A} → ((l : Lexeme) → is_short_lexeme l ≡ true → (y : A) → f l ≡ Some y → t y ≡ true) → Passes t (reads f)
  read {t = t} {f = f} k = record { at = λ u h. first_read t f u u.tokens k h }

  pub read_anything : (f : Lexeme → Option A) → Passes anything (reads f)
  read_anything f = read (λ l h y e. refl)

  pub either : {t : A → Bool} {p q : Reader A} (test : Unread → Bool) → Passes t p → Passes t q → Passes t (branch test p q)
  either {t = t} {p = p} {q = q} test a b = record { at = λ u h. one t (test u) (p u) (q u) (a.at u h) (b.at u h) }

  -- by a test that is made before
  pub chosen : {t : A → Bool} {p q : Reader A} (b : Bool) → Passes t p → Passes t q → Passes t (cond b p q)
  chosen true a b = a
  chosen false a b = b

  placed : (t : A → Bool) (f : Unread → Option (List ℕ)) (r : Result (A × Unread) Stop) → Gave t r → Gave t (with_words f r)
  placed t f (Ok x) h = h
  placed t f (Err (Before u)) h = tt
  placed t f (Err (Refused fault)) h = tt

  pub in_place : {t : A → Bool} {p : Reader A} (f : Unread → Option (List ℕ)) → Passes t p → Passes t (in_place_of_syntax f p)
  in_place {t = t} {p = p} f a = record { at = λ u h. placed t f (p u) (a.at u h) }

module _ {A B : Type 0} where
  pub then_gave : {t : B → Bool} (s : A → Bool) (r : Result (A × Unread) Stop) (f : A → Reader B) → Gave s r → ((x : A) → s x ≡ true → Passes t (f x)) → Gave t (then_read r f)
  then_gave s (Ok x) f h k = (k x.0 h.0).at x.1 h.1
  then_gave s (Err why) f h k = tt

  pub after : {s : A → Bool} {t : B → Bool} {p : Reader A} {f : A → Reader B} → Passes s p → ((x : A) → s x ≡ true → Passes t (f x)) → Passes t (p >>= f)
  after {s = s} {p = p} {f = f} a k = record { at = λ u h. then_gave s (p u) f (a.at u h) k }

-- ---- names and texts

pub some_same : {A : Type 0} (x y : A) → ◌≡◌ {A = Option A} (Some x) (Some y) → x ≡ y
some_same x y e = cc

short_name : (l : Lexeme) → is_short_lexeme l ≡ true → (n : Name) → name_in l ≡ Some n → is_short n ≡ true
short_name (Word w) h n e = by (is_reserved w) e
  where
    by : (b : Bool) → cond b None (Some w) ≡ Some n → is_short n ≡ true
    by true q = absurd cc
    by false q = subst (λ (x : Name). is_short x ≡ true) (some_same w n q) h
short_name (Quoted w) h n e = subst (λ (x : Name). is_short x ≡ true) (some_same w n e) h
short_name (Words w) h n e = absurd cc
short_name (Digits w) h n e = absurd cc
short_name (Sign w) h n e = absurd cc

short_word : (l : Lexeme) → is_short_lexeme l ≡ true → (n : Name) → word_in l ≡ Some n → is_short n ≡ true
short_word (Word w) h n e = subst (λ (x : Name). is_short x ≡ true) (some_same w n e) h
short_word (Quoted w) h n e = absurd cc
short_word (Words w) h n e = absurd cc
short_word (Digits w) h n e = absurd cc
short_word (Sign w) h n e = absurd cc

bounded_words : (l : Lexeme) → is_short_lexeme l ≡ true → (t : List ℕ) → words_in l ≡ Some t → is_bounded t ≡ true
bounded_words (Words w) h t e = subst (λ (x : List ℕ). is_bounded x ≡ true) (some_same w t e) h
bounded_words (Word w) h t e = absurd cc
bounded_words (Quoted w) h t e = absurd cc
bounded_words (Digits w) h t e = absurd cc
bounded_words (Sign w) h t e = absurd cc

pub name_passes : Passes is_short name
name_passes = read short_name

pub any_word_passes : Passes is_short any_word
any_word_passes = read short_word

pub words_pass : Passes is_bounded words
words_pass = read bounded_words

pub number_passes : Passes anything number
number_passes = read_anything digits_in

pub at_the_word : (w : Name) → Passes anything (word w)
at_the_word w = read_anything (λ l. when (is_word w l) tt)

pub at_the_sign : (s : List ℕ) → Passes anything (sign s)
at_the_sign s = read_anything (λ l. when (is_sign s l) tt)

-- ---- lists

opened_passes : Passes anything opened
unfolding opened
opened_passes = after (at_the_sign (codes "(")) (λ _ _. either (at_word (codes "SELECT")) refuses (gives refl))

module _ {A : Type 0} where
  at_most_pass : {t : A → Bool} {p : Reader A} (n : ℕ) (test : Unread → Bool) → Passes t p → Passes (list_all t) (at_most n test p)
  at_most_pass zero test a = gives refl
  at_most_pass {t = t} (suc n) test a = either test (after a (λ x h. after (at_most_pass n test a) (λ xs g. gives (and_from (t x) (list_all t xs) h g)))) (gives refl)

  pub many_pass : {t : A → Bool} {p : Reader A} (test : Unread → Bool) → Passes t p → Passes (list_all t) (many test p)
  many_pass {p = p} test a = record { at = λ u h. (at_most_pass {p = p} (length u.tokens) test a).at u h }

  -- there is one at least
  abbrev pub some_all : (A → Bool) → List A → Bool
  some_all t [] = false
  some_all t (x ∷ xs) = t x && list_all t xs

  pub all_from_some : (t : A → Bool) (xs : List A) → some_all t xs ≡ true → list_all t xs ≡ true
  all_from_some t [] h = refl
  all_from_some t (x ∷ xs) h = h

  pub separated_pass : {t : A → Bool} {p : Reader A} {between : Reader (Unit {0})} (test : Unread → Bool) → Passes anything between → Passes t p → Passes (some_all t) (separated test between p)
  separated_pass {t = t} test b a = after a (λ x h. after (many_pass test (after b (λ _ _. a))) (λ xs g. gives (and_from (t x) (list_all t xs) h g)))

  pub some_listed : {t : A → Bool} {p : Reader A} → Passes t p → Passes (some_all t) (listed p)
  some_listed a = separated_pass (at_sign (codes ",")) (at_the_sign (codes ",")) a

  weaker_gave : (s t : A → Bool) → ((x : A) → s x ≡ true → t x ≡ true) → (r : Result (A × Unread) Stop) → Gave s r → Gave t r
  weaker_gave s t k (Ok x) h = (k x.0 h.0, h.1)
  weaker_gave s t k (Err why) h = tt

  pub weaker : {s t : A → Bool} {p : Reader A} → ((x : A) → s x ≡ true → t x ≡ true) → Passes s p → Passes t p
  weaker {s = s} {t = t} {p = p} k a = record { at = λ u h. weaker_gave s t k (p u) (a.at u h) }

  pub bracketed_passes : {t : A → Bool} {p : Reader A} → Passes t p → Passes t (bracketed p)
  bracketed_passes a = after opened_passes (λ _ _. after a (λ x h. after (at_the_sign (codes ")")) (λ _ _. gives h)))

  pub optional_passes : {t : A → Bool} {p : Reader A} (test : Unread → Bool) → Passes t p → Passes (passes_if_there t) (optional test p)
  optional_passes test a = either test (after a (λ x h. gives h)) (gives refl)

pub listed_pass : {A : Type 0} {t : A → Bool} {p : Reader A} → Passes t p → Passes (list_all t) (listed p)
listed_pass {t = t} a = weaker (all_from_some t) (some_listed a)

pub passed_passes : (w : Name) → Passes anything (passed w)
passed_passes w = either (at_word w) (after (at_the_word w) (λ _ _. gives refl)) (gives refl)
