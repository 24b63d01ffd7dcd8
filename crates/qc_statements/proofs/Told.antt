-- A refusal of the grammar says in few bytes what isn't supported: a word of the text, or fixed words.
use Rattle.std.proofs.Common.{◌≡◌, ℕ, zero, suc, ◌+◌, ◌≤◌, Bool, true, false, cond, List, [], ◌∷◌, ◌++◌, length, refl, subst, arith, Option, Some, None, Result, Ok, Err}
use Rattle.std.specs.Prelude.{codes, nat_le, nat_lt, take, drop, take_while, bytes_eq, ◌==◌, ◌&&◌, ◌||◌, not, ◌^◌, pos, neg_ℤ, is_some, unwrap_or, option_to_list}
use Rattle.std.specs.List.{list_any}
use Rattle.std.proofs.lemmas.List.{length-map}
use Rattle.std.proofs.lemmas.Bool.Decides.{nat_tests}
use Rattle.qc_types.specs.declared.names.Value.TheVariants as value
use Rattle.qc_sql.specs.declared.statements.Head.TheVariants as head
use Rattle.qc_sql.specs.declared.statements.Expr.TheVariants as expr
use Rattle.qc_sql.specs.declared.statements.Cond.TheVariants as test
use Rattle.qc_sql.specs.declared.statements.Statement.TheVariants as statement
use Rattle.qc_sql.specs.declared.statements.Right.TheVariants as right
use Rattle.qc_sql.specs.declared.statements.Part.TheVariants as piece
use Rattle.qc_sql.specs.declared.statements.PartKind.TheVariants as typed
use Rattle.qc_sql.specs.declared.statements.Setting.TheVariants as setting
use Rattle.qc_sql.specs.declared.statements.SetValue.TheVariants as to
use Rattle.qc_sql.specs.declared.statements.Expr.{Expr}
use Rattle.qc_sql.specs.declared.statements.Cond.{Cond}
use Rattle.qc_sql.specs.declared.statements.Statement.{Statement}
use Rattle.qc_sql.specs.Words.{when}
use Rattle.qc_sql.specs.Database.{Name}
use Rattle.qc_sql.specs.Rules.{in_capitals, capital, same_word}
use Rattle.qc_sql.specs.Tokens.{Lexeme, Word, Quoted, Words, Digits, Sign, Token, LexFault, BadByte, OpenQuote, OpenComment, NumberTooLarge, TextTooLong, LongName, Executable, Front, Ends, Skips, Gives, Faults, Content, Lexed, front, comment, name_token, text_token, word_token, goes_on, goes_on_word, lexed_from, lexed, is_space, is_digit, is_dashed, line_bytes, comment_bytes, begins_word, quoted, quoted_text, number_from, two_signs}
use Rattle.qc_sql.specs.Reading.{ParseFault, of_lexer, Unread, Stop, Before, Refused, Reader, pure, then_read, ◌>>=◌, stop, refuse, at_token, refuse_any, past, is_reserved, opened, read_as, read_first, reads, branch, optional, passed, at_most, many, listed, bracketed, with_word, with_words, in_place_of_syntax, name_in, word_in, digits_in, words_in, name, word, sign, is_word, is_sign, next_is, token_is, at_word, at_sign, at_name, at_number, at_words}
use Rattle.qc_sql.specs.Grammar as rule
use Rattle.qc_sql.specs.Grammar.{is_arithmetic, at_literal, at_call, at_aggregate, is_known_call, op_ahead, op_in, negated, grouped, like_at, at_further, with_source, is_unsupported, span_text, no_from, all_conds, other_kind, is_pattern, other_show, unsupported_at}
use Rattle.qc_statements.specs.Told.{IsTold}

-- ---- tokens

abbrev IsShort : Lexeme → Type 0
IsShort (Word w) = length w ≤ 64
IsShort _ = Unit {0}

abbrev AreShort : List Token → Type 0
AreShort [] = Unit {0}
AreShort (t ∷ ts) = IsShort t.what × AreShort ts

abbrev ShortFront : Front → Type 0
ShortFront (Gives k what) = IsShort what
ShortFront _ = Unit {0}

one_front : (b : Bool) (x y : Front) → ShortFront x → ShortFront y → ShortFront (cond b x y)
one_front true x y p q = p
one_front false x y p q = q

comment_short : (n : Option ℕ) → ShortFront (comment n)
comment_short None = tt
comment_short (Some n) = tt

word_short : (w : Name) → ShortFront (word_token w)
word_short w = by (nat_lt 64 (length w)) refl
  where
    by : (b : Bool) → nat_lt 64 (length w) ≡ b → ShortFront (cond b (Faults LongName) (Gives (length w) (Word w)))
    by true q = tt
    by false q = grind (arith, nat_tests)

name_short : (c : Content) → ShortFront (name_token c)
name_short None = tt
name_short (Some c) = one_front (length c.1 == 0) (Faults BadByte) _ tt (one_front (nat_lt 64 (length c.1)) (Faults LongName) (Gives (c.0 + 1) (Quoted c.1)) tt tt)

text_short : (c : Content) → ShortFront (text_token c)
text_short None = tt
text_short (Some c) = one_front (nat_lt 65535 (length c.1)) (Faults TextTooLong) (Gives (c.0 + 1) (Words c.1)) tt tt

front_short : (ansi : Bool) (text : List ℕ) → ShortFront (front ansi text)
front_short ansi [] = tt
front_short ansi (b ∷ rest) =
    let t : List ℕ = b ∷ rest in
    let digits = take_while is_digit t in
    one_front (is_space b) (Skips 1) _ tt
    (one_front (b == 35 || is_dashed t) (Skips (line_bytes t)) _ tt
    (one_front (bytes_eq (take 3 t) (codes "/*!")) (Faults Executable) _ tt
    (one_front (bytes_eq (take 2 t) (codes "/*")) _ _ (comment_short (comment_bytes (drop 1 rest)))
    (one_front (begins_word b) _ _ (word_short (take_while goes_on_word t))
    (one_front (b == 96 || (ansi && b == 34)) _ _ (name_short (quoted b rest))
    (one_front (b == 39 || b == 34) _ _ (text_short (quoted_text b rest))
    (one_front (is_digit b) _ _ (one_front (nat_lt (number_from 0 digits) (2 ^ 64)) (Gives (length digits) (Digits (number_from 0 digits))) (Faults NumberTooLarge) tt tt)
    (one_front (list_any (bytes_eq (take 2 t)) two_signs) (Gives 2 (Sign (take 2 t))) _ tt
    (one_front (list_any (λ s. bytes_eq (take 1 t) (s ∷ [])) (codes "(),.;*=<>+-/")) (Gives 1 (Sign (take 1 t))) (Faults BadByte) tt tt)))))))))

go_short : (f : Front) (at : ℕ) (later : ℕ → Lexed) → ShortFront f → ((k : ℕ) → AreShort (later k).0) → AreShort (goes_on f at later).0
go_short Ends at later h k = tt
go_short (Skips n) at later h k = k n
go_short (Gives n what) at later h k = (h, k n)
go_short (Faults fault) at later h k = tt

all_short : (n : ℕ) (ansi : Bool) (at : ℕ) (text : List ℕ) → AreShort (lexed_from n ansi at text).0
all_short zero ansi at text = tt
all_short (suc n) ansi at text = go_short (front ansi text) at _ (front_short ansi text) (λ k. all_short n ansi (at + k) _)

lexed_short : (text : List ℕ) (ansi : Bool) → AreShort (lexed text ansi).0
unfolding lexed
lexed_short text ansi = all_short (length text + 1) ansi 0 text

-- ---- readers

abbrev StopsTold : Stop → Type 0
StopsTold (Before u) = AreShort u.tokens
StopsTold (Refused fault) = IsTold fault

abbrev Gave : {A : Type 0} → Result (A × Unread) Stop → Type 0
Gave (Ok x) = AreShort x.1.tokens
Gave (Err why) = StopsTold why

-- where the words of the tokens are short, so is what it refuses, and so are the words that are left
record IsCalm {A : Type 0} (p : Reader A) : Type 0 where
  calm : (u : Unread) → AreShort u.tokens → Gave (p u)

module _ {A : Type 0} where
  one : (b : Bool) (x y : Result (A × Unread) Stop) → Gave x → Gave y → Gave (cond b x y)
  one true x y p q = p
  one false x y p q = q

  gives : (x : A) → IsCalm (pure x)
  gives x = record { calm = λ u h. h }

  stops : IsCalm (stop {A = A})
  stops = record { calm = λ u h. h }

  refuses : (w : List ℕ) → length w ≤ 68 → IsCalm (refuse {A = A} w)
  refuses w few = record { calm = λ u h. few }

  refuses_fixed : (w : List ℕ) → nat_le (length w) 68 ≡ true → IsCalm (refuse {A = A} w)
  refuses_fixed w few = refuses w (grind (arith, nat_tests))

  refuses_any : (w : List ℕ) → length w ≤ 68 → IsCalm (refuse_any {A = A} w)
  refuses_any w few = record { calm = λ u h. one (at_token u) (refuse w u) (stop u) few h }

  as_read : (u : Unread) (t : Token) (ts : List Token) (x : Option A) → AreShort u.tokens → AreShort ts → Gave (read_as u t ts x)
  as_read u t ts None h g = h
  as_read u t ts (Some x) h g = g

  first_read : (f : Lexeme → Option A) (u : Unread) (ts : List Token) → AreShort u.tokens → AreShort ts → Gave (read_first f u ts)
  first_read f u [] h g = h
  first_read f u (t ∷ ts) h g = as_read u t ts (f t.what) h g.1

  read : (f : Lexeme → Option A) → IsCalm (reads f)
  read f = record { calm = λ u h. first_read f u u.tokens h h }

  either : (test : Unread → Bool) (p q : Reader A) → IsCalm p → IsCalm q → IsCalm (branch test p q)
  either test p q a b = record { calm = λ u h. one (test u) _ _ (a.calm u h) (b.calm u h) }

  -- by a test that is made before
  chosen : (b : Bool) (p q : Reader A) → IsCalm p → IsCalm q → IsCalm (cond b p q)
  chosen true p q a b = a
  chosen false p q a b = b

module _ {A B : Type 0} where
  then_gave : (x : Result (A × Unread) Stop) (f : A → Reader B) → Gave x → ((a : A) → IsCalm (f a)) → Gave (then_read x f)
  then_gave (Ok x) f h k = (k x.0).calm x.1 h
  then_gave (Err why) f h k = h

  after : (p : Reader A) (f : A → Reader B) → IsCalm p → ((a : A) → IsCalm (f a)) → IsCalm (p >>= f)
  after p f a k = record { calm = λ u h. then_gave (p u) f (a.calm u h) k }

-- a word that was read is short
module _ {B : Type 0} where
  word_read : (f : Lexeme → Option Name) (g : Name → Reader B) (u : Unread) (t : Token) (ts : List Token) (w : Option Name) → ((n : Name) → w ≡ Some n → length n ≤ 64)
      → ((n : Name) → length n ≤ 64 → IsCalm (g n)) → AreShort u.tokens → AreShort ts → Gave (then_read (read_as u t ts w) g)
  word_read f g u t ts None s k h e = h
  word_read f g u t ts (Some n) s k h e = (k n (s n refl)).calm (past u t ts) e

  first_word : (f : Lexeme → Option Name) (g : Name → Reader B) (u : Unread) (ts : List Token) → ((l : Lexeme) → IsShort l → (n : Name) → f l ≡ Some n → length n ≤ 64)
      → ((n : Name) → length n ≤ 64 → IsCalm (g n)) → AreShort u.tokens → AreShort ts → Gave (then_read (read_first f u ts) g)
  first_word f g u [] s k h e = h
  first_word f g u (t ∷ ts) s k h e = word_read f g u t ts (f t.what) (s t.what e.0) k h e.1

  after_word : (f : Lexeme → Option Name) (g : Name → Reader B) → ((l : Lexeme) → IsShort l → (n : Name) → f l ≡ Some n → length n ≤ 64) → ((n : Name) → length n ≤ 64 → IsCalm (g n)) → IsCalm (reads f >>= g)
  after_word f g s k = record { calm = λ u h. first_word f g u u.tokens s k h h }

word_in_short : (l : Lexeme) → IsShort l → (n : Name) → word_in l ≡ Some n → length n ≤ 64
word_in_short (Word w) h n e = let same : w ≡ n = cc in subst (λ (x : Name). length x ≤ 64) same h
word_in_short (Quoted w) h n e = absurd cc
word_in_short (Words w) h n e = absurd cc
word_in_short (Digits w) h n e = absurd cc
word_in_short (Sign w) h n e = absurd cc

kind_short : (l : Lexeme) → IsShort l → (n : Name) → rule.other_kind l ≡ Some n → length n ≤ 64
kind_short (Word w) h n e = by (is_reserved w) e
  where
    by : (b : Bool) → cond b None (Some w) ≡ Some n → length n ≤ 64
    by true q = absurd cc
    by false q = let same : w ≡ n = cc in subst (λ (x : Name). length x ≤ 64) same h
kind_short (Quoted w) h n e = absurd cc
kind_short (Words w) h n e = absurd cc
kind_short (Digits w) h n e = absurd cc
kind_short (Sign w) h n e = absurd cc

capitals_short : (w : Name) → length w ≤ 64 → length (in_capitals w) ≤ 68
capitals_short w h = let e = length-map w capital in omega arith

is_named : IsCalm name
is_named = read name_in

is_at : (w : Name) → IsCalm (word w)
is_at w = read (λ l. when (is_word w l) tt)

is_signed : (s : List ℕ) → IsCalm (sign s)
is_signed s = read (λ l. when (is_sign s l) tt)

dotted_calm : IsCalm rule.dotted
unfolding rule.dotted
dotted_calm = after _ _ is_named (λ a. either (at_sign (codes ".")) _ _ (after _ _ (is_signed (codes ".")) (λ _. after _ _ is_named (λ b. gives (Some a, b)))) (gives (None, a)))

table_calm : IsCalm rule.table
unfolding rule.table
table_calm = after _ _ dotted_calm (λ d. gives (record { db = d.0; name = d.1 }))

ends_value_calm : IsCalm rule.ends_value
unfolding rule.ends_value
ends_value_calm = either (next_is is_arithmetic) _ _ (refuses_fixed (codes "arithmetic") refl) (gives tt)

column_calm : IsCalm rule.column
unfolding rule.column
column_calm = after _ _ dotted_calm (λ d. after _ _ ends_value_calm (λ _. gives (record { source = d.0; name = d.1 })))

signed_calm : (negative : Bool) (n : ℕ) → IsCalm (rule.signed negative n)
unfolding rule.signed
signed_calm negative n =
    chosen negative _ _
    (chosen (nat_le n (2 ^ 63)) _ _ (gives (value.Int (neg_ℤ (pos n)))) (refuses_fixed (codes "unsigned") refl))
    (chosen (nat_lt n (2 ^ 63)) _ _ (gives (value.Int (pos n))) (refuses_fixed (codes "unsigned") refl))

bare_literal_calm : IsCalm rule.bare_literal
unfolding rule.bare_literal
bare_literal_calm =
    either at_number _ _ (after _ _ (read digits_in) (λ n. signed_calm false n))
    (either (at_sign (codes "-")) _ _ (after _ _ (is_signed (codes "-")) (λ _. after _ _ (read digits_in) (λ n. signed_calm true n)))
    (either at_words _ _ (after _ _ (read words_in) (λ t. gives (value.Str t)))
    (after _ _ (is_at (codes "NULL")) (λ _. gives value.Null))))

literal_calm : IsCalm rule.literal
unfolding rule.literal
literal_calm = after _ _ bare_literal_calm (λ v. after _ _ ends_value_calm (λ _. gives v))

-- ---- lists

opened_calm : IsCalm opened
unfolding opened
opened_calm = after _ _ (is_signed (codes "(")) (λ _. either (at_word (codes "SELECT")) _ _ (refuses_fixed (codes "subquery") refl) (gives tt))

module _ {A : Type 0} where
  at_most_calm : (n : ℕ) (test : Unread → Bool) (p : Reader A) → IsCalm p → IsCalm (at_most n test p)
  at_most_calm zero test p a = gives []
  at_most_calm (suc n) test p a = either test _ _ (after _ _ a (λ x. after _ _ (at_most_calm n test p a) (λ xs. gives (x ∷ xs)))) (gives [])

  many_calm : (test : Unread → Bool) (p : Reader A) → IsCalm p → IsCalm (many test p)
  many_calm test p a = record { calm = λ u h. (at_most_calm (length u.tokens) test p a).calm u h }

  listed_calm : (p : Reader A) → IsCalm p → IsCalm (listed p)
  listed_calm p a = after _ _ a (λ x. after _ _ (many_calm (at_sign (codes ",")) _ (after _ _ (is_signed (codes ",")) (λ _. a))) (λ xs. gives (x ∷ xs)))

  bracketed_calm : (p : Reader A) → IsCalm p → IsCalm (bracketed p)
  bracketed_calm p a = after _ _ opened_calm (λ _. after _ _ a (λ x. after _ _ (is_signed (codes ")")) (λ _. gives x)))

  optional_calm : (test : Unread → Bool) (p : Reader A) → IsCalm p → IsCalm (optional test p)
  optional_calm test p a = either test _ _ (after _ _ a (λ x. gives (Some x))) (gives None)

passed_calm : (w : Name) → IsCalm (passed w)
passed_calm w = either (at_word w) _ _ (after _ _ (is_at w) (λ _. gives true)) (gives false)

-- ---- calls and values

call_word_calm : (aggregates : Bool) → IsCalm (rule.call_word aggregates)
unfolding rule.call_word
call_word_calm aggregates = either (λ u. not aggregates && at_aggregate u) _ _ stops (after_word word_in _ word_in_short (λ w short. chosen (is_known_call w) _ _ (gives w) (refuses w (omega arith))))

column_argument_calm : IsCalm rule.column_argument
unfolding rule.column_argument
column_argument_calm = bracketed_calm _ column_calm

call_of_calm : (p q : Reader Expr) (w : Name) → IsCalm p → IsCalm q → IsCalm (rule.call_of p q w)
call_of_calm p q w a b =
    chosen (same_word w (codes "LENGTH")) _ _ (after _ _ (bracketed_calm p a) (λ e. gives (expr.Length e)))
    (chosen (same_word w (codes "CONCAT")) _ _ (after _ _ (bracketed_calm _ (listed_calm p a)) (λ es. gives (expr.Concat es)))
    (chosen (same_word w (codes "COUNT")) _ _ (bracketed_calm _ (either (at_sign (codes "*")) _ _ (after _ _ (is_signed (codes "*")) (λ _. gives expr.CountAll)) (after _ _ b (λ e. gives (expr.Count e)))))
    (chosen (same_word w (codes "SUM")) _ _ (after _ _ column_argument_calm (λ c. gives (expr.Sum c)))
    (chosen (same_word w (codes "MIN")) _ _ (after _ _ column_argument_calm (λ c. gives (expr.Min c)))
    (chosen (same_word w (codes "MAX")) _ _ (after _ _ column_argument_calm (λ c. gives (expr.Max c)))
    (after _ _ (bracketed_calm _ (either (at_sign (codes ")")) _ _ (gives []) (listed_calm p a))) (λ es. gives (expr.Call w es))))))))

value_of_calm : (call : Reader Expr) → IsCalm call → IsCalm (rule.value_of call)
value_of_calm call a =
    either at_literal _ _ (after _ _ literal_calm (λ v. gives (expr.Literal v)))
    (either at_call _ _ (after _ _ a (λ e. after _ _ ends_value_calm (λ _. gives e)))
    (after _ _ column_calm (λ c. gives (expr.Column c))))

too_deep_calm : {A : Type 0} → IsCalm (rule.too_deep {A = A})
too_deep_calm = after _ _ (is_signed (codes "(")) (λ _. refuses_fixed (codes "nesting") refl)

call_calm : (n : ℕ) (aggregates : Bool) → IsCalm (rule.call_at n aggregates)
unfolding rule.call_at
call_calm zero aggregates = after _ _ (call_word_calm aggregates) (λ _. too_deep_calm)
call_calm (suc n) aggregates = after _ _ (call_word_calm aggregates) (λ w. call_of_calm _ _ w (value_of_calm _ (call_calm n aggregates)) (value_of_calm _ (call_calm n false)))

value_calm : (n : ℕ) (aggregates : Bool) → IsCalm (rule.value_at n aggregates)
value_calm n aggregates = value_of_calm _ (call_calm n aggregates)

tuple_calm : IsCalm rule.tuple
unfolding rule.tuple
tuple_calm = bracketed_calm _ (listed_calm _ literal_calm)

-- ---- conditions

null_test_calm : (a : Expr) → IsCalm (rule.null_test a)
unfolding rule.null_test
null_test_calm a = after _ _ (is_at (codes "IS")) (λ _. after _ _ (passed_calm (codes "NOT")) (λ n. after _ _ (is_at (codes "NULL")) (λ _. gives (negated n (test.IsNull a)))))

in_test_calm : (a : Expr) → IsCalm (rule.in_test a)
unfolding rule.in_test
in_test_calm a = after _ _ (is_at (codes "IN")) (λ _. after _ _ tuple_calm (λ vs. gives (test.In a vs)))

between_test_calm : (p : Reader Expr) (a : Expr) → IsCalm p → IsCalm (rule.between_test p a)
between_test_calm p a h = after _ _ (is_at (codes "BETWEEN")) (λ _. after _ _ h (λ low. after _ _ (is_at (codes "AND")) (λ _. after _ _ h (λ high. gives (test.Between a low high)))))

test_behind_calm : (p : Reader Expr) (a : Expr) → IsCalm p → IsCalm (rule.test_behind p a)
test_behind_calm p a h =
    either (λ u. is_some (op_ahead u)) _ _ (after _ _ (read op_in) (λ o. after _ _ h (λ b. gives (test.Compare a o b))))
    (either (at_word (codes "IS")) _ _ (null_test_calm a)
    (after _ _ (passed_calm (codes "NOT")) (λ n. after _ _ (either (at_word (codes "IN")) _ _ (in_test_calm a) (between_test_calm p a h)) (λ c. gives (negated n c)))))

joined_by_calm : (w : Name) (f : List Cond → Cond) (p : Reader Cond) → IsCalm p → IsCalm (rule.joined_by w f p)
joined_by_calm w f p a = after _ _ (after _ _ a (λ c. after _ _ (many_calm (at_word w) _ (after _ _ (is_at w) (λ _. a))) (λ cs. gives (c ∷ cs)))) (λ cs. gives (grouped f cs))

-- what stands in the place of Syntax is short
abbrev IsFew : Option (List ℕ) → Type 0
IsFew None = Unit {0}
IsFew (Some w) = length w ≤ 68

with_word_told : (w : Option (List ℕ)) (u : Unread) → IsFew w → AreShort u.tokens → StopsTold (with_word w u)
with_word_told None u f h = h
with_word_told (Some w) u f h = f

module _ {A : Type 0} where
  with_words_gave : (f : Unread → Option (List ℕ)) (x : Result (A × Unread) Stop) → ((u : Unread) → AreShort u.tokens → IsFew (f u)) → Gave x → Gave (with_words f x)
  with_words_gave f (Ok x) few h = h
  with_words_gave f (Err (Before u)) few h = with_word_told (f u) u (few u h) h
  with_words_gave f (Err (Refused fault)) few h = h

  in_place_calm : (f : Unread → Option (List ℕ)) (p : Reader A) → ((u : Unread) → AreShort u.tokens → IsFew (f u)) → IsCalm p → IsCalm (in_place_of_syntax f p)
  in_place_calm f p few a = record { calm = λ u h. with_words_gave f (p u) few (a.calm u h) }

fixed_few : (b : Bool) (w : List ℕ) → nat_le (length w) 68 ≡ true → IsFew (when b w)
fixed_few true w h = grind (arith, nat_tests)
fixed_few false w h = tt

member_of_calm : (member brackets : Reader Cond) (p : Reader Expr) → IsCalm member → IsCalm brackets → IsCalm p → IsCalm (rule.member_of member brackets p)
member_of_calm member brackets p a b c =
    either (at_word (codes "NOT")) _ _ (after _ _ (is_at (codes "NOT")) (λ _. after _ _ a (λ d. gives (test.Not d))))
    (in_place_calm like_at _ (λ u h. fixed_few (at_word (codes "LIKE") u) (codes "LIKE") refl) (either (at_sign (codes "(")) _ _ b (after _ _ c (λ e. test_behind_calm p e c))))

any_cond_calm : (member : Reader Cond) → IsCalm member → IsCalm (rule.any_of member)
any_cond_calm member a = joined_by_calm (codes "OR") test.Or _ (joined_by_calm (codes "AND") test.And _ a)

member_calm : (n : ℕ) → IsCalm (rule.member_at n)
unfolding rule.member_at
member_calm zero = member_of_calm _ _ _ (refuses_fixed (codes "nesting") refl) too_deep_calm (value_calm 0 false)
member_calm (suc n) = member_of_calm _ _ _ (member_calm n) (bracketed_calm _ (any_cond_calm _ (member_calm n))) (value_calm (suc n) false)

condition_calm : IsCalm rule.condition
unfolding rule.condition
condition_calm = any_cond_calm _ (member_calm rule.most_open)

-- ---- select

alias_calm : IsCalm rule.alias
unfolding rule.alias
alias_calm = either (at_word (codes "AS")) _ _ (after _ _ (is_at (codes "AS")) (λ _. after _ _ is_named (λ n. gives (Some n)))) (optional_calm at_name _ is_named)

spanned_calm : (p : Reader Expr) → IsCalm p → IsCalm (rule.spanned p)
spanned_calm p a = record { calm = λ u h. then_gave (p u) _ (a.calm u h) (λ e. record { calm = λ rest g. g }) }

item_calm : IsCalm rule.item
unfolding rule.item
item_calm = record { calm = λ u h. then_gave (rule.spanned (rule.value_at rule.most_open true) u) _ ((spanned_calm _ (value_calm rule.most_open true)).calm u h) (λ v. after _ _ alias_calm (λ n. gives (record { value = v.0; name = n; from = v.1; to = v.2; words = span_text v.1 v.2 u.text }))) }

source_calm : IsCalm rule.source
unfolding rule.source
source_calm = after _ _ table_calm (λ t. after _ _ alias_calm (λ n. gives (record { table = t; name = unwrap_or n t.name })))

look_calm : IsCalm rule.look
unfolding rule.look
look_calm = record { calm = λ u h. one (is_some u.fault && nat_le (length u.tokens) 0) (stop u) (pure tt u) h h }

one_too_many_calm : IsCalm rule.one_too_many
unfolding rule.one_too_many
one_too_many_calm = after _ _ table_calm (λ _. after _ _ look_calm (λ _. record { calm = λ u h. tt }))

join_words_calm : IsCalm rule.join_words
unfolding rule.join_words
join_words_calm = after _ _ (passed_calm (codes "INNER")) (λ _. is_at (codes "JOIN"))

further_source_calm : IsCalm rule.further_source
unfolding rule.further_source
further_source_calm =
    either (at_sign (codes ",")) _ _ (after _ _ (is_signed (codes ",")) (λ _. after _ _ source_calm (λ s. gives (s, None))))
    (after _ _ join_words_calm (λ _. after _ _ source_calm (λ s. after _ _ (is_at (codes "ON")) (λ _. after _ _ condition_calm (λ c. gives (s, Some c))))))

too_many_calm : IsCalm rule.too_many
unfolding rule.too_many
too_many_calm = after _ _ (either (at_sign (codes ",")) _ _ (is_signed (codes ",")) join_words_calm) (λ _. one_too_many_calm)

joined_calm : (n : ℕ) (j : rule.Joined) → IsCalm (rule.joined n j)
unfolding rule.joined
joined_calm zero j = either at_further _ _ too_many_calm (gives j)
joined_calm (suc n) j = either at_further _ _ (after _ _ further_source_calm (λ f. joined_calm n (with_source j f))) (gives j)

order_calm : IsCalm rule.order
unfolding rule.order
order_calm = after _ _ column_calm (λ c. after _ _ (passed_calm (codes "DESC")) (λ down. after _ _ (either (λ u. not down && at_word (codes "ASC") u) _ _ (is_at (codes "ASC")) (gives tt)) (λ _. gives (record { column = c; desc = down }))))

limit_calm : IsCalm rule.limit
unfolding rule.limit
limit_calm =
    after _ _ (read digits_in) (λ a.
    either (at_sign (codes ",")) _ _ (after _ _ (is_signed (codes ",")) (λ _. after _ _ (read digits_in) (λ b. gives (record { offset = a; count = b }))))
    (either (at_word (codes "OFFSET")) _ _ (after _ _ (is_at (codes "OFFSET")) (λ _. after _ _ (read digits_in) (λ b. gives (record { offset = b; count = a })))) (gives (record { offset = 0; count = a }))))

cache_word_calm : IsCalm rule.cache_word
unfolding rule.cache_word
cache_word_calm = either (at_word (codes "SQL_CACHE")) _ _ (after _ _ (is_at (codes "SQL_CACHE")) (λ _. gives head.Cache)) (either (at_word (codes "SQL_NO_CACHE")) _ _ (after _ _ (is_at (codes "SQL_NO_CACHE")) (λ _. gives head.NoCache)) (gives head.Bare))

items_calm : IsCalm rule.items
unfolding rule.items
items_calm = either (at_sign (codes "*")) _ _ (after _ _ (is_signed (codes "*")) (λ _. gives (true, []))) (after _ _ (listed_calm _ item_calm) (λ is. gives (false, is)))

where_part_calm : IsCalm rule.where_part
unfolding rule.where_part
where_part_calm = optional_calm (at_word (codes "WHERE")) _ (after _ _ (is_at (codes "WHERE")) (λ _. condition_calm))

order_part_calm : IsCalm rule.order_part
unfolding rule.order_part
order_part_calm = either (at_word (codes "ORDER")) _ _ (after _ _ (is_at (codes "ORDER")) (λ _. after _ _ (is_at (codes "BY")) (λ _. listed_calm _ order_calm))) (gives [])

from_calm : IsCalm rule.from
unfolding rule.from
from_calm = after _ _ (is_at (codes "FROM")) (λ _. after _ _ source_calm (λ s. after _ _ (joined_calm 7 (record { sources = s ∷ []; conds = [] })) (λ j. after _ _ where_part_calm (λ c. after _ _ order_part_calm (λ os. gives (record { sources = j.sources; cond = all_conds (j.conds ++ option_to_list c); order = os }))))))

from_part_calm : IsCalm rule.from_part
unfolding rule.from_part
from_part_calm = either (at_word (codes "FROM")) _ _ from_calm (gives no_from)

limit_part_calm : IsCalm rule.limit_part
unfolding rule.limit_part
limit_part_calm = optional_calm (at_word (codes "LIMIT")) _ (after _ _ (is_at (codes "LIMIT")) (λ _. limit_calm))

lock_part_calm : IsCalm rule.lock_part
unfolding rule.lock_part
lock_part_calm =
    either (at_word (codes "FOR")) _ _ (after _ _ (is_at (codes "FOR")) (λ _. after _ _ (is_at (codes "UPDATE")) (λ _. gives true)))
    (either (at_word (codes "LOCK")) _ _ (after _ _ (is_at (codes "LOCK")) (λ _. after _ _ (is_at (codes "IN")) (λ _. after _ _ (is_at (codes "SHARE")) (λ _. after _ _ (is_at (codes "MODE")) (λ _. gives true))))) (gives false))

select_calm : IsCalm rule.select
unfolding rule.select
select_calm =
    after _ _ (is_at (codes "SELECT")) (λ _. after _ _ cache_word_calm (λ c. after _ _ items_calm (λ i. after _ _ from_part_calm (λ f. after _ _ limit_part_calm (λ l.
    after _ _ lock_part_calm (λ k. gives (statement.Select (record { cache = c; star = i.0; items = i.1; from = f.sources; cond = f.cond; order = f.order; limit = l; lock = k }))))))))

-- ---- statements that change rows

names_part_calm : IsCalm rule.names_part
unfolding rule.names_part
names_part_calm = optional_calm (at_sign (codes "(")) _ (bracketed_calm _ (listed_calm _ is_named))

insert_calm : IsCalm rule.insert
unfolding rule.insert
insert_calm =
    after _ _ (is_at (codes "INSERT")) (λ _. after _ _ (is_at (codes "INTO")) (λ _. after _ _ table_calm (λ t. after _ _ names_part_calm (λ names. after _ _ (is_at (codes "VALUES")) (λ _.
    after _ _ (listed_calm _ tuple_calm) (λ rows. gives (statement.Insert (record { table = t; names = names; rows = rows }))))))))

right_side_calm : IsCalm rule.right_side
unfolding rule.right_side
right_side_calm = either at_name _ _ (after _ _ is_named (λ m. after _ _ ends_value_calm (λ _. gives (right.Column m)))) (after _ _ literal_calm (λ v. gives (right.Literal v)))

assignment_calm : IsCalm rule.assignment
unfolding rule.assignment
assignment_calm = after _ _ is_named (λ n. after _ _ (is_signed (codes "=")) (λ _. after _ _ right_side_calm (λ r. gives (record { name = n; right = r }))))

update_calm : IsCalm rule.update
unfolding rule.update
update_calm = after _ _ (is_at (codes "UPDATE")) (λ _. after _ _ table_calm (λ t. after _ _ (is_at (codes "SET")) (λ _. after _ _ (listed_calm _ assignment_calm) (λ sets. after _ _ where_part_calm (λ c. gives (statement.Update (record { table = t; sets = sets; cond = c })))))))

delete_calm : IsCalm rule.delete
unfolding rule.delete
delete_calm = after _ _ (is_at (codes "DELETE")) (λ _. after _ _ (is_at (codes "FROM")) (λ _. after _ _ table_calm (λ t. after _ _ where_part_calm (λ c. gives (statement.Delete (record { table = t; cond = c }))))))

truncate_calm : IsCalm rule.truncate
unfolding rule.truncate
truncate_calm = after _ _ (is_at (codes "TRUNCATE")) (λ _. after _ _ (passed_calm (codes "TABLE")) (λ _. after _ _ table_calm (λ t. gives (statement.Truncate t))))

-- ---- statements that change tables and databases

other_type_calm : IsCalm rule.other_type
unfolding rule.other_type
other_type_calm = after_word other_kind _ kind_short (λ w short. refuses (in_capitals w) (capitals_short w short))

length_part_calm : IsCalm rule.length_part
unfolding rule.length_part
length_part_calm = bracketed_calm _ (read digits_in)

part_kind_calm : IsCalm rule.part_kind
unfolding rule.part_kind
part_kind_calm =
    either (at_word (codes "BIGINT")) _ _ (after _ _ (is_at (codes "BIGINT")) (λ _. gives typed.BigInt))
    (either (at_word (codes "VARCHAR")) _ _ (after _ _ (is_at (codes "VARCHAR")) (λ _. after _ _ length_part_calm (λ n. gives (typed.VarChar n)))) other_type_calm)

null_part_calm : IsCalm rule.null_part
unfolding rule.null_part
null_part_calm = either (at_word (codes "NOT")) _ _ (after _ _ (is_at (codes "NOT")) (λ _. after _ _ (is_at (codes "NULL")) (λ _. gives true))) (after _ _ (passed_calm (codes "NULL")) (λ _. gives false))

primary_key_calm : IsCalm rule.primary_key
unfolding rule.primary_key
primary_key_calm = after _ _ (is_at (codes "PRIMARY")) (λ _. is_at (codes "KEY"))

key_part_calm : IsCalm rule.key_part
unfolding rule.key_part
key_part_calm = either (at_word (codes "PRIMARY")) _ _ (after _ _ primary_key_calm (λ _. gives true)) (gives false)

key_of_table_calm : IsCalm rule.key_of_table
unfolding rule.key_of_table
key_of_table_calm = after _ _ primary_key_calm (λ _. after _ _ (bracketed_calm _ is_named) (λ n. gives (piece.Primary n)))

column_part_calm : IsCalm rule.column_part
unfolding rule.column_part
column_part_calm = after _ _ is_named (λ n. after _ _ part_kind_calm (λ k. after _ _ null_part_calm (λ required. after _ _ key_part_calm (λ key. gives (piece.Column n k required key)))))

part_calm : IsCalm rule.part
unfolding rule.part
part_calm = either (at_word (codes "PRIMARY")) _ _ key_of_table_calm column_part_calm

no_option_calm : IsCalm rule.no_option
unfolding rule.no_option
no_option_calm = either (next_is (λ l. is_some (word_in l))) _ _ (refuses_fixed (codes "table option") refl) (gives tt)

create_table_calm : IsCalm rule.create_table
unfolding rule.create_table
create_table_calm = after _ _ (is_at (codes "TABLE")) (λ _. after _ _ table_calm (λ t. after _ _ (bracketed_calm _ (listed_calm _ part_calm)) (λ parts. after _ _ no_option_calm (λ _. gives (statement.CreateTable t parts)))))

fixed_any : {A : Type 0} (w : List ℕ) → nat_le (length w) 68 ≡ true → IsCalm (refuse_any {A = A} w)
fixed_any w few = refuses_any w (grind (arith, nat_tests))

create_calm : IsCalm rule.create
unfolding rule.create
create_calm =
    after _ _ (is_at (codes "CREATE")) (λ _.
    either (at_word (codes "DATABASE")) _ _ (after _ _ (is_at (codes "DATABASE")) (λ _. after _ _ is_named (λ n. gives (statement.CreateDb n))))
    (either (at_word (codes "TABLE")) _ _ create_table_calm (fixed_any (codes "CREATE") refl)))

dropped_calm : IsCalm rule.dropped
unfolding rule.dropped
dropped_calm =
    after _ _ (is_at (codes "DROP")) (λ _.
    either (at_word (codes "DATABASE")) _ _ (after _ _ (is_at (codes "DATABASE")) (λ _. after _ _ is_named (λ n. gives (statement.DropDb n))))
    (either (at_word (codes "TABLE")) _ _ (after _ _ (is_at (codes "TABLE")) (λ _. after _ _ table_calm (λ t. gives (statement.DropTable t)))) (fixed_any (codes "DROP") refl)))

-- ---- the others

use_calm : IsCalm rule.use_database
unfolding rule.use_database
use_calm = after _ _ (is_at (codes "USE")) (λ _. after _ _ is_named (λ n. gives (statement.UseDb n)))

start_calm : IsCalm rule.start_transaction
unfolding rule.start_transaction
start_calm = after _ _ (is_at (codes "START")) (λ _. after _ _ (is_at (codes "TRANSACTION")) (λ _. gives statement.Begin))

simple_calm : (w : Name) (s : Statement) (otherwise : Reader Statement) → IsCalm otherwise → IsCalm (rule.simple w s otherwise)
simple_calm w s otherwise a = either (at_word w) _ _ (after _ _ (is_at w) (λ _. gives s)) a

flush_calm : IsCalm rule.flush
unfolding rule.flush
flush_calm =
    after _ _ (is_at (codes "FLUSH")) (λ _.
    either (at_word (codes "TABLES")) _ _ (after _ _ (is_at (codes "TABLES")) (λ _. gives statement.FlushTables))
    (after _ _ (is_at (codes "QUERY")) (λ _. after _ _ (is_at (codes "CACHE")) (λ _. gives statement.FlushCache))))

reset_calm : IsCalm rule.reset
unfolding rule.reset
reset_calm = after _ _ (is_at (codes "RESET")) (λ _. after _ _ (is_at (codes "QUERY")) (λ _. after _ _ (is_at (codes "CACHE")) (λ _. gives statement.ResetCache)))

show_status_calm : IsCalm rule.show_status
unfolding rule.show_status
show_status_calm = after _ _ (is_at (codes "SHOW")) (λ _. after _ _ (passed_calm (codes "GLOBAL")) (λ _. after _ _ (is_at (codes "STATUS")) (λ _. after _ _ (is_at (codes "LIKE")) (λ _. after _ _ (read (λ l. when (is_pattern l) tt)) (λ _. gives statement.ShowStatus)))))

show_calm : IsCalm rule.show
unfolding rule.show
show_calm = in_place_calm other_show _ (λ u h. fixed_few (at_token u) (codes "SHOW") refl) show_status_calm

set_value_calm : IsCalm rule.set_value
unfolding rule.set_value
set_value_calm =
    either at_number _ _ (after _ _ (read digits_in) (λ n. gives (to.Number n)))
    (either at_words _ _ (after _ _ (read words_in) (λ t. gives (to.Str t)))
    (either (at_word (codes "DEFAULT")) _ _ (after _ _ (is_at (codes "DEFAULT")) (λ _. gives to.Default))
    (after _ _ (read word_in) (λ w. gives (to.Word w)))))

set_variable_calm : (n : Name) → IsCalm (rule.set_variable n)
unfolding rule.set_variable
set_variable_calm n = after _ _ (is_signed (codes "=")) (λ _. after _ _ set_value_calm (λ v. gives (setting.Variable n v)))

setting_calm : (w : Name) → IsCalm (rule.setting_of w)
unfolding rule.setting_of
setting_calm w =
    either (at_sign (codes "=")) _ _ (set_variable_calm w)
    (chosen (same_word w (codes "NAMES")) _ _ (after _ _ (read word_in) (λ n. gives (setting.Names n)))
    (chosen (same_word w (codes "SESSION")) _ _ (after _ _ (read word_in) (λ n. set_variable_calm n))
    (chosen (same_word w (codes "GLOBAL")) _ _ (fixed_any (codes "SET GLOBAL") refl)
    (chosen (same_word w (codes "TRANSACTION")) _ _ (fixed_any (codes "SET TRANSACTION") refl) stops))))

no_second_calm : IsCalm rule.no_second
unfolding rule.no_second
no_second_calm = either (at_sign (codes ",")) _ _ (refuses_fixed (codes "SET") refl) (gives tt)

set_calm : IsCalm rule.set
unfolding rule.set
set_calm = after _ _ (is_at (codes "SET")) (λ _. after _ _ (after _ _ (read word_in) (λ w. setting_calm w)) (λ s. after _ _ no_second_calm (λ _. gives (statement.Set s))))

one_word_calm : IsCalm rule.one_word
unfolding rule.one_word
one_word_calm = simple_calm (codes "BEGIN") statement.Begin _ (simple_calm (codes "COMMIT") statement.Commit _ (simple_calm (codes "ROLLBACK") statement.Rollback _ stops))

other_statement_calm : IsCalm rule.other_statement
unfolding rule.other_statement
other_statement_calm =
    either (at_word (codes "USE")) _ _ use_calm
    (either (at_word (codes "START")) _ _ start_calm
    (either (at_word (codes "FLUSH")) _ _ flush_calm
    (either (at_word (codes "RESET")) _ _ reset_calm
    (either (at_word (codes "SHOW")) _ _ show_calm
    (either (at_word (codes "SET")) _ _ set_calm one_word_calm)))))

any_statement_calm : IsCalm rule.any_statement
unfolding rule.any_statement
any_statement_calm =
    either (at_word (codes "SELECT")) _ _ select_calm
    (either (at_word (codes "INSERT")) _ _ insert_calm
    (either (at_word (codes "UPDATE")) _ _ update_calm
    (either (at_word (codes "DELETE")) _ _ delete_calm
    (either (at_word (codes "TRUNCATE")) _ _ truncate_calm
    (either (at_word (codes "CREATE")) _ _ create_calm
    (either (at_word (codes "DROP")) _ _ dropped_calm other_statement_calm))))))

-- ---- the whole

at_end_calm : IsCalm rule.at_end
unfolding rule.at_end
at_end_calm = either at_token _ _ stops look_calm

whole_calm : IsCalm rule.whole
unfolding rule.whole
whole_calm = after _ _ any_statement_calm (λ s. after _ _ at_end_calm (λ _. gives s))

unsupported_few : (in_select : Bool) (ts : List Token) → AreShort ts → IsFew (rule.unsupported_first in_select ts)
unsupported_few in_select [] h = tt
unsupported_few in_select (t ∷ ts) h = by t.what h.0
  where
    word_few : (b c : Bool) (w : Name) → length w ≤ 64 → IsFew (cond b (Some (in_capitals w)) (when c (codes "LOCK TABLES")))
    word_few true c w short = capitals_short w short
    word_few false c w short = fixed_few c (codes "LOCK TABLES") refl

    by : (l : Lexeme) → IsShort l → IsFew (rule.unsupported_lexeme in_select l ts)
    by (Word w) short = word_few (is_unsupported w || (in_select && same_word w (codes "INTO"))) (same_word w (codes "LOCK") && token_is (is_word (codes "TABLES")) ts) w short
    by (Quoted w) short = tt
    by (Words w) short = tt
    by (Digits w) short = tt
    by (Sign w) short = tt

text_gave : (u : Unread) → AreShort u.tokens → Gave (rule.any_text u)
unfolding rule.any_text
text_gave u h = (in_place_calm (unsupported_at (at_word (codes "SELECT") u)) rule.whole (λ v g. unsupported_few (at_word (codes "SELECT") u) v.tokens g) whole_calm).calm u h

lexer_told : (fault : LexFault) → IsTold (of_lexer fault)
lexer_told (BadByte at) = tt
lexer_told (OpenQuote at) = tt
lexer_told (OpenComment at) = tt
lexer_told (NumberTooLarge at) = tt
lexer_told (TextTooLong at) = tt
lexer_told (LongName at) = tt
lexer_told (Executable at) = omega arith

end_told : (at : ℕ) (fault : Option LexFault) → IsTold (rule.end_fault at fault)
end_told at None = tt
end_told at (Some fault) = lexer_told fault

before_told : (bytes : ℕ) (ts : List Token) (fault : Option LexFault) → IsTold (rule.fault_before bytes ts fault)
before_told bytes [] fault = end_told bytes fault
before_told bytes (t ∷ ts) fault = tt

stop_told : (bytes : ℕ) (why : Stop) → StopsTold why → IsTold (rule.fault_of bytes why)
stop_told bytes (Before u) h = before_told bytes u.tokens u.fault
stop_told bytes (Refused fault) h = h

result_told : (bytes : ℕ) (x : Result (Statement × Unread) Stop) (fault : ParseFault) → Gave x → rule.statement_of bytes x ≡ Err fault → IsTold fault
result_told bytes (Ok x) fault h e = absurd cc
result_told bytes (Err why) fault h e = let same : rule.fault_of bytes why ≡ fault = cc in subst IsTold same (stop_told bytes why h)

pub is_told : (text : List ℕ) (ansi : Bool) (fault : ParseFault) → rule.meaning text ansi ≡ Err fault → IsTold fault
unfolding rule.meaning
is_told text ansi fault e = result_told (length text) (rule.any_text (rule.from_front text (lexed text ansi))) fault (text_gave _ (lexed_short text ansi)) e
