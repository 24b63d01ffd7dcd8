-- The tokens of a text are short.
use Rattle.std.proofs.Common.{◌≡◌, ℕ, zero, suc, ◌+◌, Bool, true, false, cond, List, [], ◌∷◌, length, refl, arith, Option, Some, None}
use Rattle.std.specs.Prelude.{codes, nat_le, nat_lt, take, drop, take_while, bytes_eq, ◌==◌, ◌&&◌, ◌||◌, ◌^◌}
use Rattle.std.specs.List.{list_any}
use Rattle.std.proofs.lemmas.Bool.{and_from}
use Rattle.std.proofs.lemmas.Bool.Decides.{nat_tests}
use Rattle.qc_sql.specs.Tokens.{Lexeme, Word, Quoted, Words, Digits, Sign, BadByte, NumberTooLarge, TextTooLong, LongName, Executable, Front, Ends, Skips, Gives, Faults, Content, Lexed, front, comment, name_token, text_token, word_token, number_token, goes_on, goes_on_word, lexed_from, lexed, is_space, is_digit, is_dashed, line_bytes, comment_bytes, begins_word, quoted, quoted_text, number_from, two_signs}
use Rattle.qc_laws.specs.sizes.Names.{is_short_lexeme, are_short_tokens}
use Rattle.qc_laws.specs.sizes.Laws.{TokensAreShort}

abbrev ShortFront : Front → Type 0
ShortFront (Gives k what) = is_short_lexeme what ≡ true
ShortFront _ = Unit {0}

one_front : (b : Bool) (x y : Front) → ShortFront x → ShortFront y → ShortFront (cond b x y)
one_front true x y p q = p
one_front false x y p q = q

comment_short : (n : Option ℕ) → ShortFront (comment n)
comment_short None = tt
comment_short (Some n) = tt

-- what isn't too long has at most so many bytes
within : (most : ℕ) (bytes : List ℕ) (k : ℕ) (fault : Front) (what : Lexeme) → ShortFront fault → is_short_lexeme what ≡ nat_le (length bytes) most
    → ShortFront (cond (nat_lt most (length bytes)) fault (Gives k what))
within most bytes k fault what h e = by (nat_lt most (length bytes)) refl
  where
    by : (b : Bool) → nat_lt most (length bytes) ≡ b → ShortFront (cond b fault (Gives k what))
    by true q = h
    by false q = let small : nat_le (length bytes) most ≡ true = grind (arith, nat_tests) in cc

word_short : (w : List ℕ) → ShortFront (word_token w)
word_short w = within 64 w (length w) (Faults LongName) (Word w) tt refl

name_short : (c : Content) → ShortFront (name_token c)
name_short None = tt
name_short (Some c) = one_front (length c.1 == 0) (Faults BadByte) _ tt (within 64 c.1 (c.0 + 1) (Faults LongName) (Quoted c.1) tt refl)

text_short : (c : Content) → ShortFront (text_token c)
text_short None = tt
text_short (Some c) = within 65535 c.1 (c.0 + 1) (Faults TextTooLong) (Words c.1) tt refl

number_short : (digits : List ℕ) → ShortFront (number_token digits)
number_short digits = one_front (nat_lt (number_from 0 digits) (2 ^ 64)) (Gives (length digits) (Digits (number_from 0 digits))) (Faults NumberTooLarge) refl tt

front_short : (ansi : Bool) (text : List ℕ) → ShortFront (front ansi text)
front_short ansi [] = tt
front_short ansi (b ∷ rest) =
    let t : List ℕ = b ∷ rest in
    one_front (is_space b) (Skips 1) _ tt
    (one_front (b == 35 || is_dashed t) (Skips (line_bytes t)) _ tt
    (one_front (bytes_eq (take 3 t) (codes "/*!")) (Faults Executable) _ tt
    (one_front (bytes_eq (take 2 t) (codes "/*")) _ _ (comment_short (comment_bytes (drop 1 rest)))
    (one_front (begins_word b) _ _ (word_short (take_while goes_on_word t))
    (one_front (b == 96 || (ansi && b == 34)) _ _ (name_short (quoted b rest))
    (one_front (b == 39 || b == 34) _ _ (text_short (quoted_text b rest))
    (one_front (is_digit b) _ _ (number_short (take_while is_digit t))
    (one_front (list_any (bytes_eq (take 2 t)) two_signs) (Gives 2 (Sign (take 2 t))) _ refl
    (one_front (list_any (λ s. bytes_eq (take 1 t) (s ∷ [])) (codes "(),.;*=<>+-/")) (Gives 1 (Sign (take 1 t))) (Faults BadByte) refl tt)))))))))

go_short : (f : Front) (at : ℕ) (later : ℕ → Lexed) → ShortFront f → ((k : ℕ) → are_short_tokens (later k).0 ≡ true) → are_short_tokens (goes_on f at later).0 ≡ true
go_short Ends at later h k = refl
go_short (Skips n) at later h k = k n
go_short (Gives n what) at later h k = and_from (is_short_lexeme what) (are_short_tokens (later n).0) h (k n)
go_short (Faults fault) at later h k = refl

all_short : (n : ℕ) (ansi : Bool) (at : ℕ) (text : List ℕ) → are_short_tokens (lexed_from n ansi at text).0 ≡ true
all_short zero ansi at text = refl
all_short (suc n) ansi at text = go_short (front ansi text) at _ (front_short ansi text) (λ k. all_short n ansi (at + k) _)

pub tokens_are_short : TokensAreShort
unfolding lexed
tokens_are_short text ansi = all_short (length text + 1) ansi 0 text
