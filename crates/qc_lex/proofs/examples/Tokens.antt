-- Where tokens stand, and what their bytes mean.
use Rattle.std.proofs.Common.{◌≡◌, ℕ, List, [], ◌∷◌, refl, true, false, Ok, Err, arith, ap}
use Rattle.std.specs.Prelude.{codes, Some, None}
use Rattle.qc_sql.specs.Tokens.{Word, Quoted, Words, Digits, Sign, Token, lexed, OpenQuote, trimmed}
use Rattle.qc_lex.specs.declared.token.TokenKind.TheVariants as kind
use Rattle.qc_lex.specs.declared.token.LexRefusal.TheVariants as refusal
use Rattle.qc_lex.specs.Laws.{Rise, Means, AllMean}
use Rattle.qc_lex.specs.Seen.{kind_of, refusal_of, meant}
use Rattle.qc_lex.specs.Pieces.{inside}
use Rattle.qc_lex.specs.Fronts.{below_2_to_64}

-- the tokens of: x = 'a'
abbrev three : List Token
three = record { what = Word (codes "x"); from = 0; to = 1 } ∷ record { what = Sign (codes "="); from = 2; to = 3 } ∷ record { what = Words (codes "a"); from = 4; to = 7 } ∷ []

they_rise : Rise 0 three 7
they_rise = (omega arith, omega arith, (omega arith, omega arith, (omega arith, omega arith, omega arith)))

-- the text ends too early
end_too_early : Rise 0 (record { what = Word (codes "x"); from = 0; to = 2 } ∷ []) 1 → ⊥
end_too_early h = absurd (omega (arith, h.2))

-- the second begins before the first ends
overlap : Rise 0 (record { what = Word (codes "x"); from = 0; to = 2 } ∷ record { what = Word (codes "y"); from = 1; to = 3 } ∷ []) 3 → ⊥
overlap h = absurd (omega (arith, h.2.0))

-- a token has a byte at least
no_byte : Rise 0 (record { what = Word []; from = 0; to = 0 } ∷ []) 3 → ⊥
no_byte h = absurd (omega (arith, h.1))

none_rise : Rise 4 [] 4
none_rise = omega arith

they_mean : AllMean (codes "x = 'a'") three
they_mean = (refl, (refl, (refl, tt)))

others_mean : AllMean (codes "y = 'a'") three → ⊥
others_mean h = absurd (omega (arith, ap first h.0))
  where
    first : List ℕ → ℕ
    first [] = 0
    first (b ∷ bs) = b

none_mean : AllMean (codes "x") []
none_mean = tt

-- a doubled quote is one
doubled : Means (Quoted (codes "a`b")) (codes "`a``b`")
doubled = refl

-- leading zeros
zeros : Means (Digits 7) (codes "007")
zeros = refl

-- 2^64 - 1 is the largest
largest : below_2_to_64 18446744073709551615 ≡ Some 18446744073709551615
largest = refl

too_large : below_2_to_64 18446744073709551616 ≡ None
too_large = refl

-- a backslash in a name is a byte, and in a text it escapes: here a line's end
in_a_name : inside false (96 ∷ 92 ∷ 110 ∷ 96 ∷ []) ≡ Some (92 ∷ 110 ∷ [])
in_a_name = refl

in_a_text : inside true (39 ∷ 92 ∷ 110 ∷ 39 ∷ []) ≡ Some (10 ∷ [])
in_a_text = refl

-- a percent sign keeps its backslash
kept_backslash : inside true (39 ∷ 92 ∷ 37 ∷ 39 ∷ []) ≡ Some (92 ∷ 37 ∷ [])
kept_backslash = refl

not_closed : inside true (39 ∷ 97 ∷ []) ≡ None
not_closed = refl

kind_of_text : kind_of (Words (codes "a")) ≡ kind.Text
kind_of_text = refl

place_is_kept : refusal_of (OpenQuote 3) ≡ refusal.OpenQuote 3
place_is_kept = refl

tokens_are : meant (codes "a.'x'") false ≡ Ok (record { kind = kind.Word; from = 0; to = 1 } ∷ record { kind = kind.Sign; from = 1; to = 2 } ∷ record { kind = kind.Text; from = 2; to = 5 } ∷ [])
unfolding lexed
tokens_are = refl

-- with ANSI quotes a double quote begins a name
name_in_quotes : meant (codes "\"x\"") true ≡ Ok (record { kind = kind.QuotedName; from = 0; to = 3 } ∷ [])
unfolding lexed
name_in_quotes = refl

no_tokens_are : meant (codes " -- x") false ≡ Ok []
unfolding lexed
no_tokens_are = refl

refused : meant (codes "a ?") false ≡ Err (refusal.BadByte 2)
unfolding lexed
refused = refl

semicolons_go : trimmed (codes "; a;b ; ;") ≡ codes "; a;b"
unfolding trimmed
semicolons_go = refl

nothing_is_left : trimmed (codes " ; ") ≡ []
unfolding trimmed
nothing_is_left = refl
