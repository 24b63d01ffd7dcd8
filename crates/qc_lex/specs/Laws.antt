-- Where tokens stand, and what they mean.
use Rattle.std.specs.Prelude.{◌≡◌, ℕ, ◌-◌, ◌<◌, ◌≤◌, true, false, List, [], ◌∷◌, take, drop, Some}
use Rattle.qc_sql.specs.Tokens.{Lexeme, Word, Quoted, Words, Digits, Sign, Token, number_from}
use Rattle.qc_lex.specs.Fronts.{below_2_to_64}
use Rattle.qc_lex.specs.Pieces.{inside}

-- each token has a byte or more, behind the one before it and before the end
abbrev pub Rise : ℕ → List Token → ℕ → Type 0
Rise from [] end = from ≤ end
Rise from (t ∷ ts) end = (from ≤ t.from) × (t.from < t.to) × Rise t.to ts end

-- what is said of bytes is what they say
abbrev pub Means : Lexeme → List ℕ → Type 0
Means (Word w) bytes = w ≡ bytes
Means (Quoted name) bytes = inside false bytes ≡ Some name
Means (Words text) bytes = inside true bytes ≡ Some text
Means (Digits n) bytes = below_2_to_64 (number_from 0 bytes) ≡ Some n
Means (Sign s) bytes = s ≡ bytes

-- each token is what the bytes of its span mean
abbrev pub AllMean : List ℕ → List Token → Type 0
AllMean text [] = Unit {0}
AllMean text (t ∷ ts) = Means t.what (take (t.to - t.from) (drop t.from text)) × AllMean text ts
