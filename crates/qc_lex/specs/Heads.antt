-- The words in front of a text.
use Rattle.std.specs.Prelude.{ℕ, false, List, ◌∷◌, Option, Some, None}
use Rattle.qc_sql.specs.Database.{Name}
use Rattle.qc_sql.specs.Tokens.{Lexeme, Word, lexed, lexemes}

abbrev pub lexemes_in : List ℕ → List Lexeme
lexemes_in text = lexemes (lexed text false).0

-- the first of these, where it is a word
abbrev pub leading : List Lexeme → Option Name
leading (Word w ∷ ls) = Some w
leading ls = None
