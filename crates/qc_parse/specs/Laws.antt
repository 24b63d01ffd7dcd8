-- What the meaning of a text rests on.
use Rattle.std.specs.Prelude.{◌≡◌, ℕ, ◌+◌, ◌≤◌, Bool, List, [], ◌∷◌, ◌++◌, length, take, drop, map, Option, Some, None, Result, Ok, Err, option_map}
use Rattle.qc_sql.specs.declared.statements.Item.{Item}
use Rattle.qc_sql.specs.declared.statements.Statement.{Statement}
use Rattle.qc_sql.specs.declared.statements.Statement.TheVariants as statement
use Rattle.qc_sql.specs.Tokens.{Skips, Gives, front, Lexeme, Token, LexFault, BadByte, OpenQuote, OpenComment, NumberTooLarge, TextTooLong, LongName, Executable, lexed, lexemes}
use Rattle.qc_sql.specs.Reading.{ParseFault, Syntax, Unsupported, TooManyTables}
use Rattle.qc_sql.specs.Grammar.{token_place, meaning}

-- ---- tokens without their places

-- a fault, whatever its place
abbrev pub kind : LexFault → LexFault
kind (BadByte at) = BadByte 0
kind (OpenQuote at) = OpenQuote 0
kind (OpenComment at) = OpenComment 0
kind (NumberTooLarge at) = NumberTooLarge 0
kind (TextTooLong at) = TextTooLong 0
kind (LongName at) = LongName 0
kind (Executable at) = Executable 0

-- two texts have the same tokens, and both end behind them or have a fault of one kind there
abbrev pub SameTokens : Bool → List ℕ → List ℕ → Type 0
SameTokens ansi a b = (lexemes (lexed a ansi).0 ≡ lexemes (lexed b ansi).0) × (option_map kind (lexed a ansi).1 ≡ option_map kind (lexed b ansi).1)

-- ---- places

abbrev pub fault_place : LexFault → ℕ
fault_place (BadByte at) = at
fault_place (OpenQuote at) = at
fault_place (OpenComment at) = at
fault_place (NumberTooLarge at) = at
fault_place (TextTooLong at) = at
fault_place (LongName at) = at
fault_place (Executable at) = at

-- where tokens end
abbrev pub end_place : ℕ → Option LexFault → ℕ
end_place end None = end
end_place end (Some fault) = fault_place fault

-- where a text's i-th token begins, counted from 0; behind the last one, where the fault stands or the text ends
abbrev pub place_of : Bool → List ℕ → ℕ → ℕ
place_of ansi text i = token_place (end_place (length text) (lexed text ansi).1) (drop i (lexed text ansi).0)

-- ---- trees without their spans

abbrev pub without_span : Item → Item
without_span i = record { value = i.value; name = i.name; from = 0; to = 0; words = [] }

abbrev pub without_spans : Statement → Statement
without_spans (statement.Select s) = statement.Select (record s { items = map without_span s.items })
without_spans s = s

-- ---- the same meaning

-- the same tree but for spans, or the same refusal, at the same token where it has a place
abbrev pub SameMeaning : Bool → List ℕ → List ℕ → Result Statement ParseFault → Result Statement ParseFault → Type 0
SameMeaning ansi a b (Ok s) (Ok t) = without_spans s ≡ without_spans t
SameMeaning ansi a b (Err (Syntax at)) (Err (Syntax there)) = (i : ℕ) × (at ≡ place_of ansi a i) × (there ≡ place_of ansi b i)
SameMeaning ansi a b (Err (Unsupported what)) (Err (Unsupported that)) = what ≡ that
SameMeaning ansi a b (Err TooManyTables) (Err TooManyTables) = Unit {0}
SameMeaning ansi a b _ _ = ⊥

abbrev pub TokensDecide : Type 0
TokensDecide = (ansi : Bool) (a b : List ℕ) → SameTokens ansi a b → SameMeaning ansi a b (meaning a ansi) (meaning b ansi)

-- ---- what stands behind a refusal

-- at least n tokens stand in both, and the first n are the same
abbrev pub SameFirst : Bool → List ℕ → List ℕ → ℕ → Type 0
SameFirst ansi a b n =
    (n ≤ length (lexed a ansi).0) × (n ≤ length (lexed b ansi).0) × (take n (lexemes (lexed a ansi).0) ≡ take n (lexemes (lexed b ansi).0))

-- Where a text is refused at a place, some token stands there, or the text or its tokens end there. Where one more stands behind that token, whatever has the same tokens up to these two is refused there.
abbrev pub FirstTokensRefuse : Type 0
FirstTokensRefuse =
    (ansi : Bool) (a : List ℕ) (at : ℕ) → meaning a ansi ≡ Err (Syntax at)
    → (i : ℕ) × (at ≡ place_of ansi a i) × ((b : List ℕ) → SameFirst ansi a b (i + 2) → meaning b ansi ≡ Err (Syntax (place_of ansi b i)))

-- ---- white space and comments

-- Where y stands behind it, x is these tokens, with white space and comments between them.
pub data Lexes (ansi : Bool) (y : List ℕ) : List ℕ → List Lexeme → Type 0 where
  nothing : Lexes ansi y [] []
  skip : (p x : List ℕ) {ls : List Lexeme} → front ansi (p ++ (x ++ y)) ≡ Skips (length p) → Lexes ansi y x ls → Lexes ansi y (p ++ x) ls
  token : (p x : List ℕ) {l : Lexeme} {ls : List Lexeme} → front ansi (p ++ (x ++ y)) ≡ Gives (length p) l → Lexes ansi y x ls → Lexes ansi y (p ++ x) (l ∷ ls)

-- a text x and y, where x is the same tokens in front of y and in front of a gap and y
abbrev pub GapsDoNotMatter : Type 0
GapsDoNotMatter =
    (ansi : Bool) (x gap y : List ℕ) (ls : List Lexeme) → front ansi (gap ++ y) ≡ Skips (length gap) → Lexes ansi (gap ++ y) x ls → Lexes ansi y x ls
    → SameMeaning ansi (x ++ (gap ++ y)) (x ++ y) (meaning (x ++ (gap ++ y)) ansi) (meaning (x ++ y) ansi)
