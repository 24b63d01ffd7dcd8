-- Tokens one after another, each with its bytes.
use Rattle.std.specs.Prelude.{◌≡◌, ℕ, ◌+◌, ◌-◌, ◌≤◌, Bool, true, false, List, [], length, take, drop, Some, None, unwrap_or}
use Rattle.qc_sql.specs.Tokens.{Word, Quoted, Words, Digits, Sign, LexFault, BadByte, OpenQuote, OpenComment, NumberTooLarge, TextTooLong, LongName, Executable, Lexed, with_token, lexed_from, number_from}
use Rattle.qc_sql.specs.Tokens as meaning
use Rattle.qc_lex.specs.declared.token.TokenKind.{TokenKind}
use Rattle.qc_lex.specs.declared.token.TokenKind.TheVariants as kind
use Rattle.qc_lex.specs.declared.token.LexRefusal.{LexRefusal}
use Rattle.qc_lex.specs.declared.token.LexRefusal.TheVariants as refusal
use Rattle.qc_lex.specs.declared.ahead.Lexeme.{Lexeme}
use Rattle.qc_lex.specs.declared.ahead.Lexeme.TheVariants as lexeme
use Rattle.qc_lex.specs.declared.ahead.Ahead.{Ahead}
use Rattle.qc_lex.specs.declared.ahead.Ahead.TheVariants as ahead
use Rattle.qc_lex.specs.declared.place.Lexer.{Lexer}
use Rattle.qc_lex.specs.Fronts.{below_2_to_64}
use Rattle.qc_lex.specs.Pieces.{inside}

-- the name between quotes
abbrev pub quoted_name : List ℕ → List ℕ
quoted_name bytes = unwrap_or (inside false bytes) []

-- the text between quotes
abbrev pub quoted_text : List ℕ → List ℕ
quoted_text bytes = unwrap_or (inside true bytes) []

-- what a token of a kind says by its bytes
abbrev pub lexeme_of : TokenKind → List ℕ → meaning.Lexeme
lexeme_of kind.Word bytes = Word bytes
lexeme_of kind.QuotedName bytes = Quoted (quoted_name bytes)
lexeme_of kind.Text bytes = Words (quoted_text bytes)
lexeme_of kind.Number bytes = Digits (unwrap_or (below_2_to_64 (number_from 0 bytes)) 0)
lexeme_of kind.Sign bytes = Sign bytes

-- what a token says
abbrev pub said : Lexeme → meaning.Lexeme
said (lexeme.Word bytes) = Word bytes.now
said (lexeme.QuotedName bytes) = Quoted (quoted_name bytes.now)
said (lexeme.Text bytes) = Words (quoted_text bytes.now)
said (lexeme.Number n) = Digits n
said (lexeme.Sign bytes) = Sign bytes.now

abbrev pub fault : LexRefusal → LexFault
fault (refusal.BadByte at) = BadByte at
fault (refusal.OpenQuote at) = OpenQuote at
fault (refusal.OpenComment at) = OpenComment at
fault (refusal.NumberTooLarge at) = NumberTooLarge at
fault (refusal.TextTooLong at) = TextTooLong at
fault (refusal.LongName at) = LongName at
fault (refusal.Executable at) = Executable at

-- the tokens that a lexer has left, and the fault at which they end
abbrev pub left : Lexer → Lexed
left l = lexed_from (length l.rest.now + 1) l.ansi l.at l.rest.now

-- what stands next, and all that is left behind it
abbrev pub with_ahead : Ahead → Lexed → Lexed
with_ahead (ahead.Token what from to) later = with_token (record { what = said what; from = from; to = to }) later
with_ahead ahead.End later = ([], None)
with_ahead (ahead.Refused r) later = ([], Some (fault r))

-- the bytes that a token borrows are these
abbrev pub Borrows : Lexeme → List ℕ → Type 0
Borrows (lexeme.Word borrowed) bytes = borrowed.now ≡ bytes
Borrows (lexeme.QuotedName borrowed) bytes = borrowed.now ≡ bytes
Borrows (lexeme.Text borrowed) bytes = borrowed.now ≡ bytes
Borrows (lexeme.Number n) bytes = Unit {0}
Borrows (lexeme.Sign borrowed) bytes = borrowed.now ≡ bytes

-- a token that stands next borrows the bytes of its span, which is not in front of the lexer
abbrev pub HasBytes : Ahead → Lexer → Type 0
HasBytes (ahead.Token what from to) l = (l.at ≤ from) × Borrows what (take (to - from) (drop (from - l.at) l.rest.now))
HasBytes _ l = Unit {0}

-- at the front of a text, with ANSI quotes on or off
abbrev pub IsAtFront : List ℕ → Bool → Lexer → Type 0
IsAtFront text ansi l = (l.ansi ≡ ansi) × (l.at ≡ 0) × (l.rest.now ≡ text)

-- the lexer goes behind the token that it takes, and stays where it is where it takes none
abbrev pub GoesBehind : Ahead → Lexer → Lexer → Type 0
GoesBehind (ahead.Token what from to) old new = (new.ansi ≡ old.ansi) × (new.at ≡ to) × (new.rest.now ≡ drop (to - old.at) old.rest.now)
GoesBehind ahead.End old new = new ≡ old
GoesBehind (ahead.Refused r) old new = new ≡ old
