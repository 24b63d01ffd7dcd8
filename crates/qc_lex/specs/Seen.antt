-- Tokens as their kinds and spans, and faults as refusals.
use Rattle.std.specs.Prelude.{ℕ, Bool, List, map, Result, Ok, Err}
use Rattle.qc_sql.specs.Tokens.{Lexeme, Word, Quoted, Words, Digits, Sign, LexFault, BadByte, OpenQuote, OpenComment, NumberTooLarge, TextTooLong, LongName, Executable, tokens}
use Rattle.qc_sql.specs.Tokens as meaning
use Rattle.qc_lex.specs.declared.token.TokenKind.{TokenKind}
use Rattle.qc_lex.specs.declared.token.TokenKind.TheVariants as kind
use Rattle.qc_lex.specs.declared.token.Token.{Token}
use Rattle.qc_lex.specs.declared.token.LexRefusal.{LexRefusal}
use Rattle.qc_lex.specs.declared.token.LexRefusal.TheVariants as refusal

abbrev pub kind_of : Lexeme → TokenKind
kind_of (Word bytes) = kind.Word
kind_of (Quoted bytes) = kind.QuotedName
kind_of (Words bytes) = kind.Text
kind_of (Digits value) = kind.Number
kind_of (Sign bytes) = kind.Sign

abbrev pub token_of : meaning.Token → Token
token_of t = record { kind = kind_of t.what; from = t.from; to = t.to }

abbrev pub refusal_of : LexFault → LexRefusal
refusal_of (BadByte at) = refusal.BadByte at
refusal_of (OpenQuote at) = refusal.OpenQuote at
refusal_of (OpenComment at) = refusal.OpenComment at
refusal_of (NumberTooLarge at) = refusal.NumberTooLarge at
refusal_of (TextTooLong at) = refusal.TextTooLong at
refusal_of (LongName at) = refusal.LongName at
refusal_of (Executable at) = refusal.Executable at

abbrev pub seen : Result (List meaning.Token) LexFault → Result (List Token) LexRefusal
seen (Ok ts) = Ok (map token_of ts)
seen (Err fault) = Err (refusal_of fault)

-- the tokens of a text, each as its kind and span, or the first refusal
abbrev pub meant : List ℕ → Bool → Result (List Token) LexRefusal
meant text ansi = seen (tokens text ansi)
