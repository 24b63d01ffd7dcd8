-- What stands at the front of a text, where of a token only its kind is told.
use Rattle.std.specs.Prelude.{ℕ, ◌^◌, nat_lt, Option, Some, None, if◌then◌else◌}
use Rattle.qc_sql.specs.Tokens.{LexFault, BadByte, OpenQuote, OpenComment, NumberTooLarge, TextTooLong, LongName, Executable}
use Rattle.qc_sql.specs.Tokens as meaning
use Rattle.qc_lex.specs.declared.token.TokenKind.{TokenKind}
use Rattle.qc_lex.specs.declared.front.Front.{Front}
use Rattle.qc_lex.specs.declared.front.Front.TheVariants as front
use Rattle.qc_lex.specs.declared.front.Fault.{Fault}
use Rattle.qc_lex.specs.declared.front.Fault.TheVariants as fault
use Rattle.qc_lex.specs.Seen.{kind_of}

pub data Shown : Type 0 where
  Ends : Shown
  Skips : (bytes : ℕ) → Shown
  Gives : (bytes : ℕ) → (kind : TokenKind) → Shown
  Faults : (fault : ℕ → LexFault) → Shown

abbrev pub shown : meaning.Front → Shown
shown meaning.Ends = Ends
shown (meaning.Skips k) = Skips k
shown (meaning.Gives k what) = Gives k (kind_of what)
shown (meaning.Faults f) = Faults f

abbrev pub fault_of : Fault → ℕ → LexFault
fault_of fault.BadByte = BadByte
fault_of fault.OpenQuote = OpenQuote
fault_of fault.OpenComment = OpenComment
fault_of fault.NumberTooLarge = NumberTooLarge
fault_of fault.TextTooLong = TextTooLong
fault_of fault.LongName = LongName
fault_of fault.Executable = Executable

abbrev pub view : Front → Shown
view front.Ends = Ends
view (front.Skips k) = Skips k
view (front.Gives k kind) = Gives k kind
view (front.Faults f) = Faults (fault_of f)

-- a number that is one of 64 bits
abbrev pub below_2_to_64 : ℕ → Option ℕ
below_2_to_64 n = if nat_lt n (2 ^ 64) then Some n else None
