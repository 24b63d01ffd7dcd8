-- Refusals, as the grammar has them.
use Rattle.std.specs.Prelude.{◌≡◌, ℕ, List, Option, Some, None}
use Rattle.qc_types.specs.declared.memory.Or.{Or}
use Rattle.qc_types.specs.declared.memory.Or.TheVariants as or
use Rattle.qc_lex.specs.declared.token.LexRefusal.{LexRefusal}
use Rattle.qc_lex.specs.Ahead.{fault}
use Rattle.qc_sql.specs.Reading.{Unread, ParseFault, Syntax, Unsupported, TooManyTables, of_lexer}
use Rattle.qc_sql.specs.Grammar.{fault_of}
use Rattle.qc_parse.specs.declared.halt.Halt.{Halt}
use Rattle.qc_parse.specs.declared.halt.Halt.TheVariants as halt
use Rattle.qc_parse.specs.declared.refusal.ParseRefusal.{ParseRefusal}
use Rattle.qc_parse.specs.declared.refusal.ParseRefusal.TheVariants as refusal
use Rattle.qc_parse.specs.Cursors.{stopped}

abbrev pub as_meant : ParseRefusal → ParseFault
as_meant (refusal.Syntax at) = Syntax at
as_meant (refusal.Unsupported what) = Unsupported what
as_meant refusal.TooManyTables = TooManyTables

-- a word that isn't supported, where there is one
abbrev pub halt_of : Option (List ℕ) → Halt
halt_of None = halt.Unexpected
halt_of (Some what) = halt.Unsupported what

-- this halt, unless memory lacks
abbrev pub SaysWord : Option (List ℕ) → Or Halt → Type 0
SaysWord word or.Memory = Unit {0}
SaysWord word (or.Other why) = why ≡ halt_of word

-- this fault, unless memory lacks
abbrev pub SaysIt : ParseFault → Or ParseRefusal → Type 0
SaysIt fault or.Memory = Unit {0}
SaysIt fault (or.Other why) = as_meant why ≡ fault

abbrev pub SaysOfLexer : LexRefusal → Or ParseRefusal → Type 0
SaysOfLexer r said = SaysIt (of_lexer (fault r)) said

abbrev pub SaysFault : ℕ → Halt → Unread → Or ParseRefusal → Type 0
SaysFault bytes why u said = SaysIt (fault_of bytes (stopped why u)) said
