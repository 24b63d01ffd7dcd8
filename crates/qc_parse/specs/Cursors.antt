-- Where a cursor stands, and what the calls that read from it answer.
use Rattle.std.specs.Prelude.{◌≡◌, ℕ, List, [], ◌∷◌, Result, Ok, Err}
use Rattle.qc_types.specs.declared.memory.NoMemory.{NoMemory}
use Rattle.qc_types.specs.declared.memory.Or.{Or}
use Rattle.qc_types.specs.declared.memory.Or.TheVariants as or
use Rattle.qc_sql.specs.Tokens.{Token}
use Rattle.qc_sql.specs.Reading.{Unread, past, Stop, Before, Refused, Unsupported, TooManyTables}
use Rattle.qc_lex.specs.Ahead.{left, with_ahead}
use Rattle.qc_parse.specs.declared.cursor.Cursor.{Cursor}
use Rattle.qc_parse.specs.declared.halt.Halt.{Halt}
use Rattle.qc_parse.specs.declared.halt.Halt.TheVariants as halt

abbrev pub unread : Cursor → Unread
unread c = let all = with_ahead c.ahead (left c.lexer) in record { text = c.text.now; behind = c.behind; tokens = all.0; fault = all.1 }

-- behind the next token
abbrev pub beyond_first : Unread → List Token → Unread
beyond_first u [] = u
beyond_first u (t ∷ ts) = past u t ts

abbrev pub beyond : Unread → Unread
beyond u = beyond_first u u.tokens

-- why a reader stops, which stands here
abbrev pub stopped : Halt → Unread → Stop
stopped halt.Unexpected u = Before u
stopped (halt.Unsupported what) u = Refused (Unsupported what)
stopped halt.TooManyTables u = Refused TooManyTables

-- this halt, unless memory lacks
abbrev pub Says : Or Halt → Halt → Type 0
Says or.Memory why = Unit {0}
Says (or.Other said) why = said ≡ why

-- what has this name isn't supported, unless memory lacked for it
abbrev pub SaysNamed : Result (List ℕ) NoMemory → Or Halt → Type 0
SaysNamed (Ok what) said = said ≡ or.Other (halt.Unsupported what)
SaysNamed (Err e) said = said ≡ or.Memory

-- a call that needs no memory gives, seen by a view, what the reader gives, and stands where the reader stands; or it stops as the reader does
abbrev pub Takes : {X Y : Type 0} → (X → Y) → Result X Halt → Unread → Result (Y × Unread) Stop → Type 0
Takes view (Ok x) u read = read ≡ Ok (view x, u)
Takes view (Err why) u read = read ≡ Err (stopped why u)

-- the same, unless memory lacks
abbrev pub Reads : {X Y : Type 0} → (X → Y) → Result X (Or Halt) → Unread → Result (Y × Unread) Stop → Type 0
Reads view (Ok x) u read = read ≡ Ok (view x, u)
Reads view (Err or.Memory) u read = Unit {0}
Reads view (Err (or.Other why)) u read = read ≡ Err (stopped why u)

-- what was read before, beside what is read now
abbrev pub beside : {A B E : Type 0} → A → Result B E → Result (A × B) E
beside x (Ok y) = Ok (x, y)
beside x (Err e) = Err e
