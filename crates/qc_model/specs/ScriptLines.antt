-- The meaning of a script, by its lines: the input of the setup part and of each session, or the first line that is wrong.
use Rattle.std.specs.Prelude.{ℕ, ◌+◌, Bool, true, not, ◌||◌, List, [], ◌∷◌, ◌++◌, length, take, drop, Option, Some, None, is_some, Result, Ok, Err, nat_lt, ◌==◌, bytes_eq, codes, decimal, if◌then◌else◌}
use Rattle.qc_sql.specs.declared.commands.Command.{Command}
use Rattle.qc_sql.specs.declared.commands.Command.TheVariants as command
use Rattle.qc_model.specs.declared.reports.Script.{Script}
use Rattle.qc_model.specs.declared.reports.ScriptRefusal.{ScriptRefusal}
use Rattle.qc_model.specs.declared.reports.ScriptRefusal.TheVariants as refusal
use Rattle.qc_sql.specs.Packets.{packet, most_payload}
use Rattle.qc_sql.specs.Commands.{command_payload}
use Rattle.hex.specs.declared.error.FromHexError.{FromHexError}
use Rattle.hex.specs.Hex.{decode_of}

-- the most bytes of a script
abbrev pub most_script : ℕ
most_script = 67108864

-- ---- lines

-- a byte at the front of the first line
abbrev pub with_byte : ℕ → List (List ℕ) → List (List ℕ)
with_byte b [] = (b ∷ []) ∷ []
with_byte b (l ∷ ls) = (b ∷ l) ∷ ls

-- the lines of a text: each ends with LF, and the last may lack it
abbrev pub lines_of : List ℕ → List (List ℕ)
lines_of [] = []
lines_of (b ∷ bs) = if b == 10 then [] ∷ lines_of bs else with_byte b (lines_of bs)

-- the most sessions of a script
abbrev pub most_sessions : ℕ
most_sessions = 64

-- what a line is for: the commands behind it are the setup part's; they are those of a session, whose number is written so; it is a command itself; it is bytes of the
-- stream as they are; or nothing
pub data Line : Type 0 where
  Prepares : Line
  Opens : (digits : List ℕ) → Line
  Sends : (sent : Command) → Line
  Puts : (bytes : List ℕ) → Line
  Skips : Line

-- what stands behind a first word and its one space
abbrev pub behind : List ℕ → List ℕ → Option (List ℕ)
behind word line = if bytes_eq (take (length word) line) word then Some (drop (length word) line) else None

-- an even number of hexadecimal digits, in either case
abbrev pub puts : Result (List ℕ) FromHexError → Option Line
puts (Ok bytes) = Some (Puts bytes)
puts (Err e) = None

-- a line of a word, a space and what the word takes
abbrev pub word_line : Option (List ℕ) → Option (List ℕ) → Option (List ℕ) → Option (List ℕ) → Option Line
word_line (Some digits) query init raw = Some (Opens digits)
word_line None (Some text) init raw = Some (Sends (command.Query text))
word_line None None (Some name) raw = Some (Sends (command.InitDb name))
word_line None None None (Some digits) = puts (decode_of digits)
word_line None None None None = None

-- an empty line, and a comment
abbrev pub is_skipped : List ℕ → Bool
is_skipped [] = true
is_skipped (b ∷ bs) = b == 35

-- a line of the table of lines, or none
abbrev pub line_of : List ℕ → Option Line
line_of line =
    if is_skipped line then Some Skips
    else if bytes_eq line (codes "setup") then Some Prepares
    else if bytes_eq line (codes "ping") then Some (Sends command.Ping)
    else if bytes_eq line (codes "quit") then Some (Sends command.Quit)
    else word_line (behind (codes "session ") line) (behind (codes "query ") line) (behind (codes "init ") line) (behind (codes "raw ") line)

-- ---- the setup part and the sessions

abbrev pub no_sessions : Script
no_sessions = record { setup = None; sessions = [] }

-- the setup part or a session has begun
abbrev pub has_begun : Script → Bool
has_begun script = is_some script.setup || not (length script.sessions == 0)

-- these bytes at the end of the last session's input
abbrev pub sent_last : List ℕ → List (List ℕ) → List (List ℕ)
sent_last bytes [] = []
sent_last bytes (s ∷ []) = (s ++ bytes) ∷ []
sent_last bytes (s ∷ t ∷ ss) = s ∷ sent_last bytes (t ∷ ss)

-- these bytes at the end of the setup part's input, as long as there is no session
abbrev pub sent_setup : List ℕ → Option (List ℕ) → List (List ℕ) → Option (List ℕ)
sent_setup bytes None sessions = None
sent_setup bytes (Some input) [] = Some (input ++ bytes)
sent_setup bytes (Some input) (s ∷ ss) = Some input

abbrev pub with_setup : Script
with_setup = record { setup = Some []; sessions = [] }

abbrev pub with_session : Script → Script
with_session script = record { setup = script.setup; sessions = script.sessions ++ [] ∷ [] }

abbrev pub with_bytes : Script → List ℕ → Script
with_bytes script bytes = record { setup = sent_setup bytes script.setup script.sessions; sessions = sent_last bytes script.sessions }

-- The setup part is begun once, before every session; the sessions are numbered 1, 2, 3 in order; a command or bytes belong to what was begun last, and a command's packet holds it.
-- What a line makes of a script, by its number:
abbrev pub after_line : ℕ → Script → Option Line → Result Script ScriptRefusal
after_line number script (Some Prepares) = if has_begun script then Err (refusal.BadLine number) else Ok with_setup
after_line number script (Some (Opens digits)) =
    let next = length script.sessions + 1 in
    if not (bytes_eq digits (decimal next)) then Err (refusal.BadLine number) else
    if nat_lt most_sessions next then Err (refusal.TooManySessions number) else
    Ok (with_session script)
after_line number script (Some (Sends c)) =
    if not (has_begun script) then Err (refusal.NoSession number) else
    if nat_lt most_payload (length (command_payload c)) then Err (refusal.BadLine number) else
    Ok (with_bytes script (packet 0 (command_payload c)))
after_line number script (Some (Puts bytes)) = if has_begun script then Ok (with_bytes script bytes) else Err (refusal.NoSession number)
after_line number script (Some Skips) = Ok script
after_line number script None = Err (refusal.BadLine number)

abbrev pub then_lines : Result Script ScriptRefusal → (Script → Result Script ScriptRefusal) → Result Script ScriptRefusal
then_lines (Ok script) f = f script
then_lines (Err r) f = Err r

-- line by line, from the one with this number; the first that is wrong is the answer
abbrev pub after_lines : ℕ → Script → List (List ℕ) → Result Script ScriptRefusal
after_lines number script [] = Ok script
after_lines number script (l ∷ ls) = then_lines (after_line number script (line_of l)) (λ next. after_lines (number + 1) next ls)

-- the script that these bytes mean, or why they mean none
unfoldable pub script_of : List ℕ → Result Script ScriptRefusal
script_of bytes = if nat_lt most_script (length bytes) then Err refusal.InputTooLong else after_lines 1 no_sessions (lines_of bytes)
