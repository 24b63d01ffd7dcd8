-- What a line that was read means.
use Rattle.std.specs.Prelude.{Option, Some, IsTrue}
use Rattle.qc_wire.specs.Commands.{can_be_read}
use Rattle.qc_script.specs.declared.lines.Line.{Line}
use Rattle.qc_script.specs.declared.lines.Line.TheVariants as read
use Rattle.qc_model.specs.ScriptLines.{Line as Meant, Prepares, Opens, Sends, Puts, Skips}

abbrev pub meant : Line → Meant
meant read.Prepares = Prepares
meant (read.Opens digits) = Opens digits.now
meant (read.Sends command) = Sends command
meant (read.Puts bytes) = Puts bytes.items
meant read.Skips = Skips

-- a command that a line sends is one that a read can give
abbrev pub SendsReadable : Option Line → Type 0
SendsReadable (Some (read.Sends command)) = IsTrue (can_be_read command)
SendsReadable _ = Unit {0}
