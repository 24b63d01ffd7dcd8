-- Worked examples: what goes out, and what is taken of an input.
use Rattle.std.proofs.Common.{◌≡◌, List, ℕ, ◌≤◌, [], ◌∷◌, ◌++◌, arith, length, refl, subst, sym, Some}
use Rattle.std.specs.Prelude.{All}
use Rattle.std.proofs.lemmas.List.Elements.{All-cons, All-head, All-nil}
use Rattle.qc_model.specs.declared.reports.Ending.TheVariants as ending
use Rattle.qc_model.specs.declared.reports.Word.TheVariants as word
use Rattle.qc_model.specs.Agrees.{commands_of}
use Rattle.qc_sql.specs.declared.commands.Command.TheVariants as command
use Rattle.qc_turn.specs.declared.task.Task.TheVariants as task
use Rattle.qc_serve.specs.Logs.{kept_line, logged}
use Rattle.qc_serve.specs.Sent.{AreCut, Sends, SendsFrontOf, bytes_of, packet_size, piece}
use Rattle.qc_serve.specs.declared.sinks.Piece.{Piece}
use Rattle.qc_serve.specs.Served.{TakesOf, replies_of}

-- two packets, each of one byte
abbrev first : List ℕ
first = 1 ∷ 0 ∷ 0 ∷ 1 ∷ 9 ∷ []

abbrev second : List ℕ
second = 1 ∷ 0 ∷ 0 ∷ 2 ∷ 7 ∷ []

pub both : bytes_of (piece first task.Rest ∷ piece second task.Rest ∷ []) ≡ first ++ second
both = refl

-- behind a piece that the sink had
sends_both : Sends (Some (piece (5 ∷ []) task.Rest ∷ [])) (Some (piece (5 ∷ []) task.Rest ∷ piece first task.Rest ∷ piece second task.Rest ∷ [])) (first ++ second)
sends_both = (piece first task.Rest ∷ piece second task.Rest ∷ [], refl, refl)

-- the second put failed after two bytes
sends_front : SendsFrontOf (Some []) (Some (piece first task.Rest ∷ piece (1 ∷ 0 ∷ []) task.Rest ∷ [])) (first ++ second)
sends_front = (piece first task.Rest ∷ piece (1 ∷ 0 ∷ []) task.Rest ∷ [], refl, (0 ∷ 2 ∷ 7 ∷ [], refl))

-- ---- the sizes of pieces

abbrev Sized : Piece → Type 0
Sized p = length p.bytes ≡ packet_size p.bytes

abbrev Few : Piece → Type 0
Few p = length p.bytes ≤ packet_size p.bytes

-- a packet each, or the second one in part
cut_both : AreCut packet_size (piece first task.Rest ∷ piece second task.Rest ∷ [])
cut_both = record { whole = piece first task.Rest ∷ []; last = piece second task.Rest ∷ []; split = refl; one = omega arith; sized = All-cons Sized (piece first task.Rest) [] refl (All-nil Sized); few = All-cons Few (piece second task.Rest) [] (omega arith) (All-nil Few) }

cut_front : AreCut packet_size (piece first task.Rest ∷ piece (1 ∷ 0 ∷ []) task.Rest ∷ [])
cut_front = record { whole = piece first task.Rest ∷ []; last = piece (1 ∷ 0 ∷ []) task.Rest ∷ []; split = refl; one = omega arith; sized = All-cons Sized (piece first task.Rest) [] refl (All-nil Sized); few = All-cons Few (piece (1 ∷ 0 ∷ []) task.Rest) [] (omega arith) (All-nil Few) }

-- two packets in one piece are not
joined_in : (whole last : List Piece) → piece (first ++ second) task.Rest ∷ [] ≡ whole ++ last → All Sized whole → All Few last → ⊥
joined_in [] last is sized few = let one : 10 ≤ 5 = All-head Few (piece (first ++ second) task.Rest) [] (subst (All Few) (sym is) few) in absurd (omega (arith, one))
joined_in (p ∷ whole) last is sized few =
    let same : p ≡ piece (first ++ second) task.Rest = cc in
    let one : 10 ≡ 5 = subst Sized same (All-head Sized p whole sized) in
    absurd (omega (arith, one))

joined : AreCut packet_size (piece (first ++ second) task.Rest ∷ []) → ⊥
joined cut = joined_in cut.whole cut.last cut.split cut.sized cut.few

-- a ping, a quit and a byte behind it
abbrev input : List ℕ
input = 1 ∷ 0 ∷ 0 ∷ 0 ∷ 0x0e ∷ 1 ∷ 0 ∷ 0 ∷ 0 ∷ 1 ∷ 4 ∷ []

its_commands : commands_of input ≡ (command.Ping ∷ [], ending.Quit)
its_commands = refl

takes_ping : TakesOf (Some input) (command.Ping ∷ []) (Some (1 ∷ 0 ∷ 0 ∷ 0 ∷ 1 ∷ 4 ∷ []))
takes_ping = refl

-- the line of a command without event goes, that of one with an event stays
drops : kept_line (logged 3 word.Local) ≡ []
drops = refl

stays : kept_line (logged 3 word.Plain) ≡ logged 3 word.Plain ∷ []
stays = refl

replies : replies_of (record { place = 0; how = word.Local; reply = first } ∷ record { place = 1; how = word.Hit; reply = second } ∷ []) ≡ first ++ second
replies = refl
