-- An input is cut from its front.
use Rattle.std.proofs.Common.{◌≡◌, ℕ, zero, suc, ◌+◌, ◌-◌, ◌≤◌, List, [], ◌∷◌, ◌++◌, length, Option, refl, sym, ap, ◌∙◌, arith, append-nil, append_assoc, length-drop}
use Rattle.qc_sql.specs.declared.commands.Command.{Command}
use Rattle.qc_sql.specs.declared.commands.Command.TheVariants as command
use Rattle.qc_sql.specs.declared.commands.CommandEnd.{CommandEnd}
use Rattle.qc_model.specs.declared.reports.Ending.TheVariants as ending
use Rattle.qc_sql.specs.Commands.{command_of, command_end, length_at, payload_at, behind_packet}
use Rattle.qc_model.specs.Agrees.{Commands, commands_of, cut_commands, then_commands, unless_ended}
use Rattle.qc_laws.specs.runs.Cuts.{CutsOne, CutsNone, TakesMore, TakesOne, TakesAll}

-- one step, where the rest is cut to this
abbrev step : List ℕ → Commands → Commands
step bytes later = unless_ended (command_end bytes) (then_commands (command_of (payload_at bytes)) later)

none_cut : (n : ℕ) (bytes : List ℕ) → length bytes ≤ 0 → cut_commands n bytes ≡ ([], ending.Input)
none_cut zero bytes h = refl
none_cut (suc n) [] h = refl
none_cut (suc n) (b ∷ bytes) h = absurd (omega arith)

enough : (n k : ℕ) (bytes : List ℕ) → length bytes ≤ n → length bytes ≤ k → cut_commands n bytes ≡ cut_commands k bytes
enough zero k bytes h g = sym (none_cut k bytes h)
enough (suc n) zero bytes h g = none_cut (suc n) bytes g
enough (suc n) (suc k) bytes h g =
    let d = length-drop (4 + length_at bytes) bytes in
    ap (step bytes) (enough n k (behind_packet bytes) (omega (arith, d, h)) (omega (arith, d, g)))

-- the commands are one step, and those behind it
cut_first : (bytes : List ℕ) → commands_of bytes ≡ step bytes (commands_of (behind_packet bytes))
cut_first [] = refl
cut_first (b ∷ bytes) =
    let all : List ℕ = b ∷ bytes in
    let d : length (behind_packet all) ≡ length all - (4 + length_at all) = length-drop (4 + length_at all) all in
    ap (step all) (enough (length bytes) (length (behind_packet all)) (behind_packet all) (omega (arith, d)) (omega arith))

pub cuts_one : CutsOne
cuts_one bytes h = cut_first bytes ∙ ap (λ (o : Option CommandEnd). unless_ended o (then_commands (command_of (payload_at bytes)) (commands_of (behind_packet bytes)))) h

pub cuts_none : CutsNone
cuts_none bytes e h = cut_first bytes ∙ ap (λ (o : Option CommandEnd). unless_ended o (then_commands (command_of (payload_at bytes)) (commands_of (behind_packet bytes)))) h

pub takes_more : TakesMore
takes_more bytes left rest cs ds h g = h ∙ ap (λ (x : Commands). (cs ++ x.0, x.1)) g ∙ ap (λ (l : List Command). (l, (commands_of rest).1)) (sym (append_assoc cs ds (commands_of rest).0))

not_quit : (c : Command) (later : Commands) → (c ≡ command.Quit → ⊥) → then_commands c later ≡ (c ∷ later.0, later.1)
not_quit command.Quit later h = absurd (h refl)
not_quit (command.InitDb name) later h = refl
not_quit (command.Query text) later h = refl
not_quit command.Ping later h = refl
not_quit command.Empty later h = refl
not_quit (command.Unknown byte) later h = refl

pub takes_one : TakesOne
takes_one bytes c h is ne = cuts_one bytes h ∙ (ap (λ (x : Command). then_commands x (commands_of (behind_packet bytes))) is ∙ not_quit c (commands_of (behind_packet bytes)) ne)

pub takes_all : TakesAll
takes_all bytes left cs e h g = h ∙ (ap (λ (x : Commands). (cs ++ x.0, x.1)) g ∙ ap (λ (l : List Command). (l, e)) (append-nil cs))
