-- A command whose line in the log says that the cache answered it has moved no step.
use Rattle.std.proofs.Common.{◌≡◌, ℕ, ◌-◌, Option, Some, None, List, [], ◌∷◌, ◌++◌, length, ap, refl, sym, ◌∙◌, arith}
use Rattle.std.specs.List.{slice_get}
use Rattle.std.proofs.lemmas.List.{length-append}
use Rattle.qc_sql.specs.declared.commands.Command.{Command}
use Rattle.qc_model.specs.declared.events.Event.{Event}
use Rattle.qc_model.specs.declared.reports.Word.TheVariants as word
use Rattle.qc_turn.specs.declared.turn.Turn.{Turn}
use Rattle.qc_core.specs.declared.server_state.ServerState.{ServerState}
use Rattle.qc_serve.specs.declared.log.Logged.{Logged}
use Rattle.qc_serve.specs.declared.session.Session.{Session}
use Rattle.qc_serve.specs.declared.sinks.Piece.{Piece}
use Rattle.qc_serve.specs.Executed.{IsReplied}
use Rattle.qc_serve.specs.Logs.{logged_line}

at_end : {A : Type 0} (xs : List A) (x : A) → slice_get (xs ++ x ∷ []) (length xs) ≡ Some x
at_end [] x = refl
at_end (y ∷ xs) x = at_end xs x

last_of : {A : Type 0} (xs : List A) (x : A) → slice_get (xs ++ x ∷ []) (length (xs ++ x ∷ []) - 1) ≡ Some x
last_of xs x =
    let n : length (xs ++ x ∷ []) - 1 ≡ length xs = omega (arith, length-append xs (x ∷ [])) in
    ap (λ k. slice_get (xs ++ x ∷ []) k) n ∙ at_end xs x

some_same : {A : Type 0} (x y : A) → Some x ≡ Some y → x ≡ y
some_same {A = A} x y e = ap (λ (o : Option A). if_some o x) e
  where
    if_some : Option A → A → A
    if_some None d = d
    if_some (Some z) d = z

-- the last line says it, which is the command's
pub no_step : (t : Turn ServerState Event) (c : Command) (old new : Session) (held out : Option (List Piece)) (before after : ℕ) (ls : List Logged) (last : Logged)
    → IsReplied t c old new held out
    → ((line : Logged) → new.log.lines ≡ old.log.lines ++ line ∷ [] → line.how ≡ word.Hit → after ≡ before)
    → ls ≡ new.log.lines
    → Some last ≡ slice_get ls (length ls - 1)
    → last.how ≡ word.Hit → after ≡ before
no_step t c old new held out before after ls last replied hits there is hit =
    let lines = replied.does.lines in
    let x = logged_line replied.does.answered in
    let same : last ≡ x = some_same last x (is ∙ (ap (λ l. slice_get l (length l - 1)) (there ∙ lines) ∙ last_of old.log.lines x)) in
    hits x lines (ap (λ (l : Logged). l.how) (sym same) ∙ hit)
