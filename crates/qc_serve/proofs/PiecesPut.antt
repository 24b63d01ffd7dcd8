-- The pieces of a reply go out while the seat has the task of its event.
use Rattle.std.proofs.Common.{◌≡◌, ℕ, ◌+◌, true, false, List, [], ◌∷◌, ◌++◌, length, take, sym, ap, ◌∙◌, subst, arith, inl, inr, length-append, Option, None, Some, true≢false}
use Rattle.std.specs.Prelude.{MatchOption}
use Rattle.qc_types.specs.declared.names.TableName.{TableName}
use Rattle.qc_types.specs.declared.options.Options.{Options}
use Rattle.qc_types.specs.Streams.{BeginsWith}
use Rattle.qc_sql.specs.declared.commands.Command.{Command}
use Rattle.qc_sql.specs.declared.commands.Command.TheVariants as command
use Rattle.qc_sql.specs.declared.replies.Reply.{Reply}
use Rattle.qc_sql.specs.Grammar.{meaning, trimmed}
use Rattle.qc_model.specs.declared.events.Event.{Event}
use Rattle.qc_model.specs.declared.events.Event.TheVariants as event
use Rattle.qc_model.specs.declared.events.How.TheVariants as how
use Rattle.qc_model.specs.declared.events.Who.{Who}
use Rattle.qc_model.specs.declared.reports.ReportLine.{ReportLine}
use Rattle.qc_model.specs.declared.reports.Word.{Word}
use Rattle.qc_model.specs.declared.reports.Word.TheVariants as word
use Rattle.qc_model.specs.Agrees.{who_of, whole_machine, word_of}
use Rattle.qc_model.specs.Journal.{Journal, before}
use Rattle.qc_model.specs.Licence.{IsLawful}
use Rattle.qc_model.specs.Machine.{Executes, Local}
use Rattle.qc_model.specs.Session.{State}
use Rattle.qc_laws.specs.history.Runs.{is_completed}
use Rattle.qc_laws.specs.runs.Runs.{HasItsEvent, HasNoEvent, own}
use Rattle.qc_statements.proofs.Words.{used_is_other}
use Rattle.qc_turn.specs.declared.seat.Seat.{Seat}
use Rattle.qc_turn.specs.declared.task.Task.TheVariants as task
use Rattle.qc_turn.specs.declared.turn.Turn.{Turn}
use Rattle.qc_turn.specs.Seats.{IsSeatOf, view}
use Rattle.qc_core.specs.contracts.server.ServerKept.TheImpl.{ghosts}
use Rattle.qc_core.specs.declared.server_state.ServerState.{ServerState}
use Rattle.qc_select.specs.declared.selected.Selected.{Selected}
use Rattle.qc_select.specs.declared.selected.Selected.TheVariants as selected
use Rattle.qc_serve.specs.declared.session.Session.{Session}
use Rattle.qc_serve.specs.declared.sinks.Piece.{Piece}
use Rattle.qc_serve.specs.Executed.{AllAt, ArePutBy, AreStreamedBy, GoOutAt, StreamsOut, size_by}
use Rattle.qc_serve.specs.Executed as executed
use Rattle.qc_serve.specs.Filling.{IsGone}
use Rattle.qc_serve.specs.Going.{DoesOne, number_of, position_of, seen_by}
use Rattle.qc_serve.specs.Sent.{Adds, Sends, SendsFrontOf, bytes_of, packet_size}
use Rattle.qc_serve.specs.SentAt.{FillsAt, SendsAs, SendsAt, SendsFrontAs, SendsFrontAt}
use Rattle.qc_serve.proofs.Parsing.{IsOther, other_by, text_other}
use Rattle.qc_serve.proofs.Placing.{event_in}
use Rattle.qc_serve.proofs.Sending.{adds_so, front_plain}
use Rattle.qc_serve.proofs.Unfinished.{gone_undone, not_completed}

-- ---- the one event of a command

last_pair : (xs : List (ℕ × Event)) (x y : ℕ × Event) → xs ++ x ∷ [] ≡ xs ++ y ∷ [] → x ≡ y
last_pair [] x y h = cc
last_pair (z ∷ xs) x y h = let rest : xs ++ x ∷ [] ≡ xs ++ y ∷ [] = cc in last_pair xs x y rest

none_more : {P : Type 0} (xs : List (ℕ × Event)) (x : ℕ × Event) → xs ≡ xs ++ x ∷ [] → P
none_more xs x h = absurd (let long : length xs ≡ length (xs ++ x ∷ []) = ap length h in omega (arith, long, length-append xs (x ∷ [])))

pub put_by : (old new : Session) (n : ℕ) (e : Event) (pieces : List Piece) → own (number_of old) (seen_by new) ≡ own (number_of old) (seen_by old) ++ (n, e) ∷ [] → GoOutAt (seen_by new) e pieces → ArePutBy old new pieces
put_by old new n e pieces grows goes = λ place f is.
    let same = last_pair (own (number_of old) (seen_by old)) (n, e) (place, f) (sym grows ∙ is) in
    subst (λ (x : ℕ × Event). GoOutAt (seen_by new) x.1 pieces) same goes

streamed_by : (old new : Session) (n : ℕ) (e : Event) (pieces : List Piece) → own (number_of old) (seen_by new) ≡ own (number_of old) (seen_by old) ++ (n, e) ∷ [] → StreamsOut e pieces → AreStreamedBy old new pieces
streamed_by old new n e pieces grows streams = λ place f is.
    let same = last_pair (own (number_of old) (seen_by old)) (n, e) (place, f) (sym grows ∙ is) in
    subst (λ (x : ℕ × Event). StreamsOut x.1 pieces) same streams

-- ---- a command that is no select

other_goes : (seen : Journal) (e : Event) (pieces : List Piece) → word_of e ≡ word.Other → GoOutAt seen e pieces
other_goes seen (event.Run who (how.Hit n)) pieces h = let both : word.Hit ≡ word.Other = h in absurd cc
other_goes seen (event.Run who (how.Start n key tables)) pieces h = let both : word.Start ≡ word.Other = h in absurd cc
other_goes seen e pieces h = tt

-- a command whose word isn't that of a hit goes out packet by packet
size_other : (w : Word) → w ≡ word.Other → size_by w ≡ packet_size
size_other w is = ap size_by is

size_local : (w : Word) → w ≡ word.Local → size_by w ≡ packet_size
size_local w is = ap size_by is

module _ (t : Turn ServerState Event) (c : Command) (old new : Session) (bytes : List ℕ) (does : DoesOne t c old new bytes)
    (other : (J : Journal) (e : Event) (r : Reply) (next : State) → Executes old.options (who_of old.state.state.session (length (own (number_of old) (seen_by old)) + 1)) old.state.state c J e r next → word_of e ≡ word.Other) where
  size_answer : (l : ReportLine) (o : Local) → MatchOption o (HasItsEvent whole_machine old.options (number_of old) (position_of old) c l (position_of new)) (HasNoEvent (number_of old) (position_of old) l (position_of new)) → size_by l.how ≡ packet_size
  size_answer l None (e, r, grows, ran, is, needs, ends) = size_other l.how (ap (λ (x : ReportLine). x.how) is ∙ other (before l.place (seen_by new)) e r new.state.state ran)
  size_answer l (Some given) (is, next, same) = size_local l.how (ap (λ (x : ReportLine). x.how) is)

  pub size_is : size_by does.answered.how ≡ packet_size
  size_is = size_answer does.answered (whole_machine.without_event old.state.state (take old.place (seen_by old)) c) does.answers.does

  by_answer : (pieces : List Piece) (l : ReportLine) (o : Local) → MatchOption o (HasItsEvent whole_machine old.options (number_of old) (position_of old) c l (position_of new)) (HasNoEvent (number_of old) (position_of old) l (position_of new)) → ArePutBy old new pieces
  by_answer pieces l None (e, r, grows, ran, is, needs, ends) = put_by old new l.place e pieces grows (other_goes (seen_by new) e pieces (other (before l.place (seen_by new)) e r new.state.state ran))
  by_answer pieces l (Some given) (is, next, same) = λ place e grows. none_more (own (number_of old) (seen_by old)) (place, e) (sym same ∙ grows)

  pub put_other : (pieces : List Piece) → ArePutBy old new pieces
  put_other pieces = by_answer pieces does.answered (whole_machine.without_event old.state.state (take old.place (seen_by old)) c) does.answers.does

pub size_text : (t : Turn ServerState Event) (text : List ℕ) (old new : Session) (bytes : List ℕ) (does : DoesOne t (command.Query text) old new bytes) → IsOther (meaning (trimmed text) old.state.state.ansi) → size_by does.answered.how ≡ packet_size
size_text t text old new bytes does free =
    size_is t (command.Query text) old new bytes does
    (λ J e r next ran. text_other old.options (who_of old.state.state.session (length (own (number_of old) (seen_by old)) + 1)) old.state.state text J (meaning (trimmed text) old.state.state.ansi) e r next free ran)

pub put_text : (t : Turn ServerState Event) (text : List ℕ) (old new : Session) (bytes : List ℕ) → DoesOne t (command.Query text) old new bytes → IsOther (meaning (trimmed text) old.state.state.ansi) → (pieces : List Piece) → ArePutBy old new pieces
put_text t text old new bytes does free pieces =
    put_other t (command.Query text) old new bytes does
    (λ J e r next ran. text_other old.options (who_of old.state.state.session (length (own (number_of old) (seen_by old)) + 1)) old.state.state text J (meaning (trimmed text) old.state.state.ansi) e r next free ran) pieces

command_other : (options : Options) (who : Who) (state : State) (c : Command) (J : Journal) (e : Event) (r : Reply) (next : State) → executed.IsOther c → Executes options who state c J e r next → word_of e ≡ word.Other
command_other options who state (command.InitDb name) J e r next h ran = other_by _ e r next (used_is_other who J state name) ran
command_other options who state (command.Query text) J e r next h ran = absurd h
command_other options who state command.Quit J e r next h ran = absurd h
command_other options who state command.Ping J e r next h ran = absurd ran
command_other options who state (command.Unknown code) J e r next h ran = absurd ran
command_other options who state command.Empty J e r next h ran = absurd ran

pub size_command : (t : Turn ServerState Event) (c : Command) (old new : Session) (bytes : List ℕ) (does : DoesOne t c old new bytes) → executed.IsOther c → size_by does.answered.how ≡ packet_size
size_command t c old new bytes does h =
    size_is t c old new bytes does
    (λ J e r next ran. command_other old.options (who_of old.state.state.session (length (own (number_of old) (seen_by old)) + 1)) old.state.state c J e r next h ran)

pub put_command : (t : Turn ServerState Event) (c : Command) (old new : Session) (bytes : List ℕ) → DoesOne t c old new bytes → executed.IsOther c → (pieces : List Piece) → ArePutBy old new pieces
put_command t c old new bytes does h pieces =
    put_other t c old new bytes does
    (λ J e r next ran. command_other old.options (who_of old.state.state.session (length (own (number_of old) (seen_by old)) + 1)) old.state.state c J e r next h ran) pieces

-- ---- a hit

pub put_hit : (old new : Session) (place n : ℕ) (who : Who) (held out : Option (List Piece)) (bytes : List ℕ) → own (number_of old) (seen_by new) ≡ own (number_of old) (seen_by old) ++ (place, event.Run who (how.Hit n)) ∷ []
    → SendsAt (task.Stream n) held out bytes → Adds held out (ArePutBy old new)
put_hit old new place n who held out bytes grows sends = adds_so held out (λ more. (bytes_of more ≡ bytes) × AllAt (task.Stream n) more) (ArePutBy old new) (λ more p. put_by old new place (event.Run who (how.Hit n)) more grows p.1) sends

-- a front of it
pub streamed_hit : (old new : Session) (place n : ℕ) (who : Who) (held out : Option (List Piece)) (bytes : List ℕ) → own (number_of old) (seen_by new) ≡ own (number_of old) (seen_by old) ++ (place, event.Run who (how.Hit n)) ∷ []
    → SendsFrontAt (task.Stream n) held out bytes → Adds held out (AreStreamedBy old new)
streamed_hit old new place n who held out bytes grows front = adds_so held out (λ more. BeginsWith bytes (bytes_of more) × AllAt (task.Stream n) more) (AreStreamedBy old new) (λ more p. streamed_by old new place (event.Run who (how.Hit n)) more grows p.1) front

-- ---- a select

-- what a seat has seen is lawful
pub lawful_seen : (t : Turn ServerState Event) (s : Seat ServerState Event ghosts) → IsSeatOf t s → (o : Options) × IsLawful o (view s).seen
lawful_seen t s seated = let w = seated.was_sound in (w.value.options, subst (IsLawful w.value.options) w.journal w.sound.1.sound.journal.lawful)

-- an entry that is gone is never done
undone : (o : Options) (j : Journal) (n : ℕ) → IsLawful o j → IsGone n j → is_completed n j ≡ false
undone o j n lawful (inl (why, ends)) = gone_undone o j n why lawful ends
undone o j n lawful (inr (by, overtaken)) = not_completed j n overtaken.filling

put_start : (old new : Session) (place n : ℕ) (who : Who) (key : List ℕ) (tables : List TableName) (o : Options) (held out : Option (List Piece)) (bytes : List ℕ) → own (number_of old) (seen_by new) ≡ own (number_of old) (seen_by old) ++ (place, event.Run who (how.Start n key tables)) ∷ []
    → IsLawful o (seen_by new) → Sends held out bytes → FillsAt n (seen_by new) held out bytes → Adds held out (ArePutBy old new)
put_start old new place n who key tables o held out bytes grows lawful sends (inl fills) =
    adds_so held out (λ more. (bytes_of more ≡ bytes) × AllAt (task.Fill n) more) (ArePutBy old new) (λ more p. put_by old new place (event.Run who (how.Start n key tables)) more grows (λ done. p.1)) fills
put_start old new place n who key tables o held out bytes grows lawful sends (inr gone) =
    adds_so held out (λ more. bytes_of more ≡ bytes) (ArePutBy old new) (λ more is. put_by old new place (event.Run who (how.Start n key tables)) more grows (λ done. absurd (true≢false (sym done ∙ undone o (seen_by new) n lawful gone)))) sends

pub put_selected : (old new : Session) (place : ℕ) (key : List ℕ) (tables : List TableName) (x : Selected) (o : Options) (held out : Option (List Piece)) (bytes : List ℕ) → own (number_of old) (seen_by new) ≡ own (number_of old) (seen_by old) ++ (place, event_in old key tables x) ∷ []
    → IsLawful o (seen_by new) → Sends held out bytes → SendsAs x (seen_by new) held out bytes → Adds held out (ArePutBy old new)
put_selected old new place key tables (selected.Hit hit) o held out bytes grows lawful sends as_it = put_hit old new place hit.serial _ held out bytes grows as_it
put_selected old new place key tables (selected.Start serial at plan) o held out bytes grows lawful sends as_it = put_start old new place serial _ key tables o held out bytes grows lawful sends as_it
put_selected old new place key tables (selected.Plain why at plan) o held out bytes grows lawful sends as_it =
    adds_so held out (λ more. bytes_of more ≡ bytes) (ArePutBy old new) (λ more is. put_by old new place (event_in old key tables (selected.Plain why at plan)) more grows tt) sends

-- a front of it
pub front_of_selected : (x : Selected) (held out : Option (List Piece)) (bytes : List ℕ) → SendsFrontAs x held out bytes → SendsFrontOf held out bytes
front_of_selected (selected.Hit hit) held out bytes front = front_plain (task.Stream hit.serial) held out bytes front
front_of_selected (selected.Start serial at plan) held out bytes front = front
front_of_selected (selected.Plain why at plan) held out bytes front = front

pub streamed_selected : (old new : Session) (place : ℕ) (key : List ℕ) (tables : List TableName) (x : Selected) (held out : Option (List Piece)) (bytes : List ℕ) → own (number_of old) (seen_by new) ≡ own (number_of old) (seen_by old) ++ (place, event_in old key tables x) ∷ []
    → SendsFrontAs x held out bytes → Adds held out (AreStreamedBy old new)
streamed_selected old new place key tables (selected.Hit hit) held out bytes grows front = streamed_hit old new place hit.serial _ held out bytes grows front
streamed_selected old new place key tables (selected.Start serial at plan) held out bytes grows front =
    adds_so held out (λ more. BeginsWith bytes (bytes_of more)) (AreStreamedBy old new) (λ more is. streamed_by old new place (event_in old key tables (selected.Start serial at plan)) more grows tt) front
streamed_selected old new place key tables (selected.Plain why at plan) held out bytes grows front =
    adds_so held out (λ more. BeginsWith bytes (bytes_of more)) (AreStreamedBy old new) (λ more is. streamed_by old new place (event_in old key tables (selected.Plain why at plan)) more grows tt) front
