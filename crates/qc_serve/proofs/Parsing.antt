-- A text that no hit was found for is parsed, and is a statement or none.
use Rattle.std.proofs.Common.{◌≡◌, ℕ, ◌+◌, ◌≤◌, Bool, true, false, cond, List, [], ◌∷◌, ◌++◌, length, reverse, refl, sym, ap, ◌∙◌, subst, arith, append-nil, length-append, Option, None, Some, Result, Ok, Err, true≢false}
use Rattle.std.specs.Prelude.{MatchOption, OnErr, OnOk, map, take}
use Rattle.std.specs.List.{AllByRecursion}
use Rattle.std.proofs.lemmas.List.{length-reverse}
use Rattle.qc_types.specs.declared.options.Options.{Options}
use Rattle.qc_sql.specs.declared.commands.Command.{Command}
use Rattle.qc_sql.specs.declared.commands.Command.TheVariants as command
use Rattle.qc_sql.specs.declared.replies.Reply.{Reply}
use Rattle.qc_sql.specs.declared.statements.Select.{Select}
use Rattle.qc_sql.specs.declared.statements.Statement.{Statement}
use Rattle.qc_sql.specs.declared.statements.Statement.TheVariants as statement
use Rattle.qc_sql.specs.Effects.{effect}
use Rattle.qc_sql.specs.Grammar.{ParseFault, meaning, trimmed}
use Rattle.qc_sql.specs.Tokens.{is_space, is_trailing, without_front}
use Rattle.qc_sql.specs.Tokens as tokens
use Rattle.qc_model.specs.declared.events.Event.{Event}
use Rattle.qc_model.specs.declared.events.Who.{Who}
use Rattle.qc_model.specs.declared.reports.ReportLine.{ReportLine}
use Rattle.qc_model.specs.declared.reports.Word.{Word}
use Rattle.qc_model.specs.declared.reports.Word.TheVariants as word
use Rattle.qc_model.specs.Agrees.{line, who_of, whole_machine, word_of}
use Rattle.qc_model.specs.Journal.{Journal, before}
use Rattle.qc_model.specs.Machine.{ExecutesStatement, ExecutesText, Gives, Given, Local, begun}
use Rattle.qc_model.specs.Session.{State, arrived, base, with_transaction}
use Rattle.qc_model.specs.Settings.{set_to}
use Rattle.qc_laws.specs.runs.Runs.{HasItsEvent, HasNoEvent, Position, own}
use Rattle.qc_statements.proofs.Words.{ended_is_other, forms_is_other, rows_is_other, set_is_other, used_is_other}
use Rattle.qc_turn.specs.declared.turn.Turn.{Turn}
use Rattle.qc_core.specs.declared.server_state.ServerState.{ServerState}
use Rattle.qc_serve.specs.declared.log.Logged.{Logged}
use Rattle.qc_serve.specs.declared.session.Session.{Session}
use Rattle.qc_serve.specs.declared.sinks.Piece.{Piece}
use Rattle.qc_serve.specs.Executed.{ArePutBy, IsReplied, MustEnd, size_by}
use Rattle.qc_serve.specs.Going.{DoesOne, IsAtRest, Stops, number_of, position_of, seen_by}
use Rattle.qc_serve.specs.Logs.{DropsLocal, kept_line, logged, logged_event, logged_line}
use Rattle.qc_serve.specs.Sent.{Adds, AreCut, NoneIsEmpty, Sends, bytes_of, packet_size}
use Rattle.qc_serve.specs.Stage.{is_select}
use Rattle.qc_serve.proofs.Breaking.{untouched}
use Rattle.qc_serve.proofs.Sending.{adds_so}

-- ---- a trimmed text is no longer than the text

front_below : (test : ℕ → Bool) (text : List ℕ) → length (without_front test text) ≤ length text
front_below test [] = omega arith
front_below test (b ∷ bs) = by (test b) (front_below test bs)
  where
    by : (c : Bool) → length (without_front test bs) ≤ length bs → length (cond c (without_front test bs) (b ∷ bs)) ≤ length (b ∷ bs)
    by true h = omega (arith, h)
    by false h = omega arith

pub trimmed_below : (text : List ℕ) → length (trimmed text) ≤ length text
unfolding tokens.trimmed
trimmed_below text =
    let front = without_front is_space text in
    let back = without_front is_trailing (reverse front) in
    omega (arith, front_below is_space text, front_below is_trailing (reverse front), length-reverse front, length-reverse back)

-- ---- a statement that is no select has no hit

pub other_by : (g : Given) (e : Event) (r : Reply) (next : State) → word_of g.event ≡ word.Other → Gives g e r next → word_of e ≡ word.Other
other_by g e r next other h = ap word_of h.0 ∙ other

pub other_word : (options : Options) (who : Who) (state : State) (text : List ℕ) (J : Journal) (s : Statement) (e : Event) (r : Reply) (next : State) → is_select s ≡ false → ExecutesStatement options who state text J s e r next → word_of e ≡ word.Other
other_word options who state text J (statement.Select s) e r next free h = absurd (true≢false free)
other_word options who state text J (statement.Insert i) e r next free h = other_by _ e r next (rows_is_other who state (effect (statement.Insert i) (base state J) state.db state.session)) h
other_word options who state text J (statement.Update u) e r next free h = other_by _ e r next (rows_is_other who state (effect (statement.Update u) (base state J) state.db state.session)) h
other_word options who state text J (statement.Delete d) e r next free h = other_by _ e r next (rows_is_other who state (effect (statement.Delete d) (base state J) state.db state.session)) h
other_word options who state text J (statement.UseDb name) e r next free h = other_by _ e r next (used_is_other who J state name) h
other_word options who state text J statement.Begin e r next free h = other_by _ e r next (ended_is_other who J state (begun state)) h
other_word options who state text J statement.Commit e r next free h = other_by _ e r next (ended_is_other who J state (with_transaction state None)) h
other_word options who state text J statement.Rollback e r next free h = other_by _ e r next refl h
other_word options who state text J (statement.Set x) e r next free h = other_by _ e r next (set_is_other who J state (set_to state x)) h.1
other_word options who state text J statement.ShowStatus e r next free h = ap word_of h.1
other_word options who state text J statement.FlushCache e r next free h = ap word_of h.0
other_word options who state text J statement.FlushTables e r next free h = ap word_of h.0
other_word options who state text J statement.ResetCache e r next free h = ap word_of h.0
other_word options who state text J (statement.Truncate t) e r next free h = other_by _ e r next (forms_is_other who J state (statement.Truncate t)) h
other_word options who state text J (statement.CreateTable t parts) e r next free h = other_by _ e r next (forms_is_other who J state (statement.CreateTable t parts)) h
other_word options who state text J (statement.DropTable t) e r next free h = other_by _ e r next (forms_is_other who J state (statement.DropTable t)) h
other_word options who state text J (statement.CreateDb name) e r next free h = other_by _ e r next (forms_is_other who J state (statement.CreateDb name)) h
other_word options who state text J (statement.DropDb name) e r next free h = other_by _ e r next (forms_is_other who J state (statement.DropDb name)) h

-- a text that is no select
abbrev pub IsOther : Result Statement ParseFault → Type 0
IsOther (Ok s) = is_select s ≡ false
IsOther (Err fault) = Unit {0}

pub text_other : (options : Options) (who : Who) (state : State) (text : List ℕ) (J : Journal) (m : Result Statement ParseFault) (e : Event) (r : Reply) (next : State) → IsOther m → ExecutesText options who state text J m e r next → word_of e ≡ word.Other
text_other options who state text J (Ok s) e r next free h = other_word options who (arrived (length J + 1) s state) text J s e r next free h
text_other options who state text J (Err fault) e r next free h = absurd h

same_word : (l : ReportLine) (place : ℕ) (w : Word) (r : Reply) → l ≡ line place w r → l.how ≡ w
same_word l place w r is = ap (λ (x : ReportLine). x.how) is

module _ (options : Options) (s : ℕ) (from to : Position) (text : List ℕ) (l : ReportLine) (free : IsOther (meaning (trimmed text) from.state.ansi)) where
  not_hit : (o : Local) → MatchOption o (HasItsEvent whole_machine options s from (command.Query text) l to) (HasNoEvent s from l to) → l.how ≡ word.Hit → ⊥
  not_hit None (e, r, grows, does, is, needs, ends) h =
      let other : word_of e ≡ word.Other = text_other options (who_of from.state.session (length (own s from.seen) + 1)) from.state text (before l.place to.seen) (meaning (trimmed text) from.state.ansi) e r to.state free does in
      let both : word.Hit ≡ word.Other = sym h ∙ (same_word l l.place (word_of e) r is ∙ other) in
      absurd cc
  not_hit (Some given) (is, next, same) h =
      let both : word.Hit ≡ word.Local = sym h ∙ same_word l from.place word.Local given.0 is in
      absurd cc

-- the line of its answer is no hit's
pub answered_other : (t : Turn ServerState Event) (text : List ℕ) (old mid : Session) (bytes : List ℕ) → IsOther (meaning (trimmed text) old.state.state.ansi) → (does : DoesOne t (command.Query text) old mid bytes) → does.answered.how ≡ word.Hit → ⊥
answered_other t text old mid bytes free does h =
    let answers = does.answers in
    not_hit old.options (number_of old) (position_of old) (position_of mid) text does.answered free (whole_machine.without_event old.state.state (take old.place (seen_by old)) (command.Query text)) answers.does h

-- ---- nor has the log a line of one

pub last_same : (xs : List Logged) (l m : Logged) → xs ++ l ∷ [] ≡ xs ++ m ∷ [] → l ≡ m
last_same [] l m h = cc
last_same (z ∷ xs) l m h = let rest : xs ++ l ∷ [] ≡ xs ++ m ∷ [] = cc in last_same xs l m rest

never_longer : {P : Type 0} (xs : List Logged) (l : Logged) → xs ≡ xs ++ l ∷ [] → P
never_longer xs l h = absurd (let long : length xs ≡ length (xs ++ l ∷ []) = ap length h in omega (arith, long, length-append xs (l ∷ [])))

-- whatever stays of a last line
kept_other : (xs : List Logged) (place : ℕ) (w : Word) (l : Logged) → xs ++ kept_line (logged place w) ≡ xs ++ l ∷ [] → (w ≡ word.Hit → ⊥) → l.how ≡ word.Hit → ⊥
kept_other xs place word.Local l h never is = never_longer xs l (sym (append-nil xs) ∙ h)
kept_other xs place word.Hit l h never is = never refl
kept_other xs place word.Start l h never is = let same = last_same xs (logged place word.Start) l h in let both : word.Start ≡ word.Hit = ap (λ (x : Logged). x.how) same ∙ is in absurd cc
kept_other xs place word.Plain l h never is = let same = last_same xs (logged place word.Plain) l h in let both : word.Plain ≡ word.Hit = ap (λ (x : Logged). x.how) same ∙ is in absurd cc
kept_other xs place word.Other l h never is = let same = last_same xs (logged place word.Other) l h in let both : word.Other ≡ word.Hit = ap (λ (x : Logged). x.how) same ∙ is in absurd cc

-- its reply went out, or it didn't
pub replied_other : (t : Turn ServerState Event) (text : List ℕ) (old mid : Session) (bytes : List ℕ) (lines : List Logged) (l : Logged) → IsOther (meaning (trimmed text) old.state.state.ansi) → DoesOne t (command.Query text) old mid bytes
    → lines ≡ mid.log.lines → lines ≡ old.log.lines ++ l ∷ [] → l.how ≡ word.Hit → ⊥
replied_other t text old mid bytes lines l free does same is how_is =
    let here = last_same old.log.lines (logged_line does.answered) l (sym does.lines ∙ (sym same ∙ is)) in
    answered_other t text old mid bytes free does (ap (λ (x : Logged). x.how) here ∙ how_is)

pub dropped_other : (t : Turn ServerState Event) (text : List ℕ) (old mid : Session) (bytes : List ℕ) (lines : List Logged) (l : Logged) → IsOther (meaning (trimmed text) old.state.state.ansi) → DoesOne t (command.Query text) old mid bytes
    → DropsLocal mid.log.lines lines → lines ≡ old.log.lines ++ l ∷ [] → l.how ≡ word.Hit → ⊥
dropped_other t text old mid bytes lines l free does drops is how_is =
    let a = does.answered in
    let kept : lines ≡ old.log.lines ++ kept_line (logged_line a) = drops old.log.lines (logged_line a) does.lines in
    kept_other old.log.lines a.place a.how l (sym kept ∙ is) (answered_other t text old mid bytes free does) how_is

stopped_by : (xs : List Logged) (events : List (ℕ × Event)) (l : Logged) → length events ≤ 1 → AllByRecursion (λ (x : ℕ × Event). word_of x.1 ≡ word.Other) events → xs ++ map logged_event events ≡ xs ++ l ∷ [] → l.how ≡ word.Hit → ⊥
stopped_by xs [] l few all h is = never_longer xs l (sym (append-nil xs) ∙ h)
stopped_by xs (x ∷ []) l few all h is =
    let same = last_same xs (logged_event x) l h in
    let both : word.Other ≡ word.Hit = sym all.0 ∙ (ap (λ (m : Logged). m.how) same ∙ is) in
    absurd cc
stopped_by xs (x ∷ y ∷ more) l few all h is = absurd (omega (arith, few))

-- memory lacked
pub stopped_other : (t : Turn ServerState Event) (old new : Session) {IsSo : Journal → Event → Type 0} (l : Logged) → Stops t old new IsSo → new.log.lines ≡ old.log.lines ++ l ∷ [] → l.how ≡ word.Hit → ⊥
stopped_other t old new l stops is how_is = stopped_by old.log.lines stops.events l stops.few stops.others (sym stops.lines ∙ is) how_is

pub none_logged : {P : Type 0} (old new : Session) (l : Logged) → new.log.lines ≡ old.log.lines → new.log.lines ≡ old.log.lines ++ l ∷ [] → P
none_logged old new l same is = never_longer old.log.lines l (sym same ∙ is)

-- ---- it was replied

pub does_replies : (t : Turn ServerState Event) (c : Command) (old mid new : Session) (bytes : List ℕ) (held out : Option (List Piece)) (does : DoesOne t c old mid bytes) → ((pieces : List Piece) → ArePutBy old mid pieces) → size_by does.answered.how ≡ packet_size
    → Adds held out (AreCut packet_size) → new ≡ mid → Sends held out bytes → Adds held out NoneIsEmpty → IsReplied t c old new held out
does_replies t c old mid new bytes held out does put size cut same sends some = subst (λ (x : Session). IsReplied t c old x held out) (sym same) (record {
  reply = bytes;
  does = does;
  sends = sends;
  at = adds_so held out (λ more. bytes_of more ≡ bytes) (ArePutBy old mid) (λ more is. put more) sends;
  cut = subst (λ (f : List ℕ → ℕ). Adds held out (AreCut f)) (sym size) cut;
  some = some;
})

-- ---- where a call answers

pub on_ok : {A E P Q : Type 0} (r : Result A E) → (P → Q) → OnOk r P → OnOk r Q
on_ok (Ok x) f p = f p
on_ok (Err e) f p = tt

pub on_oks : {A E P Q R : Type 0} (r : Result A E) → (P → Q → R) → OnOk r P → OnOk r Q → OnOk r R
on_oks (Ok x) f p q = f p q
on_oks (Err e) f p q = tt

pub on_all : {A E P Q R S : Type 0} (r : Result A E) → (P → Q → R → S) → OnOk r P → OnOk r Q → OnOk r R → OnOk r S
on_all (Ok x) f p q s = f p q s
on_all (Err e) f p q s = tt

pub on_four : {A E P Q R S T : Type 0} (r : Result A E) → (P → Q → R → S → T) → OnOk r P → OnOk r Q → OnOk r R → OnOk r S → OnOk r T
on_four (Ok x) f p q s u = f p q s u
on_four (Err e) f p q s u = tt

pub by_result : {A E P Q R : Type 0} (r : Result A E) → (P → R) → (Q → R) → OnOk r P → OnErr r Q → R
by_result (Ok x) f g p q = f p
by_result (Err e) f g p q = g q

-- ---- its statement

pub not_select : (s : Statement) → ((x : Select) → s ≡ statement.Select x → ⊥) → is_select s ≡ false
not_select (statement.Select x) h = absurd (h x refl)
not_select s h = refl

-- a text that means it is no select
pub means_other : (text : List ℕ) (ansi : Bool) (s : Statement) → meaning (trimmed text) ansi ≡ Ok s → is_select s ≡ false → IsOther (meaning (trimmed text) ansi)
means_other text ansi s means other = subst IsOther (sym means) other

pub fault_other : (text : List ℕ) (ansi : Bool) (fault : ParseFault) → meaning (trimmed text) ansi ≡ Err fault → IsOther (meaning (trimmed text) ansi)
fault_other text ansi fault means = subst IsOther (sym means) tt

-- nothing was done
pub ends_same : (t : Turn ServerState Event) (c : Command) (old new : Session) (held : Option (List Piece)) → IsAtRest t old → new ≡ old → MustEnd t c old new held held
ends_same t c old new held rest same = subst (λ (x : Session). MustEnd t c old x held held) (sym same) (untouched t c old old.log held rest.rests refl)
