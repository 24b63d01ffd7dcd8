-- What a session keeps of its answered commands.
use Rattle.std.specs.Prelude.{◌≡◌, ℕ, List, [], ◌∷◌, ◌++◌}
use Rattle.qc_model.specs.declared.events.Event.{Event}
use Rattle.qc_model.specs.declared.reports.ReportLine.{ReportLine}
use Rattle.qc_model.specs.declared.reports.Word.{Word}
use Rattle.qc_model.specs.declared.reports.Word.TheVariants as word
use Rattle.qc_model.specs.Agrees.{word_of}
use Rattle.qc_serve.specs.declared.log.Logged.{Logged}

-- the lines, and for how many more there is room
pub record Lines : Type 0 where
  pub lines : List Logged
  pub room : ℕ

abbrev pub logged : ℕ → Word → Logged
logged place how = record { place = place; how = how }

-- a line of a report without its reply
abbrev pub logged_line : ReportLine → Logged
logged_line l = logged l.place l.how

-- a numbered event
abbrev pub logged_event : ℕ × Event → Logged
logged_event x = logged x.0 (word_of x.1)

-- what stays of a last line where its command didn't go through: that of a command without event goes
abbrev pub kept_line : Logged → List Logged
kept_line l = if_local l.how
  where
    if_local : Word → List Logged
    if_local word.Local = []
    if_local _ = l ∷ []

-- whatever the last line is, the ones before it stay
abbrev pub DropsLocal : List Logged → List Logged → Type 0
DropsLocal old new = (before : List Logged) (last : Logged) → old ≡ before ++ last ∷ [] → new ≡ before ++ kept_line last
