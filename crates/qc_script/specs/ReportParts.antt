-- Parts of a report's text, as they are put one after another.
use Rattle.std.specs.Prelude.{ℕ, List, [], ◌∷◌, codes, decimal, length}
use Rattle.std.specs.List.{flat_map}
use Rattle.qc_model.specs.declared.events.Event.{Event}
use Rattle.qc_model.specs.declared.reports.SessionReport.{SessionReport}
use Rattle.qc_script.specs.declared.reports.sessions.Head.{Head}
use Rattle.qc_model.specs.ReportText.{Text, fields, event_lines, session_lines, ending_fields}

-- each text with this byte before it
abbrev pub each_after : ℕ → List Text → Text
each_after byte texts = flat_map (λ t. byte ∷ t) texts

-- fields that stand behind another one
abbrev pub spaced : List Text → Text
spaced texts = each_after 32 texts

-- what follows the word of the line that begins a session, by what it tells
abbrev pub head_fields : Head → List Text
head_fields h = decimal h.session ∷ codes "commands" ∷ decimal h.commands ∷ codes "end" ∷ ending_fields h.ending

-- the same of a session
abbrev pub session_fields : SessionReport → List Text
session_fields s = decimal s.session ∷ codes "commands" ∷ decimal (length s.lines) ∷ codes "end" ∷ ending_fields s.ending

-- the lines of all sessions, under their number
abbrev pub sessions_part : List SessionReport → List Text
sessions_part sessions = fields (codes "sessions" ∷ decimal (length sessions) ∷ []) ∷ flat_map session_lines sessions

-- the lines of a journal, under their number
abbrev pub journal_part : List Event → List Text
journal_part events = fields (codes "journal" ∷ decimal (length events) ∷ []) ∷ event_lines 1 events
