-- The script that a draft is.
use Rattle.qc_model.specs.declared.reports.Script.{Script}
use Rattle.qc_script.specs.declared.draft.Draft.{Draft}

-- what has been read so far
abbrev pub so_far : Draft → Script
so_far draft = record { setup = draft.setup; sessions = draft.sessions.items }
