-- The event of a command that changes no data.
use Rattle.qc_model.specs.declared.events.Event.{Event}
use Rattle.qc_model.specs.declared.events.Event.TheVariants as event
use Rattle.qc_model.specs.declared.events.How.TheVariants as how
use Rattle.qc_model.specs.declared.events.Who.{Who}
use Rattle.qc_serve.specs.declared.notes.Note.{Note}
use Rattle.qc_serve.specs.declared.notes.Note.TheVariants as note

abbrev pub noted : Note → Who → Event
noted note.Flush who = event.Flush who
noted note.Reset who = event.Reset who
noted note.Other who = event.Run who how.Other
