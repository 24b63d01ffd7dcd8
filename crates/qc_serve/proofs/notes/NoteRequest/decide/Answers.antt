use Rattle.std.proofs.Common.{◌≡◌, refl}
use Rattle.qc_model.specs.declared.events.Event.TheVariants as event
use Rattle.qc_model.specs.declared.events.How.TheVariants as how
use Rattle.qc_serve.specs.declared.notes.Note.TheVariants as note
use Rattle.qc_serve.specs.Notes.{noted}
use Rattle.qc_serve.proofs.Pushing.{flush_pushed, reset_pushed, run_pushed}
use Rattle.qc_serve.proofs.Turning.{has_one, one_turns}
use Rattle.qc_serve.proofs.notes.NoteRequest.decide.Goals as goal

pub returns-in-Flush-clause-turns : goal.returns-in-Flush-clause-turns
returns-in-Flush-clause-turns c =
    let n = c.flush in
    let p = c.requires.prepared in
    let h = c.args.held.now in
    one_turns c.args.who (event.Flush c.args.who) h n.new.held p (flush_pushed c.args.who h n.new.held n.ensures.flushed.0 n.ensures.flushed.3 p.ready n.ensures.stands n.ensures.flushed.2 n.ensures.flushed.4 n.ensures.flushed.5 n.ensures.rests)

pub returns-in-Flush-clause-gives : goal.returns-in-Flush-clause-gives
returns-in-Flush-clause-gives c =
    let n = c.flush in
    let p = c.requires.prepared in
    let h = c.args.held.now in
    rw c.in-Flush.is (has_one c.args.who (event.Flush c.args.who) (λ w journal e. e ≡ noted note.Flush w) h n.new.held n.result p (flush_pushed c.args.who h n.new.held n.ensures.flushed.0 n.ensures.flushed.3 p.ready n.ensures.stands n.ensures.flushed.2 n.ensures.flushed.4 n.ensures.flushed.5 n.ensures.rests) n.ensures.number refl)

pub returns-in-Reset-clause-turns : goal.returns-in-Reset-clause-turns
returns-in-Reset-clause-turns c =
    let n = c.reset in
    let p = c.requires.prepared in
    let h = c.args.held.now in
    one_turns c.args.who (event.Reset c.args.who) h n.new.held p (reset_pushed c.args.who h n.new.held p.ready n.ensures.stands n.ensures.ranges n.ensures.reset n.ensures.listed)

pub returns-in-Reset-clause-gives : goal.returns-in-Reset-clause-gives
returns-in-Reset-clause-gives c =
    let n = c.reset in
    let p = c.requires.prepared in
    let h = c.args.held.now in
    rw c.in-Reset.is (has_one c.args.who (event.Reset c.args.who) (λ w journal e. e ≡ noted note.Reset w) h n.new.held n.result p (reset_pushed c.args.who h n.new.held p.ready n.ensures.stands n.ensures.ranges n.ensures.reset n.ensures.listed) n.ensures.number refl)

pub returns-in-Other-clause-turns : goal.returns-in-Other-clause-turns
returns-in-Other-clause-turns c =
    let n = c.note in
    let p = c.requires.prepared in
    let h = c.args.held.now in
    one_turns c.args.who (event.Run c.args.who how.Other) h n.new.held p (run_pushed c.args.who how.Other h n.new.held p.ready n.ensures.stands n.ensures.ranges n.ensures.pushed)

pub returns-in-Other-clause-gives : goal.returns-in-Other-clause-gives
returns-in-Other-clause-gives c =
    let n = c.note in
    let p = c.requires.prepared in
    let h = c.args.held.now in
    rw c.in-Other.is (has_one c.args.who (event.Run c.args.who how.Other) (λ w journal e. e ≡ noted note.Other w) h n.new.held n.result p (run_pushed c.args.who how.Other h n.new.held p.ready n.ensures.stands n.ensures.ranges n.ensures.pushed) n.ensures.number refl)
