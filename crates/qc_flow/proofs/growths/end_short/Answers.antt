use Rattle.std.proofs.Common.{ap, sym, subst, ◌∙◌, eq-eqb, refl}
use Rattle.std.specs.Prelude.{is_some}
use Rattle.qc_model.specs.declared.events.Event.TheVariants as event
use Rattle.qc_model.specs.declared.events.GoneWhy.TheVariants as gone
use Rattle.qc_turn.specs.Seats.{words, holder}
use Rattle.qc_flow.specs.Growths.{WasShort, IsFull, EndsShort}
use Rattle.qc_flow.proofs.Holdings.{no_room, ended_so, quiet_gone}
use Rattle.qc_flow.proofs.Told.{by_event, by_removal, is_there, in_last}
use Rattle.qc_flow.proofs.growths.end_short.Goals as goal

pub gone-ended-requires-in-NoRoom-clause-licensed : goal.gone-ended-requires-in-NoRoom-clause-licensed
gone-ended-requires-in-NoRoom-clause-licensed c =
    let h = c.args.held.now in
    let w = subst (WasShort c.args.serial h.value) c.in-NoRoom.is c.requires.short in
    λ there. no_room (words h) h.value c.args.serial c.in-NoRoom.need c.in-NoRoom.largest c.requires.stands.sound w.1

pub gone-ended-requires-in-NoRoom-clause-room : goal.gone-ended-requires-in-NoRoom-clause-room
gone-ended-requires-in-NoRoom-clause-room c =
    let h = c.args.held.now in
    λ there. subst (IsFull (holder h).number c.args.serial h.value) c.in-NoRoom.is c.requires.full

pub returns-in-Overtaken-clause-ended : goal.returns-in-Overtaken-clause-ended
returns-in-Overtaken-clause-ended c =
    let h = c.args.held.now in
    let n = c.args.serial in
    let k = c.gone-ended.new.held in
    let e = c.gone-ended.ensures in
    let w = subst (WasShort n h.value) c.in-Overtaken.is c.requires.short in
    let so = ended_so (event.Gone n gone.Ended) n (holder h).number (words h) h.value k.value c.requires.fills.0 c.gone-ended.result (quiet_gone n gone.Ended) c.requires.stands.sound c.requires.fills.1 e.there e.ok e.err in
    (by_removal c.gone-ended.result _ (e.there ∙ ap is_some w.0) so.err).1.1

pub returns-in-Overtaken-clause-events : goal.returns-in-Overtaken-clause-events
returns-in-Overtaken-clause-events c =
    let h = c.args.held.now in
    let n = c.args.serial in
    let k = c.gone-ended.new.held in
    let e = c.gone-ended.ensures in
    let w = subst (WasShort n h.value) c.in-Overtaken.is c.requires.short in
    let so = ended_so (event.Gone n gone.Ended) n (holder h).number (words h) h.value k.value c.requires.fills.0 c.gone-ended.result (quiet_gone n gone.Ended) c.requires.stands.sound c.requires.fills.1 e.there e.ok e.err in
    subst (EndsShort n h.value.journal.events k.value.journal.events) (sym c.in-Overtaken.is) (by_removal c.gone-ended.result _ (e.there ∙ ap is_some w.0) so.kept).1

pub returns-in-NoRoom-clause-ended : goal.returns-in-NoRoom-clause-ended
returns-in-NoRoom-clause-ended c =
    let h = c.args.held.now in
    let n = c.args.serial in
    let why = gone.NoRoom c.in-NoRoom.need c.in-NoRoom.largest in
    let k = c.gone-ended-in-NoRoom.new.held in
    let e = c.gone-ended-in-NoRoom.ensures in
    let w = subst (WasShort n h.value) c.in-NoRoom.is c.requires.short in
    let so = ended_so (event.Gone n why) n (holder h).number (words h) h.value k.value c.requires.fills.0 c.gone-ended-in-NoRoom.result (quiet_gone n why) c.requires.stands.sound c.requires.fills.1 e.there e.ok e.err in
    in_last n (event.Gone n why) k.value.journal.events (eq-eqb n n refl) (by_event c.gone-ended-in-NoRoom.result _ (e.there ∙ is_there _ _ w.0) so.ok).1.1

pub returns-in-NoRoom-clause-events : goal.returns-in-NoRoom-clause-events
returns-in-NoRoom-clause-events c =
    let e = c.gone-ended-in-NoRoom.ensures in
    let w = subst (WasShort c.args.serial c.args.held.now.value) c.in-NoRoom.is c.requires.short in
    subst (EndsShort c.args.serial c.args.held.now.value.journal.events c.gone-ended-in-NoRoom.new.held.value.journal.events) (sym c.in-NoRoom.is) (by_event c.gone-ended-in-NoRoom.result _ (e.there ∙ is_there _ _ w.0) e.ok).1.1.events
