use Rattle.std.proofs.Common.{◌<◌, sym, ap, subst, ◌∙◌}
use Rattle.qc_turn.specs.Tasks.{listed_for}
use Rattle.qc_core.specs.Whole.{tasks_of}
use Rattle.qc_journal.specs.Room.{Recorded}
use Rattle.qc_model.specs.Cache.{cache}
use Rattle.qc_sound.specs.parts.Journal.{reserved}
use Rattle.qc_turn.specs.Seats.{holder}
use Rattle.qc_core.specs.declared.server_state.ServerState.{ServerState}
use Rattle.qc_core.specs.Compaction.{IsCompacted}
use Rattle.qc_core.proofs.Sweeping.{finds_same, next_swept, spare_swept}
use Rattle.qc_core.proofs.Flushing.{moves_books, next_compacted}
use Rattle.qc_core.proofs.compaction.flush.Goals as goal

pub push_flush-requires-clause-next : goal.push_flush-requires-clause-next
push_flush-requires-clause-next c =
    let h = c.args.held.now in
    let k = c.reap_ended_streams.new.held in
    let m = c.compact.new.held in
    let w = c.reap_ended_streams.ensures.swept in
    let d = c.compact.ensures in
    next_compacted k m c.args.who (next_swept h k c.args.who w.0 w.1 w.2 c.requires.next) d.stands.1 (moves_books d.compacted.count k.value m.value d.compacted.moves) d.listed

pub push_flush-requires-clause-room : goal.push_flush-requires-clause-room
push_flush-requires-clause-room c =
    let h = c.args.held.now in
    let k = c.reap_ended_streams.new.held in
    let m = c.compact.new.held in
    let w = c.reap_ended_streams.ensures.swept in
    let d = c.compact.ensures in
    subst (λ (j : Recorded). reserved (cache j.events) < j.spare) (sym (moves_books d.compacted.count k.value m.value d.compacted.moves).journal) (spare_swept (holder h).number h.value k.value w.0 w.2 c.requires.room)

pub returns-clause-flushed : goal.returns-clause-flushed
returns-clause-flushed c =
    let h = c.args.held.now in
    let k = c.reap_ended_streams.new.held in
    let m = c.compact.new.held in
    let w = c.reap_ended_streams.ensures.swept in
    let d = c.compact.ensures in
    let p = c.push_flush.ensures in (
      w.0,
      w.3,
      finds_same h m c.push_flush.new.held w.0 (finds_same h k m w.0 w.1 d.stands.1 d.ranges) p.stands.1 p.ranges,
      m.value,
      subst (λ (s : ServerState). IsCompacted s m.value) w.2.value d.compacted,
      p.pushed,
    )

pub returns-clause-rests : goal.returns-clause-rests
returns-clause-rests c =
    let h = c.args.held.now in
    let own = λ (s : ServerState). listed_for (holder h).number (tasks_of s) in
    ap own c.push_flush.ensures.pushed ∙ (ap (listed_for (holder h).number) c.compact.ensures.listed ∙ (c.reap_ended_streams.ensures.swept.2.listed ∙ c.requires.next.free))
