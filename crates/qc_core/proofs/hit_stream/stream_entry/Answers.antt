use Rattle.std.proofs.Common.{◌≡◌, ◌*◌, ◌<◌, ◌≤◌, arith, sym, ap, subst, ◌∙◌}
use Rattle.qc_key.specs.Hash.{hash}
use Rattle.qc_model.specs.declared.events.Event.TheVariants as event
use Rattle.qc_model.specs.declared.events.How.TheVariants as how
use Rattle.qc_chain.specs.Words.{words_of}
use Rattle.qc_chain.specs.Chains.{Ranged}
use Rattle.qc_dir.specs.Directory.{IsDirectory}
use Rattle.qc_turn.specs.declared.task.Task.TheVariants as task
use Rattle.qc_turn.specs.Tasks.{listed_for, own}
use Rattle.qc_turn.specs.Views.{idle_of}
use Rattle.qc_turn.specs.Seats.{words, holder, MayRelease, SameHolder, with_value, with_ranges}
use Rattle.qc_sound.specs.Moment.{at_rest}
use Rattle.qc_sound.proofs.Needs.{needs_push}
use Rattle.qc_core.specs.declared.server_state.ServerState.{ServerState}
use Rattle.qc_core.specs.Whole.{tasks_of, with_event}
use Rattle.qc_core.specs.HitStream.{MayUse, used_by, IsChainOf}
use Rattle.qc_core.proofs.Standing.{both_stand}
use Rattle.qc_core.proofs.Streaming.{seat_is, entry_usable, situation}
use Rattle.qc_core.proofs.Uses.{hit_whole, hit_follows, hit_is, hit_listed, chain_kept}
use Rattle.qc_core.proofs.hit_stream.stream_entry.Goals as goal

pub use_entry-requires : goal.use_entry-requires
use_entry-requires c =
    let h = c.args.held.now in
    let u = entry_usable h c.args.who c.args.serial c.requires.stands c.requires.next c.requires.complete c.requires.ranges in
    let same : c.value-2.result.now ≡ h.value = c.value-2.ensures.value ∙ c.value.ensures.value in
    let hand : c.replace-ranges.result ≡ h.ranges = c.replace-ranges.ensures.value ∙ c.ranges-2.ensures.value in
    subst (λ (p : ServerState × Ranged). MayUse c.args.serial p.0 p.1.room) (λ i. (sym same i, sym hand i)) u

pub push-place-requires : goal.push-place-requires
push-place-requires c =
    let k = situation c.args.held.now c.args.who c.args.serial c.requires.stands c.requires.next c.requires.complete c.requires.ranges c.value-2.result.now c.use_entry.new.self c.replace-ranges.result c.use_entry.new.ranges c.number-seat.result (c.value-2.ensures.value ∙ c.value.ensures.value) (c.replace-ranges.ensures.value ∙ c.ranges-2.ensures.value) c.number-seat.ensures c.use_entry.ensures.server c.use_entry.ensures.ranges c.use_entry.ensures.fit in
    omega (arith, c.requires.room, ap (λ (t : ServerState). t.journal.spare) (c.value-3.ensures.value ∙ k.used))

pub returns-clause-stands : goal.returns-clause-stands
returns-clause-stands c =
    let h = c.args.held.now in
    let s = h.value in
    let n = c.args.serial in
    let next = c.requires.next in
    let sound = c.requires.stands.sound in
    let k = situation c.args.held.now c.args.who c.args.serial c.requires.stands c.requires.next c.requires.complete c.requires.ranges c.value-2.result.now c.use_entry.new.self c.replace-ranges.result c.use_entry.new.ranges c.number-seat.result (c.value-2.ensures.value ∙ c.value.ensures.value) (c.replace-ranges.ensures.value ∙ c.ranges-2.ensures.value) c.number-seat.ensures c.use_entry.ensures.server c.use_entry.ensures.ranges c.use_entry.ensures.fit in
    let u = k.may in
    let ev = event.Run c.args.who (how.Hit n) in
    let is : c.push-place.new.self ≡ with_event ev (used_by (holder h).number n u.entry u.held s) = c.push-place.ensures.pushed ∙ ap (with_event ev) (c.value-3.ensures.value ∙ k.used) in
    let ps : 0 < (holder h).number = omega (arith, h.seat.now.numbered.0, h.seat.now.numbered.1) in
    let valid = subst (λ (t : ServerState). IsDirectory t.dir) k.used c.use_entry.ensures.valid in
    let low = seat_is h c.args.who n c.requires.stands next c.requires.complete c.requires.ranges in
    let whole = hit_whole (at_rest hash) sound.0 (words h) s c.args.who n (holder h).number h.ranges.room sound.1 low (needs_push s.options s.journal.events ev sound.1.sound.journal.needs tt) next.session next.number next.free c.requires.room c.requires.complete u valid in
    subst (λ x. MayRelease (with_value (with_ranges h c.use_entry.new.ranges) x) × SameHolder h (with_value (with_ranges h c.use_entry.new.ranges) x)) (sym is)
    (both_stand h c.use_entry.new.ranges (with_event ev (used_by (holder h).number n u.entry u.held s)) c.requires.stands (sound.0, whole)
    (hit_follows s c.args.who n (holder h).number u.entry u.held (idle_of (holder h).found) ps next.session))

pub returns-clause-server : goal.returns-clause-server
returns-clause-server c =
    let h = c.args.held.now in
    let k = situation c.args.held.now c.args.who c.args.serial c.requires.stands c.requires.next c.requires.complete c.requires.ranges c.value-2.result.now c.use_entry.new.self c.replace-ranges.result c.use_entry.new.ranges c.number-seat.result (c.value-2.ensures.value ∙ c.value.ensures.value) (c.replace-ranges.ensures.value ∙ c.ranges-2.ensures.value) c.number-seat.ensures c.use_entry.ensures.server c.use_entry.ensures.ranges c.use_entry.ensures.fit in
    c.push-place.ensures.pushed ∙ (ap (with_event (event.Run c.args.who (how.Hit c.args.serial))) (c.value-3.ensures.value ∙ k.used) ∙ hit_is h.value c.args.who c.args.serial (holder h).number h.ranges.room k.may)

pub returns-clause-ranges : goal.returns-clause-ranges
returns-clause-ranges c =
    let h = c.args.held.now in
    let n = c.args.serial in
    let k = situation c.args.held.now c.args.who c.args.serial c.requires.stands c.requires.next c.requires.complete c.requires.ranges c.value-2.result.now c.use_entry.new.self c.replace-ranges.result c.use_entry.new.ranges c.number-seat.result (c.value-2.ensures.value ∙ c.value.ensures.value) (c.replace-ranges.ensures.value ∙ c.ranges-2.ensures.value) c.number-seat.ensures c.use_entry.ensures.server c.use_entry.ensures.ranges c.use_entry.ensures.fit in
    let is = c.push-place.ensures.pushed ∙ ap (with_event (event.Run c.args.who (how.Hit n))) (c.value-3.ensures.value ∙ k.used) in
    subst (λ x. IsChainOf n x c.use_entry.new.ranges) (sym is) (chain_kept h.value c.args.who n (holder h).number h.ranges.room k.may c.use_entry.new.ranges k.ranges)

pub returns-clause-within : goal.returns-clause-within
returns-clause-within c =
    let k = situation c.args.held.now c.args.who c.args.serial c.requires.stands c.requires.next c.requires.complete c.requires.ranges c.value-2.result.now c.use_entry.new.self c.replace-ranges.result c.use_entry.new.ranges c.number-seat.result (c.value-2.ensures.value ∙ c.value.ensures.value) (c.replace-ranges.ensures.value ∙ c.ranges-2.ensures.value) c.number-seat.ensures c.use_entry.ensures.server c.use_entry.ensures.ranges c.use_entry.ensures.fit in
    let within = subst (λ (z : Ranged). z.bytes ≤ 8 * words_of z.blocks) (sym k.ranges) k.fit.within in
    omega (arith, within, c.bytes-bytes.ensures)

pub returns-clause-listed : goal.returns-clause-listed
returns-clause-listed c =
    let h = c.args.held.now in
    let n = c.args.serial in
    let k = situation c.args.held.now c.args.who c.args.serial c.requires.stands c.requires.next c.requires.complete c.requires.ranges c.value-2.result.now c.use_entry.new.self c.replace-ranges.result c.use_entry.new.ranges c.number-seat.result (c.value-2.ensures.value ∙ c.value.ensures.value) (c.replace-ranges.ensures.value ∙ c.ranges-2.ensures.value) c.number-seat.ensures c.use_entry.ensures.server c.use_entry.ensures.ranges c.use_entry.ensures.fit in
    let is = c.push-place.ensures.pushed ∙ ap (with_event (event.Run c.args.who (how.Hit n))) (c.value-3.ensures.value ∙ k.used) in
    ap (λ (x : ServerState). listed_for (holder h).number (tasks_of x)) is ∙ (hit_listed h.value c.args.who n (holder h).number h.ranges.room k.may c.requires.next.free ∙ ap (λ (z : Ranged). own (holder h).number (task.Stream n) z.blocks) (sym k.ranges))

pub returns-clause-same_room : goal.returns-clause-same_room
returns-clause-same_room c = let k = situation c.args.held.now c.args.who c.args.serial c.requires.stands c.requires.next c.requires.complete c.requires.ranges c.value-2.result.now c.use_entry.new.self c.replace-ranges.result c.use_entry.new.ranges c.number-seat.result (c.value-2.ensures.value ∙ c.value.ensures.value) (c.replace-ranges.ensures.value ∙ c.ranges-2.ensures.value) c.number-seat.ensures c.use_entry.ensures.server c.use_entry.ensures.ranges c.use_entry.ensures.fit in ap (λ (z : Ranged). z.room) k.ranges
