use Rattle.std.proofs.Common.{ℕ, ◌+◌, ◌++◌, List, [], ◌∷◌, length, refl, sym, ap, subst, ◌∙◌}
use Rattle.qc_types.specs.declared.names.TableName.{TableName}
use Rattle.qc_model.specs.declared.events.Event.TheVariants as event
use Rattle.qc_model.specs.declared.events.How.TheVariants as how
use Rattle.qc_turn.specs.declared.task.Task.TheVariants as task
use Rattle.qc_turn.specs.Tasks.{own}
use Rattle.qc_turn.specs.Seats.{holder, words, with_value}
use Rattle.qc_turn.proofs.Holders.{same_on, same_value}
use Rattle.qc_core.specs.declared.reserved_blocks.ReservedBlocks.{ReservedBlocks}
use Rattle.qc_core.specs.declared.server_state.ServerState.{ServerState}
use Rattle.qc_core.specs.declared.entry_start.Ready.{Ready}
use Rattle.qc_core.specs.EntryStart.{AddsFill, needs_for, without_block}
use Rattle.qc_core.specs.Allocation.{MayTake, next_of, TakesAll, Stops}
use Rattle.qc_core.proofs.Starting.{taking, holds_blocks, holds_nothing}
use Rattle.qc_core.proofs.TheirBlocks.{their_blocks}
use Rattle.qc_core.proofs.entry_start.begin.Goals as goal

pub take_blocks-requires : goal.take_blocks-requires
take_blocks-requires c =
    let h = c.args.held.now in
    let r = c.requires in
    subst (λ (q : List TableName × List ℕ × ReservedBlocks × ServerState). MayTake q.0 (length q.1) q.2 q.3)
    (λ i. (sym (ap (λ (x : Ready). x.missing) r.ready) i, sym c.bytes-bytes.ensures i, sym (ap (λ (x : Ready). x.hand) r.ready) i, sym c.value.ensures.value i))
    (taking c.args.who c.args.ready.serial c.args.key c.args.tables h r.stands r.next r.may r.room (ap (λ (x : Ready). x.serial) r.ready))

pub finish-requires : goal.finish-requires
finish-requires c =
    let h = c.args.held.now in
    let r = c.requires in
    let above = ap (λ (x : Ready). x.serial) r.ready in
    let hand = c.take_blocks.new.hand in
    let x = c.take_blocks.new.self in
    let t = c.in-Ok.taken in
    let a = subst (λ (q : List TableName × List ℕ × ReservedBlocks × ServerState). (u : MayTake q.0 (length q.1) q.2 q.3) → TakesAll (next_of q.0 (length q.1) q.2 q.3 u) u.words q.0 (length q.1) q.2 hand q.3 t x)
    (λ i. (ap (λ (x : Ready). x.missing) r.ready i, c.bytes-bytes.ensures i, ap (λ (x : Ready). x.hand) r.ready i, c.value.ensures.value i)) (c.in-Ok.ensures {u = tt}).ok
    (taking c.args.who c.args.ready.serial c.args.key c.args.tables h r.stands r.next r.may r.room above) in
    holds_blocks c.args.who c.args.ready.serial c.args.key c.args.tables h r.stands r.next r.may r.room above hand t x r.ranges a

pub run_without_room-requires : goal.run_without_room-requires
run_without_room-requires c =
    let h = c.args.held.now in
    let r = c.requires in
    let above = ap (λ (x : Ready). x.serial) r.ready in
    let x = c.take_blocks.new.self in
    let e = c.in-Err.none in
    let a = subst (λ (q : List TableName × List ℕ × ReservedBlocks × ServerState). (u : MayTake q.0 (length q.1) q.2 q.3) → Stops q.2.tables (next_of q.0 (length q.1) q.2 q.3 u) u.words (needs_for q.3.options q.0 (length q.1)) [] q.3 x e)
    (λ i. (ap (λ (x : Ready). x.missing) r.ready i, c.bytes-bytes.ensures i, ap (λ (x : Ready). x.hand) r.ready i, c.value.ensures.value i)) (c.in-Err.ensures {u = tt}).err
    (taking c.args.who c.args.ready.serial c.args.key c.args.tables h r.stands r.next r.may r.room above) in
    holds_nothing c.args.who c.args.ready.serial c.args.key c.args.tables h r.stands r.next r.may r.room above (needs_for h.value.options (without_block h.value.dir.tables c.args.tables) (length c.args.key)) x e a

pub returns-in-Ok-clause-stands : goal.returns-in-Ok-clause-stands
returns-in-Ok-clause-stands c =
    let h = c.args.held.now in
    let x = c.take_blocks.new.self in
    (c.finish.ensures.stands.0, same_on h (with_value h x) c.finish.new.held (same_value h x c.requires.stands.held) c.finish.ensures.stands.1)

pub returns-in-Ok-clause-begun : goal.returns-in-Ok-clause-begun
returns-in-Ok-clause-begun c =
    let h = c.args.held.now in
    let r = c.requires in
    let above = ap (λ (x : Ready). x.serial) r.ready in
    let hand = c.take_blocks.new.hand in
    let x = c.take_blocks.new.self in
    let t = c.in-Ok.taken in
    let a = subst (λ (q : List TableName × List ℕ × ReservedBlocks × ServerState). (u : MayTake q.0 (length q.1) q.2 q.3) → TakesAll (next_of q.0 (length q.1) q.2 q.3 u) u.words q.0 (length q.1) q.2 hand q.3 t x)
    (λ i. (ap (λ (x : Ready). x.missing) r.ready i, c.bytes-bytes.ensures i, ap (λ (x : Ready). x.hand) r.ready i, c.value.ensures.value i)) (c.in-Ok.ensures {u = tt}).ok
    (taking c.args.who c.args.ready.serial c.args.key c.args.tables h r.stands r.next r.may r.room above) in
    record {
      serial = c.finish.ensures.serial ∙ above;
      place = c.finish.ensures.place;
      blocks = a.blocks;
      first = t.first;
      text = t.text;
      mid = x;
      takes = a.takes;
      adds = subst (λ n. AddsFill (holder h).number n c.args.key c.args.tables t.first t.text x c.finish.new.held.value) (sym c.finish.ensures.serial) c.finish.ensures.adds;
      kept = their_blocks (without_block h.value.dir.tables c.args.tables) a.blocks (record { tables = c.args.tables; fresh = [] }) hand h.value x c.finish.new.held.value.dir.tables refl a.gives c.finish.ensures.blocks;
      events = c.finish.ensures.events ∙ ap (λ n. x.journal.events ++ event.Run c.args.who (how.Start n c.args.key c.args.tables) ∷ []) (sym c.finish.ensures.serial);
      ranges = c.finish.ensures.ranges;
    }

pub returns-in-Ok-clause-listed : goal.returns-in-Ok-clause-listed
returns-in-Ok-clause-listed c =
    let h = c.args.held.now in
    c.finish.ensures.listed ∙ (λ i. own (holder h).number (task.Fill (sym c.finish.ensures.serial i)) (sym c.finish.ensures.ranges i).blocks)

pub returns-in-Err-clause-stands : goal.returns-in-Err-clause-stands
returns-in-Err-clause-stands c =
    let h = c.args.held.now in
    let x = c.take_blocks.new.self in
    (c.run_without_room.ensures.stands.0, same_on h (with_value h x) c.run_without_room.new.held (same_value h x c.requires.stands.held) c.run_without_room.ensures.stands.1)

pub returns-in-Err-clause-begun : goal.returns-in-Err-clause-begun
returns-in-Err-clause-begun c =
    let h = c.args.held.now in
    let r = c.requires in
    let above = ap (λ (x : Ready). x.serial) r.ready in
    let x = c.take_blocks.new.self in
    let e = c.in-Err.none in
    let a = subst (λ (q : List TableName × List ℕ × ReservedBlocks × ServerState). (u : MayTake q.0 (length q.1) q.2 q.3) → Stops q.2.tables (next_of q.0 (length q.1) q.2 q.3 u) u.words (needs_for q.3.options q.0 (length q.1)) [] q.3 x e)
    (λ i. (ap (λ (x : Ready). x.missing) r.ready i, c.bytes-bytes.ensures i, ap (λ (x : Ready). x.hand) r.ready i, c.value.ensures.value i)) (c.in-Err.ensures {u = tt}).err
    (taking c.args.who c.args.ready.serial c.args.key c.args.tables h r.stands r.next r.may r.room above) in
    record {
      mid = x;
      short = a.short;
      server = c.run_without_room.ensures.pushed;
      place = c.run_without_room.ensures.place;
      ranges = c.run_without_room.ensures.ranges;
    }
