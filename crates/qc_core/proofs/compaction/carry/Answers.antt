use Rattle.std.proofs.Common.{◌+◌, ◌<◌, length, ap, arith}
use Rattle.qc_turn.specs.Seats.{words}
use Rattle.qc_turn.proofs.Holders.{same_on}
use Rattle.qc_core.proofs.Carrying.{carry_start, carry_reads, carry_writes, carry_on}
use Rattle.qc_core.proofs.compaction.carry.Goals as goal

pub loop-index-init : goal.loop-index-init
loop-index-init c = carry_start c.args.held.now c.args.change c.requires.held

pub overflow_add-change : goal.overflow_add-change
overflow_add-change c =
    let h = c.args.held.now in
    let inside : c.loop-index.index < c.args.change.words = c.loop-index-test.true in
    omega (arith, c.requires.within, c.requires.down, inside, c.requires.held.width, h.turn.now.small)

pub overflow_add-change-in-loop-index : goal.overflow_add-change-in-loop-index
overflow_add-change-in-loop-index c =
    let h = c.args.held.now in
    let inside : c.loop-index.index < c.args.change.words = c.loop-index-test.true in
    omega (arith, c.requires.within, c.requires.down, inside, c.requires.held.width, h.turn.now.small)

pub load-word-requires : goal.load-word-requires
load-word-requires c =
    let inside : c.loop-index.index < c.args.change.words = c.loop-index-test.true in
    record { held = c.loop-index.invariant.held; inside = omega (arith, c.requires.within, inside, c.loop-index.invariant.long) }

pub store-requires : goal.store-requires
store-requires c =
    let h = c.args.held.now in
    let i = c.loop-index.index in
    let change = c.args.change in
    let inside : i < change.words = c.loop-index-test.true in
    let inv = c.loop-index.invariant in
    let l = c.load-word.ensures in
    let long = ap (λ ws. length ws) l.same.0 in
    let down = c.requires.down in
    record {
      held = l.held.0;
      inside = omega (arith, c.requires.within, inside, inv.long, long, down);
      free = carry_writes h c.load-word.new.self change (change.to + i) (same_on h c.loop-index.held c.load-word.new.self inv.same l.held.1) c.requires (omega arith) (omega (arith, inside, down));
    }

pub loop-index-preserved : goal.loop-index-preserved
loop-index-preserved c =
    let h = c.args.held.now in
    let k = c.loop-index.held in
    let i = c.loop-index.index in
    let change = c.args.change in
    let inside : i < change.words = c.loop-index-test.true in
    let inv = c.loop-index.invariant in
    let l = c.load-word.ensures in
    let s = c.store.ensures in
    let read = l.word (carry_reads h k change (change.from + i) inv.same c.requires (omega (arith, c.requires.down)) (omega (arith, inside))) in
    carry_on h k c.load-word.new.self c.store.new.self change i c.load-word.result c.requires inside inv s.held.0 l.held.1 l.same.0 l.same.1 l.same.2 s.held.1 s.same.0 s.same.1 read s.words
