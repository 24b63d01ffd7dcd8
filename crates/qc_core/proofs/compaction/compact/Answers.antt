use Rattle.std.proofs.Common.{sym}
use Rattle.qc_core.proofs.Flushing.{compacts_start, compacts_on, compacts_end, may_carry, less}
use Rattle.qc_core.proofs.compaction.compact.Goals as goal

pub loop-change-init : goal.loop-change-init
loop-change-init c = compacts_start c.args.held.now c.requires.stands

pub carry-requires : goal.carry-requires
carry-requires c =
    let e = c.in-Some.ensures {u = tt} in
    may_carry c.loop-change.held c.value.result.now c.move_down.new.self c.in-Some.change c.loop-change.invariant.stands c.value.ensures.value (sym e.change) e.some e.valid

pub loop-change-preserved : goal.loop-change-preserved
loop-change-preserved c =
    let e = c.in-Some.ensures {u = tt} in
    compacts_on c.args.held.now c.loop-change.held c.carry.new.held c.value.result.now c.move_down.new.self c.in-Some.change c.loop-change.invariant c.value.ensures.value (sym e.change) e.some e.valid c.carry.ensures

pub loop-change-smaller : goal.loop-change-smaller
loop-change-smaller c =
    let e = c.in-Some.ensures {u = tt} in
    less c.loop-change.held c.value.result.now c.move_down.new.self c.in-Some.change c.loop-change.invariant.stands c.value.ensures.value (sym e.change) e.some e.valid c.carry.new.held c.carry.ensures

pub returns-clause-compacted : goal.returns-clause-compacted
returns-clause-compacted c =
    let e = c.in_default.ensures {u = tt} in
    (compacts_end c.args.held.now c.loop-change.held c.value.result.now c.move_down.new.self c.loop-change.invariant c.value.ensures.value (sym e.change) e.none).1
