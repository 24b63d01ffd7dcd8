use Rattle.qc_dir.specs.Directory.{entry_at, names_table}
use Rattle.qc_core.proofs.Dropping.{passing_there, may_drop, one_left, fewer, leaving_start, leaving_one, leaving_end}
use Rattle.qc_core.proofs.Sparing.{room_for_none, all_left}
use Rattle.qc_core.proofs.server_state.ServerState.drop_on_table.Goals as goal

pub loop-serial-init : goal.loop-serial-init
loop-serial-init c = leaving_start (names_table c.args.table.now) c.args.self.now c.requires

pub drop_entry-requires-clause-may : goal.drop_entry-requires-clause-may
drop_entry-requires-clause-may c =
    let s = c.loop-serial.self in
    let n = c.in-Some.serial in
    let there = passing_there (names_table c.args.table.now) (entry_at n s.dir.entries) c.in-Some.ensures.serial in
    may_drop n s there.0 c.loop-serial.invariant.blocks there.1

pub drop_entry-requires-clause-keeps : goal.drop_entry-requires-clause-keeps
drop_entry-requires-clause-keeps c = room_for_none c.in-Some.serial c.loop-serial.self c.none.result c.none.ensures

pub loop-serial-preserved : goal.loop-serial-preserved
loop-serial-preserved c =
    let s = c.loop-serial.self in
    let n = c.in-Some.serial in
    let t = c.drop_entry.new.self in
    let inv = c.loop-serial.invariant in
    let p = names_table c.args.table.now in
    let there = passing_there p (entry_at n s.dir.entries) c.in-Some.ensures.serial in
    leaving_one p p c.args.self.now s t n there.0 inv there.1 there.2 (one_left n s t (may_drop n s there.0 inv.blocks there.1) (all_left n s t c.none.result c.drop_entry.new.hand c.none.ensures c.drop_entry.ensures.left) c.drop_entry.ensures.valid)

pub loop-serial-smaller : goal.loop-serial-smaller
loop-serial-smaller c =
    let s = c.loop-serial.self in
    let n = c.in-Some.serial in
    let t = c.drop_entry.new.self in
    let inv = c.loop-serial.invariant in
    let there = passing_there (names_table c.args.table.now) (entry_at n s.dir.entries) c.in-Some.ensures.serial in
    fewer n s t there.0 inv.blocks there.1 (one_left n s t (may_drop n s there.0 inv.blocks there.1) (all_left n s t c.none.result c.drop_entry.new.hand c.none.ensures c.drop_entry.ensures.left) c.drop_entry.ensures.valid)

pub returns-clause-out : goal.returns-clause-out
returns-clause-out c = let p = names_table c.args.table.now in leaving_end p p c.args.self.now c.loop-serial.self c.loop-serial.invariant c.in_default.ensures.serial

pub returns-clause-blocks : goal.returns-clause-blocks
returns-clause-blocks c = c.loop-serial.invariant.blocks
