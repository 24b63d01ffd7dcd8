use Rattle.std.proofs.Common.{[], ◌∷◌, refl, sym, ◌∙◌}
use Rattle.qc_core.proofs.Dropping.{first_there, first_none, may_drop, one_left, blocks_left, fewer}
use Rattle.qc_core.proofs.Sparing.{room_for_none, all_left}
use Rattle.qc_core.proofs.server_state.ServerState.drop_all.Goals as goal

pub loop-serial-init : goal.loop-serial-init
loop-serial-init c = (c.requires, ([], refl))

pub drop_entry-requires-clause-may : goal.drop_entry-requires-clause-may
drop_entry-requires-clause-may c =
    let s = c.loop-serial.self in
    let there = first_there s.dir.entries c.in-Some.serial (sym c.oldest.ensures.serial ∙ c.in-Some.is) in
    may_drop c.in-Some.serial s there.0 c.loop-serial.invariant.0 there.1

pub drop_entry-requires-clause-keeps : goal.drop_entry-requires-clause-keeps
drop_entry-requires-clause-keeps c = room_for_none c.in-Some.serial c.loop-serial.self c.none.result c.none.ensures

pub loop-serial-preserved : goal.loop-serial-preserved
loop-serial-preserved c =
    let s = c.loop-serial.self in
    let n = c.in-Some.serial in
    let t = c.drop_entry.new.self in
    let inv = c.loop-serial.invariant in
    let there = first_there s.dir.entries n (sym c.oldest.ensures.serial ∙ c.in-Some.is) in
    let one = one_left n s t (may_drop n s there.0 inv.0 there.1) (all_left n s t c.none.result c.drop_entry.new.hand c.none.ensures c.drop_entry.ensures.left) c.drop_entry.ensures.valid in
    (blocks_left (n ∷ []) s t inv.0 (s, refl, one), (n ∷ inv.1.0, (s, inv.1.1, one)))

pub loop-serial-smaller : goal.loop-serial-smaller
loop-serial-smaller c =
    let s = c.loop-serial.self in
    let n = c.in-Some.serial in
    let t = c.drop_entry.new.self in
    let inv = c.loop-serial.invariant in
    let there = first_there s.dir.entries n (sym c.oldest.ensures.serial ∙ c.in-Some.is) in
    fewer n s t there.0 inv.0 there.1 (one_left n s t (may_drop n s there.0 inv.0 there.1) (all_left n s t c.none.result c.drop_entry.new.hand c.none.ensures c.drop_entry.ensures.left) c.drop_entry.ensures.valid)

pub returns : goal.returns
returns c =
    let s = c.loop-serial.self in
    let inv = c.loop-serial.invariant in
    record { serials = inv.1.0; left = inv.1.1; none = first_none s.dir.entries (sym c.oldest.ensures.serial ∙ c.in_default.is) }
