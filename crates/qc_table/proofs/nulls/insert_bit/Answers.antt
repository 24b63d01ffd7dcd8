-- There is a word for one bit more, and the bits from its place on move up.
use Rattle.std.proofs.Common.{◌≡◌, ◌∙◌, drop, length}
use Rattle.std.proofs.lemmas.List.{take_at}
use Rattle.qc_table.proofs.BitMoves.{inserted}
use Rattle.qc_table.proofs.nulls.insert_bit.Goals as goal

pub returns-clause-packed : goal.returns-clause-packed
returns-clause-packed c =
    let new = c.move_up.new.words in
    let moved = rw c.deref_mut.ensures.value at c.move_up.ensures in
    let size : length new ≡ c.make_room.new.words.len = c.move_up.ensures.len ∙ c.deref_mut.ensures.len in
    let whole = take_at new (drop (length new) c.make_room.new.words.items) c.make_room.new.words.len size in
    let all = inserted c.args.at c.args.count c.args.bit c.args.words.now.items c.make_room.new.words.items new c.requires.packed c.requires.within c.in_ok-make_room.ensures.enough c.in_ok-make_room.ensures.same moved.len moved.front moved.here moved.behind in
    rw whole all.0

pub returns-clause-bits : goal.returns-clause-bits
returns-clause-bits c =
    let new = c.move_up.new.words in
    let moved = rw c.deref_mut.ensures.value at c.move_up.ensures in
    let size : length new ≡ c.make_room.new.words.len = c.move_up.ensures.len ∙ c.deref_mut.ensures.len in
    let whole = take_at new (drop (length new) c.make_room.new.words.items) c.make_room.new.words.len size in
    let all = inserted c.args.at c.args.count c.args.bit c.args.words.now.items c.make_room.new.words.items new c.requires.packed c.requires.within c.in_ok-make_room.ensures.enough c.in_ok-make_room.ensures.same moved.len moved.front moved.here moved.behind in
    rw whole all.1
