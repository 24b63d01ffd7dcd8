-- The bits behind the place move down, and the last word goes where no bit is left in it.
use Rattle.std.proofs.Common.{◌≡◌, ◌∙◌, drop, length}
use Rattle.std.proofs.lemmas.List.{take_at}
use Rattle.qc_table.proofs.BitMoves.{removed}
use Rattle.qc_table.proofs.nulls.remove_bit.Goals as goal

pub returns-clause-packed : goal.returns-clause-packed
returns-clause-packed c =
    let old = c.args.words.now in
    let new = c.move_down.new.words in
    let moved = rw c.deref_mut.ensures.value at c.move_down.ensures in
    let size : length new ≡ old.len = c.move_down.ensures.len ∙ c.deref_mut.ensures.len in
    let whole = take_at new (drop (length new) old.items) old.len size in
    let left = rw whole at c.truncate.ensures.items in
    let all = removed c.args.at c.args.count old.items new c.truncate.new.self.items c.requires.packed c.requires.within moved.len moved.front moved.behind left in
    all.0

pub returns-clause-bits : goal.returns-clause-bits
returns-clause-bits c =
    let old = c.args.words.now in
    let new = c.move_down.new.words in
    let moved = rw c.deref_mut.ensures.value at c.move_down.ensures in
    let size : length new ≡ old.len = c.move_down.ensures.len ∙ c.deref_mut.ensures.len in
    let whole = take_at new (drop (length new) old.items) old.len size in
    let left = rw whole at c.truncate.ensures.items in
    let all = removed c.args.at c.args.count old.items new c.truncate.new.self.items c.requires.packed c.requires.within moved.len moved.front moved.behind left in
    all.1
