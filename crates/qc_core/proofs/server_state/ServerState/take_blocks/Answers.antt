use Rattle.std.proofs.Common.{List, [], sym, subst, arith}
use Rattle.qc_model.specs.Licence.{region_words}
use Rattle.qc_tiles.specs.declared.blocks.Tile.{Tile}
use Rattle.qc_tiles.proofs.Calls.{own_tiling}
use Rattle.qc_core.specs.EntryRemoval.{table_blocks}
use Rattle.qc_core.specs.EntryStart.{needs_for}
use Rattle.qc_core.specs.Allocation.{holds, next_of, Stops}
use Rattle.qc_core.proofs.GivingBack.{held_out}
use Rattle.qc_core.proofs.Drawing.{stops_more}
use Rattle.qc_core.proofs.server_state.ServerState.take_blocks.Goals as goal

pub give_back-requires-clause-tiling : goal.give_back-requires-clause-tiling
give_back-requires-clause-tiling c =
    let u = c.requires in
    let p = (c.in-Err.ensures {u = tt}).err u in
    own_tiling (region_words c.take_all.new.self.options) c.take_all.new.self.tiles p.whole.sound.memory.tiles.tiling

pub give_back-requires-clause-out : goal.give_back-requires-clause-out
give_back-requires-clause-out c =
    let u = c.requires in
    let p = (c.in-Err.ensures {u = tt}).err u in
    let held = table_blocks c.take_all.new.hand.fresh in
    held_out (holds (next_of c.args.missing c.args.bytes c.args.hand.now c.args.self.now u) held) [] held p.names u.words c.take_all.new.self p.whole (λ b. omega arith)

pub returns-in-Err-clause-err : goal.returns-in-Err-clause-err
returns-in-Err-clause-err c = λ u.
    let p = (c.in-Err.ensures {u = tt}).err u in
    let next = next_of c.args.missing c.args.bytes c.args.hand.now c.args.self.now u in
    let held = table_blocks c.take_all.new.hand.fresh in
    let needs = needs_for c.args.self.now.options c.args.missing c.args.bytes in
    subst (λ (ts : List Tile). Stops c.args.hand.now.tables next u.words needs [] c.args.self.now (record c.take_all.new.self { tiles = ts }) c.in-Err.none) (sym c.give_back.ensures)
    (stops_more c.args.hand.now.tables next u.words needs held c.args.self.now c.take_all.new.self c.in-Err.none p)
