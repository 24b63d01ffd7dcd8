use Rattle.std.proofs.Common.{List, sym, ap, subst, ◌∙◌}
use Rattle.std.specs.Prelude.{Contains}
use Rattle.qc_tiles.specs.declared.blocks.Tile.{Tile}
use Rattle.qc_tiles.specs.Tiles.{handed_out, after_give_back}
use Rattle.qc_tiles.proofs.Calls.{own_tiling}
use Rattle.qc_chain.specs.Chains.{AreHandedOut}
use Rattle.qc_dir.specs.Directory.{RemovesEntry}
use Rattle.qc_core.specs.declared.server_state.ServerState.{ServerState}
use Rattle.qc_core.specs.EntryRemoval.{table_blocks}
use Rattle.qc_core.proofs.Leaving.{begun_there, text_out, tables_out}
use Rattle.qc_core.proofs.Sparing.{left_keeping}
use Rattle.qc_core.proofs.server_state.ServerState.drop_entry.Goals as goal

pub drop_chain-requires : goal.drop_chain-requires
drop_chain-requires c =
    let r = c.remove-entry in
    (c.requires.may.held, begun_there c.args.serial c.args.self.now c.requires.may r.result.entry r.ensures.entry r.result.freed r.new.self r.ensures.removed, c.requires.may.chain)

pub give_back-requires : goal.give_back-requires
give_back-requires c =
    let r = c.remove-entry in
    let u = c.requires.may in
    let begun = begun_there c.args.serial c.args.self.now u r.result.entry r.ensures.entry r.result.freed r.new.self r.ensures.removed in
    let out = text_out c.args.serial c.args.self.now u r.result.entry r.ensures.entry r.result.freed r.new.self r.ensures.removed in
    subst (λ (x : ServerState). Contains (handed_out x.tiles) r.result.entry.text) (sym (c.drop_chain.ensures u.held begun)) out.each.0

pub sort-requires-clause-few : goal.sort-requires-clause-few
sort-requires-clause-few c =
    let r = c.remove-entry in
    c.requires.keeps r.result.freed r.new.self.tables r.ensures.removed.tables

pub sort-requires-clause-tiling : goal.sort-requires-clause-tiling
sort-requires-clause-tiling c = own_tiling _ c.give_back.new.self c.give_back.ensures.tiling

pub sort-requires-clause-out : goal.sort-requires-clause-out
sort-requires-clause-out c =
    let r = c.remove-entry in
    let u = c.requires.may in
    let begun = begun_there c.args.serial c.args.self.now u r.result.entry r.ensures.entry r.result.freed r.new.self r.ensures.removed in
    let out = tables_out c.args.serial c.args.self.now u r.result.entry r.ensures.entry r.result.freed r.new.self r.ensures.removed in
    let tiles = c.give_back.ensures.tiles ∙ ap (λ (x : ServerState). after_give_back r.result.entry.text.first x.tiles) (c.drop_chain.ensures u.held begun) in
    subst (λ (ts : List Tile). AreHandedOut ts (table_blocks r.result.freed)) (sym tiles) out

pub returns-clause-left : goal.returns-clause-left
returns-clause-left c = λ u.
    let r = c.remove-entry in
    let begun = begun_there c.args.serial c.args.self.now u r.result.entry r.ensures.entry r.result.freed r.new.self r.ensures.removed in
    let s = c.sort.ensures in
    record {
      kept = s.kept;
      others = s.others;
      freed = r.result.freed;
      removed = subst (λ (x : ServerState). RemovesEntry c.args.serial r.result.freed c.args.self.now.dir x.dir) (sym (c.drop_chain.ensures u.held begun)) r.ensures.removed;
      parts = s.parts;
      sorts = s.sorts;
      hand = s.hand;
      server = left_keeping c.args.serial c.args.self.now u r.result.entry r.ensures.entry r.result.freed r.new.self r.ensures.removed s.others c.drop_chain.new.self c.give_back.new.self c.sort.new.tiles
          (c.drop_chain.ensures u.held begun) c.give_back.ensures.tiles s.tiles;
    }
