use Rattle.std.proofs.Common.{sym, ap, subst, ◌∙◌}
use Rattle.std.specs.List.{list_any}
use Rattle.qc_sql.specs.Database.{same_table}
use Rattle.qc_core.proofs.Sorting.{IsSorting, sorting_start, last_held, keep_room, sorting_keeps, sorting_gives}
use Rattle.qc_core.proofs.reserved_blocks.ReservedBlocks.sort.Goals as goal

pub loop-item-init : goal.loop-item-init
loop-item-init c = sorting_start c.args.self.now c.args.freed c.args.tiles.now c.requires.few c.requires.tiling c.requires.out

pub push-requires : goal.push-requires
push-requires c =
    let b = c.in-Some.item in
    let inv = subst (λ l. IsSorting c.args.self.now c.args.freed c.args.tiles.now c.loop-item.self l c.loop-item.tiles) (c.in-Some.ensures {u = tt}) c.loop-item.invariant in
    keep_room c.args.self.now c.args.freed c.args.tiles.now c.loop-item.self c.pop.new.self b c.loop-item.tiles inv (ap (list_any (same_table b.table)) (sym c.items.ensures) ∙ sym c.if-has_table.ensures)

pub loop-item-preserved-then-has_table : goal.loop-item-preserved-then-has_table
loop-item-preserved-then-has_table c =
    let b = c.in-Some.item in
    let inv = subst (λ l. IsSorting c.args.self.now c.args.freed c.args.tiles.now c.loop-item.self l c.loop-item.tiles) (c.in-Some.ensures {u = tt}) c.loop-item.invariant in
    sorting_keeps c.args.self.now c.args.freed c.args.tiles.now c.loop-item.self c.pop.new.self b c.loop-item.tiles inv (ap (list_any (same_table b.table)) (sym c.items.ensures) ∙ sym c.if-has_table.ensures) (record { tables = c.loop-item.self.tables; fresh = c.push.new.self }) (λ i. record { tables = c.loop-item.self.tables; fresh = c.push.ensures i })

pub give_back-requires : goal.give_back-requires
give_back-requires c =
    let b = c.in-Some.item in
    let inv = subst (λ l. IsSorting c.args.self.now c.args.freed c.args.tiles.now c.loop-item.self l c.loop-item.tiles) (c.in-Some.ensures {u = tt}) c.loop-item.invariant in
    last_held c.args.self.now c.args.freed c.args.tiles.now c.loop-item.self c.pop.new.self b c.loop-item.tiles inv

pub loop-item-preserved : goal.loop-item-preserved
loop-item-preserved c =
    let b = c.in-Some.item in
    let inv = subst (λ l. IsSorting c.args.self.now c.args.freed c.args.tiles.now c.loop-item.self l c.loop-item.tiles) (c.in-Some.ensures {u = tt}) c.loop-item.invariant in
    sorting_gives c.args.self.now c.args.freed c.args.tiles.now c.loop-item.self c.pop.new.self b c.loop-item.tiles inv (ap (list_any (same_table b.table)) (sym c.items.ensures) ∙ sym c.if-has_table.ensures) c.give_back.new.self c.give_back.ensures.tiles
