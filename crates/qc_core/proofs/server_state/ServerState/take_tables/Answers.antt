use Rattle.std.proofs.Common.{ℕ, ◌+◌, List, [], ◌∷◌, length, map, drop, take, sym, ap, subst, ◌∙◌, arith, refl, length-append}
use Rattle.std.proofs.lemmas.Iterator.Consumers.{YieldsList-turn, YieldsList-end}
use Rattle.std.proofs.lemmas.Iterator.Adapters.{YieldsList-from_vec}
use Rattle.qc_types.specs.Blocks.{least_block}
use Rattle.qc_dir.specs.declared.tables.TableBlock.{TableBlock}
use Rattle.qc_sound.proofs.Handed.{times_append}
use Rattle.qc_core.specs.EntryRemoval.{table_blocks}
use Rattle.qc_core.specs.Allocation.{next_of, Stops}
use Rattle.qc_core.proofs.Drawing.{Drawing, drawing_start, may_take_table, next_table, draws_on, draw_room, draws_all, needs_split, stops, err_same}
use Rattle.qc_core.proofs.server_state.ServerState.take_tables.Goals as goal

pub loop-table-init : goal.loop-table-init
loop-table-init c = λ bytes u. drawing_start c.args.missing bytes c.args.hand.now c.args.self.now u

pub allocate-requires : goal.allocate-requires
allocate-requires c =
    let bytes = c.requires.0 in
    let u = c.requires.1 in
    let missing = c.args.missing in
    let g = c.into_iter-table-iterator.ensures.into_iter_gives in
    let items = c.into_vec-table-items.ensures in
    let road = YieldsList-from_vec {s = c.into_iter-table-iterator.result} missing (g.0 ∙ items) (g.1 ∙ (c.into_vec-table-items.result.ok.0 ∙ ap (λ l. length l) items)) in
    let t = YieldsList-turn road c.loop-table.yielded c.loop-table.table-iterator c.loop-table.yielded_by _ c.next.new.self c.in-Some.table c.in-Some.is c.next.ensures.steps in
    let n = length c.loop-table.yielded in
    let next = next_of missing bytes c.args.hand.now c.args.self.now u in
    may_take_table next u.words c.in-Some.table (drop (n + 1) missing) c.loop-table.hand c.loop-table.self
    (next_table next u.words missing n c.args.hand.now c.loop-table.hand c.args.self.now c.loop-table.self (c.loop-table.invariant bytes u) c.in-Some.table t.0 t.1) refl

pub returns-in_err-block-clause-err : goal.returns-in_err-block-clause-err
returns-in_err-block-clause-err c = λ bytes u.
    let missing = c.args.missing in
    let g = c.into_iter-table-iterator.ensures.into_iter_gives in
    let items = c.into_vec-table-items.ensures in
    let road = YieldsList-from_vec {s = c.into_iter-table-iterator.result} missing (g.0 ∙ items) (g.1 ∙ (c.into_vec-table-items.result.ok.0 ∙ ap (λ l. length l) items)) in
    let t = YieldsList-turn road c.loop-table.yielded c.loop-table.table-iterator c.loop-table.yielded_by _ c.next.new.self c.in-Some.table c.in-Some.is c.next.ensures.steps in
    let n = length c.loop-table.yielded in
    let s = c.args.self.now in
    let now = c.loop-table.self in
    let next = next_of missing bytes c.args.hand.now s u in
    let d = c.loop-table.invariant bytes u in
    let may = may_take_table next u.words c.in-Some.table (drop (n + 1) missing) c.loop-table.hand now (next_table next u.words missing n c.args.hand.now c.loop-table.hand s now d c.in-Some.table t.0 t.1) refl in
    let p = (c.in_err-block.ensures {u = tt}).err may in
    let after = c.allocate.new.hand in
    let e = c.in_err-block.field-0.0 in
    let r = stops (map (λ t. least_block) (take n missing)) least_block (map (λ t. least_block) (drop (n + 1) missing)) next u.words (c.in-Some.table ∷ drop (n + 1) missing) [] c.loop-table.hand after c.args.hand.now.tables d.tables s now c.allocate.new.self d.blocks e d.takes p.0 p.1 may.least d.room [] (table_blocks after.fresh) (λ b. let sum = times_append b (table_blocks after.fresh) [] in omega (arith, sum)) in
    err_same c.from_residual.result e _ c.from_residual.ensures.1
    (subst (λ l. Stops c.args.hand.now.tables next u.words l (table_blocks after.fresh) s c.allocate.new.self e) (sym (needs_split next u.words missing n c.args.hand.now c.loop-table.hand s now d c.in-Some.table t.0 t.1)) r)

pub push-requires : goal.push-requires
push-requires c =
    let bytes = c.requires.0 in
    let u = c.requires.1 in
    let missing = c.args.missing in
    let g = c.into_iter-table-iterator.ensures.into_iter_gives in
    let items = c.into_vec-table-items.ensures in
    let road = YieldsList-from_vec {s = c.into_iter-table-iterator.result} missing (g.0 ∙ items) (g.1 ∙ (c.into_vec-table-items.result.ok.0 ∙ ap (λ l. length l) items)) in
    let t = YieldsList-turn road c.loop-table.yielded c.loop-table.table-iterator c.loop-table.yielded_by _ c.next.new.self c.in-Some.table c.in-Some.is c.next.ensures.steps in
    let n = length c.loop-table.yielded in
    let s = c.args.self.now in
    let now = c.loop-table.self in
    let next = next_of missing bytes c.args.hand.now s u in
    let d = c.loop-table.invariant bytes u in
    let may = may_take_table next u.words c.in-Some.table (drop (n + 1) missing) c.loop-table.hand now (next_table next u.words missing n c.args.hand.now c.loop-table.hand s now d c.in-Some.table t.0 t.1) refl in
    draw_room next u.words missing n c.args.hand.now c.loop-table.hand s now d c.in-Some.table t.0 t.1 c.allocate.new.hand c.in_ok-block.block c.allocate.new.self ((c.in_ok-block.ensures {u = tt}).ok may)

pub loop-table-preserved : goal.loop-table-preserved
loop-table-preserved c = λ bytes u.
    let missing = c.args.missing in
    let g = c.into_iter-table-iterator.ensures.into_iter_gives in
    let items = c.into_vec-table-items.ensures in
    let road = YieldsList-from_vec {s = c.into_iter-table-iterator.result} missing (g.0 ∙ items) (g.1 ∙ (c.into_vec-table-items.result.ok.0 ∙ ap (λ l. length l) items)) in
    let t = YieldsList-turn road c.loop-table.yielded c.loop-table.table-iterator c.loop-table.yielded_by _ c.next.new.self c.in-Some.table c.in-Some.is c.next.ensures.steps in
    let n = length c.loop-table.yielded in
    let s = c.args.self.now in
    let now = c.loop-table.self in
    let next = next_of missing bytes c.args.hand.now s u in
    let d = c.loop-table.invariant bytes u in
    let may = may_take_table next u.words c.in-Some.table (drop (n + 1) missing) c.loop-table.hand now (next_table next u.words missing n c.args.hand.now c.loop-table.hand s now d c.in-Some.table t.0 t.1) refl in
    let after = c.allocate.new.hand in
    let new = c.allocate.new.self in
    let r = draws_on next u.words missing n c.args.hand.now c.loop-table.hand s now d c.in-Some.table t.0 t.1 after c.in_ok-block.block new ((c.in_ok-block.ensures {u = tt}).ok may) in
    subst (λ (q : ℕ × List TableBlock). Drawing next u.words missing q.0 c.args.hand.now (record { tables = after.tables; fresh = q.1 }) s new) (λ i. (sym (length-append c.loop-table.yielded (c.in-Some.table ∷ [])) i, sym c.push.ensures i)) r

pub returns-clause-ok : goal.returns-clause-ok
returns-clause-ok c = λ bytes u.
    let missing = c.args.missing in
    let g = c.into_iter-table-iterator.ensures.into_iter_gives in
    let items = c.into_vec-table-items.ensures in
    let road = YieldsList-from_vec {s = c.into_iter-table-iterator.result} missing (g.0 ∙ items) (g.1 ∙ (c.into_vec-table-items.result.ok.0 ∙ ap (λ l. length l) items)) in
    let e = YieldsList-end road c.loop-table.yielded c.loop-table.table-iterator c.loop-table.yielded_by _ c.next.new.self c.in-None.is c.next.ensures.steps in
    draws_all (next_of missing bytes c.args.hand.now c.args.self.now u) u.words missing (length c.loop-table.yielded) c.args.hand.now c.loop-table.hand c.args.self.now c.loop-table.self e.1 (c.loop-table.invariant bytes u)
