use Rattle.std.proofs.Common.{[], ◌∷◌, map}
use Rattle.qc_types.specs.Blocks.{least_block, raised}
use Rattle.qc_model.specs.Licence.{unit_words, words_of_bytes}
use Rattle.qc_core.specs.EntryRemoval.{table_blocks}
use Rattle.qc_core.specs.Allocation.{next_of}
use Rattle.qc_core.proofs.Drawing.{may_take_pair, all_so, all_stops, stops_before, ok_weaker, err_weaker, err_same}
use Rattle.qc_core.proofs.server_state.ServerState.take_all.Goals as goal

pub returns-in_err-take_tables-clause-err : goal.returns-in_err-take_tables-clause-err
returns-in_err-take_tables-clause-err c = λ u.
    let s = c.args.self.now in
    let e = c.in_err-take_tables.field-0.0 in
    err_same c.from_residual.result e _ c.from_residual.ensures.1
    (stops_before c.args.hand.now.tables (next_of c.args.missing c.args.bytes c.args.hand.now s u) u.words (map (λ t. least_block) c.args.missing) (unit_words s.options ∷ raised (words_of_bytes c.args.bytes) ∷ []) (table_blocks c.take_tables.new.hand.fresh) s c.take_tables.new.self e ((c.in_err-take_tables.ensures {u = tt}).err c.args.bytes u))

pub take_pair-requires : goal.take_pair-requires
take_pair-requires c = may_take_pair c.args.missing c.args.bytes c.args.hand.now c.take_tables.new.hand c.args.self.now c.take_tables.new.self c.requires ((c.in_ok-take_tables.ensures {u = tt}).ok c.args.bytes c.requires)

pub returns-clause-ok : goal.returns-clause-ok
returns-clause-ok c = λ u.
    let t = (c.in_ok-take_tables.ensures {u = tt}).ok c.args.bytes u in
    let after = c.take_tables.new.hand in
    let mid = c.take_tables.new.self in
    ok_weaker c.take_pair.result _ _ (λ taken h. all_so c.args.missing c.args.bytes c.args.hand.now after c.take_pair.new.hand c.args.self.now mid c.take_pair.new.self u t taken h)
    (c.take_pair.ensures.ok (may_take_pair c.args.missing c.args.bytes c.args.hand.now after c.args.self.now mid u t))

pub returns-clause-err : goal.returns-clause-err
returns-clause-err c = λ u.
    let t = (c.in_ok-take_tables.ensures {u = tt}).ok c.args.bytes u in
    let after = c.take_tables.new.hand in
    let mid = c.take_tables.new.self in
    err_weaker c.take_pair.result _ _ (λ e h. all_stops c.args.missing c.args.bytes c.args.hand.now after c.args.self.now mid c.take_pair.new.self u t (table_blocks c.take_pair.new.hand.fresh) e h)
    (c.take_pair.ensures.err (may_take_pair c.args.missing c.args.bytes c.args.hand.now after c.args.self.now mid u t))
