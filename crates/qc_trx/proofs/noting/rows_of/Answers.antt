-- One more operation writes a row or none, and may make a table.
use Rattle.std.proofs.Common.{◌≡◌, ◌+◌, ◌≤◌, sym, subst, arith, ℕ, take, List, Bool, true, false, refl}
use Rattle.std.specs.Prelude.{Option, if◌then◌else◌}
use Rattle.qc_types.specs.declared.names.TableName.{TableName}
use Rattle.qc_sql.specs.declared.tables.Column.{Column}
use Rattle.qc_trx.specs.Writes.{columns_left, makes_table}
use Rattle.qc_trx.proofs.Walks.{at_index, columns_next, rows_next}
use Rattle.qc_trx.proofs.noting.rows_of.Goals as goal

behind : (b : Bool) (i making n : ℕ) → making ≤ i → n ≡ (if b then i + 1 else making) → n ≤ i + 1
behind true i making n h e = omega arith
behind false i making n h e = omega arith

pub loop-i-preserved : goal.loop-i-preserved
loop-i-preserved c =
    let ops = c.args.ops.now in
    let i = c.loop-i.i in
    let at = at_index ops i c.index-ops-i.result c.loop-i-test.true c.index-ops-i.is in
    record {
      rows = rw c.in_ok-push.ensures.items (rows_next ops i c.loop-i.making c.index-ops-i.result c.args.seen.now c.loop-i.rows.items _ at c.loop-i.invariant.columns c.in_ok-row_of.ensures c.loop-i.invariant.rows);
      within = behind (makes_table c.index-ops-i.result) i c.loop-i.making c.making_after-making.result c.loop-i.invariant.within c.making_after-making.ensures;
      columns = λ t before. subst (λ (n : ℕ). columns_left t (take n ops) before ≡ columns_left t (take (i + 1) ops) before) (sym c.making_after-making.ensures) (columns_next ops i c.loop-i.making c.index-ops-i.result at c.loop-i.invariant.columns t before);
    }
