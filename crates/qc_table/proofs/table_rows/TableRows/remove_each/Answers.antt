-- One more row is taken out.
use Rattle.std.proofs.Common.{◌<◌, arith, length, rules, w64, FitsSigned}
use Rattle.std.proofs.lemmas.Int.{to_z-of_z}
use Rattle.qc_table.proofs.Deleting.{all_del, next_del}
use Rattle.qc_table.proofs.Placing.{most}
use Rattle.qc_table.proofs.Replacing.{still_within}
use Rattle.qc_table.proofs.table_rows.TableRows.remove_each.Goals as goal

pub loop-index-preserved : goal.loop-index-preserved
loop-index-preserved c =
    let keys = c.args.dels.now.keys in
    let i = c.loop-index.index in
    let low : i < length keys = omega arith in
    let key = c.key.result in
    let whole : FitsSigned w64 key = search rules in
    let gone = rw (to_z-of_z w64 key whole) at c.remove.ensures in
    record {
      within = most (length c.remove.new.self.rows) gone.1;
      left = next_del keys i key c.loop-index.self c.remove.new.self _ low c.key.ensures gone.0 c.loop-index.invariant.left;
    }

pub returns : goal.returns
returns c =
    let inv = c.loop-index.invariant in
    (all_del c.args.dels.now.keys c.loop-index.index c.loop-index.self _ (omega arith) inv.left, still_within (length c.loop-index.self.rows) inv.within)
