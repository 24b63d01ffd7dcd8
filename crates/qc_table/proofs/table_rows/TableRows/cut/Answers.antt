-- One more row is passed, or the first is met that doesn't stand below the key.
use Rattle.std.proofs.Common.{◌≡◌, ◌∙◌, ◌+◌, ◌-◌, drop, sym, ap, w64, arith, add_assoc}
use Rattle.std.proofs.lemmas.Int.{to_z-of_z}
use Rattle.std.proofs.lemmas.List.{drop-drop}
use Rattle.qc_table.proofs.Rows.{key_behind}
use Rattle.qc_table.proofs.Cutting.{passed, met, overshot}
use Rattle.qc_table.proofs.table_rows.TableRows.cut.Goals as goal

pub loop-i-preserved : goal.loop-i-preserved
loop-i-preserved c =
    let rows = c.args.self.now.rows in
    let at = key_behind rows c.args.from c.loop-i.i (rw c.keys-keys.ensures at c.loop-i-test.true) in
    let compared = rw c.keys-keys.ensures at c.in-Less.ensures in
    let more = passed _ (drop c.args.from rows) c.loop-i.i _ at.0 at.1 (sym compared) in
    record {
      below = c.loop-i.invariant.below ∙ more.0;
      above = c.loop-i.invariant.above ∙ more.1;
    }

pub returns-in-Equal-clause-below : goal.returns-in-Equal-clause-below
returns-in-Equal-clause-below c =
    let rows = c.args.self.now.rows in
    let at = key_behind rows c.args.from c.loop-i.i (rw c.keys-keys.ensures at c.loop-i-test.true) in
    let compared = rw (c.keys-keys.ensures, to_z-of_z w64 c.args.key c.ranges.key) at c.in-Equal.ensures in
    let here = met _ (drop c.args.from rows) c.loop-i.i _ at.0 at.1 (sym compared) in
    let before = rw (to_z-of_z w64 c.args.key c.ranges.key) at c.loop-i.invariant.below in
    let back : c.args.from + c.loop-i.i - c.args.from ≡ c.loop-i.i = omega arith in
    rw back (before ∙ here.0)

pub returns-in-Equal-clause-above : goal.returns-in-Equal-clause-above
returns-in-Equal-clause-above c =
    let rows = c.args.self.now.rows in
    let at = key_behind rows c.args.from c.loop-i.i (rw c.keys-keys.ensures at c.loop-i-test.true) in
    let compared = rw (c.keys-keys.ensures, to_z-of_z w64 c.args.key c.ranges.key) at c.in-Equal.ensures in
    let here = met _ (drop c.args.from rows) c.loop-i.i _ at.0 at.1 (sym compared) in
    let before = rw (to_z-of_z w64 c.args.key c.ranges.key) at c.loop-i.invariant.above in
    before ∙ (here.1 ∙ (drop-drop (c.loop-i.i + 1) c.args.from rows ∙ ap (λ n. drop n rows) (sym (add_assoc c.args.from c.loop-i.i 1))))

pub returns-in-Greater-clause-below : goal.returns-in-Greater-clause-below
returns-in-Greater-clause-below c =
    let rows = c.args.self.now.rows in
    let at = key_behind rows c.args.from c.loop-i.i (rw c.keys-keys.ensures at c.loop-i-test.true) in
    let compared = rw (c.keys-keys.ensures, to_z-of_z w64 c.args.key c.ranges.key) at c.in-Greater.ensures in
    let here = overshot _ (drop c.args.from rows) c.loop-i.i _ at.0 at.1 (sym compared) in
    let before = rw (to_z-of_z w64 c.args.key c.ranges.key) at c.loop-i.invariant.below in
    let back : c.args.from + c.loop-i.i - c.args.from ≡ c.loop-i.i = omega arith in
    rw back (before ∙ here.0)

pub returns-in-Greater-clause-above : goal.returns-in-Greater-clause-above
returns-in-Greater-clause-above c =
    let rows = c.args.self.now.rows in
    let at = key_behind rows c.args.from c.loop-i.i (rw c.keys-keys.ensures at c.loop-i-test.true) in
    let compared = rw (c.keys-keys.ensures, to_z-of_z w64 c.args.key c.ranges.key) at c.in-Greater.ensures in
    let here = overshot _ (drop c.args.from rows) c.loop-i.i _ at.0 at.1 (sym compared) in
    let before = rw (to_z-of_z w64 c.args.key c.ranges.key) at c.loop-i.invariant.above in
    before ∙ (here.1 ∙ drop-drop c.loop-i.i c.args.from rows)
