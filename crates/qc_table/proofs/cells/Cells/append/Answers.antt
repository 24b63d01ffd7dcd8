-- One more value.
use Rattle.std.proofs.Common.{◌<◌, ◌∙◌, length, arith}
use Rattle.qc_table.specs.Stored.{values_of}
use Rattle.qc_table.proofs.Parts.{part_more}
use Rattle.qc_table.proofs.cells.Cells.append.Goals as goal

pub loop-row-preserved : goal.loop-row-preserved
loop-row-preserved c =
    let vs = values_of c.args.other.now in
    let within : c.loop-row.row < length vs = omega arith in
    record {
      ready = c.in_ok-push_from.ensures.ready;
      kind = c.in_ok-push_from.ensures.kind ∙ c.loop-row.invariant.kind;
      values = c.in_ok-push_from.ensures.values ∙ part_more (values_of c.args.self.now) vs (values_of c.loop-row.self) c.args.from c.loop-row.row c.loop-row.auto.row within c.loop-row.invariant.values;
    }
