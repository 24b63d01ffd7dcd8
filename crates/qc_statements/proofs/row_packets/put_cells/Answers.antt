use Rattle.std.proofs.Common.{◌<◌, ◌++◌, length, ap, ◌∙◌, arith}
use Rattle.qc_statements.specs.Answers.{row_of, value_payload}
use Rattle.qc_statements.proofs.Values.{cell_more}
use Rattle.qc_statements.proofs.row_packets.put_cells.Goals as goal

pub loop-column-preserved : goal.loop-column-preserved
loop-column-preserved c =
    let within : c.loop-column.column < length (row_of c.args.plan.now) = omega (arith, c.loop-column-test.true, c.requires.count, ap (λ l. length l) c.columns.ensures) in (
      c.in_ok-put_cell.ensures.front ∙ c.loop-column.invariant.0,
      cell_more c.args.plan.now.row (c.args.packet.now.payload ++ value_payload (row_of c.args.plan.now)) c.loop-column.packet.payload c.put_cell.new.self.payload c.loop-column.column c.cell.result within c.requires.on
          (λ row is lt. c.cell.ensures row is) c.in_ok-put_cell.ensures.ok c.loop-column.invariant.1,
    )
