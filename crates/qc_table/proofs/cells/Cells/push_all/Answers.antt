-- One more value, for which there is room.
use Rattle.std.proofs.Common.{◌<◌, ◌+◌, ◌∙◌, ◌∷◌, ap, arith, drop, length, subst, sym}
use Rattle.qc_types.specs.declared.names.Value.TheVariants as value
use Rattle.qc_table.specs.Puts.{values_at}
use Rattle.qc_table.specs.Stored.{values_of, HasRoom}
use Rattle.qc_table.proofs.Putting.{done, drop_more, fails, put_more, value_read, values_length}
use Rattle.qc_table.proofs.cells.Cells.push_all.Goals as goal

pub unreachable-requires : goal.unreachable-requires
unreachable-requires c =
    let rows = c.args.puts.now.rows in
    let vs = values_at c.args.column rows in
    let i = c.loop-index.index in
    let low : i < length vs = omega (arith, values_length c.args.column rows) in
    let is = value_read rows c.args.column i ∙ sym c.value.ensures in
    let room = subst (λ ws. HasRoom ws c.loop-index.self) (drop_more i vs value.Null low ∙ ap (λ v. v ∷ drop (i + 1) vs) is) c.loop-index.invariant.room in
    fails c.push.result (c.push.ensures.room (drop (i + 1) vs) room).0 (sym c.is_err.ensures.value ∙ c.if-is_err.true)

pub loop-index-preserved : goal.loop-index-preserved
loop-index-preserved c =
    let rows = c.args.puts.now.rows in
    let vs = values_at c.args.column rows in
    let i = c.loop-index.index in
    let low : i < length vs = omega (arith, values_length c.args.column rows) in
    let is = value_read rows c.args.column i ∙ sym c.value.ensures in
    let room = subst (λ ws. HasRoom ws c.loop-index.self) (drop_more i vs value.Null low ∙ ap (λ v. v ∷ drop (i + 1) vs) is) c.loop-index.invariant.room in
    let left = c.push.ensures.room (drop (i + 1) vs) room in
    record {
      ready = done c.push.result _ left.0 c.push.ensures.ready;
      kind = done c.push.result _ left.0 c.push.ensures.kind ∙ c.loop-index.invariant.kind;
      values = done c.push.result _ left.0 c.push.ensures.values ∙ put_more (values_of c.args.self.now) (values_of c.loop-index.self) vs i c.value.result.now value.Null low (sym is) c.loop-index.invariant.values;
      room = left.1;
    }
