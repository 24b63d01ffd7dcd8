-- A number and its bit come between others.
use Rattle.std.proofs.Common.{◌≡◌, ◌+◌, ◌∙◌, ap, arith, length, rules, w64, FitsSigned}
use Rattle.std.specs.Prelude.{is_none, unwrap_or, pos}
use Rattle.std.specs.List.{insert}
use Rattle.std.proofs.lemmas.Int.{to_z-of_z}
use Rattle.qc_table.specs.Columns.{ints_of}
use Rattle.qc_table.proofs.IntMoves.{inserted, zero_inserted}
use Rattle.qc_table.proofs.IntSteps.{cell_is, null_is}
use Rattle.qc_table.proofs.Moves.{length_inserted}
use Rattle.qc_table.proofs.ints.Ints.insert.Goals as goal

pub returns-clause-values : goal.returns-clause-values
returns-clause-values c =
    let fits : FitsSigned w64 c.unwrap_or.result = search rules in
    let items = rw (to_z-of_z w64 c.unwrap_or.result fits, c.unwrap_or.ensures) at c.in_ok-insert.ensures.items in
    let bits = rw (null_is c.args.value c.is_none.result c.is_none.ensures) at c.in_ok-insert_bit.ensures.bits in
    let old = c.args.self.now in
    rw items (inserted c.args.row old.values.items (unwrap_or c.args.value (pos 0)) (is_none c.args.value) old.nulls.items c.insert_bit.new.words.items bits c.requires.row ∙ ap (λ v. insert (ints_of old) c.args.row v) (cell_is c.args.value))

pub returns-clause-ready : goal.returns-clause-ready
returns-clause-ready c =
    let fits : FitsSigned w64 c.unwrap_or.result = search rules in
    let items = rw (to_z-of_z w64 c.unwrap_or.result fits, c.unwrap_or.ensures) at c.in_ok-insert.ensures.items in
    let old = c.args.self.now in
    let at : c.len.result ≡ length old.values.items = search rules in
    let count = ap length items ∙ length_inserted old.values.items c.args.row (unwrap_or c.args.value (pos 0)) in
    let more : c.len.result + 1 ≡ length c.insert.new.self.items = omega (arith, at, count) in
    record {
      packed = rw more at c.in_ok-insert_bit.ensures.packed;
      zeroed = rw (returns-clause-values c, items) (zero_inserted (ints_of old) old.values.items c.args.row c.args.value c.requires.ready.zeroed);
    }
