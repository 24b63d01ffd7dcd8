-- The number and its bit come in the place of others.
use Rattle.std.proofs.Common.{◌∙◌, ℤ, ap, arith, length, map, rules, set, sym, w64, FitsSigned}
use Rattle.std.specs.Prelude.{is_none, unwrap_or, pos}
use Rattle.std.proofs.lemmas.Int.{to_z-of_z}
use Rattle.std.proofs.lemmas.List.{length-set}
use Rattle.qc_sql.specs.Database.{key_value}
use Rattle.qc_table.specs.Columns.{ints_from, ints_of}
use Rattle.qc_table.proofs.IntSteps.{cell_is, null_is, packed_kept, replaced, zero_put}
use Rattle.qc_table.proofs.ints.Ints.put.Goals as goal

pub returns-clause-values : goal.returns-clause-values
returns-clause-values c =
    let old = c.args.self.now in
    let ns = old.values.items in
    let fits : FitsSigned w64 c.unwrap_or.result = search rules in
    let number = to_z-of_z w64 c.unwrap_or.result fits ∙ c.unwrap_or.ensures in
    let agree = rw (null_is c.args.value c.is_none.result c.is_none.ensures) at c.put_bit.ensures.bits in
    let one = replaced c.args.row 0 c.args.row ns (unwrap_or c.args.value (pos 0)) (is_none c.args.value) old.nulls.items c.put_bit.new.words.items agree (omega arith) in
    ap (λ (n : ℤ). ints_from 0 (set ns c.args.row n) c.put_bit.new.words.items) number ∙ one ∙ ap (set (ints_of old) c.args.row) (cell_is c.args.value)

pub returns-clause-ready : goal.returns-clause-ready
returns-clause-ready c =
    let old = c.args.self.now in
    let ns = old.values.items in
    let fits : FitsSigned w64 c.unwrap_or.result = search rules in
    let number = to_z-of_z w64 c.unwrap_or.result fits ∙ c.unwrap_or.ensures in
    let agree = rw (null_is c.args.value c.is_none.result c.is_none.ensures) at c.put_bit.ensures.bits in
    record {
      packed = rw length-set (packed_kept c.args.row (length ns) (is_none c.args.value) old.nulls.items c.put_bit.new.words.items agree c.put_bit.ensures.len c.requires.row c.requires.ready.packed);
      zeroed = ap (map key_value) (returns-clause-values c) ∙ zero_put (ints_of old) ns c.args.row c.args.value c.requires.ready.zeroed ∙ ap (set ns c.args.row) (sym number);
    }
