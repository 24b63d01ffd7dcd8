-- A number and its bit are taken out.
use Rattle.std.proofs.Common.{◌≡◌, ◌-◌, arith, length, rules}
use Rattle.std.proofs.lemmas.List.Edits.{length-remove}
use Rattle.qc_table.specs.Bits.{bit_at}
use Rattle.qc_table.specs.Columns.{ints_of}
use Rattle.qc_table.proofs.IntMoves.{removed, zero_removed}
use Rattle.qc_table.proofs.ints.Ints.remove.Goals as goal

pub returns-clause-values : goal.returns-clause-values
returns-clause-values c =
    let old = c.args.self.now in
    let ns = old.values.items in
    rw c.remove.ensures.items (removed c.args.row ns (bit_at old.nulls.items c.args.row) old.nulls.items c.remove_bit.new.words.items c.remove_bit.ensures.bits c.requires.row (length-remove ns c.args.row c.requires.row))

pub returns-clause-ready : goal.returns-clause-ready
returns-clause-ready c =
    let old = c.args.self.now in
    let ns = old.values.items in
    let at : c.len.result ≡ length ns = search rules in
    let count = length-remove ns c.args.row c.requires.row in
    let items = c.remove.ensures.items in
    let fewer : c.len.result - 1 ≡ length c.remove.new.self.items = rw items (omega (arith, at, count)) in
    record {
      packed = rw fewer at c.remove_bit.ensures.packed;
      zeroed = rw (returns-clause-values c, items) (zero_removed (ints_of old) ns c.args.row c.requires.ready.zeroed);
    }
