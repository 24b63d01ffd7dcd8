-- One more number, and its bit.
use Rattle.std.proofs.Common.{◌≡◌, ◌++◌, ◌∷◌, [], ◌+◌, ◌∙◌, ap, arith, length, length-append, rules, w64, FitsSigned}
use Rattle.std.specs.Prelude.{is_none, unwrap_or, pos}
use Rattle.std.proofs.lemmas.Int.{to_z-of_z}
use Rattle.qc_table.specs.Columns.{ints_of}
use Rattle.qc_table.proofs.IntSteps.{pushed, cell_is, null_is, zero_kept}
use Rattle.qc_table.proofs.ints.Ints.push.Goals as goal

pub returns-clause-values : goal.returns-clause-values
returns-clause-values c =
    let fits : FitsSigned w64 c.unwrap_or.result = search rules in
    let items = rw (to_z-of_z w64 c.unwrap_or.result fits, c.unwrap_or.ensures) at c.in_ok-push.ensures.items in
    let agree = rw (null_is c.args.value c.is_none.result c.is_none.ensures) at c.in_ok-push_bit.ensures.bits in
    let old = c.args.self.now in
    let at : c.len.result ≡ 0 + length old.values.items = search rules in
    let one = pushed c.len.result 0 old.values.items (unwrap_or c.args.value (pos 0)) (is_none c.args.value) old.nulls.items c.push_bit.new.words.items agree at in
    rw items (one ∙ ap (λ v. ints_of old ++ v ∷ []) (cell_is c.args.value))

pub returns-clause-ready : goal.returns-clause-ready
returns-clause-ready c =
    let fits : FitsSigned w64 c.unwrap_or.result = search rules in
    let items = rw (to_z-of_z w64 c.unwrap_or.result fits, c.unwrap_or.ensures) at c.in_ok-push.ensures.items in
    let old = c.args.self.now in
    let at : c.len.result ≡ length old.values.items = search rules in
    let more : c.len.result + 1 ≡ length c.push.new.self.items = rw (items, length-append) (omega (arith, at)) in
    record {
      packed = rw more at c.in_ok-push_bit.ensures.packed;
      zeroed = rw (returns-clause-values c, items) (zero_kept (ints_of old) old.values.items c.args.value c.requires.zeroed);
    }
