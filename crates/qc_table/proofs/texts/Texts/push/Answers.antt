-- One more text, its end and its bit.
use Rattle.std.proofs.Common.{◌≡◌, ◌++◌, ◌∷◌, [], ◌+◌, ◌∙◌, ◌≤◌, ap, arith, length, length-append, rules}
use Rattle.std.specs.Prelude.{is_none, unwrap_or, option_copied}
use Rattle.qc_table.specs.Columns.{texts_of}
use Rattle.qc_table.proofs.IntSteps.{null_is}
use Rattle.qc_table.proofs.TextSteps.{pushed, cell_is, climbs_on, none_lent, lent_or}
use Rattle.qc_table.proofs.texts.Texts.push.Goals as goal

pub returns-clause-values : goal.returns-clause-values
returns-clause-values c =
    let old = c.args.self.now in
    let text = option_copied c.args.text in
    let given : c.unwrap_or.result.now ≡ unwrap_or text [] = ap (λ t. t.now) c.unwrap_or.ensures ∙ lent_or c.args.text _ in
    let bytes = rw given at c.in_ok-extend_from_slice.ensures.items in
    let end : c.len-2.result ≡ length c.extend_from_slice.new.self.items = search rules in
    let ends = rw (end, bytes) at c.in_ok-push.ensures.items in
    let agree = rw (null_is c.args.text c.is_none.result c.is_none.ensures, none_lent c.args.text) at c.in_ok-push_bit.ensures.bits in
    let at : c.len.result ≡ 0 + length old.ends.items = search rules in
    let one = pushed c.len.result 0 0 old.ends.items old.bytes.items (unwrap_or text []) (is_none text) old.nulls.items c.push_bit.new.words.items agree at c.requires.climbs in
    rw (ends, bytes) (one ∙ ap (λ v. texts_of old ++ v ∷ []) (cell_is text))

pub returns-clause-ready : goal.returns-clause-ready
returns-clause-ready c =
    let old = c.args.self.now in
    let at : c.len.result ≡ length old.ends.items = search rules in
    let end : c.len-2.result ≡ length c.extend_from_slice.new.self.items = search rules in
    let ends = rw end at c.in_ok-push.ensures.items in
    let more : c.len.result + 1 ≡ length c.push.new.self.items = rw (c.in_ok-push.ensures.items, length-append) (omega (arith, at)) in
    let up : length old.bytes.items ≤ length c.extend_from_slice.new.self.items = rw (c.in_ok-extend_from_slice.ensures.items, length-append) (omega arith) in
    record {
      packed = rw more at c.in_ok-push_bit.ensures.packed;
      climbs = rw ends (climbs_on 0 old.ends.items (length old.bytes.items) _ c.requires.climbs up);
    }
