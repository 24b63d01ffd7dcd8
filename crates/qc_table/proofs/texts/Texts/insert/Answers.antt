-- A text, its end and its bit come between others.
use Rattle.std.proofs.Common.{◌≡◌, ◌++◌, [], ◌+◌, ◌∙◌, ◌≤◌, ap, append_assoc, arith, drop, length, rules, subst, sym, take}
use Rattle.std.specs.Prelude.{is_none, unwrap_or, option_copied}
use Rattle.std.specs.List.{insert}
use Rattle.std.proofs.lemmas.List.{take_at}
use Rattle.qc_table.specs.Columns.{texts_of, Climbs}
use Rattle.qc_table.proofs.IntSteps.{null_is}
use Rattle.qc_table.proofs.TextMoves.{climbs_to, climbs_with, inserted, length_inserted_bytes, length_with, with_end}
use Rattle.qc_table.proofs.TextSteps.{cell_is, climbs_at, none_lent, lent_or, text_cell}
use Rattle.qc_table.proofs.texts.Texts.insert.Goals as goal

pub insert_bytes-requires : goal.insert_bytes-requires
insert_bytes-requires c =
    let old = c.args.self.now in
    let within = (climbs_to 0 c.args.row old.ends.items (length old.bytes.items) c.requires.ready.climbs c.requires.row).1 in
    rw c.start-start.ensures within

pub overflow_add-start : goal.overflow_add-start
overflow_add-start c =
    let old = c.args.self.now in
    let within : c.start-start.result ≤ length old.bytes.items = rw c.start-start.ensures (climbs_to 0 c.args.row old.ends.items (length old.bytes.items) c.requires.ready.climbs c.requires.row).1 in
    record { fits = omega (arith, within, c.in_ok-insert_bytes.ensures.len) }

pub raise-requires-clause-fits : goal.raise-requires-clause-fits
raise-requires-clause-fits c = λ i above low.
    let old = c.args.self.now in
    let low' = rw c.deref_mut.ensures.value at low in
    let high = (climbs_at 0 i old.ends.items (length old.bytes.items) c.requires.ready.climbs low').1 in
    rw c.deref_mut.ensures.value (omega (arith, high, c.in_ok-insert_bytes.ensures.len))

pub returns-clause-values : goal.returns-clause-values
returns-clause-values c =
    let old = c.args.self.now in
    let es = old.ends.items in
    let row = c.args.row in
    let start = c.start-start.result in
    let ts = c.unwrap_or-bytes.result.now in
    let new = c.raise.new.ends in
    let size : length new ≡ old.ends.len = c.raise.ensures.len ∙ c.deref_mut.ensures.len in
    let whole = take_at new (drop (length new) es) old.ends.len size in
    let raised = rw c.deref_mut.ensures.value at c.raise.ensures.ends in
    let ends : c.insert.new.self.items ≡ with_end row start (length ts) es = rw (whole, raised) at c.in_ok-insert.ensures.items in
    let bytes : c.insert_bytes.new.bytes.items ≡ take start old.bytes.items ++ (ts ++ drop start old.bytes.items) = c.in_ok-insert_bytes.ensures.items ∙ append_assoc (take start old.bytes.items) ts (drop start old.bytes.items) in
    let text = option_copied c.args.text in
    let given : ts ≡ unwrap_or text [] = ap (λ t. t.now) c.unwrap_or-bytes.ensures ∙ lent_or c.args.text _ in
    let bits = rw (null_is c.args.text c.is_none.result c.is_none.ensures, none_lent c.args.text) at c.in_ok-insert_bit.ensures.bits in
    let one = inserted row start es old.bytes.items ts (is_none text) old.nulls.items c.insert_bit.new.words.items bits c.requires.row c.start-start.ensures c.requires.ready.climbs in
    rw (ends, bytes) (one ∙ ap (λ v. insert (texts_of old) row v) (ap (text_cell (is_none text)) given ∙ cell_is text))

pub returns-clause-ready : goal.returns-clause-ready
returns-clause-ready c =
    let old = c.args.self.now in
    let es = old.ends.items in
    let row = c.args.row in
    let start = c.start-start.result in
    let ts = c.unwrap_or-bytes.result.now in
    let new = c.raise.new.ends in
    let size : length new ≡ old.ends.len = c.raise.ensures.len ∙ c.deref_mut.ensures.len in
    let whole = take_at new (drop (length new) es) old.ends.len size in
    let raised = rw c.deref_mut.ensures.value at c.raise.ensures.ends in
    let ends : c.insert.new.self.items ≡ with_end row start (length ts) es = rw (whole, raised) at c.in_ok-insert.ensures.items in
    let bytes : c.insert_bytes.new.bytes.items ≡ take start old.bytes.items ++ (ts ++ drop start old.bytes.items) = c.in_ok-insert_bytes.ensures.items ∙ append_assoc (take start old.bytes.items) ts (drop start old.bytes.items) in
    let at : c.len.result ≡ length es = search rules in
    let count : length c.insert.new.self.items ≡ length es + 1 = ap length ends ∙ length_with row start (length ts) es c.requires.row in
    let more : c.len.result + 1 ≡ length c.insert.new.self.items = omega (arith, at, count) in
    let within : start ≤ length old.bytes.items = rw c.start-start.ensures (climbs_to 0 row es (length old.bytes.items) c.requires.ready.climbs c.requires.row).1 in
    let total : length c.insert_bytes.new.bytes.items ≡ length old.bytes.items + length ts = ap length bytes ∙ length_inserted_bytes start old.bytes.items ts within in
    let climbs = climbs_with 0 row start (length ts) es (length old.bytes.items) c.requires.ready.climbs c.requires.row c.start-start.ensures in
    record {
      packed = rw more at c.in_ok-insert_bit.ensures.packed;
      climbs = rw ends (subst (Climbs 0 (with_end row start (length ts) es)) (sym total) climbs);
    }
