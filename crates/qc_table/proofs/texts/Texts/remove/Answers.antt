-- A text, its end and its bit are taken out.
use Rattle.std.proofs.Common.{◌≡◌, ◌+◌, ◌-◌, ◌∙◌, arith, drop, get_or, length, rules}
use Rattle.std.proofs.lemmas.List.{take_at}
use Rattle.std.proofs.lemmas.List.Edits.{get_or-remove_above, length-remove}
use Rattle.qc_table.specs.Bits.{bit_at}
use Rattle.qc_table.proofs.TextMoves.{climbs_between, length_without, removed, without_end}
use Rattle.qc_table.proofs.texts.Texts.remove.Goals as goal

pub lower-requires-clause-from : goal.lower-requires-clause-from
lower-requires-clause-from c =
    let es = c.args.self.now.ends.items in
    let fewer = length-remove es c.args.row c.requires.row in
    rw (c.deref_mut.ensures.value, c.remove.ensures.items) (omega (arith, fewer))

pub lower-requires-clause-fits : goal.lower-requires-clause-fits
lower-requires-clause-fits c = λ i above low.
    let old = c.args.self.now in
    let es = old.ends.items in
    let row = c.args.row in
    let fewer = length-remove es row c.requires.row in
    let low' = rw (c.deref_mut.ensures.value, c.remove.ensures.items) at low in
    let up = climbs_between 0 row (i + 1) es (length old.bytes.items) c.requires.ready.climbs (omega (arith, above)) (omega (arith, low', fewer)) in
    let read = get_or-remove_above es row 0 i above c.requires.row in
    let to : c.span-span.result.to ≡ get_or es row 0 = c.span-span.ensures.to in
    rw (c.deref_mut.ensures.value, c.remove.ensures.items) (omega (arith, up, read, to))

pub returns-clause-values : goal.returns-clause-values
returns-clause-values c =
    let old = c.args.self.now in
    let es = old.ends.items in
    let row = c.args.row in
    let p = c.span-span.result.from in
    let q = c.span-span.result.to in
    let new = c.lower.new.ends in
    let less = c.remove.new.self in
    let size : length new ≡ less.len = c.lower.ensures.len ∙ c.deref_mut.ensures.len in
    let whole = take_at new (drop (length new) less.items) less.len size in
    let lowered = rw (c.deref_mut.ensures.value, c.remove.ensures.items) at c.lower.ensures.ends in
    let ends : new ≡ without_end row (q - p) es = lowered in
    let to : q ≡ get_or es row 0 = c.span-span.ensures.to in
    let all = removed row p q es old.bytes.items (bit_at old.nulls.items row) old.nulls.items c.remove_bit.new.words.items c.remove_bit.ensures.bits c.requires.row c.span-span.ensures.from to c.span-span.ensures.order c.span-span.ensures.within c.requires.ready.climbs in
    rw (whole, ends, c.remove_bytes.ensures.items) all.0

pub returns-clause-ready : goal.returns-clause-ready
returns-clause-ready c =
    let old = c.args.self.now in
    let es = old.ends.items in
    let row = c.args.row in
    let p = c.span-span.result.from in
    let q = c.span-span.result.to in
    let new = c.lower.new.ends in
    let less = c.remove.new.self in
    let size : length new ≡ less.len = c.lower.ensures.len ∙ c.deref_mut.ensures.len in
    let whole = take_at new (drop (length new) less.items) less.len size in
    let lowered = rw (c.deref_mut.ensures.value, c.remove.ensures.items) at c.lower.ensures.ends in
    let ends : new ≡ without_end row (q - p) es = lowered in
    let to : q ≡ get_or es row 0 = c.span-span.ensures.to in
    let all = removed row p q es old.bytes.items (bit_at old.nulls.items row) old.nulls.items c.remove_bit.new.words.items c.remove_bit.ensures.bits c.requires.row c.span-span.ensures.from to c.span-span.ensures.order c.span-span.ensures.within c.requires.ready.climbs in
    let at : c.len.result ≡ length es = search rules in
    let count = length_without row (q - p) es c.requires.row in
    let fewer : c.len.result - 1 ≡ length new = rw ends (omega (arith, at, count)) in
    record {
      packed = rw whole (rw fewer at c.remove_bit.ensures.packed);
      climbs = rw (whole, ends, c.remove_bytes.ensures.items) all.1;
    }

pub returns-clause-count : goal.returns-clause-count
returns-clause-count c =
    let old = c.args.self.now in
    let es = old.ends.items in
    let row = c.args.row in
    let p = c.span-span.result.from in
    let q = c.span-span.result.to in
    let new = c.lower.new.ends in
    let less = c.remove.new.self in
    let size : length new ≡ less.len = c.lower.ensures.len ∙ c.deref_mut.ensures.len in
    let whole = take_at new (drop (length new) less.items) less.len size in
    let lowered = rw (c.deref_mut.ensures.value, c.remove.ensures.items) at c.lower.ensures.ends in
    let ends : new ≡ without_end row (q - p) es = lowered in
    let to : q ≡ get_or es row 0 = c.span-span.ensures.to in
    let all = removed row p q es old.bytes.items (bit_at old.nulls.items row) old.nulls.items c.remove_bit.new.words.items c.remove_bit.ensures.bits c.requires.row c.span-span.ensures.from to c.span-span.ensures.order c.span-span.ensures.within c.requires.ready.climbs in
    rw (whole, ends) (length_without row (q - p) es c.requires.row)
