use Rattle.std.proofs.Common.{false, sym, ap, ◌∙◌, arith, length-drop}
use Rattle.std.proofs.lemmas.List.{take_rest, length-take-le}
use Rattle.qc_lex.specs.Fronts.{Ends, Skips, Gives, Faults, fault_of}
use Rattle.qc_lex.specs.Heads.{lexemes_in, leading}
use Rattle.qc_lex.proofs.LexLoop.{shown_within}
use Rattle.qc_lex.proofs.FirstWords.{led, led_none, skipped, word_there}
use Rattle.qc_lex.proofs.heads.first_word.Goals as goal

pub slice_bounds-rest-count : goal.slice_bounds-rest-count
slice_bounds-rest-count c = (shown_within false c.loop-bytes.rest.now (Skips c.in-Skips.bytes) c.in-Skips.ensures).1

pub slice_bounds-rest-start : goal.slice_bounds-rest-start
slice_bounds-rest-start c = (shown_within false c.loop-bytes.rest.now (Skips c.in-Skips.bytes) c.in-Skips.ensures).1

pub loop-bytes-smaller : goal.loop-bytes-smaller
loop-bytes-smaller c =
    let there = shown_within false c.loop-bytes.rest.now (Skips c.in-Skips.bytes) c.in-Skips.ensures in
    rw (take_rest c.loop-bytes.rest.now c.in-Skips.bytes) (omega (arith, there, length-drop c.in-Skips.bytes c.loop-bytes.rest.now))

pub loop-bytes-preserved : goal.loop-bytes-preserved
loop-bytes-preserved c = skipped c.in-Skips.bytes c.loop-bytes.rest.now (lexemes_in c.args.text.now) c.in-Skips.ensures c.loop-bytes.invariant

pub returns-in_default : goal.returns-in_default
returns-in_default c =
    ap leading (sym c.loop-bytes.invariant)
    ∙ led_none c.in-Gives.kind c.in-Gives.bytes c.loop-bytes.rest.now (lexemes_in c.loop-bytes.rest.now) c.in_default.not-Word
    (led (Gives c.in-Gives.bytes c.in-Gives.kind) c.loop-bytes.rest.now c.in-Gives.ensures)

pub slice_bounds-result-end : goal.slice_bounds-result-end
slice_bounds-result-end c =
    let there = shown_within false c.loop-bytes.rest.now (Gives c.in-Gives.bytes c.in-Gives.kind) c.in-Gives.ensures in
    sym (length-take-le c.in-Gives.bytes c.loop-bytes.rest.now there.1)

pub slice_bounds-result-count : goal.slice_bounds-result-count
slice_bounds-result-count c = (shown_within false c.loop-bytes.rest.now (Gives c.in-Gives.bytes c.in-Gives.kind) c.in-Gives.ensures).1

pub slice_bounds-result-start : goal.slice_bounds-result-start
slice_bounds-result-start c = (shown_within false c.loop-bytes.rest.now (Gives c.in-Gives.bytes c.in-Gives.kind) c.in-Gives.ensures).1

pub returns-in-Gives : goal.returns-in-Gives
returns-in-Gives c = word_there c.in-Gives.bytes c.in-Gives.kind c.loop-bytes.rest.now (lexemes_in c.args.text.now) c.in-Word.is c.in-Gives.ensures c.loop-bytes.invariant

pub returns-in-Ends : goal.returns-in-Ends
returns-in-Ends c = ap leading (sym c.loop-bytes.invariant) ∙ led Ends c.loop-bytes.rest.now c.in-Ends.ensures

pub returns-in-Faults : goal.returns-in-Faults
returns-in-Faults c = ap leading (sym c.loop-bytes.invariant) ∙ led (Faults (fault_of c.in-Faults.field-0)) c.loop-bytes.rest.now c.in-Faults.ensures
