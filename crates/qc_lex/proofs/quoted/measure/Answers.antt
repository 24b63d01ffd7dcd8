use Rattle.std.proofs.Common.{[], ◌∷◌, arith, length-drop}
use Rattle.std.proofs.lemmas.List.{take_rest}
use Rattle.qc_lex.specs.Pieces.{content, measured}
use Rattle.qc_lex.proofs.Contents.{added_zero, measure_on}
use Rattle.qc_lex.proofs.quoted.measure.Goals as goal

pub loop-taken-init : goal.loop-taken-init
loop-taken-init c = record {
  so_far = added_zero (measured (content c.args.quotes.escapes c.args.quotes.quote c.args.text.now));
  bytes = omega arith;
  meant = omega arith;
}

pub loop-taken-preserved-in-One : goal.loop-taken-preserved-in-One
loop-taken-preserved-in-One c = record {
  so_far = measure_on c.args.quotes.escapes c.args.quotes.quote c.loop-taken.bytes c.loop-taken.meant c.in-One.taken (c.in-One.field-1 ∷ []) c.loop-taken.rest.now _ c.in-One.ensures.meant c.loop-taken.invariant.so_far;
  bytes = rw (take_rest c.loop-taken.rest.now c.in-One.taken) (omega (arith, c.loop-taken.invariant.bytes, c.in-One.ensures.some, length-drop c.in-One.taken c.loop-taken.rest.now));
  meant = omega (arith, c.loop-taken.invariant.meant, c.in-One.ensures.some);
}

pub loop-taken-preserved : goal.loop-taken-preserved
loop-taken-preserved c = record {
  so_far = measure_on c.args.quotes.escapes c.args.quotes.quote c.loop-taken.bytes c.loop-taken.meant 2 (92 ∷ c.in-Both.field-0 ∷ []) c.loop-taken.rest.now _ c.in-Both.ensures.meant c.loop-taken.invariant.so_far;
  bytes = rw (take_rest c.loop-taken.rest.now 2) (omega (arith, c.loop-taken.invariant.bytes, c.in-Both.ensures.some, length-drop 2 c.loop-taken.rest.now));
  meant = omega (arith, c.loop-taken.invariant.meant);
}
