use Rattle.std.proofs.Common.{ap, sym, ◌∙◌, arith, length-drop}
use Rattle.std.specs.Prelude.{Err}
use Rattle.std.proofs.lemmas.List.{take_rest}
use Rattle.qc_lex.specs.Fronts.{Skips, Gives, fault_of}
use Rattle.qc_lex.proofs.LexLoop.{shown_within, goes_on_skipped, goes_on_token, is_whole, is_refused}
use Rattle.qc_lex.proofs.lexer.tokens.Goals as goal

pub returns-in-Ends : goal.returns-in-Ends
returns-in-Ends c = is_whole c.args.ansi c.loop-tokens.tokens c.loop-tokens.at c.loop-tokens.rest.now c.args.text.now c.in-Ends.ensures c.loop-tokens.invariant.so_far

pub overflow_cast-at : goal.overflow_cast-at
overflow_cast-at c = omega (arith, c.requires, c.loop-tokens.invariant.bytes, shown_within c.args.ansi c.loop-tokens.rest.now (Skips c.in-Skips.bytes) c.in-Skips.ensures)

pub overflow_add-at : goal.overflow_add-at
overflow_add-at c = omega (arith, c.requires, c.loop-tokens.invariant.bytes, shown_within c.args.ansi c.loop-tokens.rest.now (Skips c.in-Skips.bytes) c.in-Skips.ensures)

pub slice_bounds-rest-count : goal.slice_bounds-rest-count
slice_bounds-rest-count c = (shown_within c.args.ansi c.loop-tokens.rest.now (Skips c.in-Skips.bytes) c.in-Skips.ensures).1

pub slice_bounds-rest-start : goal.slice_bounds-rest-start
slice_bounds-rest-start c = (shown_within c.args.ansi c.loop-tokens.rest.now (Skips c.in-Skips.bytes) c.in-Skips.ensures).1

pub loop-tokens-smaller-in-Skips : goal.loop-tokens-smaller-in-Skips
loop-tokens-smaller-in-Skips c =
    rw (take_rest c.loop-tokens.rest.now c.in-Skips.bytes)
    (omega (arith, length-drop c.in-Skips.bytes c.loop-tokens.rest.now, shown_within c.args.ansi c.loop-tokens.rest.now (Skips c.in-Skips.bytes) c.in-Skips.ensures))

pub loop-tokens-preserved-in-Skips : goal.loop-tokens-preserved-in-Skips
loop-tokens-preserved-in-Skips c = record {
  so_far = goes_on_skipped c.args.ansi c.loop-tokens.tokens c.loop-tokens.at c.loop-tokens.rest.now c.args.text.now c.in-Skips.bytes c.in-Skips.ensures c.loop-tokens.invariant.so_far;
  bytes =
      rw (take_rest c.loop-tokens.rest.now c.in-Skips.bytes)
      (omega (arith, c.loop-tokens.invariant.bytes, length-drop c.in-Skips.bytes c.loop-tokens.rest.now, shown_within c.args.ansi c.loop-tokens.rest.now (Skips c.in-Skips.bytes) c.in-Skips.ensures));
}

pub overflow_cast-to : goal.overflow_cast-to
overflow_cast-to c = omega (arith, c.requires, c.loop-tokens.invariant.bytes, shown_within c.args.ansi c.loop-tokens.rest.now (Gives c.in-Gives.bytes c.in-Gives.kind) c.in-Gives.ensures)

pub overflow_add-to : goal.overflow_add-to
overflow_add-to c = omega (arith, c.requires, c.loop-tokens.invariant.bytes, shown_within c.args.ansi c.loop-tokens.rest.now (Gives c.in-Gives.bytes c.in-Gives.kind) c.in-Gives.ensures)

pub slice_bounds-rest-count-in-Gives : goal.slice_bounds-rest-count-in-Gives
slice_bounds-rest-count-in-Gives c = (shown_within c.args.ansi c.loop-tokens.rest.now (Gives c.in-Gives.bytes c.in-Gives.kind) c.in-Gives.ensures).1

pub slice_bounds-rest-start-in-Gives : goal.slice_bounds-rest-start-in-Gives
slice_bounds-rest-start-in-Gives c = (shown_within c.args.ansi c.loop-tokens.rest.now (Gives c.in-Gives.bytes c.in-Gives.kind) c.in-Gives.ensures).1

pub loop-tokens-smaller : goal.loop-tokens-smaller
loop-tokens-smaller c =
    rw (take_rest c.loop-tokens.rest.now c.in-Gives.bytes)
    (omega (arith, length-drop c.in-Gives.bytes c.loop-tokens.rest.now, shown_within c.args.ansi c.loop-tokens.rest.now (Gives c.in-Gives.bytes c.in-Gives.kind) c.in-Gives.ensures))

pub loop-tokens-preserved : goal.loop-tokens-preserved
loop-tokens-preserved c = record {
  so_far =
      rw c.in_ok-push-in-Gives.ensures.ok
      (goes_on_token c.args.ansi c.loop-tokens.tokens c.loop-tokens.at c.loop-tokens.rest.now c.args.text.now c.in-Gives.bytes c.in-Gives.kind c.in-Gives.ensures c.loop-tokens.invariant.so_far);
  bytes =
      rw (take_rest c.loop-tokens.rest.now c.in-Gives.bytes)
      (omega (arith, c.loop-tokens.invariant.bytes, length-drop c.in-Gives.bytes c.loop-tokens.rest.now, shown_within c.args.ansi c.loop-tokens.rest.now (Gives c.in-Gives.bytes c.in-Gives.kind) c.in-Gives.ensures));
}

pub returns-in-Faults : goal.returns-in-Faults
returns-in-Faults c =
    is_refused c.args.ansi c.loop-tokens.tokens c.loop-tokens.at c.loop-tokens.rest.now c.args.text.now (fault_of c.in-Faults.fault) c.in-Faults.ensures c.loop-tokens.invariant.so_far
    ∙ ap Err (sym c.at.ensures)
