use Rattle.std.proofs.Common.{[], ◌∙◌, refl, sym, ap, arith, length-drop, length-take}
use Rattle.std.proofs.lemmas.List.{take_rest}
use Rattle.std.specs.Prelude.{Some}
use Rattle.qc_lex.specs.Fronts.{Skips, Gives}
use Rattle.qc_lex.specs.Ahead.{fault}
use Rattle.qc_lex.proofs.LexLoop.{shown_within}
use Rattle.qc_lex.proofs.NextTokens.{ended, skipped, given, faulted, from_front, farther, borrows}
use Rattle.qc_lex.proofs.place.Lexer.next.Goals as goal

pub skips-init : goal.skips-init
skips-init c = record { so_far = refl; bytes = c.args.self.now.fits; same = refl; on = omega arith; rest = from_front c.args.self.now.at c.args.self.now.rest.now }

pub returns-in-Ends : goal.returns-in-Ends
returns-in-Ends c = record {
  ahead = c.skips.invariant.so_far ∙ ended c.args.self.now.ansi c.skips.at c.skips.rest.now c.in-Ends.ensures;
  bytes = tt;
  stands = c.skips.invariant.same;
}

pub returns-in-Faults : goal.returns-in-Faults
returns-in-Faults c = record {
  ahead =
      c.skips.invariant.so_far ∙ faulted c.args.self.now.ansi c.skips.at c.skips.rest.now c.in-Faults.fault c.in-Faults.ensures
      ∙ ap (λ r. ([], Some (fault r))) (sym c.at.ensures);
  bytes = tt;
  stands = c.skips.invariant.same;
}

pub overflow_cast-at : goal.overflow_cast-at
overflow_cast-at c = omega (arith, c.skips.invariant.bytes, shown_within c.args.self.now.ansi c.skips.rest.now (Skips c.in-Skips.bytes) c.in-Skips.ensures)

pub overflow_add-at : goal.overflow_add-at
overflow_add-at c = omega (arith, c.skips.invariant.bytes, shown_within c.args.self.now.ansi c.skips.rest.now (Skips c.in-Skips.bytes) c.in-Skips.ensures)

pub slice_bounds-rest-count : goal.slice_bounds-rest-count
slice_bounds-rest-count c = (shown_within c.args.self.now.ansi c.skips.rest.now (Skips c.in-Skips.bytes) c.in-Skips.ensures).1

pub slice_bounds-rest-start : goal.slice_bounds-rest-start
slice_bounds-rest-start c = (shown_within c.args.self.now.ansi c.skips.rest.now (Skips c.in-Skips.bytes) c.in-Skips.ensures).1

pub skips-smaller : goal.skips-smaller
skips-smaller c =
    rw (take_rest c.skips.rest.now c.in-Skips.bytes)
    (omega (arith, length-drop c.in-Skips.bytes c.skips.rest.now, shown_within c.args.self.now.ansi c.skips.rest.now (Skips c.in-Skips.bytes) c.in-Skips.ensures))

pub skips-preserved : goal.skips-preserved
skips-preserved c = record {
  so_far = c.skips.invariant.so_far ∙ skipped c.args.self.now.ansi c.skips.at c.skips.rest.now c.in-Skips.bytes c.in-Skips.ensures;
  bytes =
      rw (take_rest c.skips.rest.now c.in-Skips.bytes)
      (omega (arith, c.skips.invariant.bytes, length-drop c.in-Skips.bytes c.skips.rest.now, shown_within c.args.self.now.ansi c.skips.rest.now (Skips c.in-Skips.bytes) c.in-Skips.ensures));
  same = c.skips.invariant.same;
  on = omega (arith, c.skips.invariant.on);
  rest = farther c.skips.at c.args.self.now.at c.in-Skips.bytes c.args.self.now.rest.now c.skips.rest.now c.skips.invariant.on c.skips.invariant.rest;
}

pub overflow_cast-to : goal.overflow_cast-to
overflow_cast-to c = omega (arith, c.skips.invariant.bytes, shown_within c.args.self.now.ansi c.skips.rest.now (Gives c.in-Gives.bytes c.in-Gives.kind) c.in-Gives.ensures)

pub overflow_add-to : goal.overflow_add-to
overflow_add-to c = omega (arith, c.skips.invariant.bytes, shown_within c.args.self.now.ansi c.skips.rest.now (Gives c.in-Gives.bytes c.in-Gives.kind) c.in-Gives.ensures)

pub slice_bounds-said_by-end : goal.slice_bounds-said_by-end
slice_bounds-said_by-end c = omega (arith, length-take c.in-Gives.bytes c.skips.rest.now, shown_within c.args.self.now.ansi c.skips.rest.now (Gives c.in-Gives.bytes c.in-Gives.kind) c.in-Gives.ensures)

pub slice_bounds-self-count : goal.slice_bounds-self-count
slice_bounds-self-count c = (shown_within c.args.self.now.ansi c.skips.rest.now (Gives c.in-Gives.bytes c.in-Gives.kind) c.in-Gives.ensures).1

pub slice_bounds-self-start : goal.slice_bounds-self-start
slice_bounds-self-start c = (shown_within c.args.self.now.ansi c.skips.rest.now (Gives c.in-Gives.bytes c.in-Gives.kind) c.in-Gives.ensures).1

pub invariant_of-self : goal.invariant_of-self
invariant_of-self c = record {
  fits =
      rw (take_rest c.skips.rest.now c.in-Gives.bytes)
      (omega (arith, c.skips.invariant.bytes, length-drop c.in-Gives.bytes c.skips.rest.now, shown_within c.args.self.now.ansi c.skips.rest.now (Gives c.in-Gives.bytes c.in-Gives.kind) c.in-Gives.ensures));
}

pub returns-in-Gives : goal.returns-in-Gives
returns-in-Gives c = record {
  ahead = c.skips.invariant.so_far ∙ given c.args.self.now.ansi c.skips.at c.skips.rest.now c.in-Gives.bytes c.in-Gives.kind _ c.in-Gives.ensures c.said_by-what.ensures.says;
  bytes = (c.skips.invariant.on, borrows c.skips.at c.args.self.now.at c.in-Gives.bytes c.args.self.now.rest.now c.skips.rest.now c.skips.invariant.rest c.said_by-what.result c.said_by-what.ensures.borrowed);
  stands = (refl, refl, farther c.skips.at c.args.self.now.at c.in-Gives.bytes c.args.self.now.rest.now c.skips.rest.now c.skips.invariant.on c.skips.invariant.rest);
}
