use Rattle.std.proofs.Common.{◌≡◌, ◌<◌, ◌^◌, length, ◌+◌, ◌-◌, ◌≤◌, drop}
use Rattle.qc_lex.specs.Ahead.{left}
use Rattle.qc_lex.proofs.LexLoop.{lexed_at}
use Rattle.qc_lex.proofs.place.Lexer.next.Given as goal

abbrev pub invariant-skips : goal.invariant-skips
invariant-skips l = record {
  so_far : left l.fn.self ≡ lexed_at l.ansi l.at l.rest;
  bytes : l.at + length l.rest < 2 ^ 32;
  same : l.self ≡ l.fn.self;
  on : l.fn.self.at ≤ l.at;
  rest : l.rest ≡ drop (l.at - l.fn.self.at) l.fn.self.rest.now;
}

abbrev pub decreases-skips : goal.decreases-skips
decreases-skips l = length l.rest
