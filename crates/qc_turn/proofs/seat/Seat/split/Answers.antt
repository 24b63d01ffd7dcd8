use Rattle.std.proofs.Common.{rules, arith}
use Rattle.qc_turn.proofs.RuleKept.{splits}
use Rattle.qc_turn.proofs.seat.Seat.split.Goals as goal

pub split_seat-pass-requires : goal.split_seat-pass-requires
split_seat-pass-requires g c = (search rules, search rules, splits g.V.Kept _ _ _ c.requires.first c.requires.seated.free (omega (arith, c.args.self.now.counted, c.requires.few)))
