-- No bit is set in both words.
use Rattle.std.proofs.Common.{arith, bit_and, get_or, length, pos, w64}
use Rattle.std.proofs.lemmas.Bool.{eqb-true}
use Rattle.std.proofs.lemmas.Int.{to_z-of_z}
use Rattle.qc_lane.specs.Lanes.{stands}
use Rattle.qc_lane.proofs.Words.{none_in_both}
use Rattle.qc_lane.proofs.aggregates.none_stands.Goals as goal

pub returns-else-word-eq0 : goal.returns-else-word-eq0
returns-else-word-eq0 c none i low set =
    let values = c.args.values.now in
    let few = c.requires.few in
    let given = rw (to_z-of_z w64 c.args.bound c.ranges.bound) at (c.compared.ensures i (omega (arith, low, few))) in
    none_in_both c.args.word c.compared.result i (length values) (stands c.args.op (get_or values i (pos 0)) c.args.bound) (eqb-true (bit_and c.args.word c.compared.result) 0 none) set low given
