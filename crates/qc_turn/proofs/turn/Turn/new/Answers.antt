use Rattle.std.proofs.Common.{rules, ◌≡◌, ◌∷◌, [], Some, Option, List, sym, subst}
use Rattle.atomic_table.specs.Table.{opening}
use Rattle.qc_turn.specs.Rules.{TurnRule}
use Rattle.qc_turn.specs.Views.{first_seat}
use Rattle.qc_turn.proofs.RuleKept.{opens}
use Rattle.qc_turn.proofs.turn.Turn.new.Goals as goal

pub new-requires : goal.new-requires
new-requires g c =
    let slots : c.push_reserved.new.self.items ≡ Some c.args.value ∷ [] = search rules in
    let key : c.of.result.value ≡ c.args.value = search rules in
    subst (λ (p : List (Option g.row.V.Denot) × g.row.V.Denot). TurnRule g.V.Kept c.args.words (opening c.as_slice.result.now p.0 (first_seat c.args.words (g.V.Kept.fixed p.1)))) (λ i. (sym slots i, sym key i))
    (opens g.V.Kept c.args.words c.args.value c.as_slice.result.now (search rules) c.requires.fresh)
