use Rattle.std.proofs.Common.{rules, Some, None, ap, sym, refl, ◌∙◌, ◌∷◌, ◌≡◌}
use Rattle.atomic_table.specs.Table.{rest}
use Rattle.qc_turn.proofs.RuleKept.{came_out}
use Rattle.qc_turn.proofs.turn.Turn.take_value.Goals as goal

pub exchange-out-requires : goal.exchange-out-requires
exchange-out-requires g c = let t = c.requires.slot in (search rules, (Some t.0, t.1 ∙ ap (λ l. (0, Some t.0) ∷ rest l) (sym t.1)))

pub unwrap-requires : goal.unwrap-requires
unwrap-requires g c = let t = c.requires.slot in
    let e = came_out _ _ _ _ _ t.1 c.exchange-out.ensures.2 in rw e refl

pub returns-clause-value : goal.returns-clause-value
returns-clause-value g c = λ x is. let e = came_out _ _ _ _ _ is c.exchange-out.ensures.2 in
    let same : x ≡ c.unwrap.result = cc (c.unwrap.ensures, e) in same

pub returns-clause-out : goal.returns-clause-out
returns-clause-out g c = let out = c.exchange-out.ensures in
    (ap (λ m. m.0) out.3, ap (λ m. m.1) out.3 ∙ ap (λ l. (0, None) ∷ rest l) c.requires.slot.1)

pub returns-clause-same : goal.returns-clause-same
returns-clause-same g c = (c.exchange-out.ensures.0, refl)
