use Rattle.std.proofs.Common.{◌≡◌, sym, subst, refl, ◌∙◌}
use mathlib.Core.Option.{some-injective}
use Rattle.qc_turn.specs.Releases.{ClosesWith}
use Rattle.qc_turn.specs.Seats.{view}
use Rattle.qc_turn.proofs.RuleKept.{closes}
use Rattle.qc_turn.proofs.turn.Turn.close.Goals as goal

pub unwrap-requires : goal.unwrap-requires
unwrap-requires g c =
    let f = c.close_with-closed.ensures.values.2 in
    let t = closes g.V.Kept _ _ _ c.requires.first c.requires.seated.free c.requires.met f.0 f.1.0 f.1.1 in
    let e = some-injective _ _ (sym c.take-out.ensures.value ∙ f.4 _ _ t.0) in
    rw e refl

pub returns : goal.returns
returns g c =
    let f = c.close_with-closed.ensures.values.2 in
    let t = closes g.V.Kept _ _ _ c.requires.first c.requires.seated.free c.requires.met f.0 f.1.0 f.1.1 in
    let e = some-injective _ _ (sym c.take-out.ensures.value ∙ f.4 _ _ t.0) in
    let same : f.1.0.base ≡ c.unwrap.result = cc (c.unwrap.ensures, e) in
    subst (λ x. ClosesWith g.V.Kept (view c.args.seat) x) same t.1
