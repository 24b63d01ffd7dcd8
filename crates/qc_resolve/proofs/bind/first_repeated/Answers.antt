use Rattle.std.proofs.Common.{◌≡◌, sym, ◌∙◌, ap, take, map, true, false, refl, [], ◌∷◌, Some}
use Rattle.std.specs.Prelude.{bytes_eq}
use Rattle.std.specs.List.{list_any}
use Rattle.qc_sql.specs.Rows.{Bound}
use Rattle.qc_sql.specs.Database.{Name}
use Rattle.qc_resolve.proofs.Lists.{seen_on, repeated, not_repeated}
use Rattle.qc_resolve.proofs.bind.first_repeated.Goals as goal

pub loop-i-init : goal.loop-i-init
loop-i-init c = ([], refl, λ n. refl)

pub loop-i-preserved : goal.loop-i-preserved
loop-i-preserved c =
    let called : Bound → Name = λ b. b.called in
    let v = c.loop-i.invariant in
    let b = c.index-bounds-i.result in (
      b.called ∷ v.0,
      v.1 ∙ not_repeated called v.0 c.args.bounds.now c.loop-i.i b c.loop-i-test.true c.index-bounds-i.is v.2
          (ap (λ (n : Name). list_any (bytes_eq n) (map called (take c.loop-i.i c.args.bounds.now))) (sym (ap called c.bound.view_is)) ∙ sym c.if-is_called.ensures),
      seen_on called v.0 c.args.bounds.now c.loop-i.i b c.loop-i-test.true c.index-bounds-i.is v.2,
    )

pub returns-then-is_called : goal.returns-then-is_called
returns-then-is_called c =
    let called : Bound → Name = λ b. b.called in
    let v = c.loop-i.invariant in
    let b = c.index-bounds-i.result in
    ap Some (ap called c.bound.view_is)
    ∙ sym (v.1 ∙ repeated called v.0 c.args.bounds.now c.loop-i.i b c.loop-i-test.true c.index-bounds-i.is v.2
    (ap (λ (n : Name). list_any (bytes_eq n) (map called (take c.loop-i.i c.args.bounds.now))) (sym (ap called c.bound.view_is)) ∙ sym c.if-is_called.ensures))
