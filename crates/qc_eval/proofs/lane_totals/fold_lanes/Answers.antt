use Rattle.std.proofs.Common.{◌≡◌, ◌+◌, ◌*◌, ◌∷◌, [], filter, length, map, min, get_or, sym, subst, ap, ◌∙◌, arith}
use Rattle.std.specs.Prelude.{IfOk, IfSome}
use Rattle.std.proofs.lemmas.Bool.Decides.{Decides-eqb}
use Rattle.std.proofs.lemmas.List.{get_or_default}
use Rattle.qc_resolve.specs.Meaning.{fold_value}
use Rattle.qc_eval.specs.Lanes.{singles, window_rows}
use Rattle.qc_eval.specs.Values.{stored_value}
use Rattle.qc_eval.specs.Walk.{passes, passes_all}
use Rattle.qc_eval.proofs.KeptRows.{only_range}
use Rattle.qc_eval.proofs.LaneFolds.{kept_in_window, only_one}
use Rattle.qc_eval.proofs.lane_totals.fold_lanes.Goals as goal

pub returns : goal.returns
returns g c =
    let ts = c.args.tables.now in
    let filters = c.args.filters.now in
    let t = c.index-tables-0.result in
    let w = c.window_of-window.result in
    let r = c.range_in-range.result in
    let one : length ts ≡ 1 = (let h = c.if-tables-ne1.false in omega (arith, h)) in
    let two : length filters ≡ 2 = (let levels = c.requires in omega (arith, one, levels)) in
    let alone : ts ≡ t ∷ [] = only_one ts t one c.index-tables-0.is in
    let tests : c.items-2.result.now ≡ get_or filters 1 [] = c.items-2.ensures ∙ c.index-filters-1.is ∙ get_or_default filters 1 c.index-filters-1.result [] (omega (arith, two)) in
    let first : c.items.result.now ≡ get_or filters 0 [] = c.items.ensures ∙ c.index-filters-0.is ∙ get_or_default filters 0 c.index-filters-0.result [] (omega (arith, two)) in
    let none : length (get_or filters 0 []) ≡ 0 = ap length (sym first) ∙ (Decides-eqb (length c.items.result.now) 0).0 (sym c.is_empty.ensures ∙ c.if-not-is_empty.false) in
    let to : 64 * w.word + w.count ≡ min r.to (length t.rows) = c.window_of-window.ensures.to ∙ ap (min r.to) c.count.ensures.value in
    let same = kept_in_window ts t filters w r alone two none (only_range (passes_all filters) t ts r alone c.range_in-range.ensures) c.window_of-window.ensures.from to in
    subst (λ group. IfOk c.fold_window.result (λ found. IfSome found (λ totals. map stored_value totals.items ≡ map (fold_value group) c.args.folds.now)))
    (ap (λ us. filter (λ x. passes x us) (singles (window_rows t w))) tests ∙ sym same) c.fold_window.ensures
