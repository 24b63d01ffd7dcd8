use Rattle.std.proofs.Common.{◌≡◌, ◌+◌, ◌*◌, ◌∷◌, [], length, min, get_or, sym, ap, ◌∙◌, arith}
use Rattle.std.specs.Prelude.{IfSome}
use Rattle.std.proofs.lemmas.Bool.Decides.{Decides-eqb}
use Rattle.std.proofs.lemmas.List.{get_or_default}
use Rattle.std.proofs.lemmas.Option.{IfSome_then}
use Rattle.std.proofs.lemmas.Result.{IfOk-weaker}
use Rattle.qc_eval.specs.Entries.{kept_indexes}
use Rattle.qc_eval.specs.Lanes.{AreKept}
use Rattle.qc_eval.specs.Walk.{passes, passes_all}
use Rattle.qc_eval.proofs.KeptRows.{only_range}
use Rattle.qc_eval.proofs.LaneFolds.{only_one}
use Rattle.qc_eval.proofs.Marked.{few_are_kept, none_in_front}
use Rattle.qc_eval.proofs.masked.few_rows.Goals as goal

pub returns : goal.returns
returns g c =
    let ts = c.args.tables.now in
    let filters = c.args.filters.now in
    let t = c.index-tables-0.result in
    let w = c.window_of-window.result in
    let r = c.range_in-range.result in
    let keep = passes_all filters in
    let us = c.items-tests.result.now in
    let one : length ts ≡ 1 = (let h = c.if-tables-ne1.false in omega (arith, h)) in
    let two : length filters ≡ 2 = (let levels = c.requires in omega (arith, one, levels)) in
    let alone : ts ≡ t ∷ [] = only_one ts t one c.index-tables-0.is in
    let tests : us ≡ get_or filters 1 [] = c.items-tests.ensures ∙ c.index-filters-1.is ∙ get_or_default filters 1 c.index-filters-1.result [] (omega (arith, two)) in
    let first : c.items.result.now ≡ get_or filters 0 [] = c.items.ensures ∙ c.index-filters-0.is ∙ get_or_default filters 0 c.index-filters-0.result [] (omega (arith, two)) in
    let none : length (get_or filters 0 []) ≡ 0 = ap length (sym first) ∙ (Decides-eqb (length c.items.result.now) 0).0 (sym c.is_empty.ensures ∙ c.if-not-is_empty.false) in
    let to : 64 * w.word + w.count ≡ min r.to (length t.rows) = c.window_of-window.ensures.to ∙ ap (min r.to) c.count.ensures.value in
    let out = only_range keep t ts r alone c.range_in-range.ensures in
    let front = none_in_front ts t filters us w r two none tests out c.window_of-window.ensures.from (omega (arith, to)) in
    IfOk-weaker c.few_in_window.result (λ found. IfSome found (λ is. is ≡ kept_indexes (λ x. passes x us) t.rows (64 * w.word + w.count))) (λ found. IfSome found (AreKept ts keep))
    (λ found s. IfSome_then found s (λ is e. few_are_kept ts t filters us w r is alone two none tests out to e)) (c.few_in_window.ensures front)
