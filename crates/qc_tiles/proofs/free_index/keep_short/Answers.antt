use Rattle.std.proofs.Common.{◌≡◌, ◌-◌, ◌/◌, ◌≤◌, ◌<◌, ◌++◌, ◌∙◌, inl, inr, length, take, ap, sym, subst, arith}
use Rattle.std.proofs.lemmas.List.{length-take, length-drop, take-append-drop}
use Rattle.qc_tiles.specs.Pieces.{Filled, gathered}
use Rattle.qc_tiles.proofs.Pieces.{edited_at, still_filled, spare_left, cut_is, cut_blocks, cut_filled}
use Rattle.qc_tiles.proofs.free_index.keep_short.Goals as goal

pub returns-then-len-lt-LONG-clause-filled : goal.returns-then-len-lt-LONG-clause-filled
returns-then-len-lt-LONG-clause-filled c =
    let e = c.requires.edited.0 in
    still_filled e (inr (inl c.requires.edited.1)) (omega (arith, c.if-len-lt-LONG.true, c.len.ensures, ap length (edited_at e _ c.index.ensures)))

pub unreachable-requires : goal.unreachable-requires
unreachable-requires c =
    let e = c.requires.edited.0 in
    let left = spare_left e (omega (arith, c.if-len-lt-LONG.false, c.len.ensures, ap length (edited_at e _ c.index.ensures))) in
    omega (arith, left, c.requires.fits, c.args.pieces.now.ok.0, (c.in_default.ensures {u = tt}).cases.0)

pub cut-requires : goal.cut-requires
cut-requires c = omega (arith, c.requires.edited.2, ap length (edited_at c.requires.edited.0 _ c.index_mut.ensures.value))

pub returns-clause-blocks : goal.returns-clause-blocks
returns-clause-blocks c =
    let e = c.requires.edited.0 in
    let x = c.index_mut.result.now in
    ap gathered ((c.in-Ok.ensures {u = tt}).items ∙ cut_is e c.cut.new.self c.cut.new.upper)
    ∙ (cut_blocks e c.cut.new.self c.cut.new.upper (ap (λ p. p ++ c.cut.new.upper) c.cut.ensures.lower
    ∙ (ap (λ p. take (length x / 2) x ++ p) c.cut.ensures.upper ∙ (take-append-drop (length x / 2) x ∙ edited_at e x c.index_mut.ensures.value))))

pub returns-clause-filled : goal.returns-clause-filled
returns-clause-filled c =
    let e = c.requires.edited.0 in
    let x = c.index_mut.result.now in
    let n = length x / 2 in
    let long : 256 ≤ length x = omega (arith, c.if-len-lt-LONG.false, c.len.ensures, ap length (edited_at e _ c.index.ensures), ap length (edited_at e x c.index_mut.ensures.value)) in
    let most : length x < 384 = omega (arith, c.requires.edited.2, ap length (edited_at e x c.index_mut.ensures.value)) in
    let low : length c.cut.new.self ≡ n = omega (arith, ap length c.cut.ensures.lower, length-take n x) in
    let high : length c.cut.new.upper ≡ length x - n = omega (arith, ap length c.cut.ensures.upper, length-drop n x) in
    subst (λ ps. Filled 0 ps) (sym ((c.in-Ok.ensures {u = tt}).items ∙ cut_is e c.cut.new.self c.cut.new.upper))
    (cut_filled e.before e.was c.cut.new.self c.cut.new.upper e.after e.filled (omega (arith, low, long)) (omega (arith, low, most)) (omega (arith, high, long)) (omega (arith, high, most)))
