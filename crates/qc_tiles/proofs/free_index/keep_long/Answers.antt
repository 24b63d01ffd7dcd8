use Rattle.std.proofs.Common.{◌<◌, ◌∙◌, inl, inr, length, ap, arith}
use Rattle.qc_tiles.proofs.Pieces.{edited_at, still_filled, was_short, below_of, below_at, joined_edits, joined_blocks}
use Rattle.qc_tiles.proofs.free_index.keep_long.Goals as goal
use Rattle.qc_tiles.proofs.free_index.keep_long.Goals.{then-at-eq0-via-then-at-eq0, then-at-eq0-via-else-at-eq0+then-len-ge-SHORT}

pub returns-then-at-eq0-clause-filled : goal.returns-then-at-eq0-clause-filled
returns-then-at-eq0-clause-filled c =
    let e = c.requires.edited.0 in
    let short : length e.now < 256 = omega (arith, c.requires.edited.1, was_short e) in
    elim c.then-at-eq0.branch [
      | then-at-eq0-via-then-at-eq0 w ↦ still_filled e (inl w.if-at-eq0.true) short
      | then-at-eq0-via-else-at-eq0+then-len-ge-SHORT w ↦ still_filled e (inr (inr (omega (arith, w.if-len-ge-SHORT.true, w.len.ensures, ap length (edited_at e _ w.index.ensures))))) short
    ]

pub append-requires : goal.append-requires
append-requires c =
    let e = c.requires.edited.0 in
    let j = below_of e (omega (arith, c.if-at-eq0.false)) in
    let lower = ap length (below_at e j c.remove-upper.ensures.items _ c.index_mut.ensures.value) in
    let upper = ap length (edited_at e _ c.remove-upper.ensures.value) in
    omega (arith, lower, j.short, upper, ap length (edited_at e _ c.index.ensures), c.len.ensures, c.if-len-ge-SHORT.false)

pub keep_short-requires-clause-edited : goal.keep_short-requires-clause-edited
keep_short-requires-clause-edited c =
    let e = c.requires.edited.0 in
    let j = below_of e (omega (arith, c.if-at-eq0.false)) in
    let upper = ap length (edited_at e _ c.remove-upper.ensures.value) in
    joined_edits e j c.remove-upper.ensures.items _ _ _ c.index_mut.ensures.value c.append.ensures (omega (arith, upper, ap length (edited_at e _ c.index.ensures), c.len.ensures, c.if-len-ge-SHORT.false))

pub keep_short-requires-clause-fits : goal.keep_short-requires-clause-fits
keep_short-requires-clause-fits c =
    let e = c.requires.edited.0 in
    let j = below_of e (omega (arith, c.if-at-eq0.false)) in
    let same = joined_blocks e j c.remove-upper.ensures.items _ _ _ c.index_mut.ensures.value c.remove-upper.ensures.value c.append.ensures in
    omega (arith, ap length same, c.requires.fits, c.remove-upper.ensures.len, c.push_reserved.ensures.len)

pub returns-clause-blocks : goal.returns-clause-blocks
returns-clause-blocks c =
    let e = c.requires.edited.0 in
    let j = below_of e (omega (arith, c.if-at-eq0.false)) in
    c.keep_short.ensures.blocks ∙ joined_blocks e j c.remove-upper.ensures.items _ _ _ c.index_mut.ensures.value c.remove-upper.ensures.value c.append.ensures
