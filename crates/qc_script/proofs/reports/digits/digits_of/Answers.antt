use Rattle.std.proofs.Common.{ℕ, false, arith, slice_index, ap, ◌∙◌}
use Rattle.std.proofs.lemmas.Nat.{and_mask}
use Rattle.std.proofs.lemmas.List.{length-set}
use Rattle.std.specs.Fmt.{digit_glyph}
use Rattle.qc_script.proofs.HexDigits.{one_more, all_written}
use Rattle.qc_script.proofs.reports.digits.digits_of.Goals as goal

pub bytes-preserved : goal.bytes-preserved
bytes-preserved c =
    let byte : ℕ = slice_index c.args.block.now c.bytes.i in
    let long = c.bytes.invariant.1 in (
      one_more c.args.block.now c.bytes.digits c.bytes.i _ _ (omega arith) (omega (arith, long)) c.digit_of.ensures (c.digit_of-in-bytes.ensures ∙ ap (digit_glyph false) (and_mask byte 4)) c.bytes.invariant.0,
      length-set _ _ _ ∙ length-set _ _ _ ∙ long,
    )

pub returns : goal.returns
returns c =
    let long = c.bytes.invariant.1 in
    all_written c.args.block.now c.bytes.digits c.bytes.i (omega arith) (omega (arith, long)) c.bytes.invariant.0
