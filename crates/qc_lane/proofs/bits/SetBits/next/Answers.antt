use Rattle.std.proofs.Common.{◌≡◌, ◌≢◌, ◌<◌, ◌^◌, ℕ, arith, refl, w64, Fits, rules}
use Rattle.std.proofs.lemmas.Nat.Bits.{bit_at-trailing_zeros, bit_at_clear_same, bit_at_clear_other}
use Rattle.std.specs.Int.{bit_at, trailing_zeros}
use Rattle.qc_lane.proofs.Ahead.{found, after_found, next_word, none_left}
use Rattle.qc_lane.proofs.bits.SetBits.next.Goals as goal

pub loop-self-init : goal.loop-self-init
loop-self-init c = (c.requires.ahead, refl)

pub overflow_sub-mask : goal.overflow_sub-mask
overflow_sub-mask c = c.loop-self.invariant.0.within

pub returns-then-mask-self-le1-clause-ahead : goal.returns-then-mask-self-le1-clause-ahead
returns-then-mask-self-le1-clause-ahead c = c.loop-self.invariant.0

pub returns-then-mask-self-le1-clause-none : goal.returns-then-mask-self-le1-clause-none
returns-then-mask-self-le1-clause-none c i come =
    let from = c.loop-self.invariant.1 in
    none_left c.args.mask.now c.loop-self.self c.loop-self.invariant.0 c.loop-self-test.true (omega (arith, c.if-mask-self-le1.true)) i (omega (arith, from, come))

pub loop-self-smaller : goal.loop-self-smaller
loop-self-smaller c = omega (arith, c.if-mask-self-le1.false)

pub loop-self-preserved : goal.loop-self-preserved
loop-self-preserved c = (next_word c.args.mask.now c.loop-self.self c.loop-self.invariant.0 c.loop-self-test.true (omega (arith, c.if-mask-self-le1.false)), c.loop-self.invariant.1)

-- the lowest bit of a word of 64
lowest : (w : ℕ) → w ≢ 0 → w < 2 ^ 64 → (trailing_zeros w64 w < 64) × (bit_at w (trailing_zeros w64 w) ≡ 1) × ((i : ℕ) → i < trailing_zeros w64 w → bit_at w i ≡ 0)
lowest w some fits = bit_at-trailing_zeros w64 w (omega (arith, some)) fits

pub returns-clause-ahead : goal.returns-clause-ahead
returns-clause-ahead c =
    let s = c.loop-self.self in
    let fits : Fits w64 s.word = search rules in
    let (small, one, none) = lowest s.word c.loop-self-test.false fits.fits in
    let low = trailing_zeros w64 s.word in
    after_found c.args.mask.now s low _ c.loop-self.invariant.0 small one none (bit_at_clear_same w64 s.word low small) (λ j inside apart. bit_at_clear_other w64 s.word low small j inside apart)

pub returns-clause-some : goal.returns-clause-some
returns-clause-some c =
    let s = c.loop-self.self in
    let fits : Fits w64 s.word = search rules in
    let (small, one, none) = lowest s.word c.loop-self-test.false fits.fits in
    let low = trailing_zeros w64 s.word in
    let (come, set, clear) = found c.args.mask.now s low c.loop-self.invariant.0 small one none in
    let from = c.loop-self.invariant.1 in
    (omega (arith, from, come), set, (λ i behind before. clear i (omega (arith, from, behind)) before), refl)
