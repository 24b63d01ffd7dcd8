-- Lists of blocks, read one after another.
use Rattle.std.proofs.Common.{◌≡◌, ℕ, ◌+◌, List, [], ◌∷◌, refl, drop, arith, zero, suc, Some}
use Rattle.std.specs.Prelude.{slice_get}
use Rattle.qc_tiles.specs.declared.blocks.Block.{Block}

pub drop_got : (bs : List Block) (i : ℕ) (b : Block) → slice_get bs i ≡ Some b → drop i bs ≡ b ∷ drop (i + 1) bs
drop_got [] i b h = absurd (cc h)
drop_got (x ∷ bs) zero b h = let same : x ≡ b = cc h in rw same refl
drop_got (x ∷ bs) (suc i) b h = let e : suc i + 1 ≡ suc (i + 1) = omega arith in rw e (drop_got bs i b h)
