use Rattle.std.proofs.Common.{◌≡◌, ◌-◌, ◌∙◌, List, [], ◌∷◌, length, slice_get, suc, refl, ap, arith}
use Rattle.qc_tiles.specs.declared.blocks.Block.{Block}
use Rattle.qc_tiles.specs.Sizes.{last_of}
use Rattle.qc_tiles.proofs.piece.Piece.last.Goals as goal

last_is : (xs : List Block) → slice_get xs (length xs - 1) ≡ last_of xs
last_is [] = refl
last_is (x ∷ []) = refl
last_is (x ∷ y ∷ xs) = let e : length (x ∷ y ∷ xs) - 1 ≡ suc (length (y ∷ xs) - 1) = omega arith in rw e (last_is (y ∷ xs))

pub returns : goal.returns
returns c = c.copied.ensures ∙ (c.last.ensures.value ∙ (last_is c.deref.result.now ∙ ap last_of (c.deref.ensures.value ∙ c.self.view_is)))
