-- What the tests look up before a call, and what it tells.
use Rattle.std.proofs.Common.{◌≡◌, ℕ, ◌+◌, ◌<◌, ◌≤◌, List, [], ◌∷◌, length, drop, sym, ap, ◌∙◌, arith, zero, suc, inl, inr, Some}
use Rattle.std.specs.Prelude.{Contains, slice_get}
use Rattle.std.proofs.lemmas.List.{get_or-drop, length-drop}
use Rattle.std.proofs.lemmas.Option.{slice_get-get_or, same_Some}
use Rattle.std.proofs.lemmas.Bool.{cases_eq}
use Rattle.qc_tiles.specs.declared.blocks.Block.{Block}
use Rattle.qc_tiles.specs.declared.blocks.Tile.{Tile}
use Rattle.qc_tiles.specs.Tiles.{handed_out}
use Rattle.qc_chain.specs.Words.{words_of}
use Rattle.qc_chain.specs.Chains.{AreHandedOut, but_last}
use Rattle.qc_chain.proofs.Listed.{drop_got}

-- no block from an index on begins below a word
abbrev pub BeginsFrom : List Block → ℕ → ℕ → Type 0
BeginsFrom blocks from lowest = (k : ℕ) (b : Block) → from ≤ k → slice_get blocks k ≡ Some b → lowest ≤ b.first

-- a block that begins below those from an index on stands there nowhere
apart : (bs : List Block) (n lowest : ℕ) (b : Block) → BeginsFrom bs n lowest → b.first < lowest → Contains (drop n bs) b → ⊥
apart bs n lowest b from below (k, within, same) =
    let long : n + k < length bs = omega (arith, length-drop n bs, within) in
    let read : slice_get bs (n + k) ≡ Some b = slice_get-get_or bs (n + k) b long ∙ ap (λ x. Some x) (sym (get_or-drop n bs k b) ∙ same) in
    let high : lowest ≤ b.first = from (n + k) b (omega arith) read in
    omega (arith, high, below)

-- one block more, in front of those that were looked up
pub handed_more : (ts : List Tile) (bs : List Block) (i lowest : ℕ) (b : Block) → slice_get bs i ≡ Some b → Contains (handed_out ts) b → BeginsFrom bs (i + 1) lowest → b.first < lowest → AreHandedOut ts (drop (i + 1) bs) → AreHandedOut ts (drop i bs)
handed_more ts bs i lowest b read here from below rest =
    rw (drop_got bs i b read) (record { each = (here, rest.each); once = (apart bs (i + 1) lowest b from below, rest.once) })

-- no block from the index before on begins below that one's
pub lowest_more : (bs : List Block) (i lowest : ℕ) (b : Block) → slice_get bs i ≡ Some b → BeginsFrom bs (i + 1) lowest → b.first < lowest → BeginsFrom bs i b.first
lowest_more bs i lowest b read from below = λ k c above got.
    elim (cases_eq k i) [
      | inl same ↦ let is : b ≡ c = same_Some b c (sym read ∙ (ap (slice_get bs) (sym same) ∙ got)) in omega (arith, ap (λ (x : Block). x.first) is)
      | inr other ↦ omega (arith, below, from k c (omega (arith, above, other)) got)
    ]

-- the words of the last block and of those in front of it
pub words_of_last : (bs : List Block) (n : ℕ) (b : Block) → n + 1 ≡ length bs → slice_get bs n ≡ Some b → words_of bs ≡ words_of (but_last bs) + b.words
words_of_last [] n b long read = absurd (omega (arith, long))
words_of_last (x ∷ []) zero b long read = let same : x ≡ b = cc read in omega (arith, ap (λ (y : Block). y.words) same)
words_of_last (x ∷ y ∷ bs) zero b long read = absurd (omega (arith, long))
words_of_last (x ∷ []) (suc n) b long read = absurd (omega (arith, long))
words_of_last (x ∷ y ∷ bs) (suc n) b long read = omega (arith, words_of_last (y ∷ bs) n b (omega (arith, long)) read)
