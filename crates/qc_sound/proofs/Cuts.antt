-- A chain that is cut to so many bytes spells them still.
use Rattle.std.proofs.Common.{◌≡◌, ℕ, ◌+◌, ◌-◌, ◌*◌, ◌/◌, ◌<◌, ◌≤◌, max, Bool, true, false, cond, List, [], ◌∷◌, ◌++◌, map, length, take, refl, sym, ap, subst, ◌∙◌, arith, length-append, append_assoc}
use Rattle.std.specs.Prelude.{zero, suc, slice_index, nat_le}
use Rattle.std.proofs.lemmas.List.{map-append, length-map, take-append-le}
use Rattle.std.proofs.lemmas.Bool.Decides.{nat_tests}
use Rattle.qc_types.specs.Blocks.{raised, least_block}
use Rattle.qc_tiles.specs.declared.blocks.Block.{Block}
use Rattle.qc_tiles.specs.Tiles.{cut_words, trimmed}
use Rattle.qc_chain.specs.Words.{words_of}
use Rattle.qc_chain.specs.Chains.{EndsInLast, but_last, cut_blocks, used_words, words_for}
use Rattle.qc_turn.specs.Blocks.{counted, places, spelled}
use Rattle.qc_turn.specs.Bytes.{low_bytes, bytes_of}
use Rattle.qc_turn.proofs.Tasks.{length_words}
use Rattle.qc_sound.specs.parts.Contents.{text_of}
use Rattle.qc_sound.specs.steps.Done.{CutsSpell}
use Rattle.qc_sound.proofs.Counts.{counted_append}

length_low : (n w : ℕ) → length (low_bytes n w) ≡ n
length_low zero w = refl
length_low (suc n) w = omega (arith, length_low n (w / 256))

length_bytes : (ws : List ℕ) → length (bytes_of ws) ≡ 8 * length ws
length_bytes [] = refl
length_bytes (w ∷ ws) = omega (arith, length-append (low_bytes 8 w) (bytes_of ws), length_low 8 w, length_bytes ws)

bytes_append : (xs ys : List ℕ) → bytes_of (xs ++ ys) ≡ bytes_of xs ++ bytes_of ys
bytes_append [] ys = refl
bytes_append (x ∷ xs) ys = ap (λ l. low_bytes 8 x ++ l) (bytes_append xs ys) ∙ sym (append_assoc (low_bytes 8 x) (bytes_of xs) (bytes_of ys))

-- fewer words of a block
cut_le : (w n : ℕ) → cut_words w n ≤ n
cut_le w n = grind (arith, nat_tests)

cut_enough : (u n : ℕ) → u ≤ n → u ≤ cut_words (raised u) n
cut_enough u n h = elim (nat_le (raised u + least_block) n) as (λ b. u ≤ cond b (raised u) n) [
  | true ↦ omega arith
  | false ↦ h
]

-- the places of a cut chain begin those of the chain
cut_front : (used : ℕ) (bs : List Block) → (rest : List ℕ) × (places bs ≡ places (cut_blocks used bs) ++ rest)
cut_front used [] = ([], refl)
cut_front used (b ∷ []) =
    let n = cut_words (raised used) b.words in
    let sum : n + (b.words - n) ≡ b.words = omega (arith, cut_le (raised used) b.words) in
    (counted (b.first + n) (b.words - n), ap (λ l. l ++ []) (ap (counted b.first) (sym sum) ∙ counted_append b.first n (b.words - n)) ∙ shift (counted b.first n) (counted (b.first + n) (b.words - n)))
  where
    shift : (xs ys : List ℕ) → (xs ++ ys) ++ [] ≡ (xs ++ []) ++ ys
    shift [] [] = refl
    shift [] (y ∷ ys) = ap (λ l. y ∷ l) (shift [] ys)
    shift (x ∷ xs) ys = ap (λ l. x ∷ l) (shift xs ys)
cut_front used (b ∷ c ∷ bs) =
    let r = cut_front used (c ∷ bs) in
    (r.0, ap (λ l. counted b.first b.words ++ l) r.1 ∙ sym (append_assoc (counted b.first b.words) (places (cut_blocks used (c ∷ bs))) r.0))

-- the cut chain has the words that are used
cut_holds : (used : ℕ) (bs : List Block) → 0 < length bs → words_of (but_last bs) + used ≤ words_of bs → words_of (but_last bs) + used ≤ words_of (cut_blocks used bs)
cut_holds used [] h k = absurd (omega (arith, h))
cut_holds used (b ∷ []) h k = omega (arith, cut_enough used b.words (omega (arith, k)))
cut_holds used (b ∷ c ∷ bs) h k = omega (arith, cut_holds used (c ∷ bs) (omega arith) (omega (arith, k)))

pub cuts_spell : CutsSpell
cuts_spell words bs bytes ends =
    let used = used_words bs bytes in
    let r = cut_front used bs in
    let look = λ (i : ℕ). slice_index words i in
    let split : spelled words bs ≡ spelled words (cut_blocks used bs) ++ map look r.0 = ap (map look) r.1 ∙ map-append look (places (cut_blocks used bs)) r.0 in
    let held = cut_holds used bs ends.some (omega (arith, ends.more, ends.within)) in
    let long : length (bytes_of (spelled words (cut_blocks used bs))) ≡ 8 * words_of (cut_blocks used bs) =
    length_bytes (spelled words (cut_blocks used bs)) ∙ ap (λ n. 8 * n) (length-map (places (cut_blocks used bs)) look ∙ length_words (cut_blocks used bs)) in
    let below : bytes ≤ length (bytes_of (spelled words (cut_blocks used bs))) = omega (arith, held, long, ends.more, ends.within) in
    sym (ap (take bytes) (ap bytes_of split ∙ bytes_append (spelled words (cut_blocks used bs)) (map look r.0)) ∙ take-append-le bytes (bytes_of (spelled words (cut_blocks used bs))) (bytes_of (map look r.0)) below)
