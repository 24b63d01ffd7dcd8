-- The words of blocks, where they end, and where a word stands.
use Rattle.std.proofs.Common.{◌≡◌, ℕ, ◌+◌, ◌-◌, ◌%◌, ◌<◌, ◌≤◌, List, [], ◌∷◌, ◌++◌, length, get_or, refl, sym, ap, ◌∙◌, arith, zero, suc}
use Rattle.std.proofs.lemmas.Bool.{lt-ltb, le-ltb}
use Rattle.qc_tiles.specs.declared.blocks.Block.{Block}
use Rattle.qc_chain.specs.Words.{words_of, word_at}
use Rattle.qc_chain.specs.Ends.{ends_from, start_at}

pub words_push : (bs : List Block) (b : Block) → words_of (bs ++ b ∷ []) ≡ words_of bs + b.words
words_push [] b = omega arith
words_push (x ∷ bs) b = omega (arith, words_push bs b)

pub words_append : (bs cs : List Block) → words_of (bs ++ cs) ≡ words_of bs + words_of cs
words_append [] cs = omega arith
words_append (x ∷ bs) cs = omega (arith, words_append bs cs)

pub word_here : (i : ℕ) (b : Block) (bs : List Block) → i < b.words → word_at i (b ∷ bs) ≡ b.first + i
word_here i b bs below = rw (lt-ltb i b.words below) refl

pub word_later : (i : ℕ) (b : Block) (bs : List Block) → b.words ≤ i → word_at i (b ∷ bs) ≡ word_at (i - b.words) bs
word_later i b bs above = rw (le-ltb i b.words above) refl

-- ---- where blocks end

ends-push : (n : ℕ) (bs : List Block) (b : Block) → ends_from n bs ++ (n + words_of bs + b.words) ∷ [] ≡ ends_from n (bs ++ b ∷ [])
ends-push n [] b = let e : n + 0 + b.words ≡ n + b.words = omega arith in rw e refl
ends-push n (x ∷ bs) b =
    let e : n + (x.words + words_of bs) + b.words ≡ (n + x.words) + words_of bs + b.words = omega arith in
    rw e (ap (λ ends. (n + x.words) ∷ ends) (ends-push (n + x.words) bs b))

pub ends_pushed : (bs : List Block) (b : Block) → ends_from 0 bs ++ (words_of bs + b.words) ∷ [] ≡ ends_from 0 (bs ++ b ∷ [])
ends_pushed bs b = let e : 0 + words_of bs + b.words ≡ words_of bs + b.words = omega arith in rw e at (ends-push 0 bs b)

pub length-ends : (n : ℕ) (bs : List Block) → length (ends_from n bs) ≡ length bs
length-ends n [] = refl
length-ends n (b ∷ bs) = omega (arith, length-ends (n + b.words) bs)

pub last_end : (n : ℕ) (bs : List Block) (k : ℕ) → length (ends_from n bs) ≡ k + 1 → get_or (ends_from n bs) k 0 ≡ n + words_of bs
last_end n [] k h = absurd (omega (arith, h))
last_end n (b ∷ []) zero h = omega arith
last_end n (b ∷ c ∷ bs) zero h = absurd (omega (arith, h))
last_end n (b ∷ bs) (suc k) h = omega (arith, last_end (n + b.words) bs k (omega (arith, h)))

-- the last end is the words of all blocks, and 0 where there is none
pub last_of_ends : (bs : List Block) (last : ℕ) (ends : List ℕ) → ends ≡ ends_from 0 bs → (length ends ≡ 0 → last ≡ 0) → ((k : ℕ) → length ends ≡ k + 1 → last ≡ get_or ends k 0) → last ≡ words_of bs
last_of_ends [] last ends is none some = none (ap length is)
last_of_ends (b ∷ bs) last ends is none some =
    let count : length ends ≡ length bs + 1 = ap length is ∙ omega (arith, length-ends (0 + b.words) bs) in
    some (length bs) count ∙ (ap (λ xs. get_or xs (length bs) 0) is ∙ omega (arith, last_end 0 (b ∷ bs) (length bs) (ap length (sym is) ∙ count)))

no_lower : (n : ℕ) (bs : List Block) (k : ℕ) → k < length (ends_from n bs) → n ≤ get_or (ends_from n bs) k 0
no_lower n [] k h = absurd (omega arith)
no_lower n (b ∷ bs) zero h = omega arith
no_lower n (b ∷ bs) (suc k) h = omega (arith, no_lower (n + b.words) bs k (omega arith))

pub ends_rise : (n : ℕ) (bs : List Block) (i j : ℕ) → i ≤ j → j < length (ends_from n bs) → get_or (ends_from n bs) i 0 ≤ get_or (ends_from n bs) j 0
ends_rise n [] i j h k = absurd (omega arith)
ends_rise n (b ∷ bs) zero zero h k = omega arith
ends_rise n (b ∷ bs) zero (suc j) h k = no_lower (n + b.words) bs j (omega arith)
ends_rise n (b ∷ bs) (suc i) zero h k = absurd (omega arith)
ends_rise n (b ∷ bs) (suc i) (suc j) h k = ends_rise (n + b.words) bs i j (omega arith) (omega arith)

-- the block with an index is the one that a word is in
pub record IsIn (n i : ℕ) (bs : List Block) (at : ℕ) (block : Block) : Type 0 where
  pub within : at < length bs
  pub start : start_at n (ends_from n bs) at ≤ i
  pub place : word_at (i - n) bs ≡ (get_or bs at block).first + (i - start_at n (ends_from n bs) at)

start_more : (n : ℕ) (b : Block) (bs : List Block) (k : ℕ) → start_at n (ends_from n (b ∷ bs)) (suc k) ≡ start_at (n + b.words) (ends_from (n + b.words) bs) k
start_more n b bs zero = refl
start_more n b bs (suc k) = refl

is_in_more : (n i : ℕ) (b : Block) (bs : List Block) (at : ℕ) (block : Block) → n + b.words ≤ i → IsIn (n + b.words) i bs at block → IsIn n i (b ∷ bs) (suc at) block
is_in_more n i b bs at block above h =
    let e : i - n - b.words ≡ i - (n + b.words) = omega arith in
    record {
      within = omega (arith, h.within);
      start = rw (start_more n b bs at) h.start;
      place = rw (start_more n b bs at, le-ltb (i - n) b.words (omega arith), e) h.place;
    }

pub is_in : (n i : ℕ) (bs : List Block) (at : ℕ) (block : Block) → n ≤ i → i < n + words_of bs → at ≤ length (ends_from n bs) → ((k : ℕ) → k < at → get_or (ends_from n bs) k 0 ≤ i)
    → ((k : ℕ) → at ≤ k → k < length (ends_from n bs) → i < get_or (ends_from n bs) k 0) → IsIn n i bs at block
is_in n i [] at block from to within before after = absurd (omega arith)
is_in n i (b ∷ bs) zero block from to within before after =
    let below : i < n + b.words = after 0 (omega arith) (omega arith) in
    record { within = omega arith; start = from; place = rw (lt-ltb (i - n) b.words (omega arith)) refl }
is_in n i (b ∷ bs) (suc at) block from to within before after =
    let above : n + b.words ≤ i = before 0 (omega arith) in
    is_in_more n i b bs at block above
    (is_in (n + b.words) i bs at block above (omega arith) (omega arith) (λ k h. before (suc k) (omega arith)) (λ k h l. after (suc k) (omega arith) (omega arith)))

pub in_block : (bs : List Block) (ends : List ℕ) (i at : ℕ) (block : Block) → ends ≡ ends_from 0 bs → i < words_of bs → at ≤ length ends → ((k : ℕ) → k < at → get_or ends k 0 ≤ i) → ((k : ℕ) → at ≤ k → k < length ends → i < get_or ends k 0) → IsIn 0 i bs at block
in_block bs ends i at block is index within before after =
    is_in 0 i bs at block (omega arith) (omega arith) (rw is at within) (λ k h. rw is at (before k h)) (λ k h l. let m : k < length ends = rw (← is) at l in rw is at (after k h m))

end_within : (n : ℕ) (bs : List Block) (k : ℕ) → k < length (ends_from n bs) → get_or (ends_from n bs) k 0 ≤ n + words_of bs
end_within n [] k h = absurd (omega (arith, h))
end_within n (b ∷ bs) zero h = omega arith
end_within n (b ∷ bs) (suc k) h = omega (arith, end_within (n + b.words) bs k (omega (arith, h)))

-- the words from an index on, up to the end of the block that it is in
pub record IsRun (bs : List Block) (ends : List ℕ) (i at : ℕ) (block : Block) : Type 0 where
  pub inside : at < length ends
  pub within : at < length bs
  pub some : i < get_or ends at 0
  pub most : get_or ends at 0 ≤ words_of bs
  pub start : start_at 0 (ends_from 0 bs) at ≤ i
  pub places : (k : ℕ) → i + k < get_or ends at 0 → word_at (i + k) bs ≡ (get_or bs at block).first + (i + k - start_at 0 (ends_from 0 bs) at)

pub is_run : (bs : List Block) (ends : List ℕ) (i at : ℕ) (block : Block) → ends ≡ ends_from 0 bs → i < words_of bs → at ≤ length ends → ((k : ℕ) → k < at → get_or ends k 0 ≤ i) → ((k : ℕ) → at ≤ k → k < length ends → i < get_or ends k 0) → IsRun bs ends i at block
is_run bs ends i at block is index within before after =
    let one = in_block bs ends i at block is index within before after in
    let long : length ends ≡ length bs = ap length is ∙ length-ends 0 bs in
    let inside : at < length ends = omega (arith, one.within, long) in
    let last : get_or (ends_from 0 bs) at 0 ≤ 0 + words_of bs = end_within 0 bs at (rw (length-ends 0 bs) one.within) in
    let same : get_or ends at 0 ≡ get_or (ends_from 0 bs) at 0 = ap (λ l. get_or l at 0) is in
    let most : get_or ends at 0 ≤ words_of bs = omega (arith, last, same) in
    record {
      inside = inside;
      within = one.within;
      some = after at (omega arith) inside;
      most = most;
      start = one.start;
      places = λ k h.
          let none : i + k - 0 ≡ i + k = omega arith in
          let later = in_block bs ends (i + k) at block is (omega (arith, h, most)) within (λ j l. let t = before j l in omega (arith, t))
          (λ j l m. let r : get_or ends at 0 ≤ get_or ends j 0 = rw is (ends_rise 0 bs at j l (rw is at m)) in omega (arith, r, h)) in
          rw none at later.place;
    }

-- a number that fits stays as it is
pub wraps_to : (a b : ℕ) → a ≡ b → b < 4294967296 → a % 4294967296 ≡ b
wraps_to a b same fits = omega arith
