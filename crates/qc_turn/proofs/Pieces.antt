-- Words of a fill that are stored one after another.
use Rattle.std.proofs.Common.{◌≡◌, ℕ, zero, suc, ◌+◌, ◌-◌, ◌*◌, ◌<◌, ◌≤◌, min, List, [], ◌∷◌, ◌++◌, length, get_or, take, refl, sym, ap, ◌∙◌, arith, append_assoc, append-nil, length-append, length-take}
use Rattle.std.proofs.Math.Seq.{take-length}
use Rattle.qc_turn.specs.Bytes.{low_bytes, bytes_of, filled, filled_piece}
use Rattle.qc_turn.proofs.Tasks.{length-low, take_past, take_over, take_less, take_again}

-- one word is a piece of one value
pub filled_one : (content : List ℕ) (i x count : ℕ) → filled content i x count ≡ filled_piece content i (x ∷ []) count
filled_one content i x count = ap (λ l. take (8 * i) content ++ take (count - 8 * i) l) (sym (append-nil (low_bytes 8 x)))

length-bytes : (ws : List ℕ) → length (bytes_of ws) ≡ 8 * length ws
length-bytes [] = refl
length-bytes (w ∷ ws) = let a = length-append (low_bytes 8 w) (bytes_of ws) in let b = length-low 8 w in let c = length-bytes ws in omega (arith, a, b, c)

-- some bytes of the next word
bytes_more : (ws : List ℕ) (k d : ℕ) → k < length ws → d ≤ 8 → take (8 * k) (bytes_of ws) ++ take d (low_bytes 8 (get_or ws k 0)) ≡ take (8 * k + d) (bytes_of ws)
bytes_more [] k d h e = absurd (omega arith)
bytes_more (w ∷ ws) zero d h e =
    let eight = length-low 8 w in
    let same : 8 * 0 + d ≡ d = omega arith in
    sym (ap (λ n. take n (low_bytes 8 w ++ bytes_of ws)) same ∙ take_past d (low_bytes 8 w) (bytes_of ws) (omega (arith, eight, e)))
bytes_more (w ∷ ws) (suc k) d h e =
    let first : List ℕ = low_bytes 8 w in
    let rest : List ℕ = bytes_of ws in
    let next : List ℕ = take d (low_bytes 8 (get_or ws k 0)) in
    let eight : length first ≡ 8 = length-low 8 w in
    let front : 8 * suc k ≡ length first + 8 * k = omega (arith, eight) in
    let all : 8 * suc k + d ≡ length first + (8 * k + d) = omega (arith, eight) in
    ap (λ n. take n (first ++ rest) ++ next) front ∙ (ap (λ l. l ++ next) (take_over first rest (8 * k)) ∙ (append_assoc first (take (8 * k) rest) next ∙ (ap (λ l. first ++ l) (bytes_more ws k d (omega arith) e) ∙ (sym (take_over first rest (8 * k + d)) ∙ sym (ap (λ n. take n (first ++ rest)) all)))))

length-piece : (content values : List ℕ) (i count : ℕ) → 8 * i ≤ length content → 8 * i ≤ count → count ≤ 8 * (i + length values) → length (filled_piece content i values count) ≡ count
length-piece content values i count reached low high =
    let a = length-append (take (8 * i) content) (take (count - 8 * i) (bytes_of values)) in
    let b = length-take (8 * i) content in
    let c = length-take (count - 8 * i) (bytes_of values) in
    let d = length-bytes values in
    omega (arith, a, b, c, d, reached, low, high)

-- a beginning of the bytes
piece_front : (content values : List ℕ) (i count n : ℕ) → 8 * i ≤ length content → 8 * i + n ≤ count → take (8 * i + n) (filled_piece content i values count) ≡ take (8 * i) content ++ take n (bytes_of values)
piece_front content values i count n reached small =
    let kept : List ℕ = take (8 * i) content in
    let new : List ℕ = take (count - 8 * i) (bytes_of values) in
    let b = length-take (8 * i) content in
    let long : 8 * i + n ≡ length kept + n = omega (arith, b, reached) in
    ap (λ m. take m (kept ++ new)) long ∙ (take_over kept new n ∙ ap (λ l. kept ++ l) (take_less n (count - 8 * i) (bytes_of values) (omega (arith, small))))

-- the word k of the values was stored, after those in front of it
piece_step : (content now values : List ℕ) (i k count n : ℕ) → 8 * i ≤ length content → k < length values → 8 * (i + k) ≤ n → n ≤ 8 * (i + k) + 8 → n ≤ count
    → take (8 * (i + k)) now ≡ take (8 * (i + k)) (filled_piece content i values count) → filled now (i + k) (get_or values k 0) n ≡ take n (filled_piece content i values count)
piece_step content now values i k count n reached inside low high small same =
    let kept : List ℕ = take (8 * i) content in
    let all : List ℕ = filled_piece content i values count in
    let next : List ℕ = take (n - 8 * (i + k)) (low_bytes 8 (get_or values k 0)) in
    let d : ℕ = n - 8 * (i + k) in
    let up : 8 * (i + k) ≡ 8 * i + 8 * k = omega arith in
    let to : n ≡ 8 * i + (8 * k + (n - 8 * (i + k))) = omega (arith, low) in
    let begun : take (8 * (i + k)) all ≡ kept ++ take (8 * k) (bytes_of values) = ap (λ m. take m all) up ∙ piece_front content values i count (8 * k) reached (omega (arith, low, small)) in
    let done : take n all ≡ kept ++ take (8 * k + (n - 8 * (i + k))) (bytes_of values) = ap (λ m. take m all) to ∙ piece_front content values i count (8 * k + (n - 8 * (i + k))) reached (omega (arith, low, small)) in
    ap (λ l. l ++ next) (same ∙ begun) ∙ (append_assoc kept (take (8 * k) (bytes_of values)) next ∙ (ap (λ l. kept ++ l) (bytes_more values k (n - 8 * (i + k)) inside (omega (arith, high))) ∙ sym done))

-- more bytes than there are are all of them
piece_end : (content values : List ℕ) (i count n : ℕ) → 8 * i ≤ length content → 8 * i ≤ count → count ≤ 8 * (i + length values) → take (min n count) (filled_piece content i values count) ≡ take n (filled_piece content i values count)
piece_end content values i count n reached low high =
    let all : List ℕ = filled_piece content i values count in
    let long = length-piece content values i count reached low high in
    ap (λ m. take (min n m) all) (sym long) ∙ (ap (λ m. take m all) (sym (length-take n all)) ∙ take_again n all)

-- the bytes of a fill, after k of the values were stored
abbrev pub after : List ℕ → ℕ → List ℕ → ℕ → ℕ → List ℕ
after content i values count zero = content
after content i values count (suc k) = take (8 * (i + suc k)) (filled_piece content i values count)

after_front : (content values : List ℕ) (i count k : ℕ) → 8 * i ≤ length content → 8 * i ≤ count → take (8 * (i + k)) (after content i values count k) ≡ take (8 * (i + k)) (filled_piece content i values count)
after_front content values i count zero reached low =
    let all : List ℕ = filled_piece content i values count in
    let plain : 8 * (i + 0) ≡ 8 * i = omega arith in
    let more : 8 * (i + 0) ≡ 8 * i + 0 = omega arith in
    ap (λ m. take m content) plain ∙ sym (ap (λ m. take m all) more ∙ (piece_front content values i count 0 reached (omega (arith, low)) ∙ append-nil (take (8 * i) content)))
after_front content values i count (suc k) reached low = take_less (8 * (i + suc k)) (8 * (i + suc k)) (filled_piece content i values count) (omega arith)

-- they reach the next word
pub after_long : (content values : List ℕ) (i count k : ℕ) → 8 * i ≤ length content → k < length values → 8 * (i + length values) ≤ count + 8 → count ≤ 8 * (i + length values) → 8 * (i + k) ≤ length (after content i values count k)
after_long content values i count zero reached inside low high = omega (arith, reached)
after_long content values i count (suc k) reached inside low high =
    let all : List ℕ = filled_piece content i values count in
    let a = length-take (8 * (i + suc k)) all in
    let b = length-piece content values i count reached (omega (arith, inside, low)) high in
    omega (arith, a, b, inside, low)

-- the store of the next value
pub after_fills : (content values : List ℕ) (i count k : ℕ) → 8 * i ≤ length content → k < length values → 8 * (i + length values) ≤ count + 8 → count ≤ 8 * (i + length values)
    → filled (after content i values count k) (i + k) (get_or values k 0) (min (8 * (i + k) + 8) count) ≡ take (8 * (i + k) + 8) (filled_piece content i values count)
after_fills content values i count k reached inside low high =
    let base : 8 * i ≤ count = omega (arith, inside, low) in
    piece_step content (after content i values count k) values i k count (min (8 * (i + k) + 8) count) reached inside (omega (arith, inside, low)) (omega arith) (omega arith) (after_front content values i count k reached base) ∙ piece_end content values i count (8 * (i + k) + 8) reached base high

pub after_next : (content values : List ℕ) (i count k : ℕ) → 8 * i ≤ length content → k < length values → 8 * (i + length values) ≤ count + 8 → count ≤ 8 * (i + length values)
    → filled (after content i values count k) (i + k) (get_or values k 0) (min (8 * (i + k) + 8) count) ≡ after content i values count (k + 1)
after_next content values i count k reached inside low high =
    let next : k + 1 ≡ suc k = omega arith in
    let end : 8 * (i + k) + 8 ≡ 8 * (i + suc k) = omega arith in
    after_fills content values i count k reached inside low high ∙ (ap (λ m. take m (filled_piece content i values count)) end ∙ sym (ap (after content i values count) next))

pub after_all : (content values : List ℕ) (i count k : ℕ) → 8 * i ≤ length content → 8 * i ≤ count → count ≤ 8 * (i + length values) → 0 < k → length values ≤ k → after content i values count k ≡ filled_piece content i values count
after_all content values i count zero reached low high some whole = absurd (omega (arith, some))
after_all content values i count (suc k) reached low high some whole =
    let all : List ℕ = filled_piece content i values count in
    let long = length-piece content values i count reached low high in
    let least : min (8 * (i + suc k)) count ≡ length all = omega (arith, long, high, whole) in
    sym (piece_end content values i count (8 * (i + suc k)) reached low high) ∙ (ap (λ m. take m all) least ∙ take-length all)
