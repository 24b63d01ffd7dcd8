-- Bytes and words.
use Rattle.std.proofs.Common.{◌≡◌, ℕ, zero, suc, ◌+◌, ◌-◌, ◌*◌, ◌/◌, ◌%◌, ◌^◌, ◌<◌, ◌≤◌, min, List, [], ◌∷◌, ◌++◌, length, replicate, take, drop, refl, sym, ap, subst, ◌∙◌, arith, drop-cons, append_assoc, length-append, length-take, length-drop}
use Rattle.std.specs.Prelude.{slice_index}
use Rattle.std.specs.List.{flat_map}
use Rattle.std.specs.Int.{bytes_low_first}
use Rattle.std.proofs.Math.Nat.{div-div-eq-div-mul, div-one, pow-suc}
use Rattle.std.proofs.lemmas.List.{take-append-le, take_all, take_at, drop-take, drop-append-le, take-append-drop, ext_get_or, get_or-take, get_or-drop}
use Rattle.std.proofs.Math.Seq.{drop-append-add, take-append-add, take-append_seam, drop-nil}
use Rattle.byteorder.specs.Endian.{little_from, little_number, IsRead}
use Rattle.qc_turn.specs.Bytes.{low_bytes, bytes_of, filled_piece}

-- ---- words and bytes

pub length_low : (n w : ℕ) → length (low_bytes n w) ≡ n
length_low zero w = refl
length_low (suc n) w = ap suc (length_low n (w / 256))

pub length_bytes : (ws : List ℕ) → length (bytes_of ws) ≡ 8 * length ws
length_bytes [] = refl
length_bytes (w ∷ ws) = omega (arith, length-append (low_bytes 8 w) (bytes_of ws), length_low 8 w, length_bytes ws)

low_take : (n m w : ℕ) → n ≤ m → take n (low_bytes m w) ≡ low_bytes n w
low_take zero m w h = refl
low_take (suc n) zero w h = absurd (omega (arith, h))
low_take (suc n) (suc m) w h = ap (λ l. w % 256 ∷ l) (low_take n m (w / 256) (omega (arith, h)))

-- the bytes of words from one on
pub bytes_drop : (k : ℕ) (ws : List ℕ) → drop (8 * k) (bytes_of ws) ≡ bytes_of (drop k ws)
bytes_drop zero ws = refl
bytes_drop (suc k) [] = drop-nil (8 * suc k)
bytes_drop (suc k) (w ∷ ws) =
    let eight = length_low 8 w in
    let e : 8 * suc k ≡ length (low_bytes 8 w) + 8 * k = omega (arith, eight) in
    ap (λ n. drop n (low_bytes 8 w ++ bytes_of ws)) e ∙ (drop-append-add (low_bytes 8 w) (bytes_of ws) (8 * k) ∙ bytes_drop k ws)

pub bytes_take : (k : ℕ) (ws : List ℕ) → take (8 * k) (bytes_of ws) ≡ bytes_of (take k ws)
bytes_take zero ws = refl
bytes_take (suc k) [] = take_all (8 * suc k) [] (omega arith)
bytes_take (suc k) (w ∷ ws) =
    let eight = length_low 8 w in
    let e : 8 * suc k ≡ length (low_bytes 8 w) + 8 * k = omega (arith, eight) in
    ap (λ n. take n (low_bytes 8 w ++ bytes_of ws)) e ∙ (take-append-add (low_bytes 8 w) (bytes_of ws) (8 * k) ∙ ap (λ l. low_bytes 8 w ++ l) (bytes_take k ws))

pub take_less : (n m : ℕ) (l : List ℕ) → n ≤ m → take n (take m l) ≡ take n l
take_less zero m l h = refl
take_less (suc n) zero l h = absurd (omega (arith, h))
take_less (suc n) (suc m) [] h = refl
take_less (suc n) (suc m) (x ∷ l) h = ap (λ z. x ∷ z) (take_less n m l (omega (arith, h)))

pub drop_twice : (a b : ℕ) (l : List ℕ) → drop a (drop b l) ≡ drop (b + a) l
drop_twice a zero l = let e : 0 + a ≡ a = omega arith in ap (λ n. drop n l) (sym e)
drop_twice a (suc b) [] = drop-nil a ∙ sym (drop-nil (suc b + a))
drop_twice a (suc b) (x ∷ l) = let e : suc b + a ≡ suc (b + a) = omega arith in drop_twice a b l ∙ ap (λ n. drop n (x ∷ l)) (sym e)

-- ---- the library's bytes

next_div : (i x : ℕ) → x / 256 ^ i / 256 ≡ x / 256 ^ suc i
next_div i x = div-div-eq-div-mul x (256 ^ i) 256 ∙ ap (λ n. x / n) (sym (pow-suc 256 i))

low_from : (n i x : ℕ) → bytes_low_first i n x ≡ low_bytes n (x / 256 ^ i)
low_from zero i x = refl
low_from (suc n) zero x = (λ j. sym (div-one x) j % 256 ∷ low_from n 1 x j) ∙ ap (λ y. x / 256 ^ 0 % 256 ∷ low_bytes n y) (sym (next_div 0 x))
low_from (suc n) (suc i) x = ap (λ l. x / 256 ^ suc i % 256 ∷ l) (low_from n (suc (suc i)) x ∙ ap (low_bytes n) (sym (next_div (suc i) x)))

pub low_little : (n x : ℕ) → bytes_low_first 0 n x ≡ low_bytes n x
low_little n x = low_from n 0 x ∙ ap (low_bytes n) (div-one x)

pub flat_bytes : (ws : List ℕ) → flat_map (λ x. bytes_low_first 0 8 x) ws ≡ bytes_of ws
flat_bytes [] = refl
flat_bytes (w ∷ ws) = λ i. low_little 8 w i ++ flat_bytes ws i

-- a number that was read has the bytes
little_low : (n i : ℕ) (xs : List ℕ) → ((k : ℕ) → slice_index xs k < 256) → n + i ≤ length xs → low_bytes n (little_from i n xs) ≡ take n (drop i xs)
little_low zero i xs h k = refl
little_low (suc n) i xs h k =
    let x = slice_index xs i in
    let y = little_from (suc i) n xs in
    let small : x < 256 = h i in
    let low : (x + 256 * y) % 256 ≡ x = omega (arith, small) in
    let high : (x + 256 * y) / 256 ≡ y = omega (arith, small) in
    (λ j. low j ∷ low_bytes n (high j)) ∙ (ap (λ l. x ∷ l) (little_low n (suc i) xs h (omega (arith, k))) ∙ sym (ap (take (suc n)) (drop-cons xs i 0 (omega (arith, k)))))

-- words that were read spell the bytes
pub read_bytes : (ws bs : List ℕ) → length bs ≡ 8 * length ws → ((k : ℕ) → slice_index bs k < 256) → ((k : ℕ) → k < length ws → slice_index ws k ≡ little_number 8 (drop (8 * k) bs)) → bytes_of ws ≡ bs
read_bytes [] [] e h r = refl
read_bytes [] (b ∷ bs) e h r = absurd (omega (arith, e))
read_bytes (w ∷ ws) bs e h r =
    let first : w ≡ little_number 8 bs = r 0 (omega arith) in
    let front : low_bytes 8 w ≡ take 8 bs = ap (low_bytes 8) first ∙ little_low 8 0 bs h (omega (arith, e)) in
    let long = length-drop 8 bs in
    let rest = read_bytes ws (drop 8 bs) (omega (arith, e, long)) (λ k. subst (λ n. n < 256) (sym (get_or-drop 8 bs k 0)) (h (8 + k))) (λ k less.
    let at : 8 * suc k ≡ 8 + 8 * k = omega arith in
    r (suc k) (omega (arith, less)) ∙ ap (λ l. little_number 8 l) (ap (λ n. drop n bs) at ∙ sym (drop_twice (8 * k) 8 bs))) in
    (λ i. front i ++ rest i) ∙ take-append-drop 8 bs

-- the low bytes of a word are those behind the words in front of it
pub word_front : (ws : List ℕ) (q r : ℕ) → q < length ws → r ≤ 8 → low_bytes r (slice_index ws q) ≡ drop (8 * q) (take (8 * q + r) (bytes_of ws))
word_front ws q r inside few =
    let eight = length_low 8 (slice_index ws q) in
    sym (
    drop-take (8 * q) r (bytes_of ws)
    ∙ (ap (take r) (bytes_drop q ws ∙ ap bytes_of (drop-cons ws q 0 inside))
    ∙ (take-append-le r (low_bytes 8 (slice_index ws q)) (bytes_of (drop (suc q) ws)) (omega (arith, few, eight)) ∙ low_take r 8 (slice_index ws q) few))
    )

-- ---- a piece of a stream

-- words that are those of a list from one on
pub words_from : (ws all : List ℕ) (i : ℕ) → i + length ws ≤ length all → ((k : ℕ) → k < length ws → slice_index ws k ≡ slice_index all (i + k)) → ws ≡ take (length ws) (drop i all)
words_from ws all i inside h =
    let n = length ws in
    let long = length-drop i all in
    let cut = length-take n (drop i all) in
    ext_get_or 0 ws (take n (drop i all)) (omega (arith, long, cut, inside)) (λ k less. h k less ∙ (sym (get_or-drop i all k 0) ∙ sym (get_or-take n (drop i all) k 0 less)))

-- the first bytes of the words from one on
pub piece_bytes : (ws all : List ℕ) (i count : ℕ) → i + length ws ≤ length all → count ≤ 8 * length ws → ((k : ℕ) → k < length ws → slice_index ws k ≡ slice_index all (i + k)) → take count (bytes_of ws) ≡ take count (drop (8 * i) (bytes_of all))
piece_bytes ws all i count inside few h =
    ap (λ l. take count (bytes_of l)) (words_from ws all i inside h)
    ∙ (ap (take count) (sym (bytes_take (length ws) (drop i all)))
    ∙ (take_less count (8 * length ws) (bytes_of (drop i all)) few ∙ ap (take count) (sym (bytes_drop i all))))

-- what a stream gives next
pub next_piece : (all : List ℕ) (sent bytes : ℕ) → sent ≤ bytes → bytes ≤ length all → take 512 (drop sent (take bytes all)) ≡ take (min 512 (bytes - sent)) (drop sent all)
next_piece all sent bytes low high =
    let e : bytes ≡ sent + (bytes - sent) = omega (arith, low) in
    ap (take 512) (ap (λ n. drop sent (take n all)) e ∙ drop-take sent (bytes - sent) all) ∙ take_both 512 (bytes - sent) (drop sent all)
  where
    take_both : (n m : ℕ) (l : List ℕ) → take n (take m l) ≡ take (min n m) l
    take_both zero m l = let e : min 0 m ≡ 0 = omega arith in ap (λ k. take k l) (sym e)
    take_both (suc n) zero l = let e : min (suc n) 0 ≡ 0 = omega arith in ap (λ k. take k l) (sym e)
    take_both (suc n) (suc m) [] = sym (take_all (min (suc n) (suc m)) [] (omega arith))
    take_both (suc n) (suc m) (x ∷ l) = let e : min (suc n) (suc m) ≡ suc (min n m) = omega arith in ap (λ z. x ∷ z) (take_both n m l) ∙ ap (λ k. take k (x ∷ l)) (sym e)

-- ---- a piece of a fill

-- each is a byte
abbrev pub AreBytes : List ℕ → Type 0
AreBytes xs = (k : ℕ) → slice_index xs k < 256

bytes_cons : (x : ℕ) (xs : List ℕ) → x < 256 → AreBytes xs → AreBytes (x ∷ xs)
bytes_cons x xs h k zero = h
bytes_cons x xs h k (suc i) = k i

bytes_join : (xs ys : List ℕ) → AreBytes xs → AreBytes ys → AreBytes (xs ++ ys)
bytes_join [] ys h k = k
bytes_join (x ∷ xs) ys h k = bytes_cons x (xs ++ ys) (h 0) (bytes_join xs ys (λ i. h (suc i)) k)

bytes_front : (n : ℕ) (xs : List ℕ) → AreBytes xs → AreBytes (take n xs)
bytes_front zero xs h k = omega arith
bytes_front (suc n) [] h k = h k
bytes_front (suc n) (x ∷ xs) h k = bytes_cons x (take n xs) (h 0) (bytes_front n xs (λ i. h (suc i))) k

bytes_back : (n : ℕ) (xs : List ℕ) → AreBytes xs → AreBytes (drop n xs)
bytes_back n xs h k = subst (λ m. m < 256) (sym (get_or-drop n xs k 0)) (h (n + k))

bytes_low : (n w : ℕ) → AreBytes (low_bytes n w)
bytes_low zero w k = omega arith
bytes_low (suc n) w k = bytes_cons (w % 256) (low_bytes n (w / 256)) (omega arith) (bytes_low n (w / 256)) k

-- bytes behind the first ones of a word, in place of others
abbrev pub packed : ℕ → ℕ → List ℕ → List ℕ → List ℕ
packed front last bytes zeros = let word = bytes_low_first 0 8 last ++ drop 8 zeros in take front word ++ (bytes ++ drop (front + length bytes - front) (drop front word))

packed_front : (front last : ℕ) (bytes zeros : List ℕ) → front < 8 → front + length bytes ≤ length zeros → take (front + length bytes) (packed front last bytes zeros) ≡ low_bytes front last ++ bytes
packed_front front last bytes zeros less inside =
    let word = low_bytes 8 last in
    let eight = length_low 8 last in
    let same : take front (bytes_low_first 0 8 last ++ drop 8 zeros) ≡ low_bytes front last = ap (λ l. take front (l ++ drop 8 zeros)) (low_little 8 last) ∙ (take-append-le front word (drop 8 zeros) (omega (arith, less, eight)) ∙ low_take front 8 last (omega (arith, less))) in
    let long = length_low front last in
    let tail = drop (front + length bytes - front) (drop front (bytes_low_first 0 8 last ++ drop 8 zeros)) in
    let e : front + length bytes ≡ length (low_bytes front last) + length bytes = omega (arith, long) in
    ap (λ l. take (front + length bytes) (l ++ (bytes ++ tail))) same
    ∙ (ap (λ n. take n (low_bytes front last ++ (bytes ++ tail))) e
    ∙ (take-append-add (low_bytes front last) (bytes ++ tail) (length bytes) ∙ ap (λ l. low_bytes front last ++ l) (take-append_seam bytes tail)))

packed_bytes : (front last : ℕ) (bytes zeros : List ℕ) → AreBytes bytes → AreBytes zeros → AreBytes (packed front last bytes zeros)
packed_bytes front last bytes zeros h k =
    let word : List ℕ = bytes_low_first 0 8 last ++ drop 8 zeros in
    let all : AreBytes word = subst (λ l. AreBytes (l ++ drop 8 zeros)) (sym (low_little 8 last)) (bytes_join (low_bytes 8 last) (drop 8 zeros) (bytes_low 8 last) (bytes_back 8 zeros k)) in
    let m = front + length bytes - front in
    bytes_join (take front word) (bytes ++ drop m (drop front word)) (bytes_front front word all) (bytes_join bytes (drop m (drop front word)) h (bytes_back m (drop front word) (bytes_back front word all)))

packed_length : (front last : ℕ) (bytes zeros : List ℕ) → front < 8 → front + length bytes ≤ length zeros → 8 ≤ length zeros → length (packed front last bytes zeros) ≡ length zeros
packed_length front last bytes zeros less inside room =
    let word : List ℕ = bytes_low_first 0 8 last ++ drop 8 zeros in
    let a = length-append (bytes_low_first 0 8 last) (drop 8 zeros) in
    let b = ap (λ (l : List ℕ). length l) (low_little 8 last) in
    let eight = length_low 8 last in
    let d = length-drop 8 zeros in
    let m = front + length bytes - front in
    let e = length-append (take front word) (bytes ++ drop m (drop front word)) in
    let f = length-append bytes (drop m (drop front word)) in
    let g = length-drop m (drop front word) in
    let g2 = length-drop front word in
    let h = length-take front word in
    omega (arith, a, b, eight, d, e, f, g, g2, h, less, inside, room)

-- the words that were read from them
pub record Packed (front word : ℕ) (bytes ws : List ℕ) : Type 0 where
  pub words : take (front + length bytes) (bytes_of ws) ≡ low_bytes front word ++ bytes
  pub last : low_bytes ((front + length bytes) % 8) (slice_index ws ((front + length bytes) / 8)) ≡ drop (8 * ((front + length bytes) / 8)) (low_bytes front word ++ bytes)

pub are_packed : (front last : ℕ) (bytes zeros ws : List ℕ) → front < 8 → front + length bytes < length zeros → length zeros ≡ 8 * length ws → AreBytes bytes → AreBytes zeros
    → ((k : ℕ) → k < length ws → slice_index ws k ≡ little_number 8 (drop (8 * k) (packed front last bytes zeros))) → Packed front last bytes ws
are_packed front last bytes zeros ws less inside long small zero_bytes read =
    let n = front + length bytes in
    let size = packed_length front last bytes zeros less (omega (arith, inside)) (omega (arith, inside, long)) in
    let spelled : bytes_of ws ≡ packed front last bytes zeros = read_bytes ws (packed front last bytes zeros) (omega (arith, size, long)) (packed_bytes front last bytes zeros small zero_bytes) read in
    let front_is = ap (take n) spelled ∙ packed_front front last bytes zeros less (omega (arith, inside)) in
    let split : 8 * (n / 8) + n % 8 ≡ n = omega arith in
    record {
      words = front_is;
      last = word_front ws (n / 8) (n % 8) (omega (arith, inside, long)) (omega arith) ∙ (ap (λ m. drop (8 * (n / 8)) (take m (bytes_of ws))) split ∙ ap (drop (8 * (n / 8))) front_is);
    }

-- the same of each step
pub words_packed : (front last : ℕ) (bytes buf copied dst : List ℕ) → (front < 8) × (length bytes ≤ 504) → AreBytes bytes → buf ≡ bytes_low_first 0 8 last ++ drop 8 (replicate 512 0) → copied ≡ bytes → length dst ≡ 64
    → IsRead little_number 8 (take front buf ++ (copied ++ drop (front + length bytes - front) (drop front buf))) dst → Packed front last bytes dst
words_packed front last bytes buf copied dst few small is same long read =
    are_packed front last bytes (replicate 512 0) dst few.0 (omega (arith, few)) (omega (arith, long)) small (λ k. zeros 512 k)
    (subst (λ (p : List ℕ × List ℕ). IsRead little_number 8 (take front p.0 ++ (p.1 ++ drop (front + length bytes - front) (drop front p.0))) dst) (λ i. (is i, same i)) read)
  where
    zeros : (n k : ℕ) → slice_index (replicate n 0) k < 256
    zeros zero k = omega arith
    zeros (suc n) zero = omega arith
    zeros (suc n) (suc k) = zeros n k

-- the first bytes are the same where there are any
same_front : (r a b : ℕ) (l : List ℕ) → (0 < r → a ≡ b) → take r (drop a l) ≡ take r (drop b l)
same_front zero a b l h = refl
same_front (suc r) a b l h = ap (λ n. take (suc r) (drop n l)) (h (omega arith))

-- the words that a piece needs are there
piece_inside : (r n sent bytes len : ℕ) → sent + r ≤ bytes → bytes ≤ 8 * len → n ≡ (r + 7) / 8 → (0 < r → 8 * (sent / 8) ≡ sent) → sent / 8 + n ≤ len
piece_inside zero n sent bytes len a b c d = omega (arith, a, b, c)
piece_inside (suc r) n sent bytes len a b c d = let e = d (omega arith) in omega (arith, a, b, c, e)

-- what is written out of the words that were loaded
pub stream_piece : (content ws dst q rest : List ℕ) (sent bytes r n : ℕ) → dst ≡ flat_map (λ x. bytes_low_first 0 8 x) (take n (ws ++ q)) → length ws ≡ n → r ≡ min (bytes - sent) 512 → n ≡ (r + 7) / 8 → sent ≤ bytes → (sent < bytes → sent % 512 ≡ 0) → bytes ≤ 8 * length content
    → ((k : ℕ) → k < length ws → slice_index ws k ≡ slice_index content (sent / 8 + k)) → take r (dst ++ rest) ≡ take 512 (drop sent (take bytes (bytes_of content)))
stream_piece content ws dst q rest sent bytes r n written long least words low even within loaded =
    let is : dst ≡ bytes_of ws = written ∙ (ap (flat_map (λ x. bytes_low_first 0 8 x)) (take_at ws q n long) ∙ flat_bytes ws) in
    let size = length_bytes ws in
    let all = length_bytes content in
    let few : r ≤ 8 * n = omega (arith, words) in
    let sum : sent + r ≤ bytes = omega (arith, least, low) in
    let eight : 0 < r → 8 * (sent / 8) ≡ sent = λ some. (let e = even (omega (arith, some, least)) in omega (arith, e)) in
    let inside = piece_inside r n sent bytes (length content) sum within words eight in
    let same : min 512 (bytes - sent) ≡ r = omega (arith, least) in
    ap (λ l. take r (l ++ rest)) is
    ∙ (take-append-le r (bytes_of ws) rest (omega (arith, size, long, few))
    ∙ (piece_bytes ws content (sent / 8) r (omega (arith, inside, long)) (omega (arith, few, long)) loaded
    ∙ (same_front r (8 * (sent / 8)) sent (bytes_of content) eight
    ∙ (ap (λ m. take m (drop sent (bytes_of content))) (sym same) ∙ sym (next_piece (bytes_of content) sent bytes low (omega (arith, all, within)))))))

-- ---- what a fill stores

-- the bytes of a fill after a piece was stored behind them
pub stored_piece : (content piece ws : List ℕ) (last bytes n count : ℕ) → bytes ≡ length content → low_bytes (bytes % 8) last ≡ drop (8 * (bytes / 8)) content → n ≡ bytes + length piece → 0 < length piece → count ≡ (bytes % 8 + length piece + 7) / 8
    → count ≤ length ws → take (bytes % 8 + length piece) (bytes_of ws) ≡ low_bytes (bytes % 8) last ++ piece → filled_piece content (bytes / 8) (take count ws) n ≡ content ++ piece
stored_piece content piece ws last bytes n count size begun sum some words room packed_is =
    let i = bytes / 8 in
    let m = bytes % 8 + length piece in
    let left : n - 8 * i ≡ m = omega (arith, sum) in
    let few : m ≤ 8 * count = omega (arith, words) in
    let back : take (n - 8 * i) (bytes_of (take count ws)) ≡ drop (8 * i) content ++ piece =
    ap (λ k. take k (bytes_of (take count ws))) left ∙ (ap (take m) (sym (bytes_take count ws)) ∙ (take_less m (8 * count) (bytes_of ws) few ∙ (packed_is ∙ ap (λ l. l ++ piece) begun))) in
    ap (λ l. take (8 * i) content ++ l) back ∙ (sym (append_assoc (take (8 * i) content) (drop (8 * i) content) piece) ∙ ap (λ l. l ++ piece) (take-append-drop (8 * i) content))

-- the word that is begun then
pub next_last : (content piece : List ℕ) (last word bytes n : ℕ) → bytes ≡ length content → low_bytes (bytes % 8) last ≡ drop (8 * (bytes / 8)) content → n ≡ bytes + length piece
    → low_bytes ((bytes % 8 + length piece) % 8) word ≡ drop (8 * ((bytes % 8 + length piece) / 8)) (low_bytes (bytes % 8) last ++ piece) → low_bytes (n % 8) word ≡ drop (8 * (n / 8)) (content ++ piece)
next_last content piece last word bytes n size begun sum is =
    let i = bytes / 8 in
    let m = bytes % 8 + length piece in
    let rest : n % 8 ≡ m % 8 = omega (arith, sum) in
    let whole : 8 * (n / 8) ≡ 8 * i + 8 * (m / 8) = omega (arith, sum) in
    let front : drop (8 * i) (content ++ piece) ≡ low_bytes (bytes % 8) last ++ piece = drop-append-le (8 * i) content piece (omega (arith, size)) ∙ ap (λ l. l ++ piece) (sym begun) in
    ap (λ k. low_bytes k word) rest ∙ (is ∙ (ap (drop (8 * (m / 8))) (sym front) ∙ (drop_twice (8 * (m / 8)) (8 * i) (content ++ piece) ∙ ap (λ k. drop k (content ++ piece)) (sym whole))))
