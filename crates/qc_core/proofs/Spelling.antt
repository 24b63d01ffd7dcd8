-- Bytes in words.
use Rattle.std.proofs.Common.{◌≡◌, ℕ, zero, suc, ◌+◌, ◌-◌, ◌*◌, ◌/◌, ◌%◌, ◌<◌, ◌≤◌, min, eq-eqb, eqb-true, Bool, true, false, List, [], ◌∷◌, ◌++◌, map, length, take, drop, get_or, refl, sym, ap, subst, ◌∙◌, arith, length-append, append-nil, append_assoc, nat_le}
use Rattle.std.specs.Prelude.{◌&&◌, ◌==◌}
use Rattle.std.proofs.lemmas.List.{take_all, take-append-drop, take-append-le, drop-drop, drop_at, take_at, length-map, map-append, length-take, length-take-le, length-drop}
use Rattle.std.proofs.lemmas.Bool.Decides.{nat_tests}
use Rattle.qc_laws.proofs.history.Serials.{both_true}
use Rattle.qc_sound.proofs.Counts.{counted_append}
use Rattle.qc_tiles.specs.declared.blocks.Block.{Block}
use Rattle.qc_model.specs.Licence.{words_of_bytes}
use Rattle.qc_turn.specs.declared.kept.Kept.{Ghosts}
use Rattle.qc_turn.specs.Blocks.{counted}
use Rattle.qc_turn.specs.Bytes.{low_bytes, bytes_of}
use Rattle.qc_turn.specs.Tasks.{OutsideOtherFills}
use Rattle.qc_turn.specs.Seats.{Held, holder, words, taken, IsHeld, SameHolder}
use Rattle.qc_turn.proofs.Holders.{same_on, same_value, taken_is, number_is}
use Rattle.qc_sound.specs.parts.Contents.{text_of}
use Rattle.qc_core.specs.KeySpelling.{spells, is_text, read, IsSame, MayRead}

-- ---- one word

pub read_step : (ws : List ℕ) (first n : ℕ) → 0 < n → read ws first n ≡ get_or ws first 0 ∷ read ws (first + 1) (n - 1)
read_step ws first zero h = absurd (omega arith)
read_step ws first (suc n) h = let a : suc first ≡ first + 1 = omega arith in let b : n ≡ suc n - 1 = omega arith in λ i. get_or ws first 0 ∷ read ws (a i) (b i)

take_least : (l : List ℕ) (m : ℕ) → take (min m (length l)) l ≡ take m l
take_least [] zero = refl
take_least [] (suc m) = let z : min (suc m) (length {A = ℕ} []) ≡ 0 = omega arith in ap (λ k. take {A = ℕ} k []) z
take_least (x ∷ l) zero = let z : min zero (length (x ∷ l)) ≡ 0 = omega arith in ap (λ k. take k (x ∷ l)) z
take_least (x ∷ l) (suc m) = let z : min (suc m) (length (x ∷ l)) ≡ suc (min m (length l)) = omega arith in ap (λ k. take k (x ∷ l)) z ∙ ap (λ t. x ∷ t) (take_least l m)

pub piece_is : (key : List ℕ) (from to : ℕ) → to ≡ min (from + 8) (length key) → take (to - from) (drop from key) ≡ take 8 (drop from key)
piece_is key from to e =
    let long : length (drop from key) ≡ length key - from = length-drop from key in
    let n : to - from ≡ min 8 (length (drop from key)) = omega (arith, e, long) in
    ap (λ m. take m (drop from key)) n ∙ take_least (drop from key) 8

pub text_step : (ws : List ℕ) (first count i : ℕ) (key : List ℕ) (w to : ℕ) (b : Bool) → i < count → w ≡ get_or ws (first + i) 0 → to ≡ min (8 * i + 8) (length key) → b ≡ spells w (take (to - 8 * i) (drop (8 * i) key))
    → is_text (read ws (first + i) (count - i)) (drop (8 * i) key) ≡ (b && is_text (read ws (first + (i + 1)) (count - (i + 1))) (drop (8 * (i + 1)) key))
text_step ws first count i key w to b inside word end is =
    let one = read_step ws (first + i) (count - i) (omega arith) in
    let a : (first + i) + 1 ≡ first + (i + 1) = omega arith in
    let c : (count - i) - 1 ≡ count - (i + 1) = omega arith in
    let d : 8 * i + 8 ≡ 8 * (i + 1) = omega arith in
    let test : spells (get_or ws (first + i) 0) (take 8 (drop (8 * i) key)) ≡ b = sym (is ∙ (λ j. spells (word j) (piece_is key (8 * i) to end j))) in
    ap (λ l. is_text l (drop (8 * i) key)) one
    ∙ (ap (λ t. t && is_text (read ws ((first + i) + 1) ((count - i) - 1)) (drop 8 (drop (8 * i) key))) test
    ∙ (λ j. b && is_text (read ws (a j) (c j)) ((drop-drop 8 (8 * i) key ∙ ap (λ n. drop n key) d) j)))

-- ---- holdings that differ in what was read

module _ {V E : Type 0} {K : Ghosts V E} where
  pub is_same : (h : Held V E K) → IsHeld h → IsSame h h
  is_same h held = let s = same_value h h.value held in record { held = held; same = record { seat = s.seat; turn = s.turn; holder = s.holder }; words = refl; value = refl; ranges = refl }

  pub still_same : (h k m : Held V E K) → IsSame h k → IsSame k m → IsSame h m
  still_same h k m a b = record { held = b.held; same = same_on h k m a.same b.same; words = b.words ∙ a.words; value = b.value ∙ a.value; ranges = b.ranges ∙ a.ranges }

  pub outside_on : (h k : Held V E K) (x : ℕ) → SameHolder h k → OutsideOtherFills (holder h).number (K.tasks (taken h)) x → OutsideOtherFills (holder k).number (K.tasks (taken k)) x
  outside_on h k x s o = subst (λ (p : ℕ × V). OutsideOtherFills p.0 (K.tasks p.1) x) (λ i. (sym (number_is h k s) i, sym (taken_is h k s) i)) o

  -- the word that was loaded is the one that stood there at first
  pub loaded : (h k : Held V E K) (block : Block) (bytes first i w : ℕ) → IsSame h k → MayRead h block bytes → first ≡ block.first → i < words_of_bytes bytes
      → (OutsideOtherFills (holder k).number (K.tasks (taken k)) (first + i) → w ≡ get_or (words k) (first + i) 0) → w ≡ get_or (words h) (block.first + i) 0
  loaded h k block bytes first i w same may at inside load =
      let out = may.free (block.first + i) (omega arith) (omega (arith, inside, may.few)) in
      let there : block.first + i ≡ first + i = omega (arith, at) in
      load (subst (λ n. OutsideOtherFills (holder k).number (K.tasks (taken k)) n) there (outside_on h k (block.first + i) same.same out.1)) ∙ (λ j. get_or (same.words j) (sym there j) 0)

  pub within_on : (h k : Held V E K) (block : Block) (bytes first i : ℕ) → IsSame h k → MayRead h block bytes → first ≡ block.first → i < words_of_bytes bytes → first + i < length (words k)
  within_on h k block bytes first i same may at inside =
      let out = (may.free (block.first + i) (omega arith) (omega (arith, inside, may.few))).0 in
      omega (arith, at, out, ap (λ l. length l) same.words)

-- ---- the whole text

none_taken : (l : List ℕ) → take 0 l ≡ []
none_taken [] = refl
none_taken (x ∷ l) = refl

spells_take : (n w : ℕ) (p : List ℕ) → length p ≤ n → spells w p ≡ true → take (length p) (low_bytes n w) ≡ p
spells_take n w [] long h = none_taken (low_bytes n w)
spells_take zero w (b ∷ p) long h = absurd (omega arith)
spells_take (suc n) w (b ∷ p) long h =
    let t = both_true (w % 256 == b) (spells (w / 256) p) h in
    λ i. eqb-true (w % 256) b t.0 i ∷ spells_take n (w / 256) p (omega arith) t.1 i

take_spells : (n w : ℕ) (p : List ℕ) → length p ≤ n → take (length p) (low_bytes n w) ≡ p → spells w p ≡ true
take_spells n w [] long h = refl
take_spells zero w (b ∷ p) long h = absurd (omega arith)
take_spells (suc n) w (b ∷ p) long h =
    let head : w % 256 ≡ b = ap (λ l. get_or l 0 0) h in
    let tail : take (length p) (low_bytes n (w / 256)) ≡ p = ap (drop 1) h in
    λ i. both (eq-eqb (w % 256) b head) (take_spells n (w / 256) p (omega arith) tail) i
  where
    both : {a b : Bool} → a ≡ true → b ≡ true → (a && b) ≡ true
    both p q = λ i. p i && q i

low_length : (n w : ℕ) → length (low_bytes n w) ≡ n
low_length zero w = refl
low_length (suc n) w = ap suc (low_length n (w / 256))

take_over : (xs ys : List ℕ) (m : ℕ) → take (length xs + m) (xs ++ ys) ≡ xs ++ take m ys
take_over [] ys m = let z : 0 + m ≡ m = omega arith in ap (λ k. take k ys) z
take_over (x ∷ xs) ys m = let z : suc (length xs) + m ≡ suc (length xs + m) = omega arith in ap (λ k. take k (x ∷ (xs ++ ys))) z ∙ ap (λ l. x ∷ l) (take_over xs ys m)

take_zero : (l : List ℕ) → take 0 l ≡ []
take_zero [] = refl
take_zero (x ∷ l) = refl

-- the front of some words' bytes: eight of them, and the rest
front_bytes : (w : ℕ) (ws key : List ℕ) → take (length key) (bytes_of (w ∷ ws)) ≡ take (length (take 8 key)) (low_bytes 8 w) ++ take (length (drop 8 key)) (bytes_of ws)
front_bytes w ws key =
    let eight = low_length 8 w in
    let front = length-take 8 key in
    let behind = length-drop 8 key in
    elim (nat_le (length key) 8) as (λ b. nat_le (length key) 8 ≡ b → take (length key) (low_bytes 8 w ++ bytes_of ws) ≡ take (length (take 8 key)) (low_bytes 8 w) ++ take (length (drop 8 key)) (bytes_of ws)) [
      | true ↦ λ e.
          let few : length key ≤ 8 = grind (arith, nat_tests) in
          let a : length key ≡ length (take 8 key) = omega (arith, few, front) in
          let b : length (drop 8 key) ≡ 0 = omega (arith, few, behind) in
          take-append-le (length key) (low_bytes 8 w) (bytes_of ws) (omega (arith, few, eight))
          ∙ (ap (λ n. take n (low_bytes 8 w)) a ∙ sym (ap (λ n. take (length (take 8 key)) (low_bytes 8 w) ++ take n (bytes_of ws)) b ∙ (ap (λ l. take (length (take 8 key)) (low_bytes 8 w) ++ l) (take_zero (bytes_of ws)) ∙ append-nil (take (length (take 8 key)) (low_bytes 8 w)))))
      | false ↦ λ e.
          let many : 8 < length key = grind (arith, nat_tests) in
          let a : length key ≡ length (low_bytes 8 w) + length (drop 8 key) = omega (arith, many, behind, eight) in
          let b : length (low_bytes 8 w) ≤ length (take 8 key) = omega (arith, many, front, eight) in
          ap (λ n. take n (low_bytes 8 w ++ bytes_of ws)) a ∙ (take_over (low_bytes 8 w) (bytes_of ws) (length (drop 8 key)) ∙ ap (λ l. l ++ take (length (drop 8 key)) (bytes_of ws)) (sym (take_all (length (take 8 key)) (low_bytes 8 w) b)))
    ] refl

text_front : (ws key : List ℕ) → length key ≤ 8 * length ws → is_text ws key ≡ true → take (length key) (bytes_of ws) ≡ key
text_front [] [] long h = refl
text_front [] (b ∷ key) long h = absurd (omega (arith, long))
text_front (w ∷ ws) key long h =
    let t = both_true (spells w (take 8 key)) (is_text ws (drop 8 key)) h in
    let front = length-take 8 key in
    let behind = length-drop 8 key in
    front_bytes w ws key ∙ ((λ i. spells_take 8 w (take 8 key) (omega (arith, front)) t.0 i ++ text_front ws (drop 8 key) (omega (arith, long, behind)) t.1 i) ∙ take-append-drop 8 key)

front_text : (ws key : List ℕ) → length key ≤ 8 * length ws → take (length key) (bytes_of ws) ≡ key → is_text ws key ≡ true
front_text [] key long h = refl
front_text (w ∷ ws) key long h =
    let front = length-take 8 key in
    let behind = length-drop 8 key in
    let eight = low_length 8 w in
    let a = take (length (take 8 key)) (low_bytes 8 w) in
    let b = take (length (drop 8 key)) (bytes_of ws) in
    let whole : a ++ b ≡ key = sym (front_bytes w ws key) ∙ h in
    let la : length a ≡ length (take 8 key) = length-take-le (length (take 8 key)) (low_bytes 8 w) (omega (arith, front, eight)) in
    let first : a ≡ take 8 key = sym (take_at a b (length (take 8 key)) la) ∙ (ap (take (length (take 8 key))) (whole ∙ sym (take-append-drop 8 key)) ∙ take_at (take 8 key) (drop 8 key) (length (take 8 key)) refl) in
    let second : b ≡ drop 8 key = sym (drop_at a b (length (take 8 key)) la) ∙ (ap (drop (length (take 8 key))) (whole ∙ sym (take-append-drop 8 key)) ∙ drop_at (take 8 key) (drop 8 key) (length (take 8 key)) refl) in
    λ i. both (take_spells 8 w (take 8 key) (omega (arith, front)) first) (front_text ws (drop 8 key) (omega (arith, long, behind)) second) i
  where
    both : {a b : Bool} → a ≡ true → b ≡ true → (a && b) ≡ true
    both p q = λ i. p i && q i

bytes_append : (xs ys : List ℕ) → bytes_of (xs ++ ys) ≡ bytes_of xs ++ bytes_of ys
bytes_append [] ys = refl
bytes_append (x ∷ xs) ys = ap (λ l. low_bytes 8 x ++ l) (bytes_append xs ys) ∙ sym (append_assoc (low_bytes 8 x) (bytes_of xs) (bytes_of ys))

bytes_length : (xs : List ℕ) → length (bytes_of xs) ≡ 8 * length xs
bytes_length [] = refl
bytes_length (x ∷ xs) = omega (arith, length-append (low_bytes 8 x) (bytes_of xs), low_length 8 x, bytes_length xs)

counted_length : (first n : ℕ) → length (counted first n) ≡ n
counted_length first zero = refl
counted_length first (suc n) = ap suc (counted_length (suc first) n)

read_length : (ws : List ℕ) (first n : ℕ) → length (read ws first n) ≡ n
read_length ws first n = length-map (counted first n) (λ i. get_or ws i 0) ∙ counted_length first n

-- a text is the front of its block's bytes
text_read : (ws : List ℕ) (b : Block) (n : ℕ) → words_of_bytes n ≤ b.words → text_of ws (b ∷ []) n ≡ take n (bytes_of (read ws b.first (words_of_bytes n)))
text_read ws b n few =
    let c = words_of_bytes n in
    let f = λ (i : ℕ). get_or ws i 0 in
    let all : b.words ≡ c + (b.words - c) = omega (arith, few) in
    let cut : map f (counted b.first b.words ++ []) ≡ read ws b.first c ++ read ws (b.first + c) (b.words - c) =
    ap (map f) (append-nil (counted b.first b.words)) ∙ (ap (λ m. map f (counted b.first m)) all ∙ (ap (map f) (counted_append b.first c (b.words - c)) ∙ map-append f (counted b.first c) (counted (b.first + c) (b.words - c)))) in
    let long = bytes_length (read ws b.first c) in
    let count = read_length ws b.first c in
    ap (λ l. take n (bytes_of l)) cut ∙ (ap (take n) (bytes_append (read ws b.first c) (read ws (b.first + c) (b.words - c))) ∙ take-append-le n (bytes_of (read ws b.first c)) (bytes_of (read ws (b.first + c) (b.words - c))) (omega (arith, long, count)))

pub text_is : (ws : List ℕ) (b : Block) (key : List ℕ) → words_of_bytes (length key) ≤ b.words → is_text (read ws b.first (words_of_bytes (length key))) key ≡ true → text_of ws (b ∷ []) (length key) ≡ key
text_is ws b key few h =
    let count = read_length ws b.first (words_of_bytes (length key)) in
    text_read ws b (length key) few ∙ text_front (read ws b.first (words_of_bytes (length key))) key (omega (arith, count)) h

pub is_text_of : (ws : List ℕ) (b : Block) (key : List ℕ) → words_of_bytes (length key) ≤ b.words → text_of ws (b ∷ []) (length key) ≡ key → is_text (read ws b.first (words_of_bytes (length key))) key ≡ true
is_text_of ws b key few h =
    let count = read_length ws b.first (words_of_bytes (length key)) in
    front_text (read ws b.first (words_of_bytes (length key))) key (omega (arith, count)) (sym (text_read ws b (length key) few) ∙ h)

-- a block spells no more bytes than its words have
pub text_fits : (ws : List ℕ) (b : Block) (n : ℕ) (key : List ℕ) → text_of ws (b ∷ []) n ≡ key → length key ≡ n → words_of_bytes n ≤ b.words
text_fits ws b n key is long =
    let f = λ (i : ℕ). get_or ws i 0 in
    let all = bytes_length (map f (counted b.first b.words ++ [])) in
    let mapped = length-map (counted b.first b.words ++ []) f in
    let count : length (counted b.first b.words ++ []) ≡ b.words = ap length (append-nil (counted b.first b.words)) ∙ counted_length b.first b.words in
    let taken = length-take n (bytes_of (map f (counted b.first b.words ++ []))) in
    omega (arith, ap (λ l. length l) is, long, all, mapped, count, taken)
