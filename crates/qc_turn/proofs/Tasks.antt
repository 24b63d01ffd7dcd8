-- Lists of words, of blocks and of events.
use Rattle.std.proofs.Common.{◌≡◌, ◌≢◌, ◌⊎◌, inl, inr, ⊎_elim, true≢false, ℕ, zero, suc, ◌+◌, ◌-◌, ◌*◌, ◌/◌, ◌<◌, ◌≤◌, ltb, ltb-true, ltb-false, Bool, true, false, cond, List, [], ◌∷◌, ◌++◌, map, length, get_or, take, drop, set, refl, sym, ap, ◌∙◌, subst, arith, append_assoc, append-nil, length-append, get_or-set_same, get_or-set_other, get_or-drop}
use Rattle.std.proofs.lemmas.Grind.{common_steps}
use Rattle.std.proofs.lemmas.List.{drop-set-lt, drop-set-add, get_or-take}
use mathlib.Core.Logic.{dite}
use Rattle.std.proofs.lemmas.Bool.{cases_lt}
use Rattle.qc_chain.specs.Words.{words_of, word_at}
use Rattle.qc_chain.proofs.Words.{word_here, word_later}
use native.Mathlib.Decide.{ℕ_discrete}
use Rattle.qc_turn.specs.Blocks.{counted, places, spelled, Misses, IsDistinct}
use Rattle.qc_turn.specs.Bytes.{low_bytes, bytes_of, filled}
use Rattle.qc_turn.specs.Tasks.{places_of, own, words_in, task_in, blocks_in, HasBlocks, released_task, released_blocks, is_stream, IsEnded, IsListed, FoundIdle, KeepsListed, fill_places}
use Rattle.qc_turn.specs.Words.{StartsWith, longer, line_words, region_word, line_of, task_word, region, task_words_of}
use Rattle.qc_tiles.specs.declared.blocks.Block.{Block}
use Rattle.qc_turn.specs.declared.task.ListedTask.{ListedTask}
use Rattle.qc_turn.specs.declared.task.Task.{Task}
use Rattle.qc_turn.specs.declared.task.Task.TheVariants.{Rest, Stream, Fill}

module _ {E : Type 0} where
  pub starts_refl : (xs : List E) → StartsWith xs xs
  starts_refl xs = ([], sym (append-nil xs))

  pub starts_trans : (xs ys zs : List E) → StartsWith xs ys → StartsWith ys zs → StartsWith xs zs
  starts_trans xs ys zs a b = (b.0 ++ a.0, a.1 ∙ (ap (λ l. l ++ a.0) b.1 ∙ append_assoc zs b.0 a.0))

  -- of two beginnings of one list the shorter begins the longer
  pub begins_longer : (xs ys a b : List E) → xs ++ a ≡ ys ++ b → length xs ≤ length ys → StartsWith ys xs
  begins_longer [] ys a b e h = (ys, refl)
  begins_longer (x ∷ xs) [] a b e h = absurd (omega arith)
  begins_longer (x ∷ xs) (y ∷ ys) a b e h =
      let t : xs ++ a ≡ ys ++ b = cc in
      let same : y ≡ x = cc in
      let r = begins_longer xs ys a b t (omega arith) in
      (r.0, λ i. same i ∷ r.1 i)

  longer_at : (J xs ys : List E) (b : Bool) → ltb (length xs) (length ys) ≡ b → StartsWith J xs → StartsWith J ys
      → StartsWith J (cond b ys xs) × StartsWith (cond b ys xs) xs × StartsWith (cond b ys xs) ys
  longer_at J xs ys true e p q = let h = ltb-true (length xs) (length ys) e in (q, begins_longer xs ys p.0 q.0 (sym p.1 ∙ q.1) (omega arith), starts_refl ys)
  longer_at J xs ys false e p q = let h = ltb-false (length xs) (length ys) e in (p, starts_refl xs, begins_longer ys xs q.0 p.0 (sym q.1 ∙ p.1) (omega arith))

  pub longer_of : (J xs ys : List E) → StartsWith J xs → StartsWith J ys → StartsWith J (longer xs ys) × StartsWith (longer xs ys) xs × StartsWith (longer xs ys) ys
  longer_of J xs ys p q = longer_at J xs ys (ltb (length xs) (length ys)) refl p q

  pub longer_one : (P : List E → Type 0) (xs ys : List E) → P xs → P ys → P (longer xs ys)
  longer_one P xs ys p q = elim (ltb (length xs) (length ys)) as (λ b. P (cond b ys xs)) [ true ↦ q | false ↦ p ]

pub region_at : (size : ℕ) (words : List ℕ) (k : ℕ) → k < size → get_or (region size words) k 0 ≡ get_or words (region_word k) 0
region_at size words k h = let e : line_words + k ≡ region_word k = omega arith in get_or-take size (drop line_words words) k 0 h ∙ (get_or-drop line_words words k 0 ∙ ap (λ i. get_or words i 0) e)

take_set : (n : ℕ) (ws : List ℕ) (k x : ℕ) → take n (set ws k x) ≡ set (take n ws) k x
take_set zero ws k x = refl
take_set (suc n) [] k x = refl
take_set (suc n) (w ∷ ws) zero x = refl
take_set (suc n) (w ∷ ws) (suc k) x = ap (λ l. w ∷ l) (take_set n ws k x)

pub region_set : (size : ℕ) (words : List ℕ) (k x : ℕ) → region size (set words (region_word k) x) ≡ set (region size words) k x
region_set size words k x = let e : region_word k ≡ line_words + k = omega arith in ap (λ i. region size (set words i x)) e ∙ (ap (take size) (drop-set-add line_words words k x) ∙ take_set size (drop line_words words) k x)

pub region_set0 : (size : ℕ) (words : List ℕ) (x : ℕ) → region size (set words 0 x) ≡ region size words
region_set0 size words x = ap (take size) (drop-set-lt line_words words 0 x (omega arith))

pub length-region : (size : ℕ) (words : List ℕ) → region_word size ≤ length words → length (region size words) ≡ size
length-region size words h = grind (arith, common_steps)

pub misses_front : (k : ℕ) (xs ys : List ℕ) → Misses k (xs ++ ys) → Misses k xs
misses_front k [] ys m = tt
misses_front k (x ∷ xs) ys m = (m.0, misses_front k xs ys m.1)

map_missed : (ws : List ℕ) (k x : ℕ) (is : List ℕ) → Misses k is → map (λ i. get_or (set ws k x) i 0) is ≡ map (λ i. get_or ws i 0) is
map_missed ws k x [] m = refl
map_missed ws k x (i ∷ is) m = λ j. grab j ∷ map_missed ws k x is m.1 j
  where
    grab : get_or (set ws k x) i 0 ≡ get_or ws i 0
    grab = let ne : i ≢ k = λ e. m.0 (sym e) in grind (arith, common_steps)

-- a word that is none of the blocks' changes nothing that they spell
pub spelled_missed : (ws : List ℕ) (k x : ℕ) (bs : List Block) → Misses k (places bs) → spelled (set ws k x) bs ≡ spelled ws bs
spelled_missed ws k x bs m = map_missed ws k x (places bs) m

pub own_again : (n : ℕ) (t : Task) (bs : List Block) → own n t bs ≡ own n (task_in (own n t bs)) (blocks_in (own n t bs))
own_again n Rest bs = refl
own_again n (Stream s) bs = refl
own_again n (Fill s) bs = refl

length-counted : (f n : ℕ) → length (counted f n) ≡ n
length-counted f zero = refl
length-counted f (suc n) = ap suc (length-counted (suc f) n)

counted_at : (f n k : ℕ) (l : List ℕ) → k < n → get_or (counted f n ++ l) k 0 ≡ f + k
counted_at f zero k l h = absurd (omega arith)
counted_at f (suc n) zero l h = omega arith
counted_at f (suc n) (suc k) l h = let t = counted_at (suc f) n k l (omega arith) in omega arith

counted_past : (f n k : ℕ) (l : List ℕ) → n ≤ k → get_or (counted f n ++ l) k 0 ≡ get_or l (k - n) 0
counted_past f zero k l h = let e : k ≡ k - 0 = omega arith in ap (λ i. get_or l i 0) e
counted_past f (suc n) zero l h = absurd (omega arith)
counted_past f (suc n) (suc k) l h = let e : suc k - suc n ≡ k - n = omega arith in counted_past (suc f) n k l (omega arith) ∙ ap (λ i. get_or l i 0) (sym e)

pub spot_here : (b : Block) (bs : List Block) (k : ℕ) → k < b.words → get_or (places (b ∷ bs)) k 0 ≡ b.first + k
spot_here b bs k h = counted_at b.first b.words k (places bs) h

pub spot_past : (b : Block) (bs : List Block) (k : ℕ) → b.words ≤ k → k < length (places (b ∷ bs)) → (k - b.words < length (places bs)) × (get_or (places (b ∷ bs)) k 0 ≡ get_or (places bs) (k - b.words) 0)
spot_past b bs k h small =
    let long = length-append (counted b.first b.words) (places bs) in
    let n = length-counted b.first b.words in
    (omega arith, counted_past b.first b.words k (places bs) h)

pub length_words : (bs : List Block) → length (places bs) ≡ words_of bs
length_words [] = refl
length_words (b ∷ bs) = length-append (counted b.first b.words) (places bs) ∙ ((λ i. length-counted b.first b.words i + length_words bs i))

-- the ranges that a seat with a task keeps have the words of its task
pub words_kept : (t u : Task) (bs ranges : List Block) → ((x : ℕ) × (t ≡ Stream x)) ⊎ ((x : ℕ) × (t ≡ Fill x)) → t ≡ u → HasBlocks u bs ranges → words_of ranges ≡ words_in u bs
words_kept t Rest bs ranges is e h = ⊎_elim (λ (s : (x : ℕ) × (t ≡ Stream x)). let c : Rest ≡ Stream s.0 = sym e ∙ s.1 in absurd (cc)) (λ (f : (x : ℕ) × (t ≡ Fill x)). let c : Rest ≡ Fill f.0 = sym e ∙ f.1 in absurd (cc)) is
words_kept t (Stream s) bs ranges is e h = ap words_of h ∙ sym (length_words bs)
words_kept t (Fill s) bs ranges is e h = ap words_of h ∙ sym (length_words bs)

-- the word at an index is the one that the ranges give
pub place_word : (bs : List Block) (k : ℕ) → k < length (places bs) → get_or (places bs) k 0 ≡ word_at k bs
place_word [] k h = absurd (omega (arith, h))
place_word (b ∷ bs) k h =
    elim (cases_lt k b.words) [
      | inl below ↦ spot_here b bs k below ∙ sym (word_here k b bs below)
      | inr above ↦ let t = spot_past b bs k above h in t.1 ∙ (place_word bs (k - b.words) t.0 ∙ sym (word_later k b bs above))
    ]

dec_misses : (k : ℕ) (xs : List ℕ) → Dec (Misses k xs)
dec_misses k [] = yes tt
dec_misses k (x ∷ xs) = both (ℕ_discrete k x) (dec_misses k xs)
  where
    both : Dec (k ≡ x) → Dec (Misses k xs) → Dec ((k ≡ x → ⊥) × Misses k xs)
    both (yes e) d = no (λ m. m.0 e)
    both (no ne) (yes m) = yes (ne, m)
    both (no ne) (no n) = no (λ m. n m.1)

pub missed : (k : ℕ) (xs : List ℕ) → ((Misses k xs → ⊥) → ⊥) → Misses k xs
missed k xs h = elim (dec_misses k xs) [ yes m ↦ m | no n ↦ absurd (h n) ]

pub is_in : (xs : List ℕ) (i : ℕ) → i < length xs → Misses (get_or xs i 0) xs → ⊥
is_in [] i h m = omega arith
is_in (x ∷ xs) zero h m = m.0 refl
is_in (x ∷ xs) (suc i) h m = is_in xs i (omega arith) m.1

map_agree : (us ws : List ℕ) (is : List ℕ) → ((i : ℕ) → i < length is → get_or us (get_or is i 0) 0 ≡ get_or ws (get_or is i 0) 0) → map (λ i. get_or us i 0) is ≡ map (λ i. get_or ws i 0) is
map_agree us ws [] h = refl
map_agree us ws (x ∷ xs) h = λ j. h 0 (omega arith) j ∷ map_agree us ws xs (λ i l. h (suc i) (omega arith)) j

-- the blocks spell the same over words that agree on them
pub spelled_agree : (us ws : List ℕ) (bs : List Block) → ((i : ℕ) → i < length (places bs) → get_or us (get_or (places bs) i 0) 0 ≡ get_or ws (get_or (places bs) i 0) 0) → spelled us bs ≡ spelled ws bs
spelled_agree us ws bs h = map_agree us ws (places bs) h

pub misses_back : (k : ℕ) (xs ys : List ℕ) → Misses k (xs ++ ys) → Misses k ys
misses_back k [] ys m = m
misses_back k (x ∷ xs) ys m = misses_back k xs ys m.1

pub length-low : (n w : ℕ) → length (low_bytes n w) ≡ n
length-low zero w = refl
length-low (suc n) w = ap suc (length-low n (w / 256))

pub take_past : (n : ℕ) (a b : List ℕ) → n ≤ length a → take n (a ++ b) ≡ take n a
take_past zero a b h = refl
take_past (suc n) [] b h = absurd (omega arith)
take_past (suc n) (x ∷ a) b h = ap (λ l. x ∷ l) (take_past n a b (omega arith))

pub take_over : (a b : List ℕ) (n : ℕ) → take (length a + n) (a ++ b) ≡ a ++ take n b
take_over [] b n = let e : 0 + n ≡ n = omega arith in ap (λ k. take k b) e
take_over (x ∷ a) b n = let e : suc (length a) + n ≡ suc (length a + n) = omega arith in ap (λ k. take k (x ∷ (a ++ b))) e ∙ ap (λ l. x ∷ l) (take_over a b n)

-- one word stored, of words that stand once each: the bytes up to it stay, and its own follow
pub stored_bytes : (ws is : List ℕ) (i k x count : ℕ) → IsDistinct is → i < length is → get_or is i 0 ≡ k → k < length ws → 8 * i ≤ count → count ≤ 8 * i + 8
    → take count (bytes_of (map (λ j. get_or (set ws k x) j 0) is)) ≡ take (8 * i) (bytes_of (map (λ j. get_or ws j 0) is)) ++ take (count - 8 * i) (low_bytes 8 x)
stored_bytes ws [] i k x count d h at inside low high = absurd (omega arith)
stored_bytes ws (j ∷ is) zero k x count d h at inside low high =
    let here : get_or (set ws k x) j 0 ≡ x = ap (λ y. get_or (set ws k x) y 0) at ∙ get_or-set_same ws k x 0 inside in
    let eight : length (low_bytes 8 x) ≡ 8 = length-low 8 x in
    let same : count ≡ count - 8 * 0 = omega arith in
    ap (λ y. take count (low_bytes 8 y ++ bytes_of (map (λ j. get_or (set ws k x) j 0) is))) here ∙ (take_past count (low_bytes 8 x) (bytes_of (map (λ j. get_or (set ws k x) j 0) is)) (omega arith) ∙ ap (λ n. take n (low_bytes 8 x)) same)
stored_bytes ws (j ∷ is) (suc i) k x count d h at inside low high =
    let apart : j ≢ k = λ e. is_in is i (omega arith) (subst (λ y. Misses y is) (e ∙ sym at) d.0) in
    let stays : get_or (set ws k x) j 0 ≡ get_or ws j 0 = get_or-set_other ws k j x 0 apart in
    let eight : length (low_bytes 8 (get_or ws j 0)) ≡ 8 = length-low 8 (get_or ws j 0) in
    let more : count ≡ length (low_bytes 8 (get_or ws j 0)) + (count - 8) = omega arith in
    let less : length (low_bytes 8 (get_or ws j 0)) + 8 * i ≡ 8 * suc i = omega arith in
    let rest : count - 8 - 8 * i ≡ count - 8 * suc i = omega arith in
    let new : List ℕ = bytes_of (map (λ j. get_or (set ws k x) j 0) is) in
    let old : List ℕ = bytes_of (map (λ j. get_or ws j 0) is) in
    let first : List ℕ = low_bytes 8 (get_or ws j 0) in
    let ih = stored_bytes ws is i k x (count - 8) d.1 (omega arith) at inside (omega arith) (omega arith) in
    ap (λ y. take count (low_bytes 8 y ++ new)) stays ∙ (ap (λ n. take n (first ++ new)) more ∙ (take_over first new (count - 8) ∙ (ap (λ l. first ++ l) ih ∙ (sym (append_assoc first (take (8 * i) old) (take (count - 8 - 8 * i) (low_bytes 8 x))) ∙ (λ z. (sym (take_over first old (8 * i)) ∙ ap (λ n. take n (first ++ old)) less) z ++ take (rest z) (low_bytes 8 x))))))

pub take_again : (n : ℕ) (l : List ℕ) → take (length (take n l)) l ≡ take n l
take_again zero l = refl
take_again (suc n) [] = refl
take_again (suc n) (x ∷ l) = ap (λ y. x ∷ y) (take_again n l)

pub is_front : (n : ℕ) (y l : List ℕ) → y ≡ take n l → y ≡ take (length y) l
is_front n y l e = e ∙ (sym (take_again n l) ∙ ap (λ z. take (length z) l) (sym e))

pub take_less : (n m : ℕ) (l : List ℕ) → n ≤ m → take n (take m l) ≡ take n l
take_less zero m l h = refl
take_less (suc n) zero l h = absurd (omega arith)
take_less (suc n) (suc m) [] h = refl
take_less (suc n) (suc m) (x ∷ l) h = ap (λ y. x ∷ y) (take_less n m l (omega arith))

-- the bytes of a fill, after a word of it was stored
pub filled_front : (ws : List ℕ) (bs : List Block) (content : List ℕ) (i k x count : ℕ) → IsDistinct (places bs) → i < length (places bs) → get_or (places bs) i 0 ≡ k → k < length ws → 8 * i ≤ count → count ≤ 8 * i + 8
    → content ≡ take (length content) (bytes_of (spelled ws bs)) → 8 * i ≤ length content → filled content i x count ≡ take (length (filled content i x count)) (bytes_of (spelled (set ws k x) bs))
filled_front ws bs content i k x count d h at inside low high is long =
    let old : List ℕ = bytes_of (spelled ws bs) in
    let front : take (8 * i) content ≡ take (8 * i) old = ap (take (8 * i)) is ∙ take_less (8 * i) (length content) old long in
    is_front count (filled content i x count) (bytes_of (spelled (set ws k x) bs)) (ap (λ l. l ++ take (count - 8 * i) (low_bytes 8 x)) front ∙ sym (stored_bytes ws (places bs) i k x count d h at inside low high))

pub task_words_low : (size i x : ℕ) (words : List ℕ) → i < region_word size → task_words_of size (set words i x) ≡ task_words_of size words
task_words_low size i x words h = drop-set-lt (region_word size) words i x h

pub task_words_set : (size n x : ℕ) (words : List ℕ) → task_words_of size (set words (task_word size n) x) ≡ set (task_words_of size words) (line_of n) x
task_words_set size n x words = drop-set-add (region_word size) words (line_of n) x

pub task_words_at : (size n : ℕ) (words : List ℕ) → get_or (task_words_of size words) (line_of n) 0 ≡ get_or words (task_word size n) 0
task_words_at size n words = get_or-drop (region_word size) words (line_of n) 0

pub listed_live : (n : ℕ) (t : Task) (bs : List Block) (ts : List ListedTask) → IsListed n t bs ts → (t ≡ Rest → ⊥) → ts ≡ own n t bs
listed_live n t bs ts l live = ⊎_elim (λ e. e) (λ (r : (t ≡ Rest) × IsEnded n ts). absurd (live r.0)) l

pub keeps_fills : (idle : List ℕ) (k : ℕ) (old new : List ListedTask) → KeepsListed idle k old new → fill_places new ≡ fill_places old
keeps_fills idle k old new h = ⊎_elim (λ e. ap fill_places e) (λ (r : FoundIdle idle k × IsEnded k old × (new ≡ [])). ap fill_places r.2 ∙ sym (ap fill_places r.1.2)) h

pub keeps_none : (idle : List ℕ) (k : ℕ) (old new : List ListedTask) → KeepsListed idle k old new → old ≡ [] → new ≡ []
keeps_none idle k old new h e = ⊎_elim (λ s. s ∙ e) (λ (r : FoundIdle idle k × IsEnded k old × (new ≡ [])). r.2) h

not_stream : (k : ℕ) (t : Task) (bs : List Block) (old new : List ListedTask) → is_stream t ≡ false → old ≡ own k t bs → IsEnded k old → new ≡ [] → new ≡ own k t bs
not_stream k Rest bs old new q e ended none = none
not_stream k (Stream s) bs old new q e ended none = absurd (true≢false q)
not_stream k (Fill s) bs old new q e ended none = let c : Fill s ≡ Stream ended.0 = sym (ap task_in e) ∙ ap task_in ended.2 in absurd (cc)

pub keeps_listed : (idle : List ℕ) (k : ℕ) (t : Task) (bs : List Block) (old new : List ListedTask) → KeepsListed idle k old new → IsListed k t bs old → (FoundIdle idle k → is_stream t ≡ false) → IsListed k t bs new
keeps_listed idle k t bs old new h l q = ⊎_elim
    (λ (e : new ≡ old). subst (IsListed k t bs) (sym e) l)
    (λ (r : FoundIdle idle k × IsEnded k old × (new ≡ [])). ⊎_elim
    (λ (e : old ≡ own k t bs). inl (not_stream k t bs old new (q r.0) e r.1 r.2))
    (λ (i : (t ≡ Rest) × IsEnded k old). inl (r.2 ∙ sym (ap (λ x. own k x bs) i.0)))
    l)
    h

-- a seat without a stream, for which an ended one is listed, rests
pub ended_rests : (k : ℕ) (t : Task) (bs : List Block) (ts : List ListedTask) → IsListed k t bs ts → is_stream t ≡ false → IsEnded k ts → t ≡ Rest
ended_rests k Rest bs ts l q ended = refl
ended_rests k (Stream s) bs ts l q ended = absurd (true≢false q)
ended_rests k (Fill s) bs ts l q ended = ⊎_elim (λ (i : ts ≡ own k (Fill s) bs). let c : Fill s ≡ Stream ended.0 = sym (ap task_in i) ∙ ap task_in ended.2 in absurd (cc)) (λ (r : (Fill s ≡ Rest) × IsEnded k ts). r.0) l

take_high : (n : ℕ) (l : List ℕ) (j x : ℕ) → n ≤ j → take n (set l j x) ≡ take n l
take_high zero l j x h = refl
take_high (suc n) [] j x h = refl
take_high (suc n) (y ∷ l) zero x h = absurd (omega arith)
take_high (suc n) (y ∷ l) (suc j) x h = ap (λ t. y ∷ t) (take_high n l j x (omega arith))

pub region_high : (size i x : ℕ) (words : List ℕ) → region_word size ≤ i → region size (set words i x) ≡ region size words
region_high size i x words h =
    let e : i ≡ line_words + (i - line_words) = omega arith in
    ap (λ j. region size (set words j x)) e ∙ (ap (take size) (drop-set-add line_words words (i - line_words) x) ∙ take_high size (drop line_words words) (i - line_words) x (omega arith))

pub zero_set : (l : List ℕ) (i : ℕ) → get_or (set l i 0) i 0 ≡ 0
zero_set [] i = refl
zero_set (x ∷ l) zero = refl
zero_set (x ∷ l) (suc i) = zero_set l i

pub zero_stays : (l : List ℕ) (i j : ℕ) → get_or l j 0 ≡ 0 → get_or (set l i 0) j 0 ≡ 0
zero_stays l i j h = dite (ℕ_discrete j i) (λ e. ap (λ k. get_or (set l i 0) k 0) e ∙ zero_set l i) (λ ne. get_or-set_other l i j 0 0 ne ∙ h)

-- the task that a release gives the seat, of what is listed for it
pub end_is : (n : ℕ) (m : Bool) (t : Task) (bs : List Block) (ts : List ListedTask) → IsListed n t bs ts → m ≡ is_stream t → released_task m (task_in ts) ≡ t
end_is n m Rest bs ts l e = ⊎_elim (λ (i : ts ≡ []). (λ j. released_task (e j) (task_in (i j)))) (λ (r : (Rest ≡ Rest) × IsEnded n ts). (λ j. released_task (e j) (task_in (r.1.2 j)))) l
end_is n m (Stream s) bs ts l e = ⊎_elim (λ (i : ts ≡ own n (Stream s) bs). (λ j. released_task (e j) (task_in (i j)))) (λ (r : (Stream s ≡ Rest) × IsEnded n ts). let c = r.0 in absurd (cc)) l
end_is n m (Fill s) bs ts l e = ⊎_elim (λ (i : ts ≡ own n (Fill s) bs). (λ j. released_task (e j) (task_in (i j)))) (λ (r : (Fill s ≡ Rest) × IsEnded n ts). let c = r.0 in absurd (cc)) l

pub hand_is : (n : ℕ) (t : Task) (bs : List Block) (ts : List ListedTask) → IsListed n t bs ts → HasBlocks t (released_blocks t (blocks_in ts)) bs
hand_is n Rest bs ts l = tt
hand_is n (Stream s) bs ts l = ⊎_elim (λ (i : ts ≡ own n (Stream s) bs). sym (ap blocks_in i)) (λ (r : (Stream s ≡ Rest) × IsEnded n ts). let c = r.0 in absurd (cc)) l
hand_is n (Fill s) bs ts l = ⊎_elim (λ (i : ts ≡ own n (Fill s) bs). sym (ap blocks_in i)) (λ (r : (Fill s ≡ Rest) × IsEnded n ts). let c = r.0 in absurd (cc)) l

listed_again : (n : ℕ) (t : Task) (bs : List Block) (ts : List ListedTask) → IsListed n t bs ts → IsListed n t (released_blocks t (blocks_in ts)) ts
listed_again n Rest bs ts l = l
listed_again n (Stream s) bs ts l = subst (λ (b : List Block). IsListed n (Stream s) b ts) (hand_is n (Stream s) bs ts l) l
listed_again n (Fill s) bs ts l = subst (λ (b : List Block). IsListed n (Fill s) b ts) (hand_is n (Fill s) bs ts l) l

pub ends_as : (n : ℕ) (m : Bool) (t : Task) (bs : List Block) (ts : List ListedTask) → IsListed n t bs ts → m ≡ is_stream t
    → IsListed n (released_task m (task_in ts)) (released_blocks (released_task m (task_in ts)) (blocks_in ts)) ts × (m ≡ is_stream (released_task m (task_in ts)))
ends_as n m t bs ts l e = subst (λ (u : Task). IsListed n u (released_blocks u (blocks_in ts)) ts × (m ≡ is_stream u)) (sym (end_is n m t bs ts l e)) (listed_again n t bs ts l, e)

pub within_end : (n size : ℕ) (t : Task) (bs : List Block) (ts : List ListedTask) → IsListed n t bs ts → ((k : ℕ) → k < length (places_of ts) → get_or (places_of ts) k 0 < size)
    → (k : ℕ) → k < length (places (released_blocks t (blocks_in ts))) → get_or (places (released_blocks t (blocks_in ts))) k 0 < size
within_end n size Rest bs ts l law k h = absurd (omega arith)
within_end n size (Stream s) bs ts l law k h =
    let e : ts ≡ own n (Stream s) bs = listed_live n (Stream s) bs ts l (λ c. cc) in
    let same : places_of ts ≡ places (blocks_in ts) = ap places_of e ∙ (append-nil (places bs) ∙ sym (ap (λ x. places (blocks_in x)) e)) in
    subst (λ (x : List ℕ). get_or x k 0 < size) same (law k (subst (λ (x : List ℕ). k < length x) (sym same) h))
within_end n size (Fill s) bs ts l law k h =
    let e : ts ≡ own n (Fill s) bs = listed_live n (Fill s) bs ts l (λ c. cc) in
    let same : places_of ts ≡ places (blocks_in ts) = ap places_of e ∙ (append-nil (places bs) ∙ sym (ap (λ x. places (blocks_in x)) e)) in
    subst (λ (x : List ℕ). get_or x k 0 < size) same (law k (subst (λ (x : List ℕ). k < length x) (sym same) h))
