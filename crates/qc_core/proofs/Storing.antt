-- The bytes of a key are stored, word by word.
use Rattle.std.proofs.Common.{◌≡◌, ◌≢◌, ℕ, zero, suc, ◌+◌, ◌-◌, ◌*◌, ◌/◌, ◌%◌, ◌^◌, ◌<◌, ◌≤◌, min, eqb, eq-eqb, eqb-true, Bool, true, false, List, [], ◌∷◌, length, take, drop, get_or, set, refl, sym, ap, subst, ◌∙◌, arith, true≢false, drop-cons, pow-suc}
use Rattle.std.specs.Prelude.{◌&&◌, ◌==◌, slice_index}
use Rattle.std.proofs.lemmas.List.{get_or-set_same, get_or-set_other, length-set, drop-drop}
use Rattle.qc_laws.proofs.history.Serials.{both_true}
use Rattle.byteorder.specs.Endian.{little_from}
use Rattle.qc_model.specs.Licence.{words_of_bytes}
use Rattle.qc_tiles.specs.declared.blocks.Block.{Block}
use Rattle.qc_turn.specs.declared.kept.Kept.{Ghosts}
use Rattle.qc_turn.specs.Releases.{IsFreeOfOthers}
use Rattle.qc_turn.specs.Views.{idle_of}
use Rattle.qc_turn.specs.Seats.{Held, holder, words, taken, IsHeld, SameHolder}
use Rattle.qc_turn.proofs.Holders.{taken_is, number_is, same_on}
use Rattle.qc_core.specs.KeySpelling.{spells, is_text, read}
use Rattle.qc_core.specs.KeyText.{MayStore, HasStored}
use Rattle.qc_core.proofs.Spelling.{is_same, piece_is, read_step, text_is}

-- ---- one word

-- the low byte is the last one that came in
pub spells_more : (word byte : ℕ) (p : List ℕ) → byte < 256 → spells word p ≡ true → spells (word * 256 + byte) (byte ∷ p) ≡ true
spells_more word byte p low h =
    let left : (word * 256 + byte) / 256 ≡ word = omega (arith, low) in
    let last : (word * 256 + byte) % 256 ≡ byte = omega (arith, low) in
    (λ i. both (eq-eqb ((word * 256 + byte) % 256) byte last i) (ap (λ w. spells w p) left i)) ∙ h
  where
    both : Bool → Bool → Bool
    both a b = a && b

-- a number that was read spells its bytes
pub read_spells : (n i : ℕ) (xs : List ℕ) → ((k : ℕ) → slice_index xs k < 256) → n + i ≤ length xs → spells (little_from i n xs) (take n (drop i xs)) ≡ true
read_spells zero i xs h k = refl
read_spells (suc n) i xs h k =
    let x = slice_index xs i in
    let y = little_from (suc i) n xs in
    let is : y * 256 + x ≡ x + 256 * y = omega arith in
    let more = spells_more y x (take n (drop (suc i) xs)) (h i) (read_spells n (suc i) xs h (omega (arith, k))) in
    (λ j. spells (sym is j) (ap (take (suc n)) (drop-cons xs i 0 (omega (arith, k))) j)) ∙ more

-- two numbers that spell the same bytes, and reach no further, are the same
spelled_same : (p : List ℕ) (v w : ℕ) → v < 256 ^ length p → w < 256 ^ length p → spells v p ≡ true → spells w p ≡ true → v ≡ w
spelled_same [] v w lv lw sv sw = omega (arith, lv, lw)
spelled_same (b ∷ p) v w lv lw sv sw =
    let power : 256 ^ suc (length p) ≡ 256 ^ length p * 256 = pow-suc 256 (length p) in
    let one = both_true (v % 256 == b) (spells (v / 256) p) sv in
    let two = both_true (w % 256 == b) (spells (w / 256) p) sw in
    let rest = spelled_same p (v / 256) (w / 256) (omega (arith, lv, power)) (omega (arith, lw, power)) one.1 two.1 in
    let low : v % 256 ≡ w % 256 = eqb-true (v % 256) b one.0 ∙ sym (eqb-true (w % 256) b two.0) in
    omega (arith, rest, low)

-- a whole word spells eight bytes exactly where it is their number
pub whole_word : (word n : ℕ) (p : List ℕ) → word < 2 ^ 64 → n < 2 ^ 64 → length p ≡ 8 → spells n p ≡ true → (word == n) ≡ spells word p
whole_word word n p lw ln long s = elim (eqb word n) as (λ b. eqb word n ≡ b → b ≡ spells word p) [
  | true ↦ λ e. sym (subst (λ m. spells m p ≡ true) (sym (eqb-true word n e)) s)
  | false ↦ λ e. elim (spells word p) as (λ b. spells word p ≡ b → false ≡ b) [
    | true ↦ λ t. absurd (true≢false (sym (eq-eqb word n (spelled_same p word n (small word lw) (small n ln) t s)) ∙ e))
    | false ↦ λ t. refl
  ] refl
] refl
  where
    small : (m : ℕ) → m < 2 ^ 64 → m < 256 ^ length p
    small m low = subst (λ k. m < 256 ^ k) (sym long) low

-- ---- the words

spelled_each : (ws key : List ℕ) (first n : ℕ) → ((j : ℕ) → j < n → spells (get_or ws (first + j) 0) (take 8 (drop (8 * j) key)) ≡ true) → is_text (read ws first n) key ≡ true
spelled_each ws key first zero h = refl
spelled_each ws key first (suc n) h =
    let one = read_step ws first (suc n) (omega arith) in
    let at : first + 0 ≡ first = omega arith in
    let nought : 8 * 0 ≡ 0 = omega arith in
    let less : suc n - 1 ≡ n = omega arith in
    let head : spells (get_or ws first 0) (take 8 key) ≡ true = subst (λ (p : ℕ × ℕ). spells (get_or ws p.0 0) (take 8 (drop p.1 key)) ≡ true) (λ i. (at i, nought i)) (h 0 (omega arith)) in
    let tail = spelled_each ws (drop 8 key) (first + 1) n (λ j low.
    let place : first + (j + 1) ≡ (first + 1) + j = omega arith in
    let byte : 8 + 8 * j ≡ 8 * (j + 1) = omega arith in
    subst (λ (p : ℕ × List ℕ). spells (get_or ws p.0 0) (take 8 p.1) ≡ true) (λ i. (place i, (sym (drop-drop (8 * j) 8 key ∙ ap (λ n. drop n key) byte)) i)) (h (j + 1) (omega (arith, low)))) in
    ap (λ l. is_text l key) (one ∙ ap (λ n. get_or ws first 0 ∷ read ws (first + 1) n) less) ∙ (λ i. both (head i) (tail i))
  where
    both : Bool → Bool → Bool
    both a b = a && b

module _ {V E : Type 0} {K : Ghosts V E} where
  -- so many words were stored
  pub record IsStoring (h k : Held V E K) (block : Block) (key : List ℕ) (count : ℕ) : Type 0 where
    pub held : IsHeld k
    pub same : SameHolder h k
    pub value : k.value ≡ h.value
    pub ranges : k.ranges ≡ h.ranges
    pub long : length (words k) ≡ length (words h)
    pub text : (j : ℕ) → j < count → spells (get_or (words k) (block.first + j) 0) (take 8 (drop (8 * j) key)) ≡ true
    pub others : (j : ℕ) → (block.first ≤ j → j < block.first + block.words → ⊥) → get_or (words k) j 0 ≡ get_or (words h) j 0

  pub storing_start : (h : Held V E K) (block : Block) (key : List ℕ) → IsHeld h → IsStoring h h block key 0
  storing_start h block key held = let s = is_same h held in record { held = held; same = s.same; value = refl; ranges = refl; long = refl; text = λ j low. absurd (omega (arith, low)); others = λ j out. refl }

  pub storing_free : (h k : Held V E K) (block : Block) (bytes x : ℕ) → SameHolder h k → MayStore h block bytes → block.first ≤ x → x < block.first + block.words → IsFreeOfOthers K (holder k).number (idle_of (holder k).found) x (taken k)
  storing_free h k block bytes x same may low high =
      subst (λ (p : ℕ × List ℕ × V). IsFreeOfOthers K p.0 p.1 x p.2) (λ i. (sym (number_is h k same) i, sym (ap (λ v. idle_of v.found) same.holder) i, sym (taken_is h k same) i)) (may.free x low high)

  -- one word more
  pub storing_on : (h k g : Held V E K) (block : Block) (key : List ℕ) (i to word : ℕ) → MayStore h block (length key) → i < words_of_bytes (length key) → IsStoring h k block key i → IsHeld g → SameHolder k g → g.value ≡ k.value → g.ranges ≡ k.ranges
      → to ≡ min (8 * i + 8) (length key) → spells word (take (to - 8 * i) (drop (8 * i) key)) ≡ true → words g ≡ set (words k) (block.first + i) word → IsStoring h g block key (i + 1)
  storing_on h k g block key i to word may inside c held same value ranges end is stored = record {
    held = held;
    same = same_on h k g c.same same;
    value = value ∙ c.value;
    ranges = ranges ∙ c.ranges;
    long = ap (λ (l : List ℕ). length l) stored ∙ (length-set (words k) (block.first + i) word ∙ c.long);
    text = λ j low. by j low;
    others = λ j out.
        let ne : j ≢ block.first + i = λ z. out (omega (arith, z)) (omega (arith, z, inside, may.few)) in
        ap (λ l. get_or l j 0) stored ∙ (get_or-set_other (words k) (block.first + i) j word 0 ne ∙ c.others j out);
  }
    where
      by : (j : ℕ) → j < i + 1 → spells (get_or (words g) (block.first + j) 0) (take 8 (drop (8 * j) key)) ≡ true
      by j low = elim (eqb j i) as (λ b. eqb j i ≡ b → spells (get_or (words g) (block.first + j) 0) (take 8 (drop (8 * j) key)) ≡ true) [
        | true ↦ λ e.
            let within : block.first + i < length (words k) = omega (arith, c.long, may.within, may.few, inside) in
            let got : get_or (words g) (block.first + i) 0 ≡ word = ap (λ l. get_or l (block.first + i) 0) stored ∙ get_or-set_same (words k) (block.first + i) word 0 within in
            subst (λ n. spells (get_or (words g) (block.first + n) 0) (take 8 (drop (8 * n) key)) ≡ true) (sym (eqb-true j i e))
            ((λ q. spells (got q) (sym (piece_is key (8 * i) to end) q)) ∙ is)
        | false ↦ λ e.
            let apart : j ≢ i = λ z. true≢false (sym (eq-eqb j i z) ∙ e) in
            let ne : block.first + j ≢ block.first + i = λ z. apart (omega (arith, z)) in
            ap (λ w. spells w (take 8 (drop (8 * j) key))) (ap (λ l. get_or l (block.first + j) 0) stored ∙ get_or-set_other (words k) (block.first + i) (block.first + j) word 0 ne) ∙ c.text j (omega (arith, low, apart))
      ] refl

  pub stored_all : (h k : Held V E K) (block : Block) (key : List ℕ) (count : ℕ) → MayStore h block (length key) → count ≡ words_of_bytes (length key) → IsStoring h k block key count → HasStored h k block key
  stored_all h k block key count may all c = record {
    held = c.held;
    same = c.same;
    value = c.value;
    ranges = c.ranges;
    long = c.long;
    text = text_is (words k) block key may.few (spelled_each (words k) key block.first (words_of_bytes (length key)) (λ j low. c.text j (omega (arith, low, all))));
    others = c.others;
  }
