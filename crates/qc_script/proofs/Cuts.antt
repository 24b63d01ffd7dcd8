-- A text that is cut at the first of a byte.
use Rattle.std.proofs.Common.{◌≡◌, ℕ, zero, suc, ◌+◌, ◌-◌, ◌/◌, ◌%◌, ◌^◌, ◌<◌, ◌≤◌, Bool, true, false, cond, List, [], ◌∷◌, ◌++◌, length, length-append, take, drop, refl, sym, ap, ◌∙◌, arith, inl, inr}
use Rattle.std.proofs.lemmas.Bool.{cases_lt, lt-ltb, le-ltb, eq-eqb, ne_eqb, and_parts, ltb-true, not-true}
use Rattle.std.proofs.lemmas.List.{take_all, drop_all, take_rest, take_at}
use Rattle.std.proofs.lemmas.Fmt.{decimal_by_steps}
use Rattle.std.specs.Prelude.{Option, Some, None, ◌==◌, ◌&&◌, not, nat_lt, ℤ, pos, negsuc, decimal}
use Rattle.std.specs.Fmt.{signed_decimal, digit_glyph, digits, digits_onto}
use Rattle.std.specs.List.{position, position_or_len, AllByRecursion, join_with_byte}
use lib.Signed.{mag}
use Rattle.qc_model.specs.ReportText.{hex, hex_digits}
use Rattle.qc_script.specs.Tellable.{AreBytes}
use Rattle.qc_script.specs.Told.{front, behind}

abbrev pub is_byte : ℕ → ℕ → Bool
is_byte c b = b == c

abbrev place_of : ℕ → List ℕ → ℕ
place_of c text = position_or_len (is_byte c) text

none_apart : {A : Type 0} (x : A) → ◌≡◌ {A = Option A} None (Some x) → ⊥
none_apart x e = absurd cc

some_is : {A : Type 0} (x y : A) → Some x ≡ Some y → x ≡ y
some_is x y e = cc

place_found : (c : ℕ) (text : List ℕ) (end : ℕ) → Some end ≡ position (is_byte c) text → (end ≡ place_of c text) × (end < length text)
place_found c text end e =
    elim (cases_lt (place_of c text) (length text)) [
      | inl lt ↦ let same : end ≡ place_of c text = some_is end (place_of c text) (e ∙ ap (λ t. cond t (Some (place_of c text)) None) (lt-ltb (place_of c text) (length text) lt)) in (same, omega arith)
      | inr ge ↦ absurd (none_apart end (sym (e ∙ ap (λ t. cond t (Some (place_of c text)) None) (le-ltb (place_of c text) (length text) ge))))
    ]

place_lacks : (c : ℕ) (text : List ℕ) → None ≡ position (is_byte c) text → length text ≤ place_of c text
place_lacks c text e =
    elim (cases_lt (place_of c text) (length text)) [
      | inl lt ↦ absurd (none_apart (place_of c text) (e ∙ ap (λ t. cond t (Some (place_of c text)) None) (lt-ltb (place_of c text) (length text) lt)))
      | inr ge ↦ ge
    ]

-- what stands in front of the first, and behind it
pub cut_found : (c : ℕ) (text : List ℕ) (end : ℕ) → Some end ≡ position (λ b. b == c) text → (take end text ≡ front c text) × (take (length text - (end + 1)) (drop (end + 1) text) ≡ behind c text)
cut_found c text end e =
    let found = place_found c text end e in
    (ap (λ n. take n text) found.0, take_rest text (end + 1) ∙ ap (λ n. drop (n + 1) text) found.0)

-- where there is none, all stands in front
pub cut_lacks : (c : ℕ) (text : List ℕ) → None ≡ position (λ b. b == c) text → (text ≡ front c text) × ([] ≡ behind c text)
cut_lacks c text e =
    let lacks = place_lacks c text e in
    (sym (take_all (place_of c text) text lacks), sym (drop_all (place_of c text + 1) text (omega arith)))

-- ---- texts without a byte

abbrev pub Lacks : ℕ → List ℕ → Type 0
Lacks c text = AllByRecursion (λ b. is_byte c b ≡ false) text

pub lacks_both : (c : ℕ) (s t : List ℕ) → Lacks c s → Lacks c t → Lacks c (s ++ t)
lacks_both c [] t hs ht = ht
lacks_both c (b ∷ s) t hs ht = (hs.0, lacks_both c s t hs.1 ht)

place_at : (c : ℕ) (text rest : List ℕ) → Lacks c text → place_of c (text ++ c ∷ rest) ≡ length text
place_at c [] rest lacks = rw (eq-eqb c c refl) refl
place_at c (b ∷ bs) rest lacks =
    let later = place_at c bs rest lacks.1 in
    rw lacks.0 (omega (arith, later))

place_none : (c : ℕ) (text : List ℕ) → Lacks c text → place_of c text ≡ length text
place_none c [] lacks = refl
place_none c (b ∷ bs) lacks =
    let later = place_none c bs lacks.1 in
    rw lacks.0 (omega (arith, later))

drop_past : (c : ℕ) (text rest : List ℕ) → drop (length text + 1) (text ++ c ∷ rest) ≡ rest
drop_past c [] rest = refl
drop_past c (b ∷ bs) rest =
    let e : suc (length bs) + 1 ≡ suc (length bs + 1) = omega arith in
    rw e (drop_past c bs rest)

pub front_at : (c : ℕ) (text rest : List ℕ) → Lacks c text → front c (text ++ c ∷ rest) ≡ text
front_at c text rest lacks = ap (λ n. take n (text ++ c ∷ rest)) (place_at c text rest lacks) ∙ take_at text (c ∷ rest) (length text) refl

pub behind_at : (c : ℕ) (text rest : List ℕ) → Lacks c text → behind c (text ++ c ∷ rest) ≡ rest
behind_at c text rest lacks = ap (λ n. drop (n + 1) (text ++ c ∷ rest)) (place_at c text rest lacks) ∙ drop_past c text rest

pub front_all : (c : ℕ) (text : List ℕ) → Lacks c text → front c text ≡ text
front_all c text lacks = ap (λ n. take n text) (place_none c text lacks) ∙ take_all (length text) text (omega arith)

pub behind_all : (c : ℕ) (text : List ℕ) → Lacks c text → behind c text ≡ []
behind_all c text lacks = ap (λ n. drop (n + 1) text) (place_none c text lacks) ∙ drop_all (length text + 1) text (omega arith)

-- the place of the first such byte behind a text that has none
pub position_at : (c : ℕ) (text rest : List ℕ) → Lacks c text → position (λ b. b == c) (text ++ c ∷ rest) ≡ Some (length text)
position_at c text rest lacks =
    let place = place_at c text rest lacks in
    let within : place_of c (text ++ c ∷ rest) < length (text ++ c ∷ rest) = omega (arith, place, length-append text (c ∷ rest)) in
    rw (lt-ltb (place_of c (text ++ c ∷ rest)) (length (text ++ c ∷ rest)) within) (ap Some place)

-- and there is none in a text that lacks it
pub position_none : (c : ℕ) (text : List ℕ) → Lacks c text → position (λ b. b == c) text ≡ None
position_none c text lacks =
    let place = place_none c text lacks in
    rw (le-ltb (place_of c text) (length text) (omega (arith, place))) refl

-- ---- joined texts

abbrev pub AllLack : ℕ → List (List ℕ) → Type 0
AllLack c texts = AllByRecursion (Lacks c) texts

-- the first text, and those behind it
pub front_joined : (c : ℕ) (t : List ℕ) (ts : List (List ℕ)) → Lacks c t → front c (join_with_byte c (t ∷ ts)) ≡ t
front_joined c t [] lacks = front_all c t lacks
front_joined c t (u ∷ us) lacks = front_at c t (join_with_byte c (u ∷ us)) lacks

pub behind_joined : (c : ℕ) (t : List ℕ) (ts : List (List ℕ)) → Lacks c t → behind c (join_with_byte c (t ∷ ts)) ≡ join_with_byte c ts
behind_joined c t [] lacks = behind_all c t lacks
behind_joined c t (u ∷ us) lacks = behind_at c t (join_with_byte c (u ∷ us)) lacks

-- a byte that neither the texts nor what joins them is
pub lacks_joined : (c d : ℕ) (ts : List (List ℕ)) → is_byte c d ≡ false → AllLack c ts → Lacks c (join_with_byte d ts)
lacks_joined c d [] apart all = tt
lacks_joined c d (t ∷ []) apart all = all.0
lacks_joined c d (t ∷ u ∷ us) apart all = lacks_both c t (d ∷ join_with_byte d (u ∷ us)) all.0 (apart, lacks_joined c d (u ∷ us) apart all.1)

-- ---- texts of words, digits and a minus

pub record IsPlain (b : ℕ) : Type 0 where
  pub low : 45 ≤ b
  pub point : is_byte 46 b ≡ false
  pub colon : is_byte 58 b ≡ false

abbrev pub ArePlain : List ℕ → Type 0
ArePlain t = AllByRecursion IsPlain t

pub plain_both : (s t : List ℕ) → ArePlain s → ArePlain t → ArePlain (s ++ t)
plain_both [] t hs ht = ht
plain_both (b ∷ s) t hs ht = (hs.0, plain_both s t hs.1 ht)

pub plain_lacks_low : (c : ℕ) → c < 45 → (t : List ℕ) → ArePlain t → Lacks c t
plain_lacks_low c low [] all = tt
plain_lacks_low c low (b ∷ t) all = (ne_eqb b c (λ e. omega (arith, all.0.low, e)), plain_lacks_low c low t all.1)

pub plain_lacks_point : (t : List ℕ) → ArePlain t → Lacks 46 t
plain_lacks_point [] all = tt
plain_lacks_point (b ∷ t) all = (all.0.point, plain_lacks_point t all.1)

pub plain_lacks_colon : (t : List ℕ) → ArePlain t → Lacks 58 t
plain_lacks_colon [] all = tt
plain_lacks_colon (b ∷ t) all = (all.0.colon, plain_lacks_colon t all.1)

-- a letter or a digit
pub plain_from : (b : ℕ) → 47 ≤ b → (b ≡ 58 → ⊥) → IsPlain b
plain_from b low colon = record { low = omega arith; point = ne_eqb b 46 (λ e. omega (arith, e)); colon = ne_eqb b 58 colon }

-- a word that is written out, by a test that computes
abbrev is_plain : ℕ → Bool
is_plain b = nat_lt 46 b && not (is_byte 58 b)

abbrev pub are_plain : List ℕ → Bool
are_plain [] = true
are_plain (b ∷ t) = is_plain b && are_plain t

pub plain_word : (t : List ℕ) → are_plain t ≡ true → ArePlain t
plain_word [] h = tt
plain_word (b ∷ t) h =
    let first = and_parts (is_plain b) (are_plain t) h in
    let tests = and_parts (nat_lt 46 b) (not (is_byte 58 b)) first.0 in
    let low : 46 < b = ltb-true 46 b tests.0 in
    (record { low = omega arith; point = ne_eqb b 46 (λ e. omega (arith, e)); colon = not-true (is_byte 58 b) tests.1 }, plain_word t first.1)

pub plain_decimal : (n : ℕ) → n < 2 ^ 64 → ArePlain (decimal n)
plain_decimal n lt = decimal_by_steps (λ n ds. ArePlain ds)
    (λ n small. (plain_from (48 + n) (omega arith) (λ e. omega (arith, e)), tt))
    (λ n ds large before. plain_both ds ((48 + n % 10) ∷ []) before (plain_from (48 + n % 10) (omega arith) (λ e. omega (arith, e)), tt))
    n lt

-- ---- digits of any number

glyph_plain : (d : ℕ) → d < 10 → IsPlain (digit_glyph false d)
glyph_plain d lt = rw (lt-ltb d 10 lt) (plain_from (48 + d) (omega arith) (λ e. omega (arith, e)))

onto_plain : (k n : ℕ) (acc : List ℕ) → ArePlain acc → ArePlain (digits_onto k 10 false n acc)
onto_plain zero n acc all = all
onto_plain (suc k) n acc all =
    let more : ArePlain (digit_glyph false (n % 10) ∷ acc) = (glyph_plain (n % 10) (omega arith), all) in
    by (n / 10 == 0) _ _ more (onto_plain k (n / 10) (digit_glyph false (n % 10) ∷ acc) more)
  where
    by : (b : Bool) (x y : List ℕ) → ArePlain x → ArePlain y → ArePlain (cond b x y)
    by true x y hx hy = hx
    by false x y hx hy = hy

pub plain_any : (n : ℕ) → ArePlain (decimal n)
unfolding digits
plain_any n = onto_plain 64 n [] tt

pub minus_plain : IsPlain 45
minus_plain = record { low = omega arith; point = refl; colon = refl }

pub plain_signed : (z : ℤ) → mag z < 2 ^ 63 → ArePlain (signed_decimal z)
plain_signed (pos n) lt = plain_decimal n (omega arith)
plain_signed (negsuc n) lt = (minus_plain, plain_decimal (suc n) (omega arith))

-- ---- hexadecimal digits

pub plain_glyph : (d : ℕ) → d < 16 → IsPlain (digit_glyph false d)
plain_glyph d lt =
    elim (cases_lt d 10) [
      | inl small ↦ rw (lt-ltb d 10 small) (plain_from (48 + d) (omega arith) (λ e. omega (arith, e)))
      | inr large ↦ rw (le-ltb d 10 large) (plain_from (87 + d) (omega arith) (λ e. omega (arith, e)))
    ]

plain_digits : (bs : List ℕ) → AreBytes bs → ArePlain (hex_digits bs)
plain_digits [] all = tt
plain_digits (b ∷ bs) all =
    let byte : b < 256 = all.0 in
    (plain_glyph (b / 16) (omega arith), (plain_glyph (b % 16) (omega arith), plain_digits bs all.1))

pub plain_hex : (bs : List ℕ) → AreBytes bs → ArePlain (hex bs)
plain_hex [] all = (minus_plain, tt)
plain_hex (b ∷ bs) all = plain_digits (b ∷ bs) all
