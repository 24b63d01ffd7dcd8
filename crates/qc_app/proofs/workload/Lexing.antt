-- Texts with numbers in them, token by token.
use Rattle.std.proofs.Common.{◌≡◌, ℕ, suc, ◌+◌, ◌-◌, ◌*◌, ◌%◌, ◌≤◌, ◌<◌, Bool, true, false, cond, List, [], ◌∷◌, ◌++◌, length, drop, reverse, refl, sym, ap, ◌∙◌, arith, append_assoc}
use Rattle.std.specs.Prelude.{◌&&◌, ◌==◌, ◌^◌, nat_lt, take_while, decimal}
use Rattle.std.specs.List.{AllByRecursion}
use Rattle.std.proofs.lemmas.Bool.{and_left, lt-ltb}
use Rattle.std.proofs.lemmas.Bool.Decides.{nat_tests}
use Rattle.std.proofs.lemmas.List.Sums.{take_while-cons}
use Rattle.std.proofs.lemmas.List.{reverse-append, reverse-reverse}
use Rattle.std.proofs.lemmas.Fmt.{decimal_by_steps}
use Rattle.qc_sql.specs.Tokens.{Lexeme, Digits, Sign, Token, Front, Gives, Faults, NumberTooLarge, front, is_space, is_digit, is_dashed, begins_word, number_token, number_from, goes_on, with_token, lexed_from, is_trailing, without_front, trimmed}

-- ---- digits

abbrev pub AreDigits : List ℕ → Type 0
AreDigits = AllByRecursion (λ d. is_digit d ≡ true)

-- no digit stands in front
abbrev pub no_digit : List ℕ → Bool
no_digit [] = true
no_digit (b ∷ bs) = cond (is_digit b) false true

module _ where
  none_taken : (rest : List ℕ) → no_digit rest ≡ true → take_while is_digit rest ≡ []
  none_taken [] h = refl
  none_taken (b ∷ bs) h = take_while-cons is_digit b bs ∙ by (is_digit b) h
    where
      by : (t : Bool) → cond t false true ≡ true → cond t (b ∷ take_while is_digit bs) [] ≡ []
      by true e = absurd (grind arith)
      by false e = refl

  pub digits_taken : (ds rest : List ℕ) → AreDigits ds → no_digit rest ≡ true → take_while is_digit (ds ++ rest) ≡ ds
  digits_taken [] rest h e = none_taken rest e
  digits_taken (d ∷ ds) rest h e = take_while-cons is_digit d (ds ++ rest) ∙ (ap (λ t. cond t (d ∷ take_while is_digit (ds ++ rest)) []) h.0 ∙ ap (λ (l : List ℕ). d ∷ l) (digits_taken ds rest h.1 e))

number_behind : (n : ℕ) (ds : List ℕ) (d : ℕ) → number_from n (ds ++ d ∷ []) ≡ 10 * number_from n ds + (d - 48)
number_behind n [] d = refl
number_behind n (c ∷ ds) d = number_behind (10 * n + (c - 48)) ds d

digits_behind : (ds : List ℕ) (d : ℕ) → AreDigits ds → is_digit d ≡ true → AreDigits (ds ++ d ∷ [])
digits_behind [] d h e = (e, tt)
digits_behind (c ∷ ds) d h e = (h.0, digits_behind ds d h.1 e)

pub record Spells (n : ℕ) (ds : List ℕ) : Type 0 where
  pub digits : AreDigits ds
  pub value : number_from 0 ds ≡ n
  pub some : 1 ≤ length ds

digit_below : (k : ℕ) → k < 10 → is_digit (48 + k) ≡ true
digit_below k h = grind (arith, nat_tests)

longer : (ds : List ℕ) (d : ℕ) → 1 ≤ length (ds ++ d ∷ [])
longer [] d = omega arith
longer (c ∷ ds) d = omega arith

pub decimal_spells : (n : ℕ) → n < 2 ^ 64 → Spells n (decimal n)
decimal_spells n small = decimal_by_steps Spells
    (λ k h. record { digits = (digit_below k h, tt); value = omega arith; some = omega arith })
    (λ k ds h s. record {
      digits = digits_behind ds (48 + k % 10) s.digits (digit_below (k % 10) (omega arith));
      value = let v = s.value in number_behind 0 ds (48 + k % 10) ∙ omega (arith, v);
      some = longer ds (48 + k % 10);
    })
    n small

-- ---- a front

-- where no case above takes it
passed_by : {X : Type 0} (t : Bool) (x y : X) → t ≡ false → (cond t x y) ≡ y
passed_by t x y e = ap (λ b. cond b x y) e

taken_by : {X : Type 0} (t : Bool) (x y : X) → t ≡ true → (cond t x y) ≡ x
taken_by t x y e = ap (λ b. cond b x y) e

not_dashed : (b : ℕ) (bs : List ℕ) → (b == 45) ≡ false → is_dashed (b ∷ bs) ≡ false
not_dashed b [] e = refl
not_dashed b (c ∷ []) e = and_left (b == 45) (c == 45) e
not_dashed b (c ∷ d ∷ bs) e = and_left (b == 45 && c == 45) (is_space d) (and_left (b == 45) (c == 45) e)

front_of_digit : (d : ℕ) (bs : List ℕ) → is_digit d ≡ true → front false (d ∷ bs) ≡ number_token (take_while is_digit (d ∷ bs))
front_of_digit d bs h =
    let e35 : (d == 35) ≡ false = grind (arith, nat_tests) in
    let e45 : (d == 45) ≡ false = grind (arith, nat_tests) in
    let e47 : (d == 47) ≡ false = grind (arith, nat_tests) in
    let e96 : (d == 96) ≡ false = grind (arith, nat_tests) in
    let e39 : (d == 39) ≡ false = grind (arith, nat_tests) in
    let e34 : (d == 34) ≡ false = grind (arith, nat_tests) in
    let space : is_space d ≡ false = grind (arith, nat_tests) in
    let letter : begins_word d ≡ false = grind (arith, nat_tests) in
    rw (space, e35, not_dashed d bs e45, e47, letter, e96, e39, e34, h) refl

pub front_of_number : (n : ℕ) (rest : List ℕ) → n < 2 ^ 64 → no_digit rest ≡ true → front false (decimal n ++ rest) ≡ Gives (length (decimal n)) (Digits n)
front_of_number n rest small free = by (decimal n) (decimal_spells n small)
  where
    by : (ds : List ℕ) → Spells n ds → front false (ds ++ rest) ≡ Gives (length ds) (Digits n)
    by [] s = let v = s.some in absurd (omega (arith, v))
    by (d ∷ ds) s =
        let value : number_from 0 (d ∷ ds) ≡ n = s.value in
        front_of_digit d (ds ++ rest) s.digits.0
        ∙ (ap number_token (digits_taken (d ∷ ds) rest s.digits free)
        ∙ (ap (λ k. cond (nat_lt k (2 ^ 64)) (Gives (length (d ∷ ds)) (Digits k)) (Faults NumberTooLarge)) value
        ∙ ap (λ t. cond t (Gives (length (d ∷ ds)) (Digits n)) (Faults NumberTooLarge)) (lt-ltb n (2 ^ 64) small)))

pub front_of_open : (x : List ℕ) → front false (40 ∷ x) ≡ Gives 1 (Sign (40 ∷ []))
front_of_open [] = refl
front_of_open (b ∷ []) = refl
front_of_open (b ∷ c ∷ x) = refl

pub front_of_comma : (x : List ℕ) → front false (44 ∷ x) ≡ Gives 1 (Sign (44 ∷ []))
front_of_comma [] = refl
front_of_comma (b ∷ []) = refl
front_of_comma (b ∷ c ∷ x) = refl

pub front_of_equals : (x : List ℕ) → front false (61 ∷ x) ≡ Gives 1 (Sign (61 ∷ []))
front_of_equals [] = refl
front_of_equals (b ∷ []) = refl
front_of_equals (b ∷ c ∷ x) = refl

-- ---- steps

abbrev token : Lexeme → ℕ → ℕ → Token
token what from to = record { what = what; from = from; to = to }

pub step : (n at k : ℕ) (what : Lexeme) (text later : List ℕ) → front false text ≡ Gives k what → drop k text ≡ later
    → lexed_from (suc n) false at text ≡ with_token (token what at (at + k)) (lexed_from n false (at + k) later)
step n at k what text later f d =
    ap (λ (x : Front). goes_on x at (λ j. lexed_from n false (at + j) (drop j text))) f
    ∙ ap (λ (l : List ℕ). with_token (token what at (at + k)) (lexed_from n false (at + k) l)) d

dropped : (xs ys : List ℕ) → drop (length xs) (xs ++ ys) ≡ ys
dropped [] ys = refl
dropped (x ∷ xs) ys = dropped xs ys

pub step_number : (n at k : ℕ) (rest : List ℕ) → k < 2 ^ 64 → no_digit rest ≡ true
    → lexed_from (suc n) false at (decimal k ++ rest) ≡ with_token (token (Digits k) at (at + length (decimal k))) (lexed_from n false (at + length (decimal k)) rest)
step_number n at k rest small free = step n at (length (decimal k)) (Digits k) (decimal k ++ rest) rest (front_of_number k rest small free) (dropped (decimal k) rest)

-- ---- trimming

-- what begins with no space and ends in none of the trailing bytes stays
pub stays : (b c : ℕ) (xs front : List ℕ) → b ∷ xs ≡ front ++ c ∷ [] → is_space b ≡ false → is_trailing c ≡ false → trimmed (b ∷ xs) ≡ b ∷ xs
unfolding trimmed
stays b c xs front e first last =
    let begins : without_front is_space (b ∷ xs) ≡ b ∷ xs = ap (λ t. cond t (without_front is_space xs) (b ∷ xs)) first in
    let turned : reverse (b ∷ xs) ≡ c ∷ reverse front = ap reverse e ∙ reverse-append front (c ∷ []) in
    let ends : without_front is_trailing (c ∷ reverse front) ≡ c ∷ reverse front = ap (λ t. cond t (without_front is_trailing (reverse front)) (c ∷ reverse front)) last in
    ap (λ (l : List ℕ). reverse (without_front is_trailing (reverse l))) begins
    ∙ (ap (λ (l : List ℕ). reverse (without_front is_trailing l)) turned
    ∙ (ap reverse ends
    ∙ (ap reverse (sym turned) ∙ reverse-reverse (b ∷ xs))))

-- the last digit of a number
pub record EndsInDigit (bytes : List ℕ) : Type 0 where
  pub front : List ℕ
  pub digit : ℕ
  pub is : bytes ≡ front ++ digit ∷ []
  pub no_trailing : is_trailing digit ≡ false

no_trailing_digit : (k : ℕ) → k < 10 → is_trailing (48 + k) ≡ false
no_trailing_digit k h = grind (arith, nat_tests)

decimal_ends : (n : ℕ) → n < 2 ^ 64 → EndsInDigit (decimal n)
decimal_ends n small = decimal_by_steps (λ k ds. EndsInDigit ds)
    (λ k h. record { front = []; digit = 48 + k; is = refl; no_trailing = no_trailing_digit k h })
    (λ k ds h s. record { front = ds; digit = 48 + k % 10; is = refl; no_trailing = no_trailing_digit (k % 10) (omega arith) })
    n small

pub stays_before_number : (b : ℕ) (xs : List ℕ) (n : ℕ) → is_space b ≡ false → n < 2 ^ 64 → trimmed (b ∷ (xs ++ decimal n)) ≡ b ∷ (xs ++ decimal n)
stays_before_number b xs n first small =
    let d = decimal_ends n small in
    stays b d.digit (xs ++ decimal n) (b ∷ (xs ++ d.front)) (ap (λ (l : List ℕ). b ∷ (xs ++ l)) d.is ∙ ap (λ (l : List ℕ). b ∷ l) (sym (append_assoc xs d.front (d.digit ∷ [])))) first d.no_trailing
