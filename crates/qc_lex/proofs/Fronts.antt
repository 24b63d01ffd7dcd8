-- What stands in front takes a byte or more, and none that isn't there.
use Rattle.std.proofs.Common.{◌≡◌, ℕ, ◌+◌, ◌≤◌, Bool, true, false, cond, List, [], ◌∷◌, length, take, drop, Option, Some, None, refl, sym, ap, subst, ◌∙◌, arith, length-drop, length-take, ⊎_elim}
use Rattle.std.specs.Prelude.{◌&&◌, ◌||◌, ◌==◌, ◌^◌, not, nat_lt, bytes_eq, codes, take_while, option_map}
use Rattle.std.specs.List.{list_any}
use Rattle.std.proofs.lemmas.Bool.{and_parts, or_cases, eqb-true}
use Rattle.std.proofs.lemmas.List.Sums.{take_while-cons, prefix_len-le-length}
use Rattle.std.proofs.lemmas.List.Folds.{length-prefix_len}
use Rattle.std.proofs.lemmas.Slice.Eq.{bytes_eq-Decides}
use Rattle.qc_sql.specs.Tokens.{Front, Ends, Skips, Gives, Faults, Content, front, is_space, is_digit, is_dashed, begins_word, goes_on_word, comment, comment_bytes, quoted, quoted_text, with_front, escaped, BadByte, LongName, TextTooLong, NumberTooLarge, Quoted, Words, Word, Digits, Sign, name_token, text_token, word_token, number_token, number_from, sign_token, two_signs}

-- the bytes of what stands in front
abbrev pub Within : Front → ℕ → Type 0
Within Ends n = Unit {0}
Within (Skips k) n = (1 ≤ k) × (k ≤ n)
Within (Gives k what) n = (1 ≤ k) × (k ≤ n)
Within (Faults f) n = Unit {0}

-- either way
chosen : (n : ℕ) (t : Bool) (x y : Front) → (t ≡ true → Within x n) → (t ≡ false → Within y n) → Within (cond t x y) n
chosen n true x y f g = f refl
chosen n false x y f g = g refl

-- ---- runs of bytes

run_within : (p : ℕ → Bool) (b : ℕ) (bs : List ℕ) → p b ≡ true → (1 ≤ length (take_while p (b ∷ bs))) × (length (take_while p (b ∷ bs)) ≤ length (b ∷ bs))
run_within p b bs h =
    let e : length (take_while p (b ∷ bs)) ≡ length (b ∷ take_while p bs) = ap length (take_while-cons p b bs ∙ ap (λ t. cond t (b ∷ take_while p bs) []) h) in
    (omega (arith, e), omega (arith, length-prefix_len p (b ∷ bs), prefix_len-le-length p (b ∷ bs)))

-- ---- comments

abbrev EndsIn : ℕ → Option ℕ → Type 0
EndsIn n None = Unit {0}
EndsIn n (Some k) = k ≤ n

end_chosen : (n : ℕ) (t : Bool) (x y : Option ℕ) → EndsIn n x → EndsIn n y → EndsIn n (cond t x y)
end_chosen n true x y f g = f
end_chosen n false x y f g = g

end_later : (n : ℕ) (x : Option ℕ) → EndsIn n x → EndsIn (n + 1) (option_map (λ k. k + 1) x)
end_later n None h = tt
end_later n (Some k) h = omega (arith, h)

comment_ends : (text : List ℕ) → EndsIn (length text) (comment_bytes text)
comment_ends [] = tt
comment_ends (b ∷ []) = tt
comment_ends (b ∷ c ∷ rest) =
    let later : EndsIn (length (c ∷ rest) + 1) (option_map (λ k. k + 1) (comment_bytes (c ∷ rest))) = end_later (length (c ∷ rest)) (comment_bytes (c ∷ rest)) (comment_ends (c ∷ rest)) in
    let e : length (b ∷ c ∷ rest) ≡ length (c ∷ rest) + 1 = omega arith in
    end_chosen (length (b ∷ c ∷ rest)) (b == 42 && c == 47) (Some 2) (option_map (λ k. k + 1) (comment_bytes (c ∷ rest))) (omega arith)
    (subst (λ n. EndsIn n (option_map (λ k. k + 1) (comment_bytes (c ∷ rest)))) (sym e) later)

comment_within : (n : ℕ) (x : Option ℕ) (m : ℕ) → EndsIn m x → m + 2 ≤ n → Within (comment x) n
comment_within n None m h le = tt
comment_within n (Some k) m h le = (omega arith, omega (arith, h, le))

-- ---- between quotes

abbrev StandsIn : ℕ → Content → Type 0
StandsIn n None = Unit {0}
StandsIn n (Some c) = c.0 ≤ n

stands_chosen : (n : ℕ) (t : Bool) (x y : Content) → StandsIn n x → StandsIn n y → StandsIn n (cond t x y)
stands_chosen n true x y f g = f
stands_chosen n false x y f g = g

stands_later : (n k : ℕ) (front : List ℕ) (x : Content) (m : ℕ) → StandsIn m x → m + k ≤ n → StandsIn n (with_front k front x)
stands_later n k front None m h le = tt
stands_later n k front (Some c) m h le = omega (arith, h, le)

quoted_stands : (q : ℕ) (text : List ℕ) → StandsIn (length text) (quoted q text)
quoted_stands q [] = tt
quoted_stands q (b ∷ []) = stands_chosen 1 (b == q) (Some (1, [])) None (omega arith) tt
quoted_stands q (b ∷ c ∷ rest) =
    let n = length (b ∷ c ∷ rest) in
    stands_chosen n (b == q) (cond (c == q) (with_front 2 (q ∷ []) (quoted q rest)) (Some (1, []))) (with_front 1 (b ∷ []) (quoted q (c ∷ rest)))
    (stands_chosen n (c == q) (with_front 2 (q ∷ []) (quoted q rest)) (Some (1, []))
    (stands_later n 2 (q ∷ []) (quoted q rest) (length rest) (quoted_stands q rest) (omega arith))
    (omega arith))
    (stands_later n 1 (b ∷ []) (quoted q (c ∷ rest)) (length (c ∷ rest)) (quoted_stands q (c ∷ rest)) (omega arith))

text_stands : (q : ℕ) (text : List ℕ) → StandsIn (length text) (quoted_text q text)
text_stands q [] = tt
text_stands q (b ∷ []) = stands_chosen 1 (b == q) (Some (1, [])) None (omega arith) tt
text_stands q (b ∷ c ∷ rest) =
    let n = length (b ∷ c ∷ rest) in
    stands_chosen n (b == q) (cond (c == q) (with_front 2 (q ∷ []) (quoted_text q rest)) (Some (1, [])))
    (cond (b == 92) (with_front 2 (escaped c) (quoted_text q rest)) (with_front 1 (b ∷ []) (quoted_text q (c ∷ rest))))
    (stands_chosen n (c == q) (with_front 2 (q ∷ []) (quoted_text q rest)) (Some (1, []))
    (stands_later n 2 (q ∷ []) (quoted_text q rest) (length rest) (text_stands q rest) (omega arith))
    (omega arith))
    (stands_chosen n (b == 92) (with_front 2 (escaped c) (quoted_text q rest)) (with_front 1 (b ∷ []) (quoted_text q (c ∷ rest)))
    (stands_later n 2 (escaped c) (quoted_text q rest) (length rest) (text_stands q rest) (omega arith))
    (stands_later n 1 (b ∷ []) (quoted_text q (c ∷ rest)) (length (c ∷ rest)) (text_stands q (c ∷ rest)) (omega arith)))

name_within : (n m : ℕ) (x : Content) → StandsIn m x → m + 1 ≤ n → Within (name_token x) n
name_within n m None h le = tt
name_within n m (Some c) h le =
    chosen n (length c.1 == 0) (Faults BadByte) (cond (nat_lt 64 (length c.1)) (Faults LongName) (Gives (c.0 + 1) (Quoted c.1))) (λ _. tt)
    (λ _. chosen n (nat_lt 64 (length c.1)) (Faults LongName) (Gives (c.0 + 1) (Quoted c.1)) (λ _. tt) (λ _. (omega arith, omega (arith, h, le))))

text_within : (n m : ℕ) (x : Content) → StandsIn m x → m + 1 ≤ n → Within (text_token x) n
text_within n m None h le = tt
text_within n m (Some c) h le =
    chosen n (nat_lt 65535 (length c.1)) (Faults TextTooLong) (Gives (c.0 + 1) (Words c.1)) (λ _. tt) (λ _. (omega arith, omega (arith, h, le)))

-- ---- the front

-- what is equal to so many bytes is there
front_there : (text s : List ℕ) (n : ℕ) → bytes_eq (take n text) s ≡ true → length s ≤ length text
front_there text s n h =
    let e : take n text ≡ s = (bytes_eq-Decides (take n text) s).0 h in
    omega (arith, ap length e, length-take n text)

two_there : (text : List ℕ) → list_any (bytes_eq (take 2 text)) two_signs ≡ true → 2 ≤ length text
two_there text h =
    ⊎_elim (front_there text (codes "<>") 2) (λ h.
    ⊎_elim (front_there text (codes "!=") 2) (λ h.
    ⊎_elim (front_there text (codes "<=") 2) (λ h.
    ⊎_elim (front_there text (codes ">=") 2) (λ h. absurd (ff h))
    (or_cases (bytes_eq (take 2 text) (codes ">=")) false h))
    (or_cases (bytes_eq (take 2 text) (codes "<=")) _ h))
    (or_cases (bytes_eq (take 2 text) (codes "!=")) _ h))
    (or_cases (bytes_eq (take 2 text) (codes "<>")) _ h)
  where
    ff : false ≡ true → ⊥
    ff e = absurd cc

sign_within : (b : ℕ) (bs : List ℕ) → Within (sign_token (b ∷ bs)) (length (b ∷ bs))
sign_within b bs =
    let text = b ∷ bs in
    let n = length text in
    let one = cond (list_any (λ b. bytes_eq (take 1 text) (b ∷ [])) (codes "(),.;*=<>+-/")) (Gives 1 (Sign (take 1 text))) (Faults BadByte) in
    chosen n (list_any (bytes_eq (take 2 text)) two_signs) (Gives 2 (Sign (take 2 text))) one (λ h. (omega arith, two_there text h))
    (λ _. chosen n (list_any (λ b. bytes_eq (take 1 text) (b ∷ [])) (codes "(),.;*=<>+-/")) (Gives 1 (Sign (take 1 text))) (Faults BadByte)
    (λ _. (omega arith, omega arith)) (λ _. tt))

dashed_first : (b : ℕ) (bs : List ℕ) → is_dashed (b ∷ bs) ≡ true → b ≡ 45
dashed_first b [] h = absurd cc
dashed_first b (c ∷ []) h = eqb-true b 45 (and_parts (b == 45) (c == 45) h).0
dashed_first b (c ∷ d ∷ ds) h = eqb-true b 45 (and_parts (b == 45) (c == 45) (and_parts (b == 45 && c == 45) (is_space d) h).0).0

line_first : (b : ℕ) (bs : List ℕ) → (b == 35 || is_dashed (b ∷ bs)) ≡ true → not (b == 10) ≡ true
line_first b bs h =
    ⊎_elim (λ e. let is : b ≡ 35 = eqb-true b 35 e in rw is refl) (λ e. let is : b ≡ 45 = dashed_first b bs e in rw is refl)
    (or_cases (b == 35) (is_dashed (b ∷ bs)) h)

word_goes : (b : ℕ) → begins_word b ≡ true → goes_on_word b ≡ true
word_goes b h = rw h refl

number_within : (n : ℕ) (digits : List ℕ) → (1 ≤ length digits) × (length digits ≤ n) → Within (number_token digits) n
number_within n digits h =
    chosen n (nat_lt (number_from 0 digits) (2 ^ 64)) (Gives (length digits) (Digits (number_from 0 digits))) (Faults NumberTooLarge) (λ _. h) (λ _. tt)

word_within : (n : ℕ) (w : List ℕ) → (1 ≤ length w) × (length w ≤ n) → Within (word_token w) n
word_within n w h = chosen n (nat_lt 64 (length w)) (Faults LongName) (Gives (length w) (Word w)) (λ _. tt) (λ _. h)

pub front_within : (ansi : Bool) (text : List ℕ) → Within (front ansi text) (length text)
front_within ansi [] = tt
front_within ansi (b ∷ bs) =
    let text = b ∷ bs in
    let n = length text in
    chosen n (is_space b) _ _ (λ _. (omega arith, omega arith)) (λ _.
    chosen n (b == 35 || is_dashed text) _ _ (λ h. run_within (λ b. not (b == 10)) b bs (line_first b bs h)) (λ _.
    chosen n (bytes_eq (take 3 text) (codes "/*!")) _ _ (λ _. tt) (λ _.
    chosen n (bytes_eq (take 2 text) (codes "/*")) _ _
    (λ h. comment_within n (comment_bytes (drop 1 bs)) (length (drop 1 bs)) (comment_ends (drop 1 bs)) (omega (arith, length-drop 1 bs, front_there text (codes "/*") 2 h))) (λ _.
    chosen n (begins_word b) _ _ (λ h. word_within n (take_while goes_on_word text) (run_within goes_on_word b bs (word_goes b h))) (λ _.
    chosen n (b == 96 || (ansi && b == 34)) _ _ (λ _. name_within n (length bs) (quoted b bs) (quoted_stands b bs) (omega arith)) (λ _.
    chosen n (b == 39 || b == 34) _ _ (λ _. text_within n (length bs) (quoted_text b bs) (text_stands b bs) (omega arith)) (λ _.
    chosen n (is_digit b) _ _ (λ h. number_within n (take_while is_digit text) (run_within is_digit b bs h)) (λ _.
    sign_within b bs))))))))
