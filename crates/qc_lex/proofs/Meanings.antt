-- What stands in front is what its own bytes mean.
use Rattle.std.proofs.Common.{◌≡◌, ℕ, suc, ◌+◌, Bool, true, false, cond, List, [], ◌∷◌, length, take, drop, Option, Some, None, refl, sym, ap, ◌∙◌, arith}
use Rattle.std.specs.Prelude.{◌&&◌, ◌||◌, ◌==◌, ◌^◌, nat_lt, bytes_eq, codes, take_while, option_map}
use Rattle.std.specs.List.{list_any}
use Rattle.std.proofs.lemmas.List.Folds.{length-prefix_len}
use Rattle.qc_sql.specs.Tokens.{Front, Ends, Skips, Gives, Faults, Content, front, is_space, is_digit, is_dashed, begins_word, goes_on_word, comment, comment_bytes, quoted, quoted_text, escaped, with_front, BadByte, LongName, TextTooLong, NumberTooLarge, Quoted, Words, Word, Digits, Sign, name_token, text_token, word_token, number_token, number_from, sign_token, two_signs}
use Rattle.qc_lex.specs.Fronts.{below_2_to_64}
use Rattle.qc_lex.specs.Laws.{Means}
use Rattle.qc_lex.specs.Pieces.{inside}

-- the token in front, if there is one, is what its bytes mean
abbrev pub Reads : Front → List ℕ → Type 0
Reads Ends text = Unit {0}
Reads (Skips k) text = Unit {0}
Reads (Gives k what) text = Means what (take k text)
Reads (Faults f) text = Unit {0}

either : (text : List ℕ) (t : Bool) (x y : Front) → Reads x text → Reads y text → Reads (cond t x y) text
either text true x y f g = f
either text false x y f g = g

known : (text : List ℕ) (t : Bool) (x y : Front) → (t ≡ true → Reads x text) → Reads y text → Reads (cond t x y) text
known text true x y f g = f refl
known text false x y f g = g

-- ---- runs of bytes

run_is : (p : ℕ → Bool) (text : List ℕ) → take_while p text ≡ take (length (take_while p text)) text
run_is p text = ap (λ n. take n text) (sym (length-prefix_len p text))

word_reads : (w text : List ℕ) → w ≡ take (length w) text → Reads (word_token w) text
word_reads w text e = either text (nat_lt 64 (length w)) (Faults LongName) (Gives (length w) (Word w)) tt e

number_reads : (digits text : List ℕ) → digits ≡ take (length digits) text → Reads (number_token digits) text
number_reads digits text e =
    let n = number_from 0 digits in
    known text (nat_lt n (2 ^ 64)) (Gives (length digits) (Digits n)) (Faults NumberTooLarge)
    (λ h. ap (λ ds. below_2_to_64 (number_from 0 ds)) (sym e) ∙ ap (λ t. cond t (Some n) None) h) tt

sign_reads : (text : List ℕ) → Reads (sign_token text) text
sign_reads text =
    let one = cond (list_any (λ b. bytes_eq (take 1 text) (b ∷ [])) (codes "(),.;*=<>+-/")) (Gives 1 (Sign (take 1 text))) (Faults BadByte) in
    either text (list_any (bytes_eq (take 2 text)) two_signs) (Gives 2 (Sign (take 2 text))) one refl
    (either text (list_any (λ b. bytes_eq (take 1 text) (b ∷ [])) (codes "(),.;*=<>+-/")) (Gives 1 (Sign (take 1 text))) (Faults BadByte) refl tt)

comment_reads : (x : Option ℕ) (text : List ℕ) → Reads (comment x) text
comment_reads None text = tt
comment_reads (Some k) text = tt

-- ---- between quotes

-- what a text is read as, it is read as up to the closing quote too
abbrev Again : (List ℕ → Content) → List ℕ → Content → Type 0
Again f text None = Unit {0}
Again f text (Some c) = f (take c.0 text) ≡ Some c

again_chosen : (f : List ℕ → Content) (text : List ℕ) (t : Bool) (x y : Content) → (t ≡ true → Again f text x) → (t ≡ false → Again f text y) → Again f text (cond t x y)
again_chosen f text true x y g h = g refl
again_chosen f text false x y g h = h refl

-- two bytes, and what is behind them
again_two : (f : List ℕ → Content) (b c : ℕ) (rest front : List ℕ) (x : Content) → ((text : List ℕ) → f (b ∷ c ∷ text) ≡ with_front 2 front (f text)) → Again f rest x
    → Again f (b ∷ c ∷ rest) (with_front 2 front x)
again_two f b c rest front None step h = tt
again_two f b c rest front (Some x) step h =
    let e : x.0 + 2 ≡ suc (suc x.0) = omega arith in
    ap f (ap (λ n. take n (b ∷ c ∷ rest)) e) ∙ step (take x.0 rest) ∙ ap (with_front 2 front) h

-- one byte, and what is behind it
again_one : (f : List ℕ → Content) (b : ℕ) (rest front : List ℕ) (x : Content) → f [] ≡ None → ((c : ℕ) (text : List ℕ) → f (b ∷ c ∷ text) ≡ with_front 1 front (f (c ∷ text))) → Again f rest x
    → Again f (b ∷ rest) (with_front 1 front x)
again_one f b rest front None empty step h = tt
again_one f b rest front (Some x) empty step h =
    let e : x.0 + 1 ≡ suc x.0 = omega arith in
    ap f (ap (λ n. take n (b ∷ rest)) e) ∙ by (take x.0 rest) h
  where
    by : (text : List ℕ) → f text ≡ Some x → f (b ∷ text) ≡ with_front 1 front (Some x)
    by [] g = absurd (none_some (sym empty ∙ g))
      where
        none_some : ◌≡◌ {A = Content} None (Some x) → ⊥
        none_some g = absurd cc
    by (c ∷ text) g = step c text ∙ ap (with_front 1 front) g

-- the closing quote
module _ (q : ℕ) where
  quoted_again : (text : List ℕ) → Again (quoted q) text (quoted q text)
  quoted_again [] = tt
  quoted_again (b ∷ []) = again_chosen (quoted q) (b ∷ []) (b == q) (Some (1, [])) None (λ h. rw h refl) (λ h. tt)
  quoted_again (b ∷ c ∷ rest) =
      let text = b ∷ c ∷ rest in
      again_chosen (quoted q) text (b == q) (cond (c == q) (with_front 2 (q ∷ []) (quoted q rest)) (Some (1, []))) (with_front 1 (b ∷ []) (quoted q (c ∷ rest)))
      (λ h. again_chosen (quoted q) text (c == q) (with_front 2 (q ∷ []) (quoted q rest)) (Some (1, []))
      (λ g. again_two (quoted q) b c rest (q ∷ []) (quoted q rest) (λ later. rw (h, g) refl) (quoted_again rest))
      (λ g. rw h refl))
      (λ h. again_one (quoted q) b (c ∷ rest) (b ∷ []) (quoted q (c ∷ rest)) refl (λ d later. rw h refl) (quoted_again (c ∷ rest)))

  text_again : (text : List ℕ) → Again (quoted_text q) text (quoted_text q text)
  text_again [] = tt
  text_again (b ∷ []) = again_chosen (quoted_text q) (b ∷ []) (b == q) (Some (1, [])) None (λ h. rw h refl) (λ h. tt)
  text_again (b ∷ c ∷ rest) =
      let text = b ∷ c ∷ rest in
      again_chosen (quoted_text q) text (b == q) (cond (c == q) (with_front 2 (q ∷ []) (quoted_text q rest)) (Some (1, [])))
      (cond (b == 92) (with_front 2 (escaped c) (quoted_text q rest)) (with_front 1 (b ∷ []) (quoted_text q (c ∷ rest))))
      (λ h. again_chosen (quoted_text q) text (c == q) (with_front 2 (q ∷ []) (quoted_text q rest)) (Some (1, []))
      (λ g. again_two (quoted_text q) b c rest (q ∷ []) (quoted_text q rest) (λ later. rw (h, g) refl) (text_again rest))
      (λ g. rw h refl))
      (λ h. again_chosen (quoted_text q) text (b == 92) (with_front 2 (escaped c) (quoted_text q rest)) (with_front 1 (b ∷ []) (quoted_text q (c ∷ rest)))
      (λ g. again_two (quoted_text q) b c rest (escaped c) (quoted_text q rest) (λ later. rw (h, g) refl) (text_again rest))
      (λ g. again_one (quoted_text q) b (c ∷ rest) (b ∷ []) (quoted_text q (c ∷ rest)) refl (λ d later. rw (h, g) refl) (text_again (c ∷ rest))))

  name_reads : (text : List ℕ) (x : Content) → Again (quoted q) text x → Reads (name_token x) (q ∷ text)
  name_reads text None h = tt
  name_reads text (Some c) h =
      let e : c.0 + 1 ≡ suc c.0 = omega arith in
      let there : inside false (take (c.0 + 1) (q ∷ text)) ≡ Some c.1 = rw e (ap (λ (y : Content). option_map (λ z. z.1) y) h) in
      either (q ∷ text) (length c.1 == 0) (Faults BadByte) (cond (nat_lt 64 (length c.1)) (Faults LongName) (Gives (c.0 + 1) (Quoted c.1))) tt
      (either (q ∷ text) (nat_lt 64 (length c.1)) (Faults LongName) (Gives (c.0 + 1) (Quoted c.1)) tt there)

  text_reads : (text : List ℕ) (x : Content) → Again (quoted_text q) text x → Reads (text_token x) (q ∷ text)
  text_reads text None h = tt
  text_reads text (Some c) h =
      let e : c.0 + 1 ≡ suc c.0 = omega arith in
      let there : inside true (take (c.0 + 1) (q ∷ text)) ≡ Some c.1 = rw e (ap (λ (y : Content). option_map (λ z. z.1) y) h) in
      either (q ∷ text) (nat_lt 65535 (length c.1)) (Faults TextTooLong) (Gives (c.0 + 1) (Words c.1)) tt there

-- ---- the front

pub front_reads : (ansi : Bool) (text : List ℕ) → Reads (front ansi text) text
front_reads ansi [] = tt
front_reads ansi (b ∷ bs) =
    let text = b ∷ bs in
    either text (is_space b) _ _ tt
    (either text (b == 35 || is_dashed text) _ _ tt
    (either text (bytes_eq (take 3 text) (codes "/*!")) _ _ tt
    (either text (bytes_eq (take 2 text) (codes "/*")) _ _ (comment_reads (comment_bytes (drop 1 bs)) text)
    (either text (begins_word b) _ _ (word_reads (take_while goes_on_word text) text (run_is goes_on_word text))
    (either text (b == 96 || (ansi && b == 34)) _ _ (name_reads b bs (quoted b bs) (quoted_again b bs))
    (either text (b == 39 || b == 34) _ _ (text_reads b bs (quoted_text b bs) (text_again b bs))
    (either text (is_digit b) _ _ (number_reads (take_while is_digit text) text (run_is is_digit text))
    (sign_reads text))))))))
