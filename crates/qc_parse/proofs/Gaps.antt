-- White space and comments between tokens make no other tokens.
use Rattle.std.proofs.Common.{◌≡◌, ℕ, zero, suc, ◌+◌, Bool, true, false, cond, List, [], ◌∷◌, ◌++◌, length, drop, Option, Some, None, refl, sym, ap, ◌∙◌, append_assoc}
use Rattle.std.specs.Prelude.{◌&&◌, ◌||◌, ◌==◌, ◌^◌, codes, nat_lt, bytes_eq, take, take_while, option_map}
use Rattle.std.specs.List.{list_any}
use Rattle.qc_sql.specs.Tokens.{Front, Ends, Skips, Gives, Faults, Lexeme, Words, Quoted, Word, Digits, Sign, LexFault, BadByte, NumberTooLarge, TextTooLong, LongName, Executable, Lexed, Content, front, goes_on, lexed, lexed_from, is_space, is_dashed, is_digit, begins_word, goes_on_word, line_bytes, comment, comment_bytes, quoted, quoted_text, name_token, text_token, word_token, number_token, number_from, sign_token, two_signs, lexemes}
use Rattle.qc_parse.specs.Laws.{kind, Lexes, nothing, skip, token, GapsDoNotMatter}
use Rattle.qc_lex.proofs.LexLoop.{lexed_at, lexed_first}
use Rattle.qc_parse.proofs.Alike.{tokens_decide}

-- ---- faults are of one kind at all places

abbrev Kinded : Front → Type 0
Kinded (Faults f) = (a b : ℕ) → kind (f a) ≡ kind (f b)
Kinded _ = Unit {0}

chosen : (t : Bool) (x y : Front) → Kinded x → Kinded y → Kinded (cond t x y)
chosen true x y h g = h
chosen false x y h g = g

comment_kinded : (n : Option ℕ) → Kinded (comment n)
comment_kinded None = λ a b. refl
comment_kinded (Some n) = tt

name_kinded : (c : Content) → Kinded (name_token c)
name_kinded None = λ a b. refl
name_kinded (Some c) = chosen (length c.1 == 0) (Faults BadByte) (cond (nat_lt 64 (length c.1)) (Faults LongName) (Gives (c.0 + 1) (Quoted c.1))) (λ a b. refl)
    (chosen (nat_lt 64 (length c.1)) (Faults LongName) (Gives (c.0 + 1) (Quoted c.1)) (λ a b. refl) tt)

text_kinded : (c : Content) → Kinded (text_token c)
text_kinded None = λ a b. refl
text_kinded (Some c) = chosen (nat_lt 65535 (length c.1)) (Faults TextTooLong) (Gives (c.0 + 1) (Words c.1)) (λ a b. refl) tt

word_kinded : (w : List ℕ) → Kinded (word_token w)
word_kinded w = chosen (nat_lt 64 (length w)) (Faults LongName) (Gives (length w) (Word w)) (λ a b. refl) tt

number_kinded : (ds : List ℕ) → Kinded (number_token ds)
number_kinded ds = chosen (nat_lt (number_from 0 ds) (2 ^ 64)) (Gives (length ds) (Digits (number_from 0 ds))) (Faults NumberTooLarge) tt (λ a b. refl)

sign_kinded : (text : List ℕ) → Kinded (sign_token text)
sign_kinded text =
    chosen (list_any (bytes_eq (take 2 text)) two_signs) (Gives 2 (Sign (take 2 text))) (cond (list_any (λ b. bytes_eq (take 1 text) (b ∷ [])) (codes "(),.;*=<>+-/")) (Gives 1 (Sign (take 1 text))) (Faults BadByte)) tt
    (chosen (list_any (λ b. bytes_eq (take 1 text) (b ∷ [])) (codes "(),.;*=<>+-/")) (Gives 1 (Sign (take 1 text))) (Faults BadByte) tt (λ a b. refl))

front_kinded : (ansi : Bool) (text : List ℕ) → Kinded (front ansi text)
front_kinded ansi [] = tt
front_kinded ansi (b ∷ rest) =
    chosen (is_space b) (Skips 1) _ tt
    (chosen (b == 35 || is_dashed (b ∷ rest)) (Skips (line_bytes (b ∷ rest))) _ tt
    (chosen (bytes_eq (take 3 (b ∷ rest)) (codes "/*!")) (Faults Executable) _ (λ c d. refl)
    (chosen (bytes_eq (take 2 (b ∷ rest)) (codes "/*")) (comment (comment_bytes (drop 1 rest))) _ (comment_kinded (comment_bytes (drop 1 rest)))
    (chosen (begins_word b) (word_token (take_while goes_on_word (b ∷ rest))) _ (word_kinded (take_while goes_on_word (b ∷ rest)))
    (chosen (b == 96 || (ansi && b == 34)) (name_token (quoted b rest)) _ (name_kinded (quoted b rest))
    (chosen (b == 39 || b == 34) (text_token (quoted_text b rest)) _ (text_kinded (quoted_text b rest))
    (chosen (is_digit b) (number_token (take_while is_digit (b ∷ rest))) _ (number_kinded (take_while is_digit (b ∷ rest))) (sign_kinded (b ∷ rest)))))))))

-- ---- what is told of tokens without their places

abbrev Told : Type 0
Told = List Lexeme × Option LexFault

abbrev told : Lexed → Told
told all = (lexemes all.0, option_map kind all.1)

abbrev in_front : List Lexeme → Told → Told
in_front ls t = (ls ++ t.0, t.1)

abbrev on : Front → (ℕ → Told) → Told
on Ends later = ([], None)
on (Skips k) later = later k
on (Gives k what) later = (what ∷ (later k).0, (later k).1)
on (Faults f) later = ([], Some (kind (f 0)))

told_on : (f : Front) (at : ℕ) (later : ℕ → Lexed) → Kinded f → told (goes_on f at later) ≡ on f (λ k. told (later k))
told_on Ends at later h = refl
told_on (Skips k) at later h = refl
told_on (Gives k what) at later h = refl
told_on (Faults f) at later h = ap (λ x. ([], Some x)) (h at 0)

on_same : (f : Front) (later other : ℕ → Told) → ((k : ℕ) → later k ≡ other k) → on f later ≡ on f other
on_same Ends later other h = refl
on_same (Skips k) later other h = h k
on_same (Gives k what) later other h = ap (in_front (what ∷ [])) (h k)
on_same (Faults f) later other h = refl

anywhere : (n : ℕ) (ansi : Bool) (at there : ℕ) (text : List ℕ) → told (lexed_from n ansi at text) ≡ told (lexed_from n ansi there text)
anywhere zero ansi at there text = refl
anywhere (suc n) ansi at there text =
    told_on (front ansi text) at (λ k. lexed_from n ansi (at + k) (drop k text)) (front_kinded ansi text)
    ∙ on_same (front ansi text) (λ k. told (lexed_from n ansi (at + k) (drop k text))) (λ k. told (lexed_from n ansi (there + k) (drop k text))) (λ k. anywhere n ansi (at + k) (there + k) (drop k text))
    ∙ sym (told_on (front ansi text) there (λ k. lexed_from n ansi (there + k) (drop k text)) (front_kinded ansi text))

abbrev of_text : Bool → List ℕ → Told
of_text ansi text = told (lexed_at ansi 0 text)

behind_first : (p x : List ℕ) → drop (length p) (p ++ x) ≡ x
behind_first [] x = refl
behind_first (b ∷ p) x = behind_first p x

first_told : (ansi : Bool) (text : List ℕ) → of_text ansi text ≡ on (front ansi text) (λ k. of_text ansi (drop k text))
first_told ansi text =
    ap told (lexed_first ansi 0 text) ∙ told_on (front ansi text) 0 (λ k. lexed_at ansi (0 + k) (drop k text)) (front_kinded ansi text)
    ∙ on_same (front ansi text) (λ k. told (lexed_at ansi (0 + k) (drop k text))) (λ k. of_text ansi (drop k text)) (λ k. anywhere (length (drop k text) + 1) ansi (0 + k) 0 (drop k text))

skipped : (ansi : Bool) (p x : List ℕ) → front ansi (p ++ x) ≡ Skips (length p) → of_text ansi (p ++ x) ≡ of_text ansi x
skipped ansi p x e = first_told ansi (p ++ x) ∙ ap (λ f. on f (λ k. of_text ansi (drop k (p ++ x)))) e ∙ ap (of_text ansi) (behind_first p x)

given : (ansi : Bool) (p x : List ℕ) (l : Lexeme) → front ansi (p ++ x) ≡ Gives (length p) l → of_text ansi (p ++ x) ≡ on (Gives 0 l) (λ k. of_text ansi x)
given ansi p x l e = first_told ansi (p ++ x) ∙ ap (λ f. on f (λ k. of_text ansi (drop k (p ++ x)))) e ∙ ap (λ t. on (Gives 0 l) (λ k. of_text ansi t)) (behind_first p x)

by_parts : (ansi : Bool) (y x : List ℕ) (ls : List Lexeme) → Lexes ansi y x ls → of_text ansi (x ++ y) ≡ in_front ls (of_text ansi y)
by_parts ansi y _ _ nothing = refl
by_parts ansi y _ ls (skip p x e h) = rw append_assoc (skipped ansi p (x ++ y) e ∙ by_parts ansi y x ls h)
by_parts ansi y _ _ (token p x {l = l} {ls = ls} e h) = rw append_assoc (given ansi p (x ++ y) l e ∙ ap (λ t. in_front (l ∷ []) t) (by_parts ansi y x ls h))

pub gaps_do_not_matter : GapsDoNotMatter
unfolding lexed
gaps_do_not_matter ansi x gap y ls e h g =
    let same : of_text ansi (x ++ (gap ++ y)) ≡ of_text ansi (x ++ y) =
    by_parts ansi (gap ++ y) x ls h ∙ ap (in_front ls) (skipped ansi gap y e) ∙ sym (by_parts ansi y x ls g) in
    tokens_decide ansi (x ++ (gap ++ y)) (x ++ y) (ap (λ t. t.0) same, ap (λ t. t.1) same)
