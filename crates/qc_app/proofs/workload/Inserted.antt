-- The text of an insertion.
use Rattle.std.proofs.Common.{◌≡◌, ℕ, suc, ◌+◌, ◌<◌, Bool, true, false, cond, List, [], ◌∷◌, ◌++◌, length, refl, sym, ap, ◌∙◌, arith, append_assoc}
use Rattle.std.specs.Prelude.{◌^◌, codes, None, Ok, decimal, pos}
use Rattle.std.proofs.lemmas.Bool.{lt-ltb}
use Rattle.qc_types.specs.declared.names.Value.TheVariants as value
use Rattle.qc_sql.specs.Database.{Name}
use Rattle.qc_sql.specs.Tokens.{Lexeme, Word, Digits, Sign, Token, Lexed, lexed, lexed_from, with_token, trimmed}
use Rattle.qc_sql.specs.Reading.{pure, refuse}
use Rattle.qc_sql.specs.Grammar.{meaning, any_text, from_front, statement_of, signed}
use Rattle.qc_app.specs.workload.Texts.{Means, insertion}
use Rattle.qc_app.proofs.workload.Grammar.{readers}
use Rattle.qc_app.proofs.workload.Lexing.{step, step_number, front_of_open, front_of_comma, stays}

-- a number that fits is read as it is
pub signed_small : (n : ℕ) → n < 2 ^ 63 → signed false n ≡ pure (value.Int (pos n))
unfolding signed
signed_small n small = ap (λ t. cond t (pure (value.Int (pos n))) (refuse (codes "unsigned"))) (lt-ltb n (2 ^ 63) small)

-- a, or b
abbrev pub name : Bool → Name
name true = codes "a"
name false = codes "b"

abbrev pub token : Lexeme → ℕ → ℕ → Token
token what from to = record { what = what; from = from; to = to }

abbrev tokens : Bool → (key m i j k l : ℕ) → List Token
tokens b key m i j k l =
    token (Word (codes "INSERT")) 0 6 ∷ token (Word (codes "INTO")) 7 11 ∷ token (Word (name b)) 12 13 ∷ token (Word (codes "VALUES")) 14 20 ∷ token (Sign (codes "(")) 21 22
    ∷ token (Digits key) 22 i ∷ token (Sign (codes ",")) i j ∷ token (Digits m) (j + 1) k ∷ token (Sign (codes ")")) k l ∷ []

parsed : (b : Bool) (text : List ℕ) (bytes key m i j k l : ℕ) → key < 2 ^ 63 → m < 2 ^ 63
    → statement_of bytes (any_text (from_front text (tokens b key m i j k l, None))) ≡ Ok (insertion (name b) key m)
unfolding readers
parsed true text bytes key m i j k l h g = rw (signed_small key h, signed_small m g) refl
parsed false text bytes key m i j k l h g = rw (signed_small key h, signed_small m g) refl

-- ---- the tokens

abbrev numbers : (key m : ℕ) → List ℕ
numbers key m = decimal key ++ (codes ", " ++ (decimal m ++ codes ")"))

abbrev pub text : Bool → (key m : ℕ) → List ℕ
text b key m = codes "INSERT INTO " ++ (name b ++ (codes " VALUES (" ++ numbers key m))

-- up to the bracket
fronts : (b : Bool) (n : ℕ) (x : List ℕ) → lexed_from (suc (suc (suc (suc (suc (suc (suc (suc n)))))))) false 0 (codes "INSERT INTO " ++ (name b ++ (codes " VALUES (" ++ x)))
    ≡ with_token (token (Word (codes "INSERT")) 0 6) (with_token (token (Word (codes "INTO")) 7 11) (with_token (token (Word (name b)) 12 13) (with_token (token (Word (codes "VALUES")) 14 20) (lexed_from n false 21 (40 ∷ x)))))
fronts true n x = refl
fronts false n x = refl

closed : (n at : ℕ) → lexed_from (suc (suc n)) false at (codes ")") ≡ (token (Sign (codes ")")) at (at + 1) ∷ [], None)
closed n at = refl

spaced : (n at : ℕ) (x : List ℕ) → lexed_from (suc n) false at (32 ∷ x) ≡ lexed_from n false (at + 1) x
spaced n at x = refl

-- from the bracket on
behind : (n key m : ℕ) → key < 2 ^ 64 → m < 2 ^ 64 →
    let i = 22 + length (decimal key) in
    let k = i + 1 + 1 + length (decimal m) in
    lexed_from (suc (suc (suc (suc (suc (suc (suc n))))))) false 21 (40 ∷ numbers key m)
    ≡ (token (Sign (codes "(")) 21 22 ∷ token (Digits key) 22 i ∷ token (Sign (codes ",")) i (i + 1) ∷ token (Digits m) (i + 1 + 1) k ∷ token (Sign (codes ")")) k (k + 1) ∷ [], None)
behind n key m h g =
    let x1 : List ℕ = codes ", " ++ (decimal m ++ codes ")") in
    let x2 : List ℕ = decimal m ++ codes ")" in
    let i = 22 + length (decimal key) in
    let k = i + 1 + 1 + length (decimal m) in
    step (suc (suc (suc (suc (suc (suc n)))))) 21 1 (Sign (codes "(")) (40 ∷ numbers key m) (numbers key m) (front_of_open (numbers key m)) refl
    ∙ ap (with_token (token (Sign (codes "(")) 21 22)) (
    step_number (suc (suc (suc (suc (suc n))))) 22 key x1 h refl
    ∙ ap (with_token (token (Digits key) 22 i)) (
    step (suc (suc (suc (suc n)))) i 1 (Sign (codes ",")) x1 (32 ∷ x2) (front_of_comma (32 ∷ x2)) refl
    ∙ ap (with_token (token (Sign (codes ",")) i (i + 1))) (
    spaced (suc (suc (suc n))) (i + 1) x2
    ∙ (step_number (suc (suc n)) (i + 1 + 1) m (codes ")") g refl
    ∙ ap (with_token (token (Digits m) (i + 1 + 1) k)) (closed n k)))))

fuel : (b : Bool) (key m : ℕ) → length (text b key m) + 1 ≡ suc (suc (suc (suc (suc (suc (suc (suc (suc (suc (suc (suc (suc (suc (suc (8 + length (numbers key m))))))))))))))))
fuel true key m = omega arith
fuel false key m = omega arith

all_tokens : (b : Bool) (key m : ℕ) → key < 2 ^ 64 → m < 2 ^ 64 →
    let i = 22 + length (decimal key) in
    let k = i + 1 + 1 + length (decimal m) in
    lexed (text b key m) false ≡ (tokens b key m i (i + 1) k (k + 1), None)
unfolding lexed
all_tokens b key m h g =
    ap (λ n. lexed_from n false 0 (text b key m)) (fuel b key m)
    ∙ (fronts b (suc (suc (suc (suc (suc (suc (suc (8 + length (numbers key m))))))))) (numbers key m)
    ∙ ap (λ (l : Lexed). with_token (token (Word (codes "INSERT")) 0 6) (with_token (token (Word (codes "INTO")) 7 11) (with_token (token (Word (name b)) 12 13) (with_token (token (Word (codes "VALUES")) 14 20) l))))
    (behind (8 + length (numbers key m)) key m h g))

-- ---- the whole

-- a text as its front and its last byte
last_of : (b : Bool) (key m : ℕ) → text b key m ≡ (codes "INSERT INTO " ++ (name b ++ (codes " VALUES (" ++ (decimal key ++ (codes ", " ++ decimal m))))) ++ codes ")"
last_of b key m =
    let two : numbers key m ≡ (decimal key ++ (codes ", " ++ decimal m)) ++ codes ")" = sym (append_assoc (decimal key) (codes ", " ++ decimal m) (codes ")")) in
    ap (λ (l : List ℕ). codes "INSERT INTO " ++ (name b ++ (codes " VALUES (" ++ l))) two ∙ by b
  where
    by : (c : Bool) → codes "INSERT INTO " ++ (name c ++ (codes " VALUES (" ++ ((decimal key ++ (codes ", " ++ decimal m)) ++ codes ")")))
        ≡ (codes "INSERT INTO " ++ (name c ++ (codes " VALUES (" ++ (decimal key ++ (codes ", " ++ decimal m))))) ++ codes ")"
    by true = refl
    by false = refl

kept : (b : Bool) (key m : ℕ) → trimmed (text b key m) ≡ text b key m
kept b key m = stays 73 41 _ (codes "INSERT INTO " ++ (name b ++ (codes " VALUES (" ++ (decimal key ++ (codes ", " ++ decimal m))))) (last_of b key m) refl refl

pub inserted : (b : Bool) (key m : ℕ) → key < 2 ^ 63 → m < 2 ^ 63 → Means (text b key m) (insertion (name b) key m)
unfolding meaning
inserted b key m h g =
    let i = 22 + length (decimal key) in
    let k = i + 1 + 1 + length (decimal m) in
    ap (λ (t : List ℕ). meaning t false) (kept b key m)
    ∙ (ap (λ (l : Lexed). statement_of (length (text b key m)) (any_text (from_front (text b key m) l))) (all_tokens b key m (omega (arith, h)) (omega (arith, g)))
    ∙ parsed b (text b key m) (length (text b key m)) key m i (i + 1) k (k + 1) h g)
