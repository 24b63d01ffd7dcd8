-- The text of an update.
use Rattle.std.proofs.Common.{◌≡◌, ℕ, suc, ◌+◌, ◌<◌, false, List, [], ◌∷◌, ◌++◌, length, refl, sym, ap, ◌∙◌, arith, append_assoc, append-nil, length-append}
use Rattle.std.specs.Prelude.{◌^◌, codes, None, Ok, decimal}
use Rattle.qc_sql.specs.Tokens.{Word, Digits, Sign, Token, Lexed, lexed, lexed_from, with_token, trimmed}
use Rattle.qc_sql.specs.Grammar.{meaning, any_text, from_front, statement_of}
use Rattle.qc_app.specs.workload.Texts.{Means, setting}
use Rattle.qc_app.proofs.workload.Grammar.{readers}
use Rattle.qc_app.proofs.workload.Lexing.{step, step_number, front_of_equals, stays_before_number}
use Rattle.qc_app.proofs.workload.Inserted.{signed_small, token}

abbrev tokens : (first last m p q r s t u v w x y z : ℕ) → List Token
tokens first last m p q r s t u v w x y z =
    token (Word (codes "UPDATE")) 0 6 ∷ token (Word (codes "a")) 7 8 ∷ token (Word (codes "SET")) 9 12 ∷ token (Word (codes "v")) 13 14 ∷ token (Sign (codes "=")) 15 16
    ∷ token (Digits m) 17 p ∷ token (Word (codes "WHERE")) q r ∷ token (Word (codes "id")) s t ∷ token (Word (codes "BETWEEN")) u v ∷ token (Digits first) w x
    ∷ token (Word (codes "AND")) y z ∷ token (Digits last) (z + 1) (z + 1 + length (decimal last)) ∷ []

parsed : (text : List ℕ) (bytes first last m p q r s t u v w x y z : ℕ) → first < 2 ^ 63 → last < 2 ^ 63 → m < 2 ^ 63
    → statement_of bytes (any_text (from_front text (tokens first last m p q r s t u v w x y z, None))) ≡ Ok (setting first last m)
unfolding readers
parsed text bytes first last m p q r s t u v w x y z f h g = rw (signed_small m g, signed_small first f, signed_small last h) refl

-- ---- the tokens

abbrev range : (first last : ℕ) → List ℕ
range first last = codes " WHERE id BETWEEN " ++ (decimal first ++ (codes " AND " ++ decimal last))

abbrev pub text : (first last m : ℕ) → List ℕ
text first last m = codes "UPDATE a SET v = " ++ (decimal m ++ range first last)

fronts : (n : ℕ) (x : List ℕ) → lexed_from (suc (suc (suc (suc (suc (suc (suc (suc n)))))))) false 0 (codes "UPDATE a SET v = " ++ x)
    ≡ with_token (token (Word (codes "UPDATE")) 0 6) (with_token (token (Word (codes "a")) 7 8) (with_token (token (Word (codes "SET")) 9 12) (with_token (token (Word (codes "v")) 13 14) (lexed_from n false 15 (codes "= " ++ x)))))
fronts n x = refl

spaced : (n at : ℕ) (x : List ℕ) → lexed_from (suc n) false at (32 ∷ x) ≡ lexed_from n false (at + 1) x
spaced n at x = refl

where_lexed : (n p : ℕ) (x : List ℕ) →
    let q = p + 1 in let r = q + 5 in let s = r + 1 in let t = s + 2 in let u = t + 1 in let v = u + 7 in
    lexed_from (suc (suc (suc (suc (suc (suc (suc n))))))) false p (codes " WHERE id BETWEEN " ++ x)
    ≡ with_token (token (Word (codes "WHERE")) q r) (with_token (token (Word (codes "id")) s t) (with_token (token (Word (codes "BETWEEN")) u v) (lexed_from n false (v + 1) x)))
where_lexed n p x = refl

and_lexed : (n x : ℕ) (rest : List ℕ) → lexed_from (suc (suc (suc n))) false x (codes " AND " ++ rest) ≡ with_token (token (Word (codes "AND")) (x + 1) (x + 1 + 3)) (lexed_from n false (x + 1 + 3 + 1) rest)
and_lexed n x rest = refl

last_number : (n at k : ℕ) → k < 2 ^ 64 → lexed_from (suc (suc n)) false at (decimal k) ≡ (token (Digits k) at (at + length (decimal k)) ∷ [], None)
last_number n at k h =
    ap (λ (l : List ℕ). lexed_from (suc (suc n)) false at l) (sym (append-nil (decimal k)))
    ∙ step_number (suc n) at k [] h refl

range_lexed : (n p first last : ℕ) → first < 2 ^ 64 → last < 2 ^ 64 →
    let q = p + 1 in let r = q + 5 in let s = r + 1 in let t = s + 2 in let u = t + 1 in let v = u + 7 in let w = v + 1 in let x = w + length (decimal first) in let y = x + 1 in let z = y + 3 in
    lexed_from (suc (suc (suc (suc (suc (suc (suc (suc (suc (suc (suc (suc (suc n))))))))))))) false p (range first last)
    ≡ (
      token (Word (codes "WHERE")) q r ∷ token (Word (codes "id")) s t ∷ token (Word (codes "BETWEEN")) u v ∷ token (Digits first) w x
          ∷ token (Word (codes "AND")) y z ∷ token (Digits last) (z + 1) (z + 1 + length (decimal last)) ∷ [],
      None,
    )
range_lexed n p first last f h =
    let q = p + 1 in let r = q + 5 in let s = r + 1 in let t = s + 2 in let u = t + 1 in let v = u + 7 in let w = v + 1 in let x = w + length (decimal first) in let y = x + 1 in let z = y + 3 in
    where_lexed (suc (suc (suc (suc (suc (suc n)))))) p (decimal first ++ (codes " AND " ++ decimal last))
    ∙ ap (λ (l : Lexed). with_token (token (Word (codes "WHERE")) q r) (with_token (token (Word (codes "id")) s t) (with_token (token (Word (codes "BETWEEN")) u v) l))) (
    step_number (suc (suc (suc (suc (suc n))))) w first (codes " AND " ++ decimal last) f refl
    ∙ ap (with_token (token (Digits first) w x)) (
    and_lexed (suc (suc n)) x (decimal last)
    ∙ ap (with_token (token (Word (codes "AND")) y z)) (last_number n (z + 1) last h)))

fuel : (first last m : ℕ) → length (text first last m) + 1 ≡ (suc (suc (suc (suc (suc (suc (suc (suc (suc (suc (suc (suc (suc (suc (suc (suc (suc (suc (suc (suc (suc (suc (suc (suc (length (decimal m) + 12 + length (decimal first ++ (codes " AND " ++ decimal last)))))))))))))))))))))))))))
fuel first last m = omega (arith, length-append (decimal m) (range first last))

all_tokens : (first last m : ℕ) → first < 2 ^ 64 → last < 2 ^ 64 → m < 2 ^ 64 →
    let p = 17 + length (decimal m) in
    let q = p + 1 in let r = q + 5 in let s = r + 1 in let t = s + 2 in let u = t + 1 in let v = u + 7 in let w = v + 1 in let x = w + length (decimal first) in let y = x + 1 in let z = y + 3 in
    lexed (text first last m) false ≡ (tokens first last m p q r s t u v w x y z, None)
unfolding lexed
all_tokens first last m f h g =
    let n = length (decimal m) + 12 + length (decimal first ++ (codes " AND " ++ decimal last)) in
    let p = 17 + length (decimal m) in
    let rest : List ℕ = range first last in
    ap (λ k. lexed_from k false 0 (text first last m)) (fuel first last m)
    ∙ (fronts (suc (suc (suc (suc (suc (suc (suc (suc (suc (suc (suc (suc (suc (suc (suc (suc (n))))))))))))))))) (decimal m ++ rest)
    ∙ ap (λ (l : Lexed). with_token (token (Word (codes "UPDATE")) 0 6) (with_token (token (Word (codes "a")) 7 8) (with_token (token (Word (codes "SET")) 9 12) (with_token (token (Word (codes "v")) 13 14) l)))) (
    step (suc (suc (suc (suc (suc (suc (suc (suc (suc (suc (suc (suc (suc (suc (suc (n)))))))))))))))) 15 1 (Sign (codes "=")) (codes "= " ++ (decimal m ++ rest)) (32 ∷ (decimal m ++ rest)) (front_of_equals (32 ∷ (decimal m ++ rest))) refl
    ∙ ap (with_token (token (Sign (codes "=")) 15 16)) (
    spaced (suc (suc (suc (suc (suc (suc (suc (suc (suc (suc (suc (suc (suc (suc (n))))))))))))))) 16 (decimal m ++ rest)
    ∙ (step_number (suc (suc (suc (suc (suc (suc (suc (suc (suc (suc (suc (suc (suc (n)))))))))))))) 17 m rest g refl
    ∙ ap (with_token (token (Digits m) 17 p)) (range_lexed n p first last f h)))))

-- ---- the whole

as_front : (first last m : ℕ) → text first last m ≡ 85 ∷ ((codes "PDATE a SET v = " ++ (decimal m ++ (codes " WHERE id BETWEEN " ++ (decimal first ++ codes " AND ")))) ++ decimal last)
as_front first last m =
    let one : decimal first ++ (codes " AND " ++ decimal last) ≡ (decimal first ++ codes " AND ") ++ decimal last = sym (append_assoc (decimal first) (codes " AND ") (decimal last)) in
    let two : decimal m ++ (codes " WHERE id BETWEEN " ++ ((decimal first ++ codes " AND ") ++ decimal last)) ≡ (decimal m ++ (codes " WHERE id BETWEEN " ++ (decimal first ++ codes " AND "))) ++ decimal last =
    sym (append_assoc (decimal m) (codes " WHERE id BETWEEN " ++ (decimal first ++ codes " AND ")) (decimal last)) in
    ap (λ (l : List ℕ). codes "UPDATE a SET v = " ++ (decimal m ++ (codes " WHERE id BETWEEN " ++ l))) one
    ∙ ap (λ (l : List ℕ). codes "UPDATE a SET v = " ++ l) two

kept : (first last m : ℕ) → last < 2 ^ 64 → trimmed (text first last m) ≡ text first last m
kept first last m h = rw (as_front first last m) (stays_before_number 85 (codes "PDATE a SET v = " ++ (decimal m ++ (codes " WHERE id BETWEEN " ++ (decimal first ++ codes " AND ")))) last refl h)

pub updated : (first last m : ℕ) → first < 2 ^ 63 → last < 2 ^ 63 → m < 2 ^ 63 → Means (text first last m) (setting first last m)
unfolding meaning
updated first last m f h g =
    let p = 17 + length (decimal m) in
    let q = p + 1 in let r = q + 5 in let s = r + 1 in let t = s + 2 in let u = t + 1 in let v = u + 7 in let w = v + 1 in let x = w + length (decimal first) in let y = x + 1 in let z = y + 3 in
    ap (λ (l : List ℕ). meaning l false) (kept first last m (omega (arith, h)))
    ∙ (ap (λ (l : Lexed). statement_of (length (text first last m)) (any_text (from_front (text first last m) l))) (all_tokens first last m (omega (arith, f)) (omega (arith, h)) (omega (arith, g)))
    ∙ parsed (text first last m) (length (text first last m)) first last m p q r s t u v w x y z f h g)
