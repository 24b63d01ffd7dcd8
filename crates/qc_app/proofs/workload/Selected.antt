-- The text of a select of one row.
use Rattle.std.proofs.Common.{◌≡◌, ℕ, suc, ◌+◌, ◌<◌, false, List, [], ◌∷◌, ◌++◌, length, refl, sym, ap, ◌∙◌, arith, append-nil}
use Rattle.std.specs.Prelude.{◌^◌, codes, None, Ok, decimal}
use Rattle.qc_sql.specs.declared.statements.Statement.TheVariants as statement
use Rattle.qc_sql.specs.Tokens.{Word, Digits, Sign, Token, Lexed, lexed, lexed_from, with_token}
use Rattle.qc_sql.specs.Grammar.{meaning, any_text, from_front, statement_of}
use Rattle.qc_app.specs.workload.Texts.{Means, row_of_a}
use Rattle.qc_app.proofs.workload.Grammar.{readers}
use Rattle.qc_app.proofs.workload.Lexing.{step, step_number, front_of_equals, stays_before_number}
use Rattle.qc_app.proofs.workload.Inserted.{signed_small, token}

abbrev pub text : ℕ → List ℕ
text key = codes "SELECT id, v FROM a WHERE id = " ++ decimal key

-- in front of the number's sign
abbrev tokens : List Token → List Token
tokens rest =
    token (Word (codes "SELECT")) 0 6 ∷ token (Word (codes "id")) 7 9 ∷ token (Sign (codes ",")) 9 10 ∷ token (Word (codes "v")) 11 12 ∷ token (Word (codes "FROM")) 13 17 ∷ token (Word (codes "a")) 18 19
    ∷ token (Word (codes "WHERE")) 20 25 ∷ token (Word (codes "id")) 26 28 ∷ rest

abbrev all : ℕ → ℕ → List Token
all key p = tokens (token (Sign (codes "=")) 29 30 ∷ token (Digits key) 31 p ∷ [])

parsed : (digits : List ℕ) (bytes key p : ℕ) → key < 2 ^ 63
    → statement_of bytes (any_text (from_front (codes "SELECT id, v FROM a WHERE id = " ++ digits) (all key p, None))) ≡ Ok (statement.Select (row_of_a key))
unfolding readers
parsed digits bytes key p h = rw (signed_small key h) refl

fronts : (n : ℕ) (x : List ℕ) → lexed_from (suc (suc (suc (suc (suc (suc (suc (suc (suc (suc (suc (suc (suc (suc (suc (n)))))))))))))))) false 0 (codes "SELECT id, v FROM a WHERE id = " ++ x)
    ≡ (tokens (lexed_from n false 29 (codes "= " ++ x)).0, (lexed_from n false 29 (codes "= " ++ x)).1)
fronts n x = refl

behind : (n key : ℕ) → key < 2 ^ 64 → lexed_from (suc (suc (suc (suc n)))) false 29 (codes "= " ++ decimal key) ≡ (token (Sign (codes "=")) 29 30 ∷ token (Digits key) 31 (31 + length (decimal key)) ∷ [], None)
behind n key h =
    step (suc (suc (suc n))) 29 1 (Sign (codes "=")) (codes "= " ++ decimal key) (32 ∷ decimal key) (front_of_equals (32 ∷ decimal key)) refl
    ∙ ap (with_token (token (Sign (codes "=")) 29 30)) (
    spaced (suc (suc n)) 30 (decimal key)
    ∙ (ap (λ (l : List ℕ). lexed_from (suc (suc n)) false 31 l) (sym (append-nil (decimal key)))
    ∙ step_number (suc n) 31 key [] h refl))
  where
    spaced : (k at : ℕ) (x : List ℕ) → lexed_from (suc k) false at (32 ∷ x) ≡ lexed_from k false (at + 1) x
    spaced k at x = refl

fuel : (key : ℕ) → length (text key) + 1 ≡ (suc (suc (suc (suc (suc (suc (suc (suc (suc (suc (suc (suc (suc (suc (suc (suc (suc (suc (suc (13 + length (decimal key)))))))))))))))))))))
fuel key = omega arith

all_tokens : (key : ℕ) → key < 2 ^ 64 → lexed (text key) false ≡ (all key (31 + length (decimal key)), None)
unfolding lexed
all_tokens key h =
    ap (λ k. lexed_from k false 0 (text key)) (fuel key)
    ∙ (fronts (suc (suc (suc (suc (13 + length (decimal key)))))) (decimal key)
    ∙ ap (λ (l : Lexed). (tokens l.0, l.1)) (behind (13 + length (decimal key)) key h))

pub selected : (key : ℕ) → key < 2 ^ 63 → Means (text key) (statement.Select (row_of_a key))
unfolding meaning
selected key h =
    ap (λ (l : List ℕ). meaning l false) (stays_before_number 83 (codes "ELECT id, v FROM a WHERE id = ") key refl (omega (arith, h)))
    ∙ (ap (λ (l : Lexed). statement_of (length (text key)) (any_text (from_front (text key) l))) (all_tokens key (omega (arith, h)))
    ∙ parsed (decimal key) (length (text key)) key (31 + length (decimal key)) h)
