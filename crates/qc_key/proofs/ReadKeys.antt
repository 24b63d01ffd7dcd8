-- What is read of a key has its bytes.
use Rattle.std.proofs.Common.{◌≡◌, ℕ, List, ◌∷◌, ◌++◌, length, take, drop, ap, ◌∙◌, append_assoc}
use Rattle.std.proofs.lemmas.List.{take-append-drop}
use Rattle.qc_sql.specs.declared.session.Flags.{Flags}
use Rattle.qc_sql.specs.Keys.{flag_bytes, key_bytes}

-- bytes that were cut in two, so many in front
pub record IsCut (bytes : List ℕ) (count : ℕ) (prefix rest : List ℕ) : Type 0 where
  pub prefix_is : prefix ≡ take count bytes
  pub rest_is : rest ≡ drop count bytes

joined : (bytes : List ℕ) (count : ℕ) (prefix rest : List ℕ) → IsCut bytes count prefix rest → prefix ++ rest ≡ bytes
joined bytes count prefix rest cut =
    ap (λ (xs : List ℕ). xs ++ rest) cut.prefix_is ∙ ap (λ (xs : List ℕ). take count bytes ++ xs) cut.rest_is ∙ take-append-drop count bytes

pub key_bytes_again : (flags : Flags) (size : ℕ) (behind db from_flags prefix text : List ℕ) → length db ≡ size → IsCut behind size db from_flags → IsCut from_flags 15 prefix text
    → flag_bytes flags ≡ prefix → key_bytes flags db text ≡ size ∷ behind
key_bytes_again flags size behind db from_flags prefix text sizes name flag read =
    let tail : flag_bytes flags ++ text ≡ from_flags = ap (λ (xs : List ℕ). xs ++ text) read ∙ joined from_flags 15 prefix text flag in
    ap (λ (xs : List ℕ). length db ∷ xs) (append_assoc db (flag_bytes flags) text ∙ ap (λ (xs : List ℕ). db ++ xs) tail ∙ joined behind size db from_flags name)
    ∙ ap (λ (n : ℕ). n ∷ behind) sizes
