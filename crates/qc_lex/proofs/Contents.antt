-- What stands between quotes, as loops read it.
use Rattle.std.proofs.Common.{◌≡◌, ℕ, ◌+◌, ◌-◌, Bool, List, ◌++◌, length, take, drop, Option, Some, None, refl, sym, ap, ◌∙◌, arith, append_assoc, length-append}
use Rattle.std.specs.Prelude.{option_map}
use Rattle.std.proofs.lemmas.List.{take_rest}
use Rattle.qc_sql.specs.Tokens.{Content, with_front}
use Rattle.qc_lex.specs.Pieces.{content, measured}

abbrev pub added : ℕ → ℕ → Option (ℕ × ℕ) → Option (ℕ × ℕ)
added bytes meant m = option_map (λ x. (bytes + x.0, meant + x.1)) m

abbrev pub meant_of : Content → Option (List ℕ)
meant_of content = option_map (λ c. c.1) content

abbrev pub meant_behind : List ℕ → Content → Option (List ℕ)
meant_behind bytes content = option_map (λ c. bytes ++ c.1) content

pub added_zero : (m : Option (ℕ × ℕ)) → added 0 0 m ≡ m
added_zero None = refl
added_zero (Some m) =
    let e : 0 + m.0 ≡ m.0 = omega arith in
    let f : 0 + m.1 ≡ m.1 = omega arith in
    rw (e, f) refl

measured_front : (bytes meant n : ℕ) (front : List ℕ) (c : Content)
    → added bytes meant (measured (with_front n front c)) ≡ added (bytes + n) (meant + length front) (measured c)
measured_front bytes meant n front None = refl
measured_front bytes meant n front (Some c) =
    let e : bytes + (c.0 + n) ≡ bytes + n + c.0 = omega arith in
    let f : meant + length (front ++ c.1) ≡ meant + length front + length c.1 = omega (arith, length-append front c.1) in
    rw (e, f) refl

meant_front : (bytes front : List ℕ) (n : ℕ) (c : Content) → meant_behind bytes (with_front n front c) ≡ meant_behind (bytes ++ front) c
meant_front bytes front n None = refl
meant_front bytes front n (Some c) = ap Some (sym (append_assoc bytes front c.1))

module _ (escapes : Bool) (q : ℕ) where
  -- the measure goes on behind a piece
  pub measure_on : (bytes meant n : ℕ) (front rest : List ℕ) (total : Option (ℕ × ℕ)) → content escapes q rest ≡ with_front n front (content escapes q (drop n rest))
      → added bytes meant (measured (content escapes q rest)) ≡ total
      → added (bytes + n) (meant + length front) (measured (content escapes q (take (length rest - n) (drop n rest)))) ≡ total
  measure_on bytes meant n front rest total piece so_far =
      rw (take_rest rest n) (sym (measured_front bytes meant n front (content escapes q (drop n rest))) ∙ ap (λ c. added bytes meant (measured c)) (sym piece) ∙ so_far)

  -- so do the bytes that are meant
  pub meant_on : (bytes front rest : List ℕ) (n : ℕ) (total : Option (List ℕ)) → content escapes q rest ≡ with_front n front (content escapes q (drop n rest))
      → meant_behind bytes (content escapes q rest) ≡ total
      → meant_behind (bytes ++ front) (content escapes q (take (length rest - n) (drop n rest))) ≡ total
  meant_on bytes front rest n total piece so_far =
      rw (take_rest rest n) (sym (meant_front bytes front n (content escapes q (drop n rest))) ∙ ap (meant_behind bytes) (sym piece) ∙ so_far)
