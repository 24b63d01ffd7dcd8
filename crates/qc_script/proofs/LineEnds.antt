-- The first line of a text, by the place of its end.
use Rattle.std.proofs.Common.{◌≡◌, ℕ, suc, ◌+◌, ◌-◌, ◌<◌, ◌≤◌, Bool, true, false, cond, List, [], ◌∷◌, length, take, drop, refl, sym, ap, ◌∙◌, arith, inl, inr}
use Rattle.std.proofs.lemmas.Bool.{cases_lt, lt-ltb, le-ltb}
use Rattle.std.proofs.lemmas.List.{take_all, drop_all, take_rest}
use Rattle.std.specs.Prelude.{Option, Some, None, ◌==◌, not}
use Rattle.std.specs.List.{position, position_or_len}
use Rattle.qc_model.specs.ScriptLines.{lines_of, with_byte}

abbrev is_end : ℕ → Bool
is_end byte = byte == 10

-- the place of the first LF, or the length
abbrev end_of : List ℕ → ℕ
end_of text = position_or_len is_end text

abbrev cut_at : ℕ → List ℕ → List (List ℕ)
cut_at end text = take end text ∷ lines_of (drop (end + 1) text)

cut_later : (byte n : ℕ) (bytes : List ℕ) → with_byte byte (cut_at n bytes) ≡ cut_at (1 + n) (byte ∷ bytes)
cut_later byte n bytes =
    let e : 1 + n ≡ suc n = omega arith in
    let f : suc n + 1 ≡ suc (n + 1) = omega arith in
    rw (e, f) refl

-- whether the first byte is the end or not
by_first : (byte : ℕ) (bytes : List ℕ) → with_byte byte (lines_of bytes) ≡ cut_at (1 + end_of bytes) (byte ∷ bytes) → lines_of (byte ∷ bytes) ≡ cut_at (end_of (byte ∷ bytes)) (byte ∷ bytes)
by_first byte bytes h =
    elim (is_end byte) as (λ t. cond t ([] ∷ lines_of bytes) (with_byte byte (lines_of bytes)) ≡ cut_at (cond (not t) (1 + end_of bytes) 0) (byte ∷ bytes)) [
      | true ↦ refl
      | false ↦ h
    ]

first_cut : (byte : ℕ) (bytes : List ℕ) → lines_of (byte ∷ bytes) ≡ cut_at (end_of (byte ∷ bytes)) (byte ∷ bytes)
first_cut byte [] = by_first byte [] refl
first_cut byte (c ∷ cs) = by_first byte (c ∷ cs) (ap (with_byte byte) (first_cut c cs) ∙ cut_later byte (end_of (c ∷ cs)) (c ∷ cs))

cut_first : (text : List ℕ) → 0 < length text → lines_of text ≡ cut_at (end_of text) text
cut_first [] h = absurd (omega arith)
cut_first (b ∷ bytes) h = first_cut b bytes

none_apart : {A : Type 0} (x : A) → ◌≡◌ {A = Option A} None (Some x) → ⊥
none_apart x e = absurd cc

some_is : {A : Type 0} (x y : A) → Some x ≡ Some y → x ≡ y
some_is x y e = cc

end_found : (text : List ℕ) (end : ℕ) → Some end ≡ position is_end text → (end ≡ end_of text) × (end < length text)
end_found text end e =
    elim (cases_lt (end_of text) (length text)) [
      | inl lt ↦ let same : end ≡ end_of text = some_is end (end_of text) (e ∙ ap (λ t. cond t (Some (end_of text)) None) (lt-ltb (end_of text) (length text) lt)) in (same, omega arith)
      | inr ge ↦ absurd (none_apart end (sym (e ∙ ap (λ t. cond t (Some (end_of text)) None) (le-ltb (end_of text) (length text) ge))))
    ]

end_lacks : (text : List ℕ) → None ≡ position is_end text → length text ≤ end_of text
end_lacks text e =
    elim (cases_lt (end_of text) (length text)) [
      | inl lt ↦ absurd (none_apart (end_of text) (e ∙ ap (λ t. cond t (Some (end_of text)) None) (lt-ltb (end_of text) (length text) lt)))
      | inr ge ↦ ge
    ]

-- a line with its LF, and those behind it
pub line_before : (text : List ℕ) (end : ℕ) → Some end ≡ position is_end text → lines_of text ≡ take end text ∷ lines_of (take (length text - (end + 1)) (drop (end + 1) text))
line_before text end e =
    let found = end_found text end e in
    cut_first text (omega arith) ∙ ap (λ n. cut_at n text) (sym found.0) ∙ ap (λ rest. take end text ∷ lines_of rest) (sym (take_rest text (end + 1)))

-- a last line without its LF
pub last_line : (text : List ℕ) → 0 < length text → None ≡ position is_end text → lines_of text ≡ text ∷ []
last_line text some e =
    let lacks = end_lacks text e in
    cut_first text some ∙ ap (λ line. line ∷ lines_of (drop (end_of text + 1) text)) (take_all (end_of text) text lacks) ∙ ap (λ rest. text ∷ lines_of rest) (drop_all (end_of text + 1) text (omega arith))
