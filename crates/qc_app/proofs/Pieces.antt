-- Reading piece by piece.
use Rattle.std.proofs.Common.{◌≡◌, ℕ, ◌<◌, List, [], ◌++◌, length, take, drop, refl, sym, ap, ◌∙◌, subst, inl, inr, append_assoc, append-nil, Option, Some, None, MatchOption, take-append-drop}
use Rattle.qc_types.specs.declared.streams.ReadStep.TheVariants as read
use Rattle.qc_types.specs.Streams.{ReadGives}
use Rattle.qc_model.specs.ScriptLines.{most_script}
use Rattle.qc_app.specs.Reading.{ReadSoFar, ReadsEnough}

some_same : (x y : List ℕ) → ◌≡◌ {A = Option (List ℕ)} (Some x) (Some y) → x ≡ y
some_same x y e = cc

pub piece_read : (before mid after : Option (List ℕ)) (bytes buffer : List ℕ) (n : ℕ) → ReadSoFar before mid bytes → ReadGives (read.Got n) mid after buffer → ReadSoFar before after (bytes ++ take n buffer)
piece_read None None after bytes buffer n h g = g
piece_read None (Some rest) after bytes buffer n h g = absurd cc
piece_read (Some left) None after bytes buffer n h g = absurd h
piece_read (Some left) (Some rest) after bytes buffer n h g =
    let cut : rest ≡ take n buffer ++ drop n rest = sym (ap (λ x. x ++ drop n rest) g.1 ∙ take-append-drop n rest) in
    subst (λ (o : Option (List ℕ)). MatchOption o ⊥ (λ r. left ≡ (bytes ++ take n buffer) ++ r)) (sym g.2)
    (h ∙ (ap (λ x. bytes ++ x) cut ∙ sym (append_assoc bytes (take n buffer) (drop n rest))))

pub end_read : (before mid after : Option (List ℕ)) (bytes buffer : List ℕ) → ReadSoFar before mid bytes → ReadGives read.End mid after buffer → ReadsEnough before after bytes
end_read None None after bytes buffer h g = g
end_read None (Some rest) after bytes buffer h g = absurd cc
end_read (Some left) None after bytes buffer h g = absurd h
end_read (Some left) (Some rest) after bytes buffer h g = inl (h ∙ (ap (λ x. bytes ++ x) g.0 ∙ append-nil bytes), g.1)

pub too_much : (before now : Option (List ℕ)) (bytes : List ℕ) → ReadSoFar before now bytes → most_script < length bytes → ReadsEnough before now bytes
too_much None now bytes h long = h
too_much (Some left) None bytes h long = absurd h
too_much (Some left) (Some rest) bytes h long = inr (long, (rest, h))

pub none_read : (before : Option (List ℕ)) → ReadSoFar before before []
none_read None = refl
none_read (Some left) = refl
