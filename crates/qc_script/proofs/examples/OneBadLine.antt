-- Bytes have one first bad line at most.
use Rattle.std.proofs.Common.{◌≡◌, ℕ, suc, ◌+◌, ◌⊎◌, inl, inr, List, [], ◌∷◌, ◌++◌, length, refl, sym, ap, subst, ◌∙◌, append_assoc, arith}
use Rattle.std.specs.List.{AllByRecursion}
use Rattle.std.proofs.lemmas.List.Concat.{flat_map-append}
use Rattle.qc_model.specs.ReportText.{Text, lines}
use Rattle.qc_script.specs.BadLine.{IsOneLine, Begins, IsFirstBad}
use Rattle.qc_script.specs.Told.{behind}
use Rattle.qc_script.proofs.Cuts.{behind_at}
use Rattle.qc_script.proofs.Stops.{one_cut}
use Rattle.qc_script.proofs.Whole.{first_line}

-- a text goes on with a line behind these, and others have it too
record GoesOn (xs ys : List Text) (rest : Text) : Type 0 where
  line : Text
  more : Text
  zs : List Text
  lacks : IsOneLine line
  parts : rest ≡ line ++ 10 ∷ more
  is : ys ≡ xs ++ line ∷ zs

one_more : (x : Text) (xs ys : List Text) (rest : Text) → GoesOn xs ys rest → GoesOn (x ∷ xs) (x ∷ ys) rest
one_more x xs ys rest g = record { line = g.line; more = g.more; zs = g.zs; lacks = g.lacks; parts = g.parts; is = ap (λ (ls : List Text). x ∷ ls) g.is }

abbrev Apart : List Text → List Text → Text → Text → Type 0
Apart xs ys r s = (length xs ≡ length ys) ⊎ (GoesOn xs ys r ⊎ GoesOn ys xs s)

apart_more : (x : Text) (xs ys : List Text) (r s : Text) → Apart xs ys r s → Apart (x ∷ xs) (x ∷ ys) r s
apart_more x xs ys r s (inl e) = inl (ap suc e)
apart_more x xs ys r s (inr (inl g)) = inr (inl (one_more x xs ys r g))
apart_more x xs ys r s (inr (inr g)) = inr (inr (one_more x ys xs s g))

compared : (xs ys : List Text) (r s : Text) → AllByRecursion IsOneLine xs → AllByRecursion IsOneLine ys → lines xs ++ r ≡ lines ys ++ s → Apart xs ys r s
compared [] [] r s hx hy e = inl refl
compared [] (y ∷ ys) r s hx hy e = inr (inl (record { line = y; more = lines ys ++ s; zs = ys; lacks = hy.0; parts = e ∙ first_line y ys s; is = refl }))
compared (x ∷ xs) [] r s hx hy e = inr (inr (record { line = x; more = lines xs ++ r; zs = xs; lacks = hx.0; parts = sym e ∙ first_line x xs r; is = refl }))
compared (x ∷ xs) (y ∷ ys) r s hx hy e =
    let cut : x ++ 10 ∷ (lines xs ++ r) ≡ y ++ 10 ∷ (lines ys ++ s) = sym (first_line x xs r) ∙ e ∙ first_line y ys s in
    let same : x ≡ y = one_cut x (lines xs ++ r) y (lines ys ++ s) hx.0 hy.0 cut in
    let later : lines xs ++ r ≡ lines ys ++ s = sym (behind_at 10 x (lines xs ++ r) hx.0) ∙ ap (behind 10) cut ∙ behind_at 10 y (lines ys ++ s) hy.0 in
    subst (λ (z : Text). Apart (x ∷ xs) (z ∷ ys) r s) same (apart_more x xs ys r s (compared xs ys r s hx.1 hy.1 later))

stopped : (xs ys : List Text) (rest : Text) → GoesOn xs ys rest → Begins (lines ys) → ((line more : Text) → IsOneLine line → rest ≡ line ++ 10 ∷ more → Begins (lines (xs ++ line ∷ [])) → ⊥) → ⊥
stopped xs ys rest g begun stops =
    let front : List Text = xs ++ g.line ∷ [] in
    let whole : lines ys ≡ lines front ++ lines g.zs = ap lines (g.is ∙ sym (append_assoc xs (g.line ∷ []) g.zs)) ∙ flat_map-append (λ t. t ++ 10 ∷ []) front g.zs in
    stops g.line g.more g.lacks g.parts
    (begun.0, begun.1, lines g.zs ++ begun.2, begun.3 ∙ ap (λ (t : Text). t ++ begun.2) whole ∙ append_assoc (lines front) (lines g.zs) begun.2)

one_bad_line : (t : Text) (n m : ℕ) → IsFirstBad t n → IsFirstBad t m → n ≡ m
one_bad_line t n m a b = by (compared a.front b.front a.rest b.rest a.each b.each (sym a.parts ∙ b.parts))
  where
    by : Apart a.front b.front a.rest b.rest → n ≡ m
    by (inl e) = omega (arith, e, a.number, b.number)
    by (inr (inl g)) = absurd (stopped a.front b.front a.rest g b.begins a.stops)
    by (inr (inr g)) = absurd (stopped b.front a.front b.rest g a.begins b.stops)
