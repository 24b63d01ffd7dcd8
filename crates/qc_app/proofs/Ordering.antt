-- Outcomes are put in the order of the sessions.
use Rattle.std.proofs.Common.{◌≡◌, List, [], ◌∷◌, ◌++◌, map, sym, ap, ◌∙◌, append_assoc}
use Rattle.std.specs.Prelude.{reverse}
use Rattle.std.proofs.lemmas.List.{reverse-append}

module _ {A B : Type 0} (f : A → B) where
  -- what was taken from the end so far, and what is left, are all of it
  abbrev pub InOrder : List A → List A → List B → Type 0
  InOrder all left taken = map f (reverse all) ≡ taken ++ map f (reverse left)

  pub order_more : (all left before : List A) (x : A) (taken now : List B) → InOrder all before taken → before ≡ left ++ x ∷ [] → now ≡ taken ++ f x ∷ [] → InOrder all left now
  order_more all left before x taken now was is pushed =
      was ∙ (ap (λ (l : List A). taken ++ map f (reverse l)) is ∙ (ap (λ (l : List A). taken ++ map f l) (reverse-append left (x ∷ []))
      ∙ (sym (append_assoc taken (f x ∷ []) (map f (reverse left))) ∙ ap (λ (l : List B). l ++ map f (reverse left)) (sym pushed))))
