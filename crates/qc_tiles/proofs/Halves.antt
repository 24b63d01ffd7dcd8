-- A list in two parts, of which a test holds throughout and nowhere.
use Rattle.std.proofs.Common.{◌≡◌, Bool, true, false, List, [], ◌∷◌, ◌++◌, refl}
use Rattle.std.specs.List.{AllByRecursion}

head_is : {X : Type 0} (x y : X) (xs ys : List X) → x ∷ xs ≡ y ∷ ys → x ≡ y
head_is x y xs ys h = cc h

tail_is : {X : Type 0} (x y : X) (xs ys : List X) → x ∷ xs ≡ y ∷ ys → xs ≡ ys
tail_is x y xs ys h = cc h

same_cons : {X : Type 0} (x y : X) (xs ys : List X) → x ≡ y → xs ≡ ys → x ∷ xs ≡ y ∷ ys
same_cons x y xs ys h k = cc (h, k)

-- two such cuts of one list are the same
pub same_halves : {X : Type 0} (p : X → Bool) (a b c d : List X) → a ++ b ≡ c ++ d → AllByRecursion (λ x. p x ≡ true) a → AllByRecursion (λ x. p x ≡ false) b → AllByRecursion (λ x. p x ≡ true) c → AllByRecursion (λ x. p x ≡ false) d → (a ≡ c) × (b ≡ d)
same_halves p [] b [] d h ya nb yc nd = (refl, h)
same_halves p [] [] (x ∷ c) d h ya nb yc nd = absurd (cc h)
same_halves p [] (y ∷ b) (x ∷ c) d h ya nb yc nd = absurd (cc (nb.0, yc.0, head_is y x b (c ++ d) h))
same_halves p (y ∷ a) b [] [] h ya nb yc nd = absurd (cc h)
same_halves p (y ∷ a) b [] (x ∷ d) h ya nb yc nd = absurd (cc (ya.0, nd.0, head_is y x (a ++ b) d h))
same_halves p (y ∷ a) b (x ∷ c) d h ya nb yc nd =
    let rest = same_halves p a b c d (tail_is y x (a ++ b) (c ++ d) h) ya.1 nb yc.1 nd in
    (same_cons y x a c (head_is y x (a ++ b) (c ++ d) h) rest.0, rest.1)
