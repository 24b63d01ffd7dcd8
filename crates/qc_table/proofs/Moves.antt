-- Lists of which one member is put between others, or taken out.
use Rattle.std.proofs.Common.{◌≡◌, ℕ, ◌<◌, ◌≤◌, List, [], ◌∷◌, map, length, get_or, set, zero, suc, refl, ap, arith}
use Rattle.std.specs.List.{insert, remove}

module _ {X : Type 0} where
  pub remove_inserted : (xs : List X) (i : ℕ) (y : X) → i ≤ length xs → remove (insert xs i y) i ≡ xs
  remove_inserted xs zero y low = refl
  remove_inserted [] (suc i) y low = absurd (omega arith)
  remove_inserted (x ∷ xs) (suc i) y low = ap (λ rest. x ∷ rest) (remove_inserted xs i y (omega arith))

  pub insert_removed : (xs : List X) (i : ℕ) (d : X) → i < length xs → insert (remove xs i) i (get_or xs i d) ≡ xs
  insert_removed [] i d low = absurd (omega arith)
  insert_removed (x ∷ xs) zero d low = refl
  insert_removed (x ∷ xs) (suc i) d low = ap (λ rest. x ∷ rest) (insert_removed xs i d (omega arith))

  pub put_back : (xs : List X) (i : ℕ) (y : X) → i < length xs → insert (remove xs i) i y ≡ set xs i y
  put_back [] i y low = absurd (omega arith)
  put_back (x ∷ xs) zero y low = refl
  put_back (x ∷ xs) (suc i) y low = ap (λ rest. x ∷ rest) (put_back xs i y (omega arith))

  pub length_inserted : (xs : List X) (i : ℕ) (y : X) → length (insert xs i y) ≡ suc (length xs)
  length_inserted xs zero y = refl
  length_inserted [] (suc i) y = refl
  length_inserted (x ∷ xs) (suc i) y = ap suc (length_inserted xs i y)

module _ {X Y : Type 0} (f : X → Y) where
  pub map_insert : (xs : List X) (i : ℕ) (y : X) → map f (insert xs i y) ≡ insert (map f xs) i (f y)
  map_insert xs zero y = refl
  map_insert [] (suc i) y = refl
  map_insert (x ∷ xs) (suc i) y = ap (λ rest. f x ∷ rest) (map_insert xs i y)

  pub map_remove : (xs : List X) (i : ℕ) → map f (remove xs i) ≡ remove (map f xs) i
  map_remove [] zero = refl
  map_remove [] (suc i) = refl
  map_remove (x ∷ xs) zero = refl
  map_remove (x ∷ xs) (suc i) = ap (λ rest. f x ∷ rest) (map_remove xs i)
