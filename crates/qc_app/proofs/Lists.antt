-- Lists whose members are in a relation, place by place.
use Rattle.std.proofs.Common.{◌≡◌, ℕ, zero, suc, ◌+◌, ◌<◌, List, [], ◌∷◌, ◌++◌, length, take, refl, ap, ◌∙◌, arith, append-nil}
use Rattle.std.specs.Prelude.{slice_index_or}
use Rattle.std.specs.List.{AllZip}
use Rattle.std.proofs.lemmas.List.{take_more}
use Rattle.std.proofs.lemmas.Grind.{flat_map-append}
use Rattle.qc_serve.specs.declared.sinks.Piece.{Piece}
use Rattle.qc_serve.specs.Sent.{bytes_of}

module _ {A : Type 0} (R : A → A → Type 0) where
  pub all_zip : (xs ys : List A) → length ys ≡ length xs → ((i : ℕ) (d : A) → i < length xs → R (slice_index_or xs i d) (slice_index_or ys i d)) → AllZip R xs ys
  all_zip [] [] e f = tt
  all_zip [] (y ∷ ys) e f = absurd (omega (arith, e))
  all_zip (x ∷ xs) [] e f = absurd (omega (arith, e))
  all_zip (x ∷ xs) (y ∷ ys) e f = (f 0 x (omega arith), all_zip xs ys (omega (arith, e)) (λ i d l. f (suc i) d (omega (arith, l))))

module _ {A B : Type 0} (R : A → B → Type 0) where
  pub zip_at : (xs : List A) (ys : List B) → AllZip R xs ys → (i : ℕ) (d : A) (e : B) → i < length xs → R (slice_index_or xs i d) (slice_index_or ys i e)
  zip_at [] ys z i d e l = absurd (omega (arith, l))
  zip_at (x ∷ xs) [] z i d e l = absurd z
  zip_at (x ∷ xs) (y ∷ ys) z zero d e l = z.0
  zip_at (x ∷ xs) (y ∷ ys) z (suc i) d e l = zip_at xs ys z.1 i d e (omega (arith, l))

  pub zip_long : (xs : List A) (ys : List B) → AllZip R xs ys → length ys ≡ length xs
  zip_long [] [] z = refl
  zip_long [] (y ∷ ys) z = absurd z
  zip_long (x ∷ xs) [] z = absurd z
  zip_long (x ∷ xs) (y ∷ ys) z = ap suc (zip_long xs ys z.1)

  pub zip_push : (xs : List A) (ys : List B) (x : A) (y : B) → AllZip R xs ys → R x y → AllZip R (xs ++ x ∷ []) (ys ++ y ∷ [])
  zip_push [] [] x y z r = (r, tt)
  zip_push [] (b ∷ ys) x y z r = absurd z
  zip_push (a ∷ xs) [] x y z r = absurd z
  zip_push (a ∷ xs) (b ∷ ys) x y z r = (z.0, zip_push xs ys x y z.1 r)

-- one piece more
pub bytes_more : (pieces : List Piece) (k : ℕ) (d : Piece) → k < length pieces → bytes_of (take (k + 1) pieces) ≡ bytes_of (take k pieces) ++ (slice_index_or pieces k d).bytes
bytes_more pieces k d l = ap bytes_of (take_more pieces k d l) ∙ (flat_map-append (λ (p : Piece). p.bytes) (take k pieces) (slice_index_or pieces k d ∷ []) ∙ ap (λ (bs : List ℕ). bytes_of (take k pieces) ++ bs) (append-nil ((slice_index_or pieces k d).bytes)))
