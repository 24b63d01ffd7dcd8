-- One entry goes to the end, changed, and the others stay in their order.
use Rattle.std.proofs.Common.{◌≡◌, ℕ, ◌+◌, eqb, eqb-true, Bool, true, false, cond, List, [], ◌∷◌, ◌++◌, map, length, refl, sym, ap, subst, ◌∙◌, true≢false}
use Rattle.std.specs.Prelude.{not, ◌||◌, Option, Some, None, IsSomeAnd, IsPermutation, ◌==◌}
use Rattle.std.specs.List.{list_any, filter, find, AllByRecursion, AllZip}
use Rattle.std.proofs.lemmas.List.{map-append}
use Rattle.std.proofs.lemmas.List.Folds.{list_any-append}
use Rattle.std.proofs.lemmas.List.Sorted.{IsPermutation-cons, IsPermutation-append_comm, IsPermutation-map, list_any-IsPermutation, sum_by-IsPermutation, length_permutation}
use Rattle.qc_model.specs.Cache.{Entry, entry_of, without}
use Rattle.qc_laws.specs.history.Runs.{are_distinct, serials}
use Rattle.qc_laws.proofs.history.Events.{all_filter, all_append, found_all}
use Rattle.qc_laws.proofs.history.Serials.{both_true, opposite, neither}
use Rattle.qc_sound.specs.PlainServer.{StoredEntry, is_stored}
use Rattle.qc_sound.specs.Moment.{Moment}
use Rattle.qc_sound.specs.parts.Journal.{incomplete_count, reserved}
use Rattle.qc_sound.specs.parts.Directory.{IsStoredAs}
use Rattle.qc_sound.specs.steps.Hits.{used_more}
use Rattle.qc_sound.proofs.Lists.{zip_on}
use Rattle.qc_sound.proofs.Pushes.{each_of}

-- ---- the same entries in another order

module _ {A : Type 0} (key : A → ℕ) where
  pub none_keyed : (n : ℕ) (es : List A) → list_any (λ m. m == n) (map key es) ≡ false → filter (λ x. not (key x == n)) es ≡ es
  none_keyed n [] h = refl
  none_keyed n (e ∷ es) h =
      let parts = neither (key e == n) (list_any (λ m. m == n) (map key es)) h in
      ap (λ b. cond (not b) (e ∷ filter (λ x. not (key x == n)) es) (filter (λ x. not (key x == n)) es)) parts.0 ∙ ap (λ l. e ∷ l) (none_keyed n es parts.1)

  pub moved_permutes : (n : ℕ) (es : List A) (x : A) → are_distinct (map key es) ≡ true → find (λ e. key e == n) es ≡ Some x → IsPermutation es (filter (λ x. not (key x == n)) es ++ x ∷ [])
  moved_permutes n [] x d e = absurd cc
  moved_permutes n (y ∷ es) x d e =
      let parts = both_true (not (list_any (λ m. m == key y) (map key es))) (are_distinct (map key es)) d in
      elim (eqb (key y) n) as (λ b. eqb (key y) n ≡ b → cond b (Some y) (find (λ e. key e == n) es) ≡ Some x → IsPermutation (y ∷ es) (cond (not b) (y ∷ filter (λ x. not (key x == n)) es) (filter (λ x. not (key x == n)) es) ++ x ∷ [])) [
        | true ↦ λ p f.
            let same : y ≡ x = some_is y x f in
            let rest : filter (λ x. not (key x == n)) es ≡ es = none_keyed n es (subst (λ m. list_any (λ k. k == m) (map key es) ≡ false) (eqb-true (key y) n p) (opposite _ parts.0)) in
            subst (λ l. IsPermutation (y ∷ es) (l ++ x ∷ [])) (sym rest) (subst (λ z. IsPermutation (y ∷ es) (es ++ z ∷ [])) same (IsPermutation-append_comm (y ∷ []) es))
        | false ↦ λ p f. IsPermutation-cons y es (filter (λ x. not (key x == n)) es ++ x ∷ []) (moved_permutes n es x parts.1 f)
      ] refl e
    where
      some_is : (a b : A) → Some a ≡ Some b → a ≡ b
      some_is a b k = cc

pub same_serials : (moment : Moment) (es : List StoredEntry) (ys : List Entry) → AllZip (IsStoredAs moment.hash) es ys → map (λ e. e.serial) es ≡ serials ys
same_serials moment [] [] h = refl
same_serials moment [] (y ∷ ys) h = absurd h
same_serials moment (e ∷ es) [] h = absurd h
same_serials moment (e ∷ es) (y ∷ ys) h = λ i. h.0.serial i ∷ same_serials moment es ys h.1 i

-- ---- the pair that is found

pub record FoundPair (R : StoredEntry → Entry → Type 0) (n : ℕ) (es : List StoredEntry) (ys : List Entry) (y : Entry) : Type 0 where
  pub at : StoredEntry
  pub found : find (is_stored n) es ≡ Some at
  pub pair : R at y

pub found_pair : (moment : Moment) (R : StoredEntry → Entry → Type 0) (n : ℕ) (es : List StoredEntry) (ys : List Entry) (y : Entry) → AllZip (λ e y. IsStoredAs moment.hash e y × R e y) es ys → entry_of n ys ≡ Some y → FoundPair (λ e y. IsStoredAs moment.hash e y × R e y) n es ys y
found_pair moment R n [] [] y h e = absurd cc
found_pair moment R n [] (z ∷ ys) y h e = absurd h
found_pair moment R n (x ∷ es) [] y h e = absurd h
found_pair moment R n (x ∷ es) (z ∷ ys) y h e =
    elim (eqb z.serial n) as (λ b. eqb z.serial n ≡ b → cond b (Some z) (entry_of n ys) ≡ Some y → FoundPair (λ e y. IsStoredAs moment.hash e y × R e y) n (x ∷ es) (z ∷ ys) y) [
      | true ↦ λ p f. let same : z ≡ y = some_is z y f in record { at = x; found = ap (λ b. cond b (Some x) (find (is_stored n) es)) (ap (λ m. eqb m n) h.0.0.serial ∙ p); pair = subst (λ w. IsStoredAs moment.hash x w × R x w) same h.0 }
      | false ↦ λ p f. let t = found_pair moment R n es ys y h.1 f in record { at = t.at; found = ap (λ b. cond b (Some x) (find (is_stored n) es)) (ap (λ m. eqb m n) h.0.0.serial ∙ p) ∙ t.found; pair = t.pair }
    ] refl e
  where
    some_is : (a b : Entry) → Some a ≡ Some b → a ≡ b
    some_is a b k = cc

pub zip_append : {A B : Type 0} (R : A → B → Type 0) (xs : List A) (ys : List B) (x : A) (y : B) → AllZip R xs ys → R x y → AllZip R (xs ++ x ∷ []) (ys ++ y ∷ [])
zip_append R [] [] x y h k = (k, tt)
zip_append R [] (b ∷ ys) x y h k = absurd h
zip_append R (a ∷ xs) [] x y h k = absurd h
zip_append R (a ∷ xs) (b ∷ ys) x y h k = (h.0, zip_append R xs ys x y h.1 k)

pub zip_first : {A B : Type 0} (R S : A → B → Type 0) (xs : List A) (ys : List B) → AllZip (λ x y. R x y × S x y) xs ys → AllZip R xs ys
zip_first R S xs ys h = zip_on (λ x y. R x y × S x y) R xs ys (λ x y p. p.0) h

-- the entry that is hit is one of the cache
pub hit_entry : (n : ℕ) (o : Option Entry) → IsSomeAnd o (λ y. y.complete ≡ true) → (y : Entry) × (o ≡ Some y) × (y.complete ≡ true)
hit_entry n None h = absurd h
hit_entry n (Some y) h = (y, refl, h)

-- the cache after a hit has as many entries
pub room_kept : (n : ℕ) (ys : List Entry) (y : Entry) → are_distinct (serials ys) ≡ true → entry_of n ys ≡ Some y → reserved (without n ys ++ y ∷ []) ≡ reserved ys
room_kept n ys y d e =
    let perm = moved_permutes (λ (y : Entry). y.serial) n ys y d e in
    λ i. length_permutation ys (without n ys ++ y ∷ []) perm i + sum_by-IsPermutation (λ (y : Entry). cond (not y.complete) 1 0) ys (without n ys ++ y ∷ []) perm i

pub any_moved : (g : StoredEntry → StoredEntry) (n : ℕ) (es : List StoredEntry) (x : StoredEntry) (p : StoredEntry → Bool) → are_distinct (map (λ e. e.serial) es) ≡ true → find (is_stored n) es ≡ Some x → p (g x) ≡ p x → list_any p (filter (λ x. not (is_stored n x)) es ++ g x ∷ []) ≡ list_any p es
any_moved g n es x p d e same =
    list_any-append p (filter (λ x. not (is_stored n x)) es) (g x ∷ []) ∙ (ap (λ b. list_any p (filter (λ x. not (is_stored n x)) es) || (b || false)) same
    ∙ (sym (list_any-append p (filter (λ x. not (is_stored n x)) es) (x ∷ [])) ∙ sym (list_any-IsPermutation p es (filter (λ x. not (is_stored n x)) es ++ x ∷ []) (moved_permutes (λ (e : StoredEntry). e.serial) n es x d e))))

pub texts_moved : (n : ℕ) (es : List StoredEntry) (x : StoredEntry) → are_distinct (map (λ e. e.serial) es) ≡ true → find (is_stored n) es ≡ Some x → IsPermutation (map (λ e. e.text) es) (map (λ e. e.text) (filter (λ x. not (is_stored n x)) es ++ used_more x ∷ []))
texts_moved n es x d e =
    let f = filter (λ x. not (is_stored n x)) es in
    subst (IsPermutation (map (λ (e : StoredEntry). e.text) es)) (map-append (λ (e : StoredEntry). e.text) f (x ∷ []) ∙ sym (map-append (λ (e : StoredEntry). e.text) f (used_more x ∷ [])))
    (IsPermutation-map (λ (e : StoredEntry). e.text) es (f ++ x ∷ []) (moved_permutes (λ (e : StoredEntry). e.serial) n es x d e))

pub all_moved : (g : StoredEntry → StoredEntry) (P Q : StoredEntry → Type 0) (n : ℕ) (es : List StoredEntry) (x : StoredEntry) → ((e : StoredEntry) → not (is_stored n e) ≡ true → P e → Q e) → Q (g x) → AllByRecursion P es → AllByRecursion Q (filter (λ x. not (is_stored n x)) es ++ g x ∷ [])
all_moved g P Q n es x f q h = all_append Q (filter (λ x. not (is_stored n x)) es) (g x ∷ []) (all_filter P Q (λ x. not (is_stored n x)) es f h) (q, tt)

pub either_on : (a b x y : Bool) → a ≡ x → (b ≡ true → y ≡ true) → (a || b) ≡ true → (x || y) ≡ true
either_on true b x y e f h = ap (λ z. z || y) (sym e)
either_on false b x y e f h = ap (λ z. z || y) (sym e) ∙ f h

pub or_left : (a b : Bool) → a ≡ true → (a || b) ≡ true
or_left true b h = refl
or_left false b h = absurd (true≢false (sym h))

pub serial_found : (n : ℕ) (es : List StoredEntry) (x : StoredEntry) → find (is_stored n) es ≡ Some x → x.serial ≡ n
serial_found n es x e = eqb-true x.serial n (found_all (λ _. Unit {0}) (is_stored n) es x (each_of (λ _. Unit {0}) es (λ _. tt)) e).1
