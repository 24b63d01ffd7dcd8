-- Each table once.
use Rattle.std.proofs.Common.{◌≡◌, ℕ, suc, ◌+◌, ◌<◌, length, drop, map, subst, arith, Bool, true, false, cond, List, [], ◌∷◌, ◌++◌, refl, sym, ap, ◌∙◌, append_assoc}
use Rattle.std.specs.Prelude.{◌||◌}
use Rattle.std.specs.List.{list_any}
use Rattle.std.proofs.lemmas.List.Folds.{list_any-append}
use Rattle.std.proofs.Math.ListN.{get_or}
use Rattle.std.proofs.Math.Seq.{drop-cons}
use Rattle.qc_types.specs.declared.names.TableName.{TableName}
use Rattle.qc_sql.specs.Database.{same_table}
use Rattle.qc_sql.specs.Rules.{each_once}
use Rattle.qc_parse.specs.Once.{with_table}

-- the same tables were seen
abbrev SeenAlike : List TableName → List TableName → Type 0
SeenAlike seen other = (t : TableName) → list_any (same_table t) seen ≡ list_any (same_table t) other

once_alike : (seen other ts : List TableName) → SeenAlike seen other → each_once seen ts ≡ each_once other ts
once_alike seen other [] h = refl
once_alike seen other (t ∷ ts) h = rw (h t)
    (ap (cond (list_any (same_table t) other) (each_once seen ts)) (ap (λ later. t ∷ later) (once_alike (t ∷ seen) (t ∷ other) ts (λ s. ap (λ b. same_table s t || b) (h s))))
    ∙ ap (λ same. cond (list_any (same_table t) other) same (t ∷ each_once (t ∷ other) ts)) (once_alike seen other ts h))

front_or_end : (p : TableName → Bool) (t : TableName) (seen : List TableName) → list_any p (t ∷ seen) ≡ list_any p (seen ++ t ∷ [])
front_or_end p t seen = swap (p t) (list_any p seen) ∙ sym (list_any-append p seen (t ∷ []))
  where
    swap : (a b : Bool) → (a || b) ≡ (b || (a || false))
    swap true true = refl
    swap true false = refl
    swap false true = refl
    swap false false = refl

pub once_more : (seen : List TableName) (t : TableName) (ts : List TableName) → seen ++ each_once seen (t ∷ ts) ≡ with_table seen t ++ each_once (with_table seen t) ts
once_more seen t ts = by (list_any (same_table t) seen)
  where
    by : (there : Bool) → seen ++ cond there (each_once seen ts) (t ∷ each_once (t ∷ seen) ts) ≡ cond there seen (seen ++ t ∷ []) ++ each_once (cond there seen (seen ++ t ∷ [])) ts
    by true = refl
    by false =
        ap (λ later. seen ++ t ∷ later) (once_alike (t ∷ seen) (seen ++ t ∷ []) ts (λ s. front_or_end (same_table s) t seen))
        ∙ sym (append_assoc seen (t ∷ []) (each_once (seen ++ t ∷ []) ts))

-- the member that a loop is at, and those behind it
pub taken_up : {A B : Type 0} (f : A → B) (xs items : List A) (i : ℕ) (x : A) → items ≡ xs → x ≡ get_or items i x → i < length items → f x ∷ map f (drop (i + 1) xs) ≡ map f (drop i xs)
taken_up f xs items i x same e lt =
    let after : i + 1 ≡ suc i = omega arith in
    let here : x ≡ get_or xs i x = e ∙ ap (λ ys. get_or ys i x) same in
    rw after (ap (λ y. f y ∷ map f (drop (suc i) xs)) here ∙ sym (ap (map f) (drop-cons xs i x (subst (λ ys. i < length ys) same lt))))
