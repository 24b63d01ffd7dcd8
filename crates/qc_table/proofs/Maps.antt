-- Maps from names, held as entries whose keys have a name each.
use Rattle.std.proofs.Common.{◌≡◌, Bool, true, false, cond, List, [], ◌∷◌, map, refl, ap}
use Rattle.std.specs.Prelude.{Some, IfSome}
use Rattle.std.specs.Ordering.{is_eq, match_ordering}
use Rattle.std.specs.declared.cmp.Ordering.{Ordering}
use Rattle.std.specs.declared.cmp.Ordering.TheVariants.{Less, Equal, Greater}
use Rattle.std.specs.BTreeMap.{insert_entry, is_at}
use Rattle.std.specs.Map.{lookup, remove_entry, set_value, keys_of}
use Rattle.std.specs.List.{AllByRecursion}
use Rattle.std.specs.List.Sorted.{IsStrictlySortedBy}
use Rattle.std.proofs.lemmas.Map.Keys.{sorted_head, sorted_tail}
use Rattle.std.proofs.lemmas.Map.Lookups.{exact_bytes}
use Rattle.qc_sql.specs.Database.{Name, MapOf, name_cmp, at_name, change_at}
use Rattle.qc_table.specs.Borrowed.{IsSetAt, EndsWith}

abbrev at : Name → Name → Bool
at n k = is_at (name_cmp n) k

pub equal_is : (r : Ordering) → is_eq r ≡ true → r ≡ Equal
equal_is Less e = absurd cc
equal_is Equal e = refl
equal_is Greater e = absurd cc

module _ {K : Type 0} (f : K → Name) where
  abbrev cmp : K → K → Ordering
  cmp a b = name_cmp (f a) (f b)

module _ {K X : Type 0} (f : K → Name) where
  abbrev pub named : List (K × X) → MapOf Name X
  named es = map (λ e. (f e.0, e.1)) es

  pub lookup-named : (name : Name) (es : List (K × X)) → lookup (λ k. at name (f k)) es ≡ at_name name (named es)
  lookup-named name [] = refl
  lookup-named name (e ∷ es) = ap (cond (at name (f e.0)) (Some e.1)) (lookup-named name es)

  pub insert_entry-named : (es : List (K × X)) (k : K) (v : X) → named (insert_entry (cmp f) es k v) ≡ insert_entry name_cmp (named es) (f k) v
  insert_entry-named [] k v = refl
  insert_entry-named (e ∷ es) k v =
      elim (cmp f k e.0) as (λ r. named (match_ordering r ((k, v) ∷ e ∷ es) ((e.0, v) ∷ es) (e ∷ insert_entry (cmp f) es k v))
      ≡ match_ordering r ((f k, v) ∷ (f e.0, e.1) ∷ named es) ((f e.0, v) ∷ named es) ((f e.0, e.1) ∷ insert_entry name_cmp (named es) (f k) v)) [
        | Less ↦ refl
        | Equal ↦ refl
        | Greater ↦ ap (λ rest. (f e.0, e.1) ∷ rest) (insert_entry-named es k v)
      ]

  pub remove_entry-named : (name : Name) (es : List (K × X)) → named (remove_entry (λ k. at name (f k)) es) ≡ remove_entry (at name) (named es)
  remove_entry-named name [] = refl
  remove_entry-named name (e ∷ es) =
      elim (at name (f e.0)) as (λ b. named (cond b es (e ∷ remove_entry (λ k. at name (f k)) es)) ≡ cond b (named es) ((f e.0, e.1) ∷ remove_entry (at name) (named es))) [
        | true ↦ refl
        | false ↦ ap (λ rest. (f e.0, e.1) ∷ rest) (remove_entry-named name es)
      ]

  all_named : (P : Name → Type 0) (es : List (K × X)) → AllByRecursion (λ k. P (f k)) (keys_of es) → AllByRecursion P (keys_of (named es))
  all_named P [] all = tt
  all_named P (e ∷ es) all = (all.0, all_named P es all.1)

  -- keys in order have names in order
  pub named_in_order : (es : List (K × X)) → IsStrictlySortedBy (cmp f) (keys_of es) → IsStrictlySortedBy name_cmp (keys_of (named es))
  unfolding IsStrictlySortedBy
  named_in_order [] s = tt
  named_in_order (e ∷ es) s = (all_named (λ n. name_cmp (f e.0) n ≡ Less) es s.0, named_in_order es s.1)

  pub set_value-named : (name : Name) (es : List (K × X)) (w : X) → named (set_value (λ k. at name (f k)) es w) ≡ set_value (at name) (named es) w
  set_value-named name [] w = refl
  set_value-named name (e ∷ es) w =
      elim (at name (f e.0)) as (λ b. named (cond b ((e.0, w) ∷ es) (e ∷ set_value (λ k. at name (f k)) es w)) ≡ cond b ((f e.0, w) ∷ named es) ((f e.0, e.1) ∷ set_value (at name) (named es) w)) [
        | true ↦ refl
        | false ↦ ap (λ rest. (f e.0, e.1) ∷ rest) (set_value-named name es w)
      ]

-- ---- what is changed

module _ {X : Type 0} where
  -- the keys behind that of the name are others
  change_at-none : (name : Name) (make : X → X) (m : MapOf Name X) → AllByRecursion (λ k. name_cmp name k ≡ Less) (keys_of m) → change_at name make m ≡ m
  change_at-none name make [] later = refl
  change_at-none name make (e ∷ m) later = rw (ap is_eq later.0) (ap (λ rest. e ∷ rest) (change_at-none name make m later.1))

  -- where the names rise, the value that is set is that of the one place that has the name
  pub set_value-change : (name : Name) (m : MapOf Name X) (w : X) → IsStrictlySortedBy name_cmp (keys_of m) → (make : X → X) → IfSome (at_name name m) (λ v. w ≡ make v) → set_value (at name) m w ≡ change_at name make m
  set_value-change name [] w sorted make made = refl
  set_value-change name (e ∷ m) w sorted make made =
      elim (at name e.0) as (λ b. at name e.0 ≡ b → IfSome (cond b (Some e.1) (at_name name m)) (λ v. w ≡ make v)
      → (cond b ((e.0, w) ∷ m) (e ∷ set_value (at name) m w)) ≡ (cond b (e.0, make e.1) e) ∷ change_at name make m) [
        | true ↦ λ p q.
            let same : name ≡ e.0 = exact_bytes name e.0 (equal_is (name_cmp name e.0) p) in
            let later = sorted_head name_cmp e.0 (keys_of m) sorted in
            rw (q, change_at-none name make m (rw same later)) refl
        | false ↦ λ p q. ap (λ rest. e ∷ rest) (set_value-change name m w (sorted_tail name_cmp e.0 (keys_of m) sorted) make q)
      ] refl made

  -- what changes the value that the name has, changes the map
  pub changed : (name : Name) (m : MapOf Name X) (v w : X) (after : MapOf Name X) (make : X → X) → IsSetAt name m w after × EndsWith name m w after → Some v ≡ at_name name m → w ≡ make v → after ≡ change_at name make m
  changed name m v w after make ends found made = ends.1 make (rw (← found) made)

pub none_in_order : IsStrictlySortedBy name_cmp []
unfolding IsStrictlySortedBy
none_in_order = tt
