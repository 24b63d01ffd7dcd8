-- The kinds of columns, held by the names of tables.
use Rattle.std.proofs.Common.{◌≡◌, Bool, true, false, cond, List, [], ◌∷◌, map, refl, ap, ◌∙◌}
use Rattle.std.specs.Prelude.{Option, Some, None, unwrap_or}
use Rattle.std.specs.Ordering.{match_ordering}
use Rattle.std.specs.declared.cmp.Ordering.{Ordering}
use Rattle.std.specs.declared.cmp.Ordering.TheVariants.{Less, Equal, Greater}
use Rattle.std.specs.BTreeMap.{insert_entry, is_at}
use Rattle.std.specs.Map.{lookup}
use Rattle.qc_sql.specs.Database.{Name, MapOf, name_cmp, at_name}

abbrev at : Name → Name → Bool
at n k = is_at (name_cmp n) k

module _ {K V X : Type 0} (f : K → Name) (g : V → List X) where
  abbrev cmp : K → K → Ordering
  cmp a b = name_cmp (f a) (f b)

  abbrev named : List (K × V) → MapOf Name (List X)
  named es = map (λ e. (f e.0, g e.1)) es

  abbrev found : Option V → List X
  found None = []
  found (Some v) = g v

  found_at : (name : Name) (es : List (K × V)) → found (lookup (λ k. at name (f k)) es) ≡ unwrap_or (at_name name (named es)) []
  found_at name [] = refl
  found_at name (e ∷ es) =
      elim (at name (f e.0)) as (λ b. found (cond b (Some e.1) (lookup (λ k. at name (f k)) es)) ≡ unwrap_or (cond b (Some (g e.1)) (at_name name (named es))) []) [
        | true ↦ refl
        | false ↦ found_at name es
      ]

  pub kinds_some : (name : Name) (es : List (K × V)) (v : V) → Some v ≡ lookup (λ k. at name (f k)) es → g v ≡ unwrap_or (at_name name (named es)) []
  kinds_some name es v is = ap found is ∙ found_at name es

  pub kinds_none : (name : Name) (es : List (K × V)) → ◌≡◌ {A = Option V} None (lookup (λ k. at name (f k)) es) → [] ≡ unwrap_or (at_name name (named es)) []
  kinds_none name es is = ap found is ∙ found_at name es

  pub insert_named : (es : List (K × V)) (k : K) (v : V) → named (insert_entry cmp es k v) ≡ insert_entry name_cmp (named es) (f k) (g v)
  insert_named [] k v = refl
  insert_named (e ∷ es) k v =
      elim (cmp k e.0) as (λ r. named (match_ordering r ((k, v) ∷ e ∷ es) ((e.0, v) ∷ es) (e ∷ insert_entry cmp es k v))
      ≡ match_ordering r ((f k, g v) ∷ (f e.0, g e.1) ∷ named es) ((f e.0, g v) ∷ named es) ((f e.0, g e.1) ∷ insert_entry name_cmp (named es) (f k) (g v))) [
        | Less ↦ refl
        | Equal ↦ refl
        | Greater ↦ ap (λ rest. (f e.0, g e.1) ∷ rest) (insert_named es k v)
      ]
