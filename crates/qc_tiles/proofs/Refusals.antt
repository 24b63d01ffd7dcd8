-- A need is refused where all free blocks are smaller.
use Rattle.std.proofs.Common.{◌≡◌, ℕ, ◌<◌, max, true, false, cond, List, [], ◌∷◌, Option, Some, None, refl, ◌∙◌, arith}
use Rattle.std.specs.Prelude.{◌&&◌, is_some, nat_le, option_map}
use Rattle.std.proofs.lemmas.Bool.Decides.{nat_tests}
use Rattle.qc_tiles.specs.declared.blocks.Tile.{Tile}
use Rattle.qc_tiles.specs.declared.blocks.Block.{Block}
use Rattle.qc_types.specs.Blocks.{raised}
use Rattle.qc_tiles.specs.Tiles.{best, smaller, taken, largest_free, cut_words}
use Rattle.qc_tiles.proofs.Keeps.{raised_some}

none_holds : (need : ℕ) → 0 < need → false ≡ nat_le need 0
none_holds need some = grind (arith, nat_tests)

first_holds : (need words rest : ℕ) → nat_le need words ≡ true → true ≡ nat_le need (max words rest)
first_holds need words rest e = grind (arith, nat_tests)

first_fails : (need words rest : ℕ) → nat_le need words ≡ false → nat_le need rest ≡ nat_le need (max words rest)
first_fails need words rest e = grind (arith, nat_tests)

best-some : (need : ℕ) (ts : List Tile) → 0 < need → is_some (best need ts) ≡ nat_le need (largest_free ts)
best-some need [] some = none_holds need some
best-some need (t ∷ ts) some =
    let rest = best-some need ts some in
    elim t.free as (λ f. is_some (cond (f && nat_le need t.words) (Some (smaller t (best need ts))) (best need ts)) ≡ nat_le need (cond f (max t.words (largest_free ts)) (largest_free ts))) [
      | true ↦ elim (nat_le need t.words) as (λ v. nat_le need t.words ≡ v → is_some (cond v (Some (smaller t (best need ts))) (best need ts)) ≡ nat_le need (max t.words (largest_free ts))) [
        | true ↦ λ e. first_holds need t.words (largest_free ts) e
        | false ↦ λ e. rest ∙ first_fails need t.words (largest_free ts) e
      ] refl
      | false ↦ rest
    ]

mapped_some : {A B : Type 0} (f : A → B) (o : Option A) → is_some (option_map f o) ≡ is_some o
mapped_some f None = refl
mapped_some f (Some x) = refl

pub taken-some : (need : ℕ) (ts : List Tile) → is_some (taken need ts) ≡ nat_le (raised need) (largest_free ts)
taken-some need ts =
    mapped_some (λ (t : Tile). let b : Block = record { first = t.first; words = cut_words (raised need) t.words } in b) (best (raised need) ts)
    ∙ best-some (raised need) ts (let some = raised_some need in omega arith)
