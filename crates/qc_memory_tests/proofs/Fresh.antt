-- The tables of a list that have no block yet, found one after another.
use Rattle.std.proofs.Common.{◌≡◌, Bool, true, false, cond, List, [], ◌∷◌, ◌++◌, refl, ap, ◌∙◌}
use Rattle.std.specs.Prelude.{◌||◌, ◌&&◌, not, is_some, option_map, Some}
use Rattle.std.specs.List.{list_any, find}
use Rattle.qc_types.specs.declared.names.TableName.{TableName}
use Rattle.qc_sql.specs.Database.{same_table}
use Rattle.qc_dir.specs.declared.tables.TableBlock.{TableBlock}
use Rattle.qc_dir.specs.Directory.{is_block_of, block_of}
use Rattle.qc_dir.proofs.Names.{same_is, same_itself, same_answer, or_swap}
use Rattle.qc_dir.proofs.Apart.{Once, apart_push}

-- one more at the end
any_end : {X : Type 0} (p : X → Bool) (xs : List X) (x : X) → list_any p (xs ++ x ∷ []) ≡ (p x || list_any p xs)
any_end p [] x = refl
any_end p (y ∷ ys) x = ap (λ b. p y || b) (any_end p ys x) ∙ or_swap (p y) (p x) (list_any p ys)

-- these are the tables of the list that have no block, each once
pub record IsFreshFor (names : List TableName) (tables fresh : List TableBlock) : Type 0 where
  pub once : Once fresh
  pub exactly : (t : TableName) → list_any (is_block_of t) fresh ≡ (list_any (same_table t) names && not (list_any (is_block_of t) tables))

-- whether a table has a block
pub known_is : (t : TableName) (tables : List TableBlock) → is_some (block_of t tables) ≡ list_any (is_block_of t) tables
known_is t [] = refl
known_is t (b ∷ bs) =
    elim (is_block_of t b) as (λ p. is_some (option_map (λ (c : TableBlock). c.block) (cond p (Some b) (find (is_block_of t) bs))) ≡ (p || list_any (is_block_of t) bs)) [ true ↦ refl | false ↦ known_is t bs ]

nor_false : (a : Bool) → (a && false) ≡ false
nor_false true = refl
nor_false false = refl

-- a table that was seen before
pub fresh_again : (names : List TableName) (t : TableName) (tables fresh : List TableBlock) → IsFreshFor names tables fresh → list_any (same_table t) names ≡ true → IsFreshFor (names ++ t ∷ []) tables fresh
fresh_again names t tables fresh h seen = record { once = h.once; exactly = λ s. by s (same_table s t) refl }
  where
    by : (s : TableName) (b : Bool) → same_table s t ≡ b → list_any (is_block_of s) fresh ≡ (list_any (same_table s) (names ++ t ∷ []) && not (list_any (is_block_of s) tables))
    by s true e = rw (any_end (same_table s) names t, e) (rw (ap (λ u. list_any (same_table u) names) (same_is s t e) ∙ seen) at (h.exactly s))
    by s false e = rw (any_end (same_table s) names t, e) (h.exactly s)

-- one that has a block
pub fresh_known : (names : List TableName) (t : TableName) (tables fresh : List TableBlock) → IsFreshFor names tables fresh → list_any (is_block_of t) tables ≡ true → IsFreshFor (names ++ t ∷ []) tables fresh
fresh_known names t tables fresh h known = record { once = h.once; exactly = λ s. by s (same_table s t) refl }
  where
    by : (s : TableName) (b : Bool) → same_table s t ≡ b → list_any (is_block_of s) fresh ≡ (list_any (same_table s) (names ++ t ∷ []) && not (list_any (is_block_of s) tables))
    by s true e =
        let its : list_any (is_block_of s) tables ≡ true = ap (λ u. list_any (is_block_of u) tables) (same_is s t e) ∙ known in
        rw (any_end (same_table s) names t, e, its) (rw its at (h.exactly s) ∙ nor_false (list_any (same_table s) names))
    by s false e = rw (any_end (same_table s) names t, e) (h.exactly s)

same_either_way : (t u : TableName) → same_table t u ≡ same_table u t
same_either_way t u =
    same_answer (same_table t u) (same_table u t) (λ h. rw (same_is t u h) (same_itself u)) (λ h. rw (same_is u t h) (same_itself t))

other_side : (t : TableName) (bs : List TableBlock) → list_any (λ c. same_table c.table t) bs ≡ list_any (is_block_of t) bs
other_side t [] = refl
other_side t (b ∷ bs) = ap (λ p. p || list_any (λ (c : TableBlock). same_table c.table t) bs) (same_either_way b.table t) ∙ ap (λ p. same_table t b.table || p) (other_side t bs)

-- one that has none
pub fresh_more : (names : List TableName) (b : TableBlock) (tables fresh : List TableBlock) → IsFreshFor names tables fresh → list_any (same_table b.table) names ≡ false → list_any (is_block_of b.table) tables ≡ false → IsFreshFor (names ++ b.table ∷ []) tables (fresh ++ b ∷ [])
fresh_more names b tables fresh h new none = record {
  once = apart_push (λ (c : TableBlock) (d : TableBlock). same_table c.table d.table) fresh b h.once (other_side b.table fresh ∙ (h.exactly b.table ∙ ap (λ seen. seen && not (list_any (is_block_of b.table) tables)) new));
  exactly = λ s. by s (same_table s b.table) refl;
}
  where
    by : (s : TableName) (p : Bool) → same_table s b.table ≡ p → list_any (is_block_of s) (fresh ++ b ∷ []) ≡ (list_any (same_table s) (names ++ b.table ∷ []) && not (list_any (is_block_of s) tables))
    by s true e = rw (any_end (is_block_of s) fresh b, any_end (same_table s) names b.table, e, ap (λ u. list_any (is_block_of u) tables) (same_is s b.table e) ∙ none) refl
    by s false e = rw (any_end (is_block_of s) fresh b, any_end (same_table s) names b.table, e) (h.exactly s)
