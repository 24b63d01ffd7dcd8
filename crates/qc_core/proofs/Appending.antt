-- A chain gets a block more.
use Rattle.std.proofs.Common.{◌≡◌, ◌≢◌, ℕ, zero, suc, ◌+◌, ◌-◌, ◌*◌, ◌<◌, eqb, eq-eqb, eqb-true, true, false, cond, List, [], ◌∷◌, ◌++◌, map, length, refl, sym, ap, subst, ◌∙◌, arith, true≢false, length-append}
use Rattle.std.specs.Prelude.{not, ◌||◌, ◌==◌, Option, Some, None, is_some, is_none, find, option_and_then, slice_get, slice_set}
use Rattle.std.specs.List.{list_any, filter, flat_map, AllByRecursion}
use Rattle.std.proofs.lemmas.Option.{none-some, same_Some}
use Rattle.qc_laws.specs.history.Runs.{are_distinct}
use Rattle.qc_laws.proofs.history.Serials.{both_true, opposite, neither}
use Rattle.qc_laws.proofs.history.Events.{all_on}
use Rattle.qc_tiles.specs.declared.blocks.Block.{Block}
use Rattle.qc_chain.specs.Words.{words_of}
use Rattle.qc_chain.specs.Chains.{Chained, chain_at, Begun, after_append, whole_chain}
use Rattle.qc_chain.specs.Chains.{Chain as Kept}
use Rattle.qc_dir.specs.declared.entries.Entry.{Entry}
use Rattle.qc_sound.specs.PlainServer.{EntryChain, has_chain}
use Rattle.qc_sound.specs.steps.Growing.{with_blocks, with_bytes}
use Rattle.qc_sound.proofs.Changed.{only_keyed}
use Rattle.qc_core.specs.Whole.{Named, is_named, IsNamedAs, chain_blocks, chain_bytes, chain_in, stored, ChainsHaveRoom}
use Rattle.qc_core.proofs.Remaining.{IsOther}
use Rattle.qc_core.proofs.Uses.{find_all}

-- ---- the chain, and the others

get_same : {A : Type 0} (l : List (Option A)) (k : ℕ) (x : A) (v : Option A) → option_and_then (λ x. x) (slice_get l k) ≡ Some x → option_and_then (λ x. x) (slice_get (slice_set l k v) k) ≡ v
get_same [] k x v h = absurd (none-some x h)
get_same (y ∷ l) zero x v h = refl
get_same (y ∷ l) (suc k) x v h = get_same l k x v h

pub get_else : {A : Type 0} (l : List A) (k j : ℕ) (v : A) → j ≢ k → slice_get (slice_set l k v) j ≡ slice_get l j
get_else [] k j v ne = refl
get_else (x ∷ l) zero zero v ne = absurd (ne refl)
get_else (x ∷ l) zero (suc j) v ne = refl
get_else (x ∷ l) (suc k) zero v ne = refl
get_else (x ∷ l) (suc k) (suc j) v ne = get_else l k j v (λ e. ne (ap suc e))

free_same : {A : Type 0} (l : List (Option A)) (k : ℕ) (x y : A) → option_and_then (λ x. x) (slice_get l k) ≡ Some x → length (filter (λ c. is_none c) (slice_set l k (Some y))) ≡ length (filter (λ c. is_none c) l)
free_same [] k x y h = absurd (none-some x h)
free_same (None ∷ l) zero x y h = absurd (none-some x h)
free_same (Some c ∷ l) zero x y h = refl
free_same (None ∷ l) (suc k) x y h = ap suc (free_same l k x y h)
free_same (Some c ∷ l) (suc k) x y h = free_same l k x y h

pub append_begun : (cs : Chained) (number : ℕ) (b : Block) (held : Kept) → Begun number cs held → Begun number (after_append number b held cs) (whole_chain (held.blocks ++ b ∷ []))
append_begun cs number b held begun = get_same cs.chains number held (Some (whole_chain (held.blocks ++ b ∷ []))) begun

pub append_else : (cs : Chained) (number j : ℕ) (b : Block) (held : Kept) → j ≢ number → chain_at j (after_append number b held cs) ≡ chain_at j cs
append_else cs number j b held ne = ap (λ (o : Option (Option Kept)). option_and_then (λ x. x) o) (get_else cs.chains number j (Some (whole_chain (held.blocks ++ b ∷ []))) ne)

serials_same : (cs : Chained) (names : List Named) → map (λ c. c.serial) (map (chain_in cs) names) ≡ map (λ x. x.serial) names
serials_same cs [] = refl
serials_same cs (x ∷ names) = ap (λ l. x.serial ∷ l) (serials_same cs names)

-- ---- one chain of a list

with_none : (n : ℕ) (f : List Block → List Block) (cs : List EntryChain) → list_any (λ m. m == n) (map (λ c. c.serial) cs) ≡ false → with_blocks n f cs ≡ cs
with_none n f [] h = refl
with_none n f (c ∷ cs) h =
    let t = neither (c.serial == n) (list_any (λ m. m == n) (map (λ c. c.serial) cs)) h in
    λ i. cond (t.0 i) (record { serial = c.serial; blocks = f c.blocks }) c ∷ with_none n f cs t.1 i

with_long : (n : ℕ) (b : Block) (cs : List EntryChain) → are_distinct (map (λ c. c.serial) cs) ≡ true → has_chain n cs ≡ true → length (flat_map (λ c. c.blocks) (with_blocks n (λ blocks. blocks ++ b ∷ []) cs)) ≡ length (flat_map (λ c. c.blocks) cs) + 1
with_long n b [] d h = absurd (true≢false (sym h))
with_long n b (c ∷ cs) d h =
    let parts = both_true (not (list_any (λ m. m == c.serial) (map (λ c. c.serial) cs))) (are_distinct (map (λ c. c.serial) cs)) d in
    let f = λ (blocks : List Block). blocks ++ b ∷ [] in
    let rest = flat_map (λ (c : EntryChain). c.blocks) cs in
    elim (eqb c.serial n) as (λ v. eqb c.serial n ≡ v → has_chain n (c ∷ cs) ≡ true → length (flat_map (λ (c : EntryChain). c.blocks) (cond v (record { serial = c.serial; blocks = f c.blocks }) c ∷ with_blocks n f cs)) ≡ length (c.blocks ++ rest) + 1) [
      | true ↦ λ e k.
          let none = subst (λ m. list_any (λ k. k == m) (map (λ (c : EntryChain). c.serial) cs) ≡ false) (eqb-true c.serial n e) (opposite _ parts.0) in
          let same = ap (λ l. length (flat_map (λ (c : EntryChain). c.blocks) l)) (with_none n f cs none) in
          omega (arith, same, length-append (f c.blocks) (flat_map (λ (c : EntryChain). c.blocks) (with_blocks n f cs)), length-append c.blocks rest, length-append c.blocks (b ∷ []))
      | false ↦ λ e k.
          let more = with_long n b cs parts.1 (sym (ap (λ v. v || has_chain n cs) e) ∙ k) in
          omega (arith, more, length-append c.blocks (flat_map (λ (c : EntryChain). c.blocks) (with_blocks n f cs)), length-append c.blocks rest)
    ] refl h

-- ---- the chain under its name

module _ (cs : Chained) (n number : ℕ) (b : Block) (held : Kept) (names : List Named) (begun : Begun number cs held) (named : IsNamedAs names n number) (distinct : are_distinct (map (λ c. c.serial) (map (chain_in cs) names)) ≡ true)
    (numbers : AllByRecursion (IsOther n number) names) where
  abbrev longer : Chained
  longer = after_append number b held cs

  abbrev bytes : ℕ
  bytes = 8 * words_of (held.blocks ++ b ∷ [])

  abbrev last : List Block → List Block
  last blocks = blocks ++ b ∷ []

  abbrev pub own_name : Named
  own_name = record { serial = n; number = number }

  only : AllByRecursion (λ x. eqb x.serial n ≡ true → x ≡ own_name) names
  only = only_keyed (λ (x : Named). x.serial) n names own_name (ap are_distinct (sym (serials_same cs names)) ∙ distinct) named

  now_blocks : chain_blocks (chain_at number longer) ≡ held.blocks ++ b ∷ []
  now_blocks = ap chain_blocks (append_begun cs number b held begun)

  was_blocks : chain_blocks (chain_at number cs) ≡ held.blocks
  was_blocks = ap chain_blocks begun

  chains_by : (xs : List Named) → AllByRecursion (IsOther n number) xs → AllByRecursion (λ x. eqb x.serial n ≡ true → x ≡ own_name) xs → map (chain_in longer) xs ≡ with_blocks n last (map (chain_in cs) xs)
  chains_by [] o k = refl
  chains_by (x ∷ xs) o k =
      let more = chains_by xs o.1 k.1 in
      elim (eqb x.serial n) as (λ v. eqb x.serial n ≡ v → chain_in longer x ∷ map (chain_in longer) xs ≡ cond v (record { serial = x.serial; blocks = last (chain_blocks (chain_at x.number cs)) }) (chain_in cs x) ∷ with_blocks n last (map (chain_in cs) xs)) [
        | true ↦ λ e.
            let same : x.number ≡ number = ap (λ (z : Named). z.number) (k.0 e) in
            let blocks : chain_blocks (chain_at x.number longer) ≡ last (chain_blocks (chain_at x.number cs)) =
            ap (λ i. chain_blocks (chain_at i longer)) same ∙ (now_blocks ∙ (ap last (sym was_blocks) ∙ ap (λ i. last (chain_blocks (chain_at i cs))) (sym same))) in
            λ i. record { serial = x.serial; blocks = blocks i } ∷ more i
        | false ↦ λ e. λ i. record { serial = x.serial; blocks = chain_blocks (append_else cs number x.number b held (o.0 e) i) } ∷ more i
      ] refl

  pub append_chains : map (chain_in longer) names ≡ with_blocks n last (map (chain_in cs) names)
  append_chains = chains_by names numbers only

  pub append_entries : (es : List Entry) → AllByRecursion (λ e. IsNamedAs names e.serial e.chain.number) es → map (stored longer) es ≡ with_bytes n bytes (map (stored cs) es)
  append_entries [] h = refl
  append_entries (e ∷ es) h =
      let more = append_entries es h.1 in
      elim (eqb e.serial n) as (λ v. eqb e.serial n ≡ v → stored longer e ∷ map (stored longer) es ≡ cond v (record (stored cs e) { bytes = bytes }) (stored cs e) ∷ with_bytes n bytes (map (stored cs) es)) [
        | true ↦ λ q.
            let found : find (is_named n) names ≡ Some (record { serial = e.serial; number = e.chain.number }) = subst (λ i. find (is_named i) names ≡ Some (record { serial = e.serial; number = e.chain.number })) (eqb-true e.serial n q) h.0 in
            let same : e.chain.number ≡ number = ap (λ (z : Named). z.number) (same_Some _ own_name (sym found ∙ named)) in
            let long : chain_bytes (chain_at e.chain.number longer) ≡ bytes = ap (λ i. chain_bytes (chain_at i longer)) same ∙ ap chain_bytes (append_begun cs number b held begun) in
            λ i. record { serial = e.serial; hash = e.hash; text = e.text; text_bytes = e.text_bytes; tables = e.tables; bytes = long i; complete = e.complete; users = e.users } ∷ more i
        | false ↦ λ q.
            let ne : e.chain.number ≢ number = find_all (IsOther n number) (is_named e.serial) names _ numbers h.0 q in
            λ i. record { serial = e.serial; hash = e.hash; text = e.text; text_bytes = e.text_bytes; tables = e.tables; bytes = chain_bytes (append_else cs number e.chain.number b held ne i); complete = e.complete; users = e.users } ∷ more i
      ] refl

  pub append_names : AllByRecursion (λ x. is_some (chain_at x.number cs) ≡ true) names → AllByRecursion (λ x. is_some (chain_at x.number longer) ≡ true) names
  append_names h = all_on (λ x. is_some (chain_at x.number cs) ≡ true) (λ x. is_some (chain_at x.number longer) ≡ true) names (λ x k. by x k) h
    where
      by : (x : Named) → is_some (chain_at x.number cs) ≡ true → is_some (chain_at x.number longer) ≡ true
      by x k = elim (eqb x.number number) as (λ v. eqb x.number number ≡ v → is_some (chain_at x.number longer) ≡ true) [
        | true ↦ λ e. ap (λ i. is_some (chain_at i longer)) (eqb-true x.number number e) ∙ ap is_some (append_begun cs number b held begun)
        | false ↦ λ e. ap is_some (append_else cs number x.number b held (λ z. true≢false (sym (eq-eqb x.number number z) ∙ e))) ∙ k
      ] refl

  has_own : (xs : List Named) → find (is_named n) xs ≡ Some own_name → has_chain n (map (chain_in cs) xs) ≡ true
  has_own [] h = absurd (none-some own_name h)
  has_own (x ∷ xs) h = elim (eqb x.serial n) as (λ v. cond v (Some x) (find (is_named n) xs) ≡ Some own_name → (v || has_chain n (map (chain_in cs) xs)) ≡ true) [
    | true ↦ λ f. refl
    | false ↦ λ f. has_own xs f
  ] h

  pub append_room : (words : ℕ) → 0 < cs.room → ChainsHaveRoom names cs words → ChainsHaveRoom names longer words
  append_room words some h =
      let long = with_long n b (map (chain_in cs) names) distinct (has_own names named) in
      let now = ap (λ l. length (flat_map (λ (c : EntryChain). c.blocks) l)) append_chains in
      record {
        blocks = omega (arith, h.blocks, long, now, some);
        free = omega (arith, h.free, free_same cs.chains number held (whole_chain (held.blocks ++ b ∷ [])) begun);
      }
