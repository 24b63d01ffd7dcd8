-- Blocks of tables that a start has in hand, counted by table.
use Rattle.std.proofs.Common.{◌≡◌, ℕ, ◌+◌, ◌≤◌, Bool, true, false, cond, List, [], ◌∷◌, ◌++◌, map, length, refl, sym, ap, ◌∙◌, arith, true≢false, length-append}
use Rattle.std.specs.Prelude.{not, ◌&&◌, ◌||◌, is_none, option_map, Some, find, IsPermutation}
use Rattle.std.specs.List.{list_any, filter, AllByRecursion}
use Rattle.std.proofs.lemmas.List.{length-map}
use Rattle.std.proofs.lemmas.List.Sorted.{IsPermutation-refl}
use Rattle.qc_types.specs.declared.names.TableName.{TableName}
use Rattle.qc_sql.specs.Database.{same_table}
use Rattle.qc_laws.proofs.history.Serials.{neither}
use Rattle.qc_dir.specs.declared.entries.Entry.{Entry}
use Rattle.qc_dir.specs.declared.tables.TableBlock.{TableBlock}
use Rattle.qc_dir.specs.Directory.{AreApart, is_block_of, block_of, AreFresh}
use Rattle.qc_dir.specs.Keys.{total, bit}
use Rattle.qc_dir.proofs.EntryTotals.{some_any, any_some}
use Rattle.qc_dir.proofs.Names.{same_is, same_itself}
use Rattle.qc_dir.proofs.SlotSteps.{each_counted, total-permutation}
use Rattle.qc_dir.proofs.Totals.{total-append}
use Rattle.qc_sound.specs.parts.Memory.{are_once}
use Rattle.qc_sound.proofs.Matched.{fewer_tables}
use Rattle.qc_core.specs.declared.reserved_blocks.ReservedBlocks.{ReservedBlocks}
use Rattle.qc_core.specs.BlocksReserved.{own_in, blocks_of, names_of, IsInHand}
use Rattle.qc_core.specs.EntryRemoval.{AreSorted}
use Rattle.qc_core.specs.EntryStart.{without_block}

-- ---- tables that pass a test, and those that don't

none_of_others : (p : TableName → Bool) (t : TableName) (bs : List TableBlock) (v w : Bool) → (v ≡ w → ⊥) → p t ≡ v → AllByRecursion (λ b. p b.table ≡ w) bs → blocks_of t bs ≡ 0
none_of_others p t [] v w ne is h = refl
none_of_others p t (b ∷ bs) v w ne is h = elim (same_table t b.table) as (λ x. same_table t b.table ≡ x → bit x + blocks_of t bs ≡ 0) [
  | true ↦ λ e. absurd (ne (sym is ∙ (ap p (same_is t b.table e) ∙ h.0)))
  | false ↦ λ e. omega (arith, none_of_others p t bs v w ne is h.1)
] refl

module _ (tables : List TableName) (t : TableName) (kept others : List TableBlock) (h : AreSorted tables kept others) where
  pub no_others : list_any (same_table t) tables ≡ true → blocks_of t others ≡ 0
  no_others is = none_of_others (λ u. list_any (same_table u) tables) t others true false true≢false is h.foreign

  pub no_kept : list_any (same_table t) tables ≡ false → blocks_of t kept ≡ 0
  no_kept is = none_of_others (λ u. list_any (same_table u) tables) t kept false true (λ e. true≢false (sym e)) is h.own

-- ---- what is freed comes into the hand

pub hand_keeps : (hand : ReservedBlocks) (missing : List TableName) (old freed rest kept others : List TableBlock) → IsInHand hand missing old → IsPermutation old (freed ++ rest) → IsPermutation freed (kept ++ others) → AreSorted hand.tables kept others
    → IsInHand (record { tables = hand.tables; fresh = hand.fresh ++ kept }) missing rest
hand_keeps hand missing old freed rest kept others h left parts sorts = record {
  few = h.few;
  one = λ t is.
      let w = λ (b : TableBlock). bit (is_block_of t b) in
      omega (arith, h.one t is, total-permutation w old (freed ++ rest) left, total-append w freed rest, total-permutation w freed (kept ++ others) parts, total-append w kept others, total-append w hand.fresh kept, no_others hand.tables t kept others sorts is);
  none = λ t is.
      let w = λ (b : TableBlock). bit (is_block_of t b) in
      omega (arith, h.none t is, total-append w hand.fresh kept, no_kept hand.tables t kept others sorts is);
}

-- ---- a table's block is taken

pub hand_takes : (tables : List TableName) (fresh : List TableBlock) (b : TableBlock) (missing : List TableName) (there : List TableBlock) → IsInHand (record { tables = tables; fresh = fresh }) (b.table ∷ missing) there
    → IsInHand (record { tables = tables; fresh = fresh ++ b ∷ [] }) missing there
hand_takes tables fresh b missing there h = record {
  few = h.few;
  one = λ t is. omega (arith, h.one t is, total-append (λ (b : TableBlock). bit (is_block_of t b)) fresh (b ∷ []));
  none = λ t is. omega (arith, h.none t is, total-append (λ (b : TableBlock). bit (is_block_of t b)) fresh (b ∷ []));
}

-- ---- how many there are

none_left : (p : TableBlock → Bool) (xs : List TableBlock) → total (λ x. bit (p x)) xs ≡ 0 → list_any p xs ≡ false
none_left p [] h = refl
none_left p (x ∷ xs) h = elim (p x) as (λ v. bit v + total (λ x. bit (p x)) xs ≡ 0 → (v || list_any p xs) ≡ false) [ true ↦ λ k. absurd (omega (arith, k)) | false ↦ λ k. none_left p xs (omega (arith, k)) ] h

any_names : (t : TableName) (bs : List TableBlock) → list_any (same_table t) (map (λ b. b.table) bs) ≡ list_any (is_block_of t) bs
any_names t [] = refl
any_names t (b ∷ bs) = ap (λ v. is_block_of t b || v) (any_names t bs)

self_bit : (b : TableBlock) → bit (is_block_of b.table b) ≡ 1
self_bit b = ap bit (same_itself b.table)

counts_once : (bs : List TableBlock) → ((t : TableName) → blocks_of t bs ≤ 1) → are_once (map (λ b. b.table) bs) ≡ true
counts_once [] h = refl
counts_once (b ∷ bs) h =
    let none : list_any (is_block_of b.table) bs ≡ false = none_left (is_block_of b.table) bs (omega (arith, h b.table, self_bit b)) in
    ap (λ v. not v && are_once (map (λ b. b.table) bs)) (any_names b.table bs ∙ none) ∙ counts_once bs (λ t. omega (arith, h t))

pub counts_apart : (bs : List TableBlock) → ((t : TableName) → blocks_of t bs ≤ 1) → AreApart (λ b c. same_table b.table c.table) bs
counts_apart [] h = tt
counts_apart (b ∷ bs) h = (none_left (is_block_of b.table) bs (omega (arith, h b.table, self_bit b)), counts_apart bs (λ t. omega (arith, h t)))

all_names : (P : TableName → Type 0) (bs : List TableBlock) → AllByRecursion (λ b. P b.table) bs → AllByRecursion P (map (λ b. b.table) bs)
all_names P [] h = tt
all_names P (b ∷ bs) h = (h.0, all_names P bs h.1)

all_join : (P : TableBlock → Type 0) (xs ys : List TableBlock) → AllByRecursion P xs → AllByRecursion P ys → AllByRecursion P (xs ++ ys)
all_join P [] ys h k = k
all_join P (x ∷ xs) ys h k = (h.0, all_join P xs ys h.1 k)

-- those that pass
module _ (tables : List TableName) where
  abbrev own : TableBlock → Bool
  own b = list_any (same_table b.table) tables

  all_own : (bs : List TableBlock) → AllByRecursion (λ b. own b ≡ true) (filter own bs)
  all_own [] = tt
  all_own (b ∷ bs) = elim (own b) as (λ v. own b ≡ v → AllByRecursion (λ b. own b ≡ true) (cond v (b ∷ filter own bs) (filter own bs))) [ true ↦ λ e. (e, all_own bs) | false ↦ λ e. all_own bs ] refl

  own_long : (bs : List TableBlock) → length (filter own bs) ≡ own_in tables bs
  own_long [] = refl
  own_long (b ∷ bs) = elim (own b) as (λ v. length (cond v (b ∷ filter own bs) (filter own bs)) ≡ bit v + own_in tables bs) [ true ↦ omega (arith, own_long bs) | false ↦ omega (arith, own_long bs) ]

  own_less : (t : TableName) (bs : List TableBlock) → blocks_of t (filter own bs) ≤ blocks_of t bs
  own_less t [] = omega arith
  own_less t (b ∷ bs) = elim (own b) as (λ v. blocks_of t (cond v (b ∷ filter own bs) (filter own bs)) ≤ bit (is_block_of t b) + blocks_of t bs) [ true ↦ omega (arith, own_less t bs) | false ↦ omega (arith, own_less t bs) ]

-- the hand holds tables of its own alone
own_hand : (hand : ReservedBlocks) (missing : List TableName) (there : List TableBlock) → IsInHand hand missing there → AllByRecursion (λ b. own hand.tables b ≡ true) hand.fresh
own_hand hand missing there h = each_counted (λ b. own hand.tables b ≡ true) hand.fresh (λ b f. by b (own hand.tables b) refl (f (λ c. bit (is_block_of b.table c))))
  where
    by : (b : TableBlock) (v : Bool) → own hand.tables b ≡ v → bit (is_block_of b.table b) ≤ blocks_of b.table hand.fresh → own hand.tables b ≡ true
    by b true e k = e
    by b false e k = absurd (omega (arith, k, self_bit b, h.none b.table e))

pub hand_room : (hand : ReservedBlocks) (missing : List TableName) (there freed rest : List TableBlock) → IsInHand hand missing there → IsPermutation there (freed ++ rest) → length hand.fresh + own_in hand.tables freed ≤ 8
hand_room hand missing there freed rest h left =
    let kept = filter (own hand.tables) freed in
    let all = hand.fresh ++ kept in
    let owns = all_join (λ b. own hand.tables b ≡ true) hand.fresh kept (own_hand hand missing there h) (all_own hand.tables freed) in
    let few = fewer_tables (map (λ b. b.table) all) hand.tables (counts_once all (λ t. once t (list_any (same_table t) hand.tables) refl)) (all_names (λ t. list_any (same_table t) hand.tables ≡ true) all owns) in
    omega (arith, few, h.few, length-map all (λ (b : TableBlock). b.table), length-append hand.fresh kept, own_long hand.tables freed)
  where
    once : (t : TableName) (v : Bool) → list_any (same_table t) hand.tables ≡ v → blocks_of t (hand.fresh ++ filter (own hand.tables) freed) ≤ 1
    once t true e =
        let w = λ (b : TableBlock). bit (is_block_of t b) in
        omega (arith, h.one t e, total-permutation w there (freed ++ rest) left, total-append w freed rest, total-append w hand.fresh (filter (own hand.tables) freed), own_less hand.tables t freed)
    once t false e =
        let w = λ (b : TableBlock). bit (is_block_of t b) in
        omega (arith, h.none t e, total-append w hand.fresh (filter (own hand.tables) freed), none_of_others (λ u. list_any (same_table u) hand.tables) t (filter (own hand.tables) freed) false true (λ x. true≢false (sym x)) e (all_own hand.tables freed))

-- no more than eight
pub hand_few : (hand : ReservedBlocks) (missing : List TableName) (there : List TableBlock) → IsInHand hand missing there → length hand.fresh ≤ 8
hand_few hand missing there h = omega (arith, hand_room hand missing there [] there h (IsPermutation-refl there))

-- ---- the start

none_counted : (p : TableBlock → Bool) (xs : List TableBlock) → list_any p xs ≡ false → total (λ x. bit (p x)) xs ≡ 0
none_counted p [] h = refl
none_counted p (x ∷ xs) h =
    let parts = neither (p x) (list_any p xs) h in
    let zero : bit (p x) ≡ 0 = ap bit parts.0 in
    omega (arith, zero, none_counted p xs parts.1)

at_most_one : (bs : List TableBlock) → AreApart (λ b c. same_table b.table c.table) bs → (t : TableName) → blocks_of t bs ≤ 1
at_most_one [] apart t = omega arith
at_most_one (b ∷ bs) apart t = elim (same_table t b.table) as (λ v. same_table t b.table ≡ v → bit v + blocks_of t bs ≤ 1) [
  | true ↦ λ e. omega (arith, none_counted (is_block_of t) bs (ap (λ u. list_any (is_block_of u) bs) (same_is t b.table e) ∙ apart.0))
  | false ↦ λ e. omega (arith, at_most_one bs apart.1 t)
] refl

known : (t : TableName) (bs : List TableBlock) → is_none (block_of t bs) ≡ not (list_any (is_block_of t) bs)
known t [] = refl
known t (b ∷ bs) = elim (is_block_of t b) as (λ p. is_none (option_map (λ (c : TableBlock). c.block) (cond p (Some b) (find (is_block_of t) bs))) ≡ not (p || list_any (is_block_of t) bs)) [ true ↦ refl | false ↦ known t bs ]

names_left : (q : TableName → Bool) (t : TableName) (ts : List TableName) → names_of t (filter q ts) ≡ cond (q t) (names_of t ts) 0
names_left q t [] = elim (q t) as (λ v. ◌≡◌ {A = ℕ} 0 (cond v 0 0)) [ true ↦ refl | false ↦ refl ]
names_left q t (u ∷ ts) = elim (same_table t u) as (λ x. same_table t u ≡ x → names_of t (cond (q u) (u ∷ filter q ts) (filter q ts)) ≡ cond (q t) (bit x + names_of t ts) 0) [
  | true ↦ λ e.
      let same : q u ≡ q t = ap q (sym (same_is t u e)) in
      elim (q t) as (λ v. names_of t (filter q ts) ≡ cond v (names_of t ts) 0 → q u ≡ v → names_of t (cond (q u) (u ∷ filter q ts) (filter q ts)) ≡ cond v (1 + names_of t ts) 0) [
        | true ↦ λ k f. ap (λ v. names_of t (cond v (u ∷ filter q ts) (filter q ts))) f ∙ omega (arith, k, ap bit e)
        | false ↦ λ k f. ap (λ v. names_of t (cond v (u ∷ filter q ts) (filter q ts))) f ∙ k
      ] (names_left q t ts) same
  | false ↦ λ e.
      elim (q u) as (λ v. names_of t (cond v (u ∷ filter q ts) (filter q ts)) ≡ cond (q t) (0 + names_of t ts) 0) [
        | true ↦ let z : bit (same_table t u) ≡ 0 = ap bit e in zero_more z (names_left q t ts)
        | false ↦ zero_less (names_left q t ts)
      ]
] refl
  where
    zero_less : names_of t (filter q ts) ≡ cond (q t) (names_of t ts) 0 → names_of t (filter q ts) ≡ cond (q t) (0 + names_of t ts) 0
    zero_less k = let z : names_of t ts ≡ 0 + names_of t ts = omega arith in k ∙ ap (λ n. cond (q t) n 0) z

    zero_more : bit (same_table t u) ≡ 0 → names_of t (filter q ts) ≡ cond (q t) (names_of t ts) 0 → bit (same_table t u) + names_of t (filter q ts) ≡ cond (q t) (0 + names_of t ts) 0
    zero_more z k = let y : bit (same_table t u) + names_of t (filter q ts) ≡ names_of t (filter q ts) = omega (arith, z) in y ∙ zero_less k

names_none : (t : TableName) (ts : List TableName) → list_any (same_table t) ts ≡ false → names_of t ts ≡ 0
names_none t [] h = refl
names_none t (u ∷ ts) h =
    let parts = neither (same_table t u) (list_any (same_table t) ts) h in
    omega (arith, ap bit parts.0, names_none t ts parts.1)

names_one : (t : TableName) (ts : List TableName) → AreApart same_table ts → list_any (same_table t) ts ≡ true → names_of t ts ≡ 1
names_one t [] apart h = absurd (true≢false (sym h))
names_one t (u ∷ ts) apart h = elim (same_table t u) as (λ v. same_table t u ≡ v → (v || list_any (same_table t) ts) ≡ true → bit v + names_of t ts ≡ 1) [
  | true ↦ λ e k. omega (arith, names_none t ts (ap (λ x. list_any (same_table x) ts) (same_is t u e) ∙ apart.0))
  | false ↦ λ e k. omega (arith, names_one t ts apart.1 k)
] refl h

-- a start begins with nothing in hand
pub hand_begins : (tables : List TableName) (there : List TableBlock) → length tables ≤ 8 → AreApart same_table tables → AreApart (λ b c. same_table b.table c.table) there
    → IsInHand (record { tables = tables; fresh = [] }) (without_block there tables) there
hand_begins tables there few apart once = record {
  few = few;
  one = λ t is.
      let left = names_left (λ u. is_none (block_of u there)) t tables in
      by t (list_any (is_block_of t) there) refl (left ∙ ap (λ v. cond v (names_of t tables) 0) (known t there)) (names_one t tables apart is);
  none = λ t is.
      let left = names_left (λ u. is_none (block_of u there)) t tables in
      omega (arith, left ∙ ap (λ n. cond (is_none (block_of t there)) n 0) (names_none t tables is) ∙ zero (is_none (block_of t there)));
}
  where
    zero : (b : Bool) → ◌≡◌ {A = ℕ} (cond b 0 0) 0
    zero true = refl
    zero false = refl

    by : (t : TableName) (v : Bool) → list_any (is_block_of t) there ≡ v → names_of t (without_block there tables) ≡ cond (not (list_any (is_block_of t) there)) (names_of t tables) 0 → names_of t tables ≡ 1 → blocks_of t there + (0 + names_of t (without_block there tables)) ≡ 1
    by t true e left one =
        let less = at_most_one there once t in
        let some = any_some (is_block_of t) there e in
        omega (arith, less, some, left ∙ ap (λ v. cond (not v) (names_of t tables) 0) e)
    by t false e left one =
        let none = none_counted (is_block_of t) there e in
        omega (arith, none, left ∙ ap (λ v. cond (not v) (names_of t tables) 0) e, one)

-- ---- the end

-- with none missing, what is in hand are the tables of the entry that have no block
pub hand_fresh : (hand : ReservedBlocks) (there : List TableBlock) (e : Entry) → IsInHand hand [] there → e.tables ≡ hand.tables → AreFresh e there hand.fresh
hand_fresh hand there e h same = record {
  once = counts_apart hand.fresh (λ t. once t (list_any (same_table t) hand.tables) refl);
  exactly = λ t. by t (list_any (same_table t) hand.tables) refl ∙ ap (λ l. list_any (same_table t) l && not (list_any (is_block_of t) there)) (sym same);
}
  where
    once : (t : TableName) (v : Bool) → list_any (same_table t) hand.tables ≡ v → blocks_of t hand.fresh ≤ 1
    once t true e = omega (arith, h.one t e)
    once t false e = omega (arith, h.none t e)

    by : (t : TableName) (v : Bool) → list_any (same_table t) hand.tables ≡ v → list_any (is_block_of t) hand.fresh ≡ (list_any (same_table t) hand.tables && not (list_any (is_block_of t) there))
    by t false e = none_left (is_block_of t) hand.fresh (omega (arith, h.none t e)) ∙ ap (λ v. v && not (list_any (is_block_of t) there)) (sym e)
    by t true e = either (list_any (is_block_of t) there) refl ∙ ap (λ v. v && not (list_any (is_block_of t) there)) (sym e)
      where
        either : (w : Bool) → list_any (is_block_of t) there ≡ w → list_any (is_block_of t) hand.fresh ≡ (true && not (list_any (is_block_of t) there))
        either true k =
            let some = any_some (is_block_of t) there k in
            none_left (is_block_of t) hand.fresh (omega (arith, h.one t e, some)) ∙ ap (λ v. not v) (sym k)
        either false k =
            let none = none_counted (is_block_of t) there k in
            some_any (is_block_of t) hand.fresh (omega (arith, h.one t e, none)) ∙ ap (λ v. not v) (sym k)

-- ---- nothing is kept for no tables

pub none_in_hand : (hand : ReservedBlocks) (there : List TableBlock) → hand.tables ≡ [] → IsInHand hand [] there → hand.fresh ≡ []
none_in_hand hand there is h = by hand.fresh (λ t. h.none t (ap (list_any (same_table t)) is))
  where
    by : (bs : List TableBlock) → ((t : TableName) → blocks_of t bs + 0 ≡ 0) → bs ≡ []
    by [] k = refl
    by (b ∷ bs) k = absurd (omega (arith, k b.table, self_bit b))
