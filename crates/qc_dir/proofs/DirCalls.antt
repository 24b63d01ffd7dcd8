-- What the directory's indexes answer.
use Rattle.std.proofs.Common.{◌≡◌, ℕ, ◌+◌, ◌<◌, ◌≤◌, true, false, cond, nat_lt, ◌&&◌, List, [], ◌∷◌, map, refl, sym, ap, ◌∙◌, subst, Option, Some, None, ◌==◌, arith}
use Rattle.std.specs.List.{AllByRecursion, list_any, find}
use Rattle.std.specs.Option.{IsSomeAnd, MatchOption}
use Rattle.std.proofs.lemmas.Option.{none-some, same_Some}
use Rattle.std.proofs.lemmas.Bool.Decides.{nat_tests}
use Rattle.std.proofs.lemmas.Bool.{eq-eqb, ne_eqb, eqb-true, lt-ltb, ltb-true}
use Rattle.qc_types.specs.declared.names.TableName.{TableName}
use Rattle.qc_sql.specs.Database.{same_table}
use Rattle.qc_tiles.specs.declared.blocks.Move.{Move}
use Rattle.qc_tiles.specs.declared.blocks.Block.{Block}
use Rattle.qc_chain.specs.declared.keys.Key.{Key}
use Rattle.qc_dir.specs.declared.entries.Entry.{Entry}
use Rattle.qc_dir.specs.declared.tables.TableBlock.{TableBlock}
use Rattle.qc_tiles.specs.Tiles.{moved}
use Rattle.qc_dir.specs.Directory.{Directory, has_serial, entry_at, changed, names_table, moved_entry, moved_table, after_shift}
use Rattle.qc_dir.specs.Keys.{Keys, total, bit, times, IsAnyUnder}
use Rattle.qc_dir.specs.Slots.{Numbered, IsInOrder, has_number, is_of, number_of, numbered_at, moved_numbered}
use Rattle.qc_dir.specs.Uses.{placed_text, texts_at}
use Rattle.qc_dir.specs.Indexed.{IsDir, numbered_as, numbers_in, entry_times, holding, naming}
use Rattle.qc_dir.proofs.Names.{same_is, same_itself as same_name}
use Rattle.qc_dir.proofs.SlotSteps.{each_counted}
use Rattle.qc_dir.proofs.SlotCalls.{found_at}
use Rattle.qc_dir.proofs.Totals.{total-map}
use Rattle.qc_dir.proofs.EntryTotals.{only_entry, total-changed_one, any-total, some_any, any_some, some_one, bit_true, total-same}
use Rattle.qc_dir.proofs.DirSteps.{tables_in, numbered_as-is, number_none, held_counts}

abbrev numbered_key : ℕ → ℕ → Key
numbered_key major n = record { major = major; minor = n }

-- ---- entries on a table

entry_one : (t : TableName) (n : ℕ) (held : List Numbered) (e : Entry) → holding t held ≤ 1 → number_of t held ≡ Some n → names_table t e ≡ true → 0 < entry_times (numbered_key n e.serial) held e
entry_one t n held e once is h =
    let u = some_one (λ u. bit (same_table t u)) e.tables (any_some (same_table t) e.tables h) in
    let same : t ≡ u.0 = same_is t u.0 (bit_true (same_table t u.0) u.1) in
    let one : numbered_as n u.0 held ≡ 1 = subst (λ v. numbered_as n v held ≡ 1) same (numbered_as-is n n t held once is ∙ ap bit (eq-eqb n n refl)) in
    rw (eq-eqb e.serial e.serial refl) (omega (arith, u.2 (λ v. numbered_as n v held), one))

-- a table that has a number stands with that, since an entry names it
pub named_stands : (t : TableName) (n : ℕ) (es : List Entry) (room : ℕ) (held : List Numbered) (named : Keys) → IsDir es room held named → number_of t held ≡ Some n → (s : ℕ) × (0 < times (numbered_key n s) named.keys)
named_stands t n es room held named d is =
    let some : 0 < naming t es = ltb-true 0 (naming t es) (d.blocks t ∙ lt-ltb 0 (holding t held) (held_counts t n held is)) in
    let e = some_one (λ e. bit (names_table t e)) es some in
    let one = entry_one t n held e.0 (d.once t) is (bit_true (names_table t e.0) e.1) in
    (e.0.serial, omega (arith, d.by_name (numbered_key n e.0.serial), e.2 (λ x. entry_times (numbered_key n e.0.serial) held x), one))

pub not_named : (t : TableName) (es : List Entry) (room : ℕ) (held : List Numbered) (named : Keys) → IsDir es room held named → None ≡ number_of t held → list_any (names_table t) es ≡ false
not_named t es room held named d is = any-total (names_table t) es ∙ (d.blocks t ∙ ap (λ n. nat_lt 0 n) (number_none t held (sym is)))

none_numbered : (n : ℕ) (u : TableName) (hs : List Numbered) → AllByRecursion (λ h. n < h.number) hs → numbered_as n u hs ≡ 0
none_numbered n u [] all = refl
none_numbered n u (h ∷ hs) all = let test : has_number n h ≡ false = ne_eqb h.number n (λ e. omega (arith, e, all.0)) in rw test (omega (arith, none_numbered n u hs all.1))

at_number : (n : ℕ) (u : TableName) (hs : List Numbered) (g : Numbered) → IsInOrder hs → numbered_at n hs ≡ Some g → 0 < numbered_as n u hs → is_of u g ≡ true
at_number n u [] g rising is some = absurd (none-some g is)
at_number n u (x ∷ xs) g rising is some =
    elim (has_number n x) as (λ v. has_number n x ≡ v → cond v (Some x) (numbered_at n xs) ≡ Some g → 0 < bit (v && is_of u x) + numbered_as n u xs → is_of u g ≡ true) [
      | true ↦ λ e k q. subst (λ (y : Numbered). is_of u y ≡ true) (same_Some x g k) (bit_true (is_of u x) (omega (arith, q, none_numbered n u xs (subst (λ m. AllByRecursion (λ (h : Numbered). m < h.number) xs) (eqb-true x.number n e) rising.0))))
      | false ↦ λ e k q. at_number n u xs g rising.1 k (omega (arith, q))
    ] refl is some

find_is : (t : TableName) (hs : List Numbered) (g : Numbered) → find (is_of t) hs ≡ Some g → is_of t g ≡ true
find_is t [] g e = absurd (none-some g e)
find_is t (x ∷ xs) g e =
    elim (is_of t x) as (λ v. is_of t x ≡ v → cond v (Some x) (find (is_of t) xs) ≡ Some g → is_of t g ≡ true) [
      | true ↦ λ p k. subst (λ (y : Numbered). is_of t y ≡ true) (same_Some x g k) p
      | false ↦ λ p k. find_is t xs g k
    ] refl e

-- what is counted under a number is of the table with that number
pub numbered_is : (n : ℕ) (t u : TableName) (held : List Numbered) → IsInOrder held → number_of t held ≡ Some n → 0 < numbered_as n u held → t ≡ u
numbered_is n t u held rising is some =
    let g = found_at t n held rising (sym is) in
    same_is t g.0.table.table (find_is t held g.0 g.1) ∙ sym (same_is u g.0.table.table (at_number n u held g.0 rising g.2 some))

-- an entry that stands with the number of a table, names it
entry_names : (t : TableName) (n s : ℕ) (held : List Numbered) (e : Entry) → IsInOrder held → number_of t held ≡ Some n → 0 < entry_times (numbered_key n s) held e → names_table t e ≡ true
entry_names t n s held e rising is some =
    elim (e.serial == s) as (λ v. 0 < (cond v (numbers_in n held e.tables) 0) → names_table t e ≡ true) [
      | true ↦ λ q. named q
      | false ↦ λ q. absurd (omega (arith, q))
    ] some
  where
    named : 0 < numbers_in n held e.tables → names_table t e ≡ true
    named q =
        let u = some_one (λ u. numbered_as n u held) e.tables q in
        let same : t ≡ u.0 = numbered_is n t u.0 held rising is u.1 in
        let one : bit (same_table t u.0) ≡ 1 = subst (λ v. bit (same_table t v) ≡ 1) same (ap bit (same_name t)) in
        some_any (same_table t) e.tables (omega (arith, u.2 (λ v. bit (same_table t v)), one))

pub names_it : (t : TableName) (n : ℕ) (k : Key) (es : List Entry) (room : ℕ) (held : List Numbered) (named : Keys) → IsDir es room held named → IsInOrder held → number_of t held ≡ Some n → k.major ≡ n → 0 < times k named.keys → IsSomeAnd (entry_at k.minor es) (λ e. names_table t e ≡ true)
names_it t n k es room held named d rising is same some =
    let e = only_entry k.minor (λ e. entry_times k held e) es d.serials (λ e other. rw other refl) (omega (arith, some, d.by_name k)) in
    rw e.1 (entry_names t n k.minor held e.0 rising is (rw (← same) e.2))

-- an entry that stands with the number of the table
pub on_table : (t : TableName) (n : ℕ) (es : List Entry) (room : ℕ) (held : List Numbered) (named : Keys) (o : Option ℕ) → IsDir es room held named → IsInOrder held → number_of t held ≡ Some n → IsAnyUnder n named.keys o
    → MatchOption o (list_any (names_table t) es ≡ false) (λ s. IsSomeAnd (entry_at s es) (λ e. names_table t e ≡ true))
on_table t n es room held named None d rising is none = let stands = named_stands t n es room held named d is in absurd (omega (arith, none stands.0, stands.1))
on_table t n es room held named (Some s) d rising is some = names_it t n (numbered_key n s) es room held named d rising is refl some

-- ---- texts at a place

pub some-entry : (P : Entry → Type 0) (o : Option Entry) → IsSomeAnd o P → (e : Entry) × (o ≡ Some e) × P e
some-entry P None h = absurd h
some-entry P (Some e) h = (e, refl, h)

pub text_same : (change : Move) (e : Entry) → e.text.first ≡ change.from → (change.from ≡ change.to → ⊥) → moved_entry change (placed_text change.to e) ≡ moved_entry change e
text_same change e is other =
    rw (eq-eqb e.text.first change.from is, ne_eqb change.to change.from (λ q. other (sym q))) refl

pub text_counts : (change : Move) (es : List Entry) (n : ℕ) (e : Entry) → ((m : ℕ) → total (λ x. bit (has_serial m x)) es ≤ 1) → entry_at n es ≡ Some e → e.text.first ≡ change.from → (change.from ≡ change.to → ⊥) → texts_at change.from (changed n (placed_text change.to) es) + 1 ≡ texts_at change.from es
text_counts change es n e once at is other = omega (arith, total-changed_one (λ x. bit (x.text.first == change.from)) (placed_text change.to) n es e once at, ap bit (eq-eqb e.text.first change.from is), ap bit (ne_eqb change.to change.from (λ q. other (sym q))))

pub moved_dir : (change : Move) (es : List Entry) (room : ℕ) (held new : List Numbered) (named : Keys) → IsDir es room held named → new ≡ map (moved_numbered change) held → IsDir es room new named
moved_dir change es room held new named d is = rw is (record {
  serials = d.serials;
  once = λ t. rw (total-map (λ h. bit (is_of t h)) (moved_numbered change) held) (d.once t);
  few = d.few;
  blocks = λ t. rw (total-map (λ h. bit (is_of t h)) (moved_numbered change) held) (d.blocks t);
  by_name = λ k. d.by_name k ∙ total-same (λ e. entry_times k held e) (λ e. entry_times k (map (moved_numbered change) held) e) es (each_counted (λ e. entry_times k held e ≡ entry_times k (map (moved_numbered change) held) e) es (λ e counts. same_times k e));
  name_room = d.name_room;
})
  where
    same_names : (n : ℕ) (ts : List TableName) → numbers_in n held ts ≡ numbers_in n (map (moved_numbered change) held) ts
    same_names n [] = refl
    same_names n (t ∷ ts) = omega (arith, same_names n ts, total-map (λ h. bit (has_number n h && is_of t h)) (moved_numbered change) held)

    same_times : (k : Key) (e : Entry) → entry_times k held e ≡ entry_times k (map (moved_numbered change) held) e
    same_times k e = ap (λ n. cond (e.serial == k.minor) n 0) (same_names k.major e.tables)

pub moved_tables : (change : Move) (held new : List Numbered) → new ≡ map (moved_numbered change) held → tables_in new ≡ map (moved_table change) (tables_in held)
moved_tables change held new is = rw is (both held)
  where
    both : (hs : List Numbered) → tables_in (map (moved_numbered change) hs) ≡ map (moved_table change) (tables_in hs)
    both [] = refl
    both (h ∷ hs) = ap (λ bs. moved_table change h.table ∷ bs) (both hs)

texts_moved : (change : Move) (es : List Entry) → texts_at change.from es ≡ 0 → map (moved_entry change) es ≡ es
texts_moved change [] h = refl
texts_moved change (x ∷ xs) h =
    elim (x.text.first == change.from) as (λ v. (x.text.first == change.from) ≡ v → bit v + texts_at change.from xs ≡ 0 → map (moved_entry change) (x ∷ xs) ≡ x ∷ xs) [
      | true ↦ λ e k. absurd (omega (arith, k))
      | false ↦ λ e k. rw e (ap (λ ys. x ∷ ys) (texts_moved change xs (omega (arith, k))))
    ] refl h

abbrev block_at : ℕ → ℕ → Block
block_at n words = record { first = n; words = words }

unmoved : (change : Move) (b : Block) → change.from ≡ change.to → moved change b ≡ b
unmoved change b is =
    elim (b.first == change.from) as (λ v. (b.first == change.from) ≡ v → cond v (record { first = change.to; words = b.words }) b ≡ b) [
      | true ↦ λ e. let first : b.first ≡ change.from = grind (arith, nat_tests) in ap (λ n. block_at n b.words) (sym (first ∙ is))
      | false ↦ λ e. refl
    ] refl

-- a block that stays where it is
pub shift_none : (change : Move) (d : Directory) → change.from ≡ change.to → d ≡ after_shift change d
shift_none change d is = rw (entries d.entries, tables d.tables) refl
  where
    entries : (es : List Entry) → map (moved_entry change) es ≡ es
    entries [] = refl
    entries (e ∷ es) = rw (unmoved change e.text is, entries es) refl

    tables : (bs : List TableBlock) → map (moved_table change) bs ≡ bs
    tables [] = refl
    tables (b ∷ bs) = rw (unmoved change b.block is, tables bs) refl

pub shifted : (change : Move) (old new : Directory) → texts_at change.from new.entries ≡ 0 → map (moved_entry change) new.entries ≡ map (moved_entry change) old.entries → new.tables ≡ map (moved_table change) old.tables → new.room ≡ old.room → new.table_room ≡ old.table_room → new ≡ after_shift change old
shifted change old new none entries tables room table_room =
    rw (← entries, ← tables, ← room, ← table_room, texts_moved change new.entries none) refl
