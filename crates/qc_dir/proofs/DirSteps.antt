-- The directory's indexes, beside what contracts see.
use Rattle.std.proofs.Common.{◌≡◌, ℕ, ◌+◌, ◌-◌, ◌<◌, ◌≤◌, Bool, true, false, cond, nat_lt, ◌&&◌, List, [], ◌∷◌, map, length, refl, sym, ap, ◌∙◌, Some, None, ◌==◌, arith}
use Rattle.std.specs.List.{AllByRecursion, list_any, find}
use Rattle.std.specs.Option.{option_map}
use Rattle.std.proofs.lemmas.Option.{none-some, same_Some}
use Rattle.std.proofs.lemmas.Bool.Decides.{nat_tests}
use Rattle.std.proofs.lemmas.Bool.{eq-eqb}
use Rattle.qc_types.specs.declared.names.TableName.{TableName}
use Rattle.qc_sql.specs.Database.{same_table}
use Rattle.qc_tiles.specs.declared.blocks.Block.{Block}
use Rattle.qc_dir.specs.declared.entries.Entry.{Entry}
use Rattle.qc_dir.specs.declared.tables.TableBlock.{TableBlock}
use Rattle.qc_dir.specs.Directory.{IsDirectory, AreApart, has_serial, is_block_of, names_table}
use Rattle.qc_dir.specs.Keys.{Keys, total, bit}
use Rattle.qc_dir.specs.Slots.{Numbered, has_number, is_of, number_of}
use Rattle.qc_dir.specs.Indexed.{IsDir, numbered_as, entry_times, holding}
use Rattle.qc_dir.proofs.Names.{same_itself as same_name}
use Rattle.qc_dir.proofs.Totals.{total-map}
use Rattle.qc_dir.proofs.EntryTotals.{any-total, none_any, total-le}

-- ---- what contracts promise

apart_serials : (es : List Entry) → ((n : ℕ) → total (λ e. bit (has_serial n e)) es ≤ 1) → AreApart (λ e f. e.serial == f.serial) es
apart_serials [] once = tt
apart_serials (x ∷ xs) once = (none xs (omega (arith, once x.serial, ap bit (eq-eqb x.serial x.serial refl))), apart_serials xs (λ n. omega (arith, once n)))
  where
    none : (ys : List Entry) → total (λ e. bit (has_serial x.serial e)) ys ≡ 0 → list_any (λ f. x.serial == f.serial) ys ≡ false
    none [] h = refl
    none (y ∷ ys) h = let test : (x.serial == y.serial) ≡ false = grind (arith, nat_tests) in rw test (none ys (omega (arith, h)))

apart_tables : (bs : List TableBlock) → ((t : TableName) → total (λ b. bit (is_block_of t b)) bs ≤ 1) → AreApart (λ b c. same_table b.table c.table) bs
apart_tables [] once = tt
apart_tables (b ∷ bs) once = (none_any (is_block_of b.table) bs (omega (arith, once b.table, ap bit (same_name b.table))), apart_tables bs (λ t. omega (arith, once t)))

few_tables : (es : List Entry) → total (λ e. bit (nat_lt 8 (length e.tables))) es ≡ 0 → AllByRecursion (λ e. length e.tables ≤ 8) es
few_tables [] h = tt
few_tables (x ∷ xs) h =
    elim (nat_lt 8 (length x.tables)) as (λ v. nat_lt 8 (length x.tables) ≡ v → bit v + total (λ e. bit (nat_lt 8 (length e.tables))) xs ≡ 0 → AllByRecursion (λ e. length e.tables ≤ 8) (x ∷ xs)) [
      | true ↦ λ e k. absurd (omega (arith, k))
      | false ↦ λ e k. ((let low : length x.tables ≤ 8 = grind (arith, nat_tests) in low), few_tables xs (omega (arith, k)))
    ] refl h

abbrev pub tables_in : List Numbered → List TableBlock
tables_in held = map (λ h. h.table) held

pub directory : (es : List Entry) (room table_room : ℕ) (held : List Numbered) (named : Keys) → IsDir es room held named → IsDirectory (record { entries = es; tables = tables_in held; room = room; table_room = table_room })
directory es room table_room held named d = record {
  serials = apart_serials es d.serials;
  once = apart_tables (tables_in held) (λ t. rw (total-map (λ b. bit (is_block_of t b)) (λ (h : Numbered). h.table) held) (d.once t));
  few = few_tables es d.few;
  named = λ t. any-total (names_table t) es ∙ (d.blocks t ∙ (ap (λ n. nat_lt 0 n) (sym (total-map (λ b. bit (is_block_of t b)) (λ (h : Numbered). h.table) held)) ∙ sym (any-total (is_block_of t) (tables_in held))));
}

-- ---- changes that the indexes don't see

-- the same entries, but for their order, the blocks of their texts, their users and whether they are complete
abbrev pub AreSameBut : List Entry → List Entry → Type 0
AreSameBut old new = (w : Entry → ℕ) → ((e : Entry) (t : Block) (b : Bool) (u : ℕ) → w (record e { text = t; complete = b; users = u }) ≡ w e) → total w new ≡ total w old

pub still : (es new : List Entry) (room room' : ℕ) (held : List Numbered) (named : Keys) → IsDir es room held named → AreSameBut es new → room' ≡ room → IsDir new room' held named
still es new room room' held named d same rooms = record {
  serials = λ n. rw (same (λ e. bit (has_serial n e)) (λ e t b u. refl)) (d.serials n);
  once = d.once;
  few = same (λ e. bit (nat_lt 8 (length e.tables))) (λ e t b u. refl) ∙ d.few;
  blocks = λ t. rw (same (λ e. bit (names_table t e)) (λ e t b u. refl)) (d.blocks t);
  by_name = λ k. d.by_name k ∙ sym (same (λ e. entry_times k held e) (λ e t b u. refl));
  name_room = omega (arith, d.name_room, rooms, same (λ e. 8 - length e.tables) (λ e t b u. refl));
}

-- ---- the tables' numbers

pub numbered_as-le : (n : ℕ) (t : TableName) (held : List Numbered) → numbered_as n t held ≤ holding t held
numbered_as-le n t held = total-le (λ h. bit (has_number n h && is_of t h)) (λ h. bit (is_of t h)) held (λ h. either (has_number n h) (is_of t h))
  where
    either : (a b : Bool) → bit (a && b) ≤ bit b
    either true b = omega arith
    either false true = omega arith
    either false false = omega arith

-- the only one of the table has its number
pub numbered_as-is : (n m : ℕ) (t : TableName) (held : List Numbered) → holding t held ≤ 1 → number_of t held ≡ Some m → numbered_as n t held ≡ bit (m == n)
numbered_as-is n m t [] once h = absurd (none-some m h)
numbered_as-is n m t (x ∷ xs) once h =
    elim (is_of t x) as (λ v. bit v + holding t xs ≤ 1 → option_map (λ (h : Numbered). h.number) (cond v (Some x) (find (is_of t) xs)) ≡ Some m → bit (has_number n x && v) + numbered_as n t xs ≡ bit (m == n)) [
      | true ↦ λ o k. let none : numbered_as n t xs ≡ 0 = omega (arith, numbered_as-le n t xs, o) in rw (none, ← same_Some x.number m k) (plain (x.number == n))
      | false ↦ λ o k. rw (never (has_number n x)) (omega (arith, numbered_as-is n m t xs (omega (arith, o)) k))
    ] once h
  where
    plain : (b : Bool) → bit (b && true) + 0 ≡ bit b
    plain true = refl
    plain false = refl

    never : (b : Bool) → bit (b && false) ≡ 0
    never true = refl
    never false = refl

pub number_some : (t : TableName) (held : List Numbered) → 0 < holding t held → (m : ℕ) × (number_of t held ≡ Some m)
number_some t [] h = absurd (omega (arith, h))
number_some t (x ∷ xs) h =
    elim (is_of t x) as (λ v. 0 < bit v + holding t xs → (m : ℕ) × (option_map (λ (h : Numbered). h.number) (cond v (Some x) (find (is_of t) xs)) ≡ Some m)) [
      | true ↦ λ k. (x.number, refl)
      | false ↦ λ k. number_some t xs (omega (arith, k))
    ] h

pub number_none : (t : TableName) (held : List Numbered) → number_of t held ≡ None → holding t held ≡ 0
number_none t [] h = refl
number_none t (x ∷ xs) h =
    elim (is_of t x) as (λ v. option_map (λ (h : Numbered). h.number) (cond v (Some x) (find (is_of t) xs)) ≡ None → bit v + holding t xs ≡ 0) [
      | true ↦ λ k. absurd (cc k)
      | false ↦ λ k. omega (arith, number_none t xs k)
    ] h

pub held_counts : (t : TableName) (m : ℕ) (held : List Numbered) → number_of t held ≡ Some m → 0 < holding t held
held_counts t m held h =
    elim (nat_lt 0 (holding t held)) as (λ v. nat_lt 0 (holding t held) ≡ v → 0 < holding t held) [
      | true ↦ λ e. (let some : 0 < holding t held = grind (arith, nat_tests) in some)
      | false ↦ λ e. absurd (none-some m (sym (none held (let no : holding t held ≡ 0 = grind (arith, nat_tests) in no)) ∙ h))
    ] refl
  where
    none : (hs : List Numbered) → holding t hs ≡ 0 → number_of t hs ≡ None
    none [] k = refl
    none (x ∷ xs) k =
        elim (is_of t x) as (λ v. bit v + holding t xs ≡ 0 → option_map (λ (h : Numbered). h.number) (cond v (Some x) (find (is_of t) xs)) ≡ None) [
          | true ↦ λ q. absurd (omega (arith, q))
          | false ↦ λ q. none xs (omega (arith, q))
        ] k
