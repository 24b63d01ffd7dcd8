-- What the index finds, as rows are entered.
use Rattle.std.proofs.Common.{◌≡◌, ℕ, ◌+◌, ◌≤◌, ℤ, Bool, true, false, cond, List, [], ◌∷◌, ◌++◌, refl, sym, ap, ◌∙◌, arith, drop, suc, zero, length, length-drop}
use Rattle.std.specs.Prelude.{◌&&◌, Option, Some, None, is_some}
use Rattle.std.specs.List.{position_from, slice_get}
use Rattle.std.specs.Map.{lookup}
use Rattle.std.specs.Ordering.{int_cmp, nat_cmp, is_eq, ordering_then, ordering_reverse}
use Rattle.std.specs.declared.cmp.Ordering.{Ordering}
use Rattle.std.specs.declared.cmp.Ordering.TheVariants.{Less, Equal, Greater}
use Rattle.std.specs.Cmp.Lexicographic.{slice_cmp}
use Rattle.std.proofs.lemmas.Cmp.{int_cmp_total}
use Rattle.std.proofs.lemmas.Map.Lookups.{exact_signed}
use Rattle.std.proofs.lemmas.Map.Text.{is_eq-slice_cmp}
use Rattle.qc_types.specs.declared.names.TableName.{TableName}
use Rattle.qc_sql.specs.Database.{Name, same_table}
use Rattle.qc_sql.specs.Words.{◌or_else◌}
use Rattle.qc_sql.proofs.Untouched.{bytes_eq_self}
use Rattle.qc_trx.specs.declared.writes.OwnRow.{OwnRow}
use Rattle.qc_trx.specs.Writes.{is_own}
use Rattle.qc_trx.specs.declared.sites.Site.{Site}
use Rattle.qc_trx.specs.declared.sites.Site.TheVariants as site
use Rattle.qc_trx.specs.contracts.sites.SiteOrd.TheImpl.{cmp-value}
use Rattle.qc_trx.specs.Sites.{Entries, IsIndex, KeepsEntered, OfDatabase, OfRow, OfTable, Scope, at_site, first_from, is_in, is_site_of, same_scope, scope}
use Rattle.qc_trx.proofs.Aboves.{cut_at}
use Rattle.qc_trx.proofs.Columns.{both_true, bytes_same, same_is}

-- ---- tests

equal_is : (r : Ordering) → is_eq r ≡ true → r ≡ Equal
equal_is Less e = absurd cc
equal_is Equal e = refl
equal_is Greater e = absurd cc

is_eq_then : (a b : Ordering) → is_eq (ordering_then a b) ≡ (is_eq a && is_eq b)
is_eq_then Less b = refl
is_eq_then Equal b = refl
is_eq_then Greater b = refl

int_same : (a b : ℤ) → is_eq (int_cmp a b) ≡ true → a ≡ b
int_same a b h = exact_signed a b (equal_is (int_cmp a b) h)

pub int_self : (a : ℤ) → is_eq (int_cmp a a) ≡ true
int_self a = by (int_cmp a a) refl
  where
    by : (r : Ordering) → int_cmp a a ≡ r → is_eq (int_cmp a a) ≡ true
    by Equal p = ap is_eq p
    by Less p = let q : int_cmp a a ≡ Greater = int_cmp_total.antisymm a a ∙ ap ordering_reverse p in absurd cc
    by Greater p = let q : int_cmp a a ≡ Less = int_cmp_total.antisymm a a ∙ ap ordering_reverse p in absurd cc

-- ---- scopes

scope_self : (p : Scope) → same_scope p p ≡ true
scope_self (OfDatabase db) = bytes_eq_self db
scope_self (OfTable t) = rw (bytes_eq_self t.db, bytes_eq_self t.name) refl
scope_self (OfRow t key) = rw (int_self key, bytes_eq_self t.db, bytes_eq_self t.name) refl

scope_is : (p o : Scope) → same_scope p o ≡ true → p ≡ o
scope_is (OfDatabase db) (OfDatabase other) h = ap (λ (n : Name). OfDatabase n) (bytes_same db other h)
scope_is (OfTable t) (OfTable u) h = ap (λ (x : TableName). OfTable x) (same_is t u h)
scope_is (OfRow t key) (OfRow u other) h =
    let parts = both_true (is_eq (int_cmp key other)) (same_table t u) h in
    ap (λ (x : TableName). OfRow x key) (same_is t u parts.1) ∙ ap (λ (k : ℤ). OfRow u k) (int_same key other parts.0)
scope_is (OfDatabase db) (OfTable u) h = absurd cc
scope_is (OfDatabase db) (OfRow u other) h = absurd cc
scope_is (OfTable t) (OfDatabase other) h = absurd cc
scope_is (OfTable t) (OfRow u other) h = absurd cc
scope_is (OfRow t key) (OfDatabase other) h = absurd cc
scope_is (OfRow t key) (OfTable u) h = absurd cc

-- ---- sites

-- how the index orders its sites
abbrev order : Site → Site → Ordering
order q s = cmp-value.it q s

order_is : (q s : Site) → is_eq (order q s) ≡ same_scope (scope q) (scope s)
order_is (site.Database a) (site.Database b) = is_eq-slice_cmp a.items b.items
order_is (site.Table a n) (site.Table b m) =
    let dbs = is_eq-slice_cmp a.items b.items in
    let names = is_eq-slice_cmp n.items m.items in
    is_eq_then (slice_cmp nat_cmp a.items b.items) (slice_cmp nat_cmp n.items m.items) ∙ rw (dbs, names) refl
order_is (site.Row k a n) (site.Row j b m) =
    let dbs = is_eq-slice_cmp a.items b.items in
    let names = is_eq-slice_cmp n.items m.items in
    let back = is_eq_then (slice_cmp nat_cmp a.items b.items) (slice_cmp nat_cmp n.items m.items) in
    is_eq_then (int_cmp k j) (ordering_then (slice_cmp nat_cmp a.items b.items) (slice_cmp nat_cmp n.items m.items)) ∙ rw (back, dbs, names) refl
order_is (site.Database a) (site.Table b m) = refl
order_is (site.Database a) (site.Row j b m) = refl
order_is (site.Table a n) (site.Database b) = refl
order_is (site.Table a n) (site.Row j b m) = refl
order_is (site.Row k a n) (site.Database b) = refl
order_is (site.Row k a n) (site.Table b m) = refl

-- what is found by that order
pub found_at : (q : Site) (es : Entries) → lookup (λ (s : Site). is_eq (order q s)) es ≡ at_site q es
found_at q [] = refl
found_at q (e ∷ es) = rw (order_is q e.0, found_at q es) refl

at_same : (q s : Site) (es : Entries) → scope q ≡ scope s → at_site q es ≡ at_site s es
at_same q s es h = ap (λ (p : Scope). lookup (λ (x : Site). same_scope p (scope x)) es) h

-- ---- one row

first_step : (q : Site) (n : ℕ) (rows : List (Option OwnRow)) (x : Option OwnRow) → slice_get rows n ≡ Some x → first_from q n rows ≡ cond (is_own (is_site_of q) x) (Some n) (first_from q (n + 1) rows)
first_step q n rows x h = ap (position_from (is_own (is_site_of q)) n) (cut_at rows n x h).0

within_more : (n : ℕ) (rows : List (Option OwnRow)) (x : Option OwnRow) → slice_get rows n ≡ Some x → n + 1 ≤ length rows
within_more n [] x h = absurd cc
within_more zero (y ∷ rows) x h = omega arith
within_more (suc n) (y ∷ rows) x h = let k = within_more n rows x h in omega arith

some_or : (o a b : Option ℕ) → is_some o ≡ true → (o or_else a) ≡ (o or_else b)
some_or None a b h = absurd cc
some_or (Some n) a b h = refl

-- one that writes no row is passed
pub passes_none : (es : Entries) (n : ℕ) (rows : List (Option OwnRow)) → slice_get rows n ≡ Some None → IsIndex es n rows → IsIndex es (n + 1) rows
passes_none es n rows at h = record {
  within = within_more n rows None at;
  finds = λ q. sym (ap (λ o. at_site q es or_else o) (first_step q n rows None at)) ∙ h.finds q;
}

-- and one whose sites are entered
pub passes_row : (es : Entries) (n : ℕ) (rows : List (Option OwnRow)) (r : OwnRow) (database table one : Site) → slice_get rows n ≡ Some (Some r) → IsIndex es n rows
    → scope database ≡ OfDatabase r.table.db → scope table ≡ OfTable r.table → scope one ≡ OfRow r.table r.key
    → is_some (at_site database es) ≡ true → is_some (at_site table es) ≡ true → is_some (at_site one es) ≡ true → IsIndex es (n + 1) rows
passes_row es n rows r database table one at h of_database of_table of_row zeroth first second = record {
  within = within_more n rows (Some r) at;
  finds = λ q. by q (is_site_of q r) refl ∙ h.finds q;
}
  where
    there : (q s : Site) → scope q ≡ scope s → is_some (at_site s es) ≡ true → is_some (at_site q es) ≡ true
    there q s e k = ap is_some (at_same q s es e) ∙ k

    entered : (q : Site) (p : Scope) → scope q ≡ p → is_in p r ≡ true → is_some (at_site q es) ≡ true
    entered q (OfDatabase db) e k = there q database (e ∙ (ap (λ (x : Name). OfDatabase x) (sym (bytes_same r.table.db db k)) ∙ sym of_database)) zeroth
    entered q (OfTable t) e k = there q table (e ∙ (ap (λ (x : TableName). OfTable x) (sym (same_is r.table t k)) ∙ sym of_table)) first
    entered q (OfRow t key) e k =
        let parts = both_true (same_table r.table t) (is_eq (int_cmp r.key key)) k in
        let tables : OfRow t key ≡ OfRow r.table key = ap (λ (x : TableName). OfRow x key) (sym (same_is r.table t parts.0)) in
        let keys : OfRow r.table key ≡ OfRow r.table r.key = ap (λ (x : ℤ). OfRow r.table x) (sym (int_same r.key key parts.1)) in
        there q one (e ∙ (tables ∙ (keys ∙ sym of_row))) second

    by : (q : Site) (b : Bool) → is_site_of q r ≡ b → (at_site q es or_else first_from q (n + 1) rows) ≡ (at_site q es or_else first_from q n rows)
    by q true k = some_or (at_site q es) (first_from q (n + 1) rows) (first_from q n rows) (entered q (scope q) refl k)
    by q false k =
        let passed : first_from q n rows ≡ first_from q (n + 1) rows = first_step q n rows (Some r) at ∙ ap (λ b. cond b (Some n) (first_from q (n + 1) rows)) k in
        ap (λ o. at_site q es or_else o) (sym passed)

-- ---- one site

-- what is found where a number was entered
pub updated : (old new : Entries) (n : ℕ) (s : Site)
    → ((q : Site) → lookup (λ (x : Site). is_eq (order q x)) new ≡ cond (is_eq (order s q)) (Some n) (lookup (λ (x : Site). is_eq (order q x)) old))
    → (q : Site) → at_site q new ≡ cond (same_scope (scope s) (scope q)) (Some n) (at_site q old)
updated old new n s h q = sym (found_at q new) ∙ (h q ∙ rw (order_is s q, found_at q old) refl)

module _ (old new : Entries) (n : ℕ) (rows : List (Option OwnRow)) (s : Site)
    (says : (q : Site) → at_site q new ≡ cond (same_scope (scope s) (scope q)) (Some n) (at_site q old)) where
  pub enters_has : is_some (at_site s new) ≡ true
  enters_has = ap is_some (says s ∙ ap (λ b. cond b (Some n) (at_site s old)) (scope_self (scope s)))

  pub enters_keeps : KeepsEntered old new
  enters_keeps q h = ap is_some (says q) ∙ by (same_scope (scope s) (scope q))
    where
      by : (b : Bool) → is_some (cond b (Some n) (at_site q old)) ≡ true
      by true = refl
      by false = h

  pub enters_index : (r : OwnRow) → slice_get rows n ≡ Some (Some r) → is_site_of s r ≡ true → is_some (at_site s old) ≡ false → IsIndex old n rows → IsIndex new n rows
  enters_index r at of fresh h = record {
    within = h.within;
    finds = λ q. ap (λ o. o or_else first_from q n rows) (says q) ∙ (by q (same_scope (scope s) (scope q)) refl ∙ h.finds q);
  }
    where
      none : (o : Option ℕ) → is_some o ≡ false → o ≡ None
      none None e = refl
      none (Some m) e = absurd cc

      by : (q : Site) (b : Bool) → same_scope (scope s) (scope q) ≡ b → (cond b (Some n) (at_site q old) or_else first_from q n rows) ≡ (at_site q old or_else first_from q n rows)
      by q false p = refl
      by q true p =
          let same : scope s ≡ scope q = scope_is (scope s) (scope q) p in
          let has : is_site_of q r ≡ true = ap (λ (x : Scope). is_in x r) (sym same) ∙ of in
          let here : first_from q n rows ≡ Some n = first_step q n rows (Some r) at ∙ ap (λ b. cond b (Some n) (first_from q (n + 1) rows)) has in
          let absent : at_site q old ≡ None = sym (at_same s q old same) ∙ none (at_site s old) fresh in
          rw (absent) (sym here)

-- ---- none, and more

pub index_new : (rows : List (Option OwnRow)) → IsIndex [] 0 rows
index_new rows = record { within = omega arith; finds = λ q. refl }

or_assoc : (a b c : Option ℕ) → ((a or_else b) or_else c) ≡ (a or_else (b or_else c))
or_assoc None b c = refl
or_assoc (Some n) b c = refl

position_append : {X : Type 0} (test : X → Bool) (i m : ℕ) (xs ys : List X) → m ≡ i + length xs → position_from test i (xs ++ ys) ≡ (position_from test i xs or_else position_from test m ys)
position_append test i m [] ys h = let e : m ≡ i = omega arith in rw e refl
position_append test i m (x ∷ xs) ys h = by (test x) (position_append test (i + 1) m xs ys (omega arith))
  where
    by : (b : Bool) → position_from test (i + 1) (xs ++ ys) ≡ (position_from test (i + 1) xs or_else position_from test m ys) → cond b (Some i) (position_from test (i + 1) (xs ++ ys)) ≡ (cond b (Some i) (position_from test (i + 1) xs) or_else position_from test m ys)
    by true later = refl
    by false later = later

drop_append : {X : Type 0} (n : ℕ) (xs ys : List X) → n ≤ length xs → drop n (xs ++ ys) ≡ drop n xs ++ ys
drop_append zero xs ys h = refl
drop_append (suc n) [] ys h = absurd (omega arith)
drop_append (suc n) (x ∷ xs) ys h = drop_append n xs ys (omega arith)

length_append : {X : Type 0} (xs ys : List X) → length xs ≤ length (xs ++ ys)
length_append [] ys = omega arith
length_append (x ∷ xs) ys = let k = length_append xs ys in omega arith

pub index_more : (es : Entries) (n : ℕ) (rows more : List (Option OwnRow)) → IsIndex es n rows → IsIndex es n (rows ++ more)
index_more es n rows more h = record {
  within = let k = length_append rows more in let w = h.within in omega arith;
  finds = λ q.
      let test = is_own (is_site_of q) in
      let behind : drop n (rows ++ more) ≡ drop n rows ++ more = drop_append n rows more h.within in
      let sizes : length rows ≡ n + length (drop n rows) = let l = length-drop n rows in let w = h.within in omega arith in
      let prefix_is : first_from q n (rows ++ more) ≡ (first_from q n rows or_else position_from test (length rows) more) = ap (position_from test n) behind ∙ position_append test n (length rows) (drop n rows) more sizes in
      let whole : position_from test 0 (rows ++ more) ≡ (position_from test 0 rows or_else position_from test (length rows) more) = position_append test 0 (length rows) rows more (omega arith) in
      ap (λ o. at_site q es or_else o) prefix_is
      ∙ (sym (or_assoc (at_site q es) (first_from q n rows) (position_from test (length rows) more))
      ∙ (ap (λ o. o or_else position_from test (length rows) more) (h.finds q) ∙ sym whole));
}
