-- Which entries use a table that operations touch.
use Rattle.std.proofs.Common.{◌≡◌, Bool, true, false, cond, List, [], ◌∷◌, ◌++◌, map, refl, sym, ap, subst, ◌∙◌, true≢false}
use Rattle.std.specs.Prelude.{◌||◌, ◌&&◌, Option, Some, None, is_some, option_and_then, unwrap_or, bytes_eq}
use Rattle.std.specs.List.{list_any, flat_map, AllByRecursion}
use Rattle.std.specs.BTreeMap.{is_at}
use Rattle.std.specs.Map.{keys_of}
use Rattle.std.proofs.lemmas.Slice.Eq.{bytes_eq-Decides}
use Rattle.qc_types.specs.declared.names.TableName.{TableName}
use Rattle.qc_sql.specs.declared.tables.RowOp.{RowOp}
use Rattle.qc_sql.specs.declared.tables.RowOp.TheVariants as op
use Rattle.qc_sql.specs.Database.{Name, Database, Tables, MapOf, name_cmp, at_name, table_of, tables_of, same_table, touches}
use Rattle.qc_sql.proofs.Untouched.{at_is}
use Rattle.qc_laws.specs.history.Named.{AreThere}
use Rattle.qc_table.specs.Views.{tables_in}
use Rattle.qc_dir.specs.declared.entries.Entry.{Entry}
use Rattle.qc_dir.specs.Directory.{names_table}
use Rattle.qc_core.specs.Invalidation.{is_named_by, tables_dropped_by, tables_dropped, uses_touched}

-- ---- tests of lists

none_any : {A : Type 0} (xs : List A) → list_any (λ x. false) xs ≡ false
none_any [] = refl
none_any (x ∷ xs) = none_any xs

or_swap : (a b c d : Bool) → ((a || b) || (c || d)) ≡ ((a || c) || (b || d))
or_swap true b c d = refl
or_swap false true true d = refl
or_swap false true false d = refl
or_swap false false c d = refl

or_none : (a : Bool) → (a || false) ≡ a
or_none true = refl
or_none false = refl

any_or : {A : Type 0} (f g : A → Bool) (xs : List A) → list_any (λ x. f x || g x) xs ≡ (list_any f xs || list_any g xs)
any_or f g [] = refl
any_or f g (x ∷ xs) = ap (λ b. (f x || g x) || b) (any_or f g xs) ∙ or_swap (f x) (g x) (list_any f xs) (list_any g xs)

any_swap : {A B : Type 0} (r : A → B → Bool) (xs : List A) (ys : List B) → list_any (λ x. list_any (r x) ys) xs ≡ list_any (λ y. list_any (λ x. r x y) xs) ys
any_swap r [] ys = sym (none_any ys)
any_swap r (x ∷ xs) ys = ap (λ b. list_any (r x) ys || b) (any_swap r xs ys) ∙ sym (any_or (r x) (λ y. list_any (λ z. r z y) xs) ys)

any_same : {A : Type 0} (f g : A → Bool) (xs : List A) → AllByRecursion (λ x. f x ≡ g x) xs → list_any f xs ≡ list_any g xs
any_same f g [] h = refl
any_same f g (x ∷ xs) h = λ i. h.0 i || any_same f g xs h.1 i

any_append : {A : Type 0} (f : A → Bool) (xs ys : List A) → list_any f (xs ++ ys) ≡ (list_any f xs || list_any f ys)
any_append f [] ys = refl
any_append f (x ∷ xs) ys = ap (λ b. f x || b) (any_append f xs ys) ∙ or_three (f x) (list_any f xs) (list_any f ys)
  where
    or_three : (a b c : Bool) → (a || (b || c)) ≡ ((a || b) || c)
    or_three true b c = refl
    or_three false b c = refl

any_flat : {A B : Type 0} (f : B → Bool) (g : A → List B) (xs : List A) → list_any f (flat_map g xs) ≡ list_any (λ x. list_any f (g x)) xs
any_flat f g [] = refl
any_flat f g (x ∷ xs) = any_append f (g x) (flat_map g xs) ∙ ap (λ b. list_any f (g x) || b) (any_flat f g xs)

any_map : {A B : Type 0} (f : B → Bool) (g : A → B) (xs : List A) → list_any f (map g xs) ≡ list_any (λ x. f (g x)) xs
any_map f g [] = refl
any_map f g (x ∷ xs) = ap (λ b. f (g x) || b) (any_map f g xs)

any_and : {A : Type 0} (b : Bool) (f : A → Bool) (xs : List A) → list_any (λ x. b && f x) xs ≡ (b && list_any f xs)
any_and true f xs = refl
any_and false f xs = none_any xs

-- ---- names

bool_same : (a b : Bool) → (a ≡ true → b ≡ true) → (b ≡ true → a ≡ true) → a ≡ b
bool_same true b f g = sym (f refl)
bool_same false true f g = g refl
bool_same false false f g = refl

bytes_turn : (a b : Name) → bytes_eq a b ≡ bytes_eq b a
bytes_turn a b = bool_same (bytes_eq a b) (bytes_eq b a)
    (λ h. (bytes_eq-Decides b a).1 (sym ((bytes_eq-Decides a b).0 h)))
    (λ h. (bytes_eq-Decides a b).1 (sym ((bytes_eq-Decides b a).0 h)))

table_turn : (t u : TableName) → same_table t u ≡ same_table u t
table_turn t u = λ i. bytes_turn t.db u.db i && bytes_turn t.name u.name i

on_table : (u : TableName) (ts : List TableName) → list_any (λ t. same_table t u) ts ≡ list_any (same_table u) ts
on_table u ts = λ i. list_any (λ t. table_turn t u i) ts

-- ---- the tables of a database

or_last : (a b : Bool) → b ≡ true → (a || b) ≡ true
or_last true b h = refl
or_last false b h = h

key_there : {X : Type 0} (name : Name) (m : MapOf Name X) → is_some (at_name name m) ≡ true → list_any (λ n. bytes_eq n name) (keys_of m) ≡ true
key_there name [] h = absurd (true≢false (sym h))
key_there name (e ∷ m) h = elim (is_at (name_cmp name) e.0) as (λ b. is_at (name_cmp name) e.0 ≡ b → is_some (cond b (Some e.1) (at_name name m)) ≡ true → (bytes_eq e.0 name || list_any (λ n. bytes_eq n name) (keys_of m)) ≡ true) [
  | true ↦ λ p k. ap (λ b. b || list_any (λ n. bytes_eq n name) (keys_of m)) ((bytes_eq-Decides e.0 name).1 (sym (at_is name e.0 p)))
  | false ↦ λ p k. or_last (bytes_eq e.0 name) (list_any (λ n. bytes_eq n name) (keys_of m)) (key_there name m k)
] refl h

table_there : (t : TableName) (o : Option Tables) → is_some (option_and_then (at_name t.name) o) ≡ true → list_any (λ n. bytes_eq n t.name) (keys_of (unwrap_or o [])) ≡ true
table_there t None h = absurd (true≢false (sym h))
table_there t (Some ts) h = key_there t.name ts h

-- a table that is there is one of a database exactly where it has its name
in_database : (t : TableName) (name : Name) (d : Database) → is_some (table_of t d) ≡ true → bytes_eq t.db name ≡ list_any (λ u. same_table u t) (tables_in name d)
in_database t name d h =
    let keys = keys_of (unwrap_or (tables_of name d) []) in
    let is = any_map (λ (u : TableName). same_table u t) (λ n. record { db = name; name = n }) keys ∙ any_and (bytes_eq name t.db) (λ n. bytes_eq n t.name) keys in
    by (bytes_eq t.db name) refl ∙ sym is
  where
    by : (b : Bool) → bytes_eq t.db name ≡ b → bytes_eq t.db name ≡ (bytes_eq name t.db && list_any (λ n. bytes_eq n t.name) (keys_of (unwrap_or (tables_of name d) [])))
    by true p =
        let same : t.db ≡ name = (bytes_eq-Decides t.db name).0 p in
        let there = subst (λ (n : Name). list_any (λ k. bytes_eq k t.name) (keys_of (unwrap_or (tables_of n d) [])) ≡ true) same (table_there t (tables_of t.db d) h) in
        p ∙ sym ((λ i. bytes_turn name t.db i && there i) ∙ ap (λ b. b && true) p)
    by false p = p ∙ sym (ap (λ b. b && list_any (λ n. bytes_eq n t.name) (keys_of (unwrap_or (tables_of name d) []))) (bytes_turn name t.db ∙ p))

all_in : (name : Name) (d : Database) (ts : List TableName) → AreThere d ts → AllByRecursion (λ t. bytes_eq t.db name ≡ list_any (λ u. same_table u t) (tables_in name d)) ts
all_in name d [] h = tt
all_in name d (t ∷ ts) h = (in_database t name d h.0, all_in name d ts h.1)

-- ---- one operation, and all

touched_by : (o : RowOp) (d : Database) (e : Entry) → AreThere d e.tables → list_any (λ t. touches t o) e.tables ≡ (is_named_by o e || list_any (λ u. names_table u e) (tables_dropped_by d o))
touched_by (op.Put u row) d e h = on_table u e.tables ∙ sym (or_none (names_table u e))
touched_by (op.Del u key) d e h = on_table u e.tables ∙ sym (or_none (names_table u e))
touched_by (op.CreateTable u columns) d e h = on_table u e.tables ∙ sym (or_none (names_table u e))
touched_by (op.DropTable u) d e h = on_table u e.tables ∙ sym (or_none (names_table u e))
touched_by (op.CreateDb name) d e h = none_any e.tables
touched_by (op.DropDb name) d e h = any_same (λ t. bytes_eq t.db name) (λ t. list_any (λ u. same_table u t) (tables_in name d)) e.tables (all_in name d e.tables h) ∙ any_swap (λ t u. same_table u t) e.tables (tables_in name d)

each_by : (ops : List RowOp) (d : Database) (e : Entry) → AreThere d e.tables → AllByRecursion (λ o. list_any (λ t. touches t o) e.tables ≡ (is_named_by o e || list_any (λ u. names_table u e) (tables_dropped_by d o))) ops
each_by [] d e h = tt
each_by (o ∷ os) d e h = (touched_by o d e h, each_by os d e h)

-- An entry whose tables are there uses a table that the operations touch exactly where it names the table of one, or a table of a database that one drops.
pub touched_is : (ops : List RowOp) (d : Database) (e : Entry) → AreThere d e.tables → uses_touched ops e ≡ (list_any (λ o. is_named_by o e) ops || list_any (λ u. names_table u e) (tables_dropped ops d))
touched_is ops d e h =
    any_swap (λ t o. touches t o) e.tables ops
    ∙ (any_same (λ o. list_any (λ t. touches t o) e.tables) (λ o. is_named_by o e || list_any (λ u. names_table u e) (tables_dropped_by d o)) ops (each_by ops d e h)
    ∙ (any_or (λ o. is_named_by o e) (λ o. list_any (λ u. names_table u e) (tables_dropped_by d o)) ops
    ∙ ap (λ b. list_any (λ o. is_named_by o e) ops || b) (sym (any_flat (λ u. names_table u e) (tables_dropped_by d) ops))))

pub all_touched : (ops : List RowOp) (d : Database) (es : List Entry) → AllByRecursion (λ e. AreThere d e.tables) es → AllByRecursion (λ e. (list_any (λ o. is_named_by o e) ops || list_any (λ u. names_table u e) (tables_dropped ops d)) ≡ uses_touched ops e) es
all_touched ops d [] h = tt
all_touched ops d (e ∷ es) h = (sym (touched_is ops d e h.0), all_touched ops d es h.1)
