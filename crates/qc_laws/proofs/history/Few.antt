-- A select names at most eight tables, each once.
use Rattle.std.proofs.Common.{◌≡◌, ℕ, zero, suc, ◌+◌, ◌≤◌, Bool, true, false, cond, List, [], ◌∷◌, map, length, refl, sym, ap, subst, ◌∙◌, arith, true≢false, length-append, Option, Result, Ok, Err}
use Rattle.std.specs.Prelude.{codes, nat_le, ◌||◌, bytes_eq}
use Rattle.std.specs.List.{list_any}
use Rattle.std.proofs.lemmas.Bool.{le-leb, and_from}
use Rattle.std.proofs.lemmas.Bool.Decides.{nat_tests}
use Rattle.qc_types.specs.declared.names.TableName.{TableName}
use Rattle.qc_sql.specs.declared.statements.Source.{Source}
use Rattle.qc_sql.specs.declared.statements.Statement.{Statement}
use Rattle.qc_sql.specs.declared.statements.Statement.TheVariants as statement
use Rattle.qc_sql.specs.Database.{Name, same_table}
use Rattle.qc_sql.specs.Rules.{each_once, full_name}
use Rattle.qc_sql.specs.Tokens.{lexed}
use Rattle.qc_sql.specs.Reading.{Unread, Stop, Before, Refused, Reader, pure, then_read, ◌>>=◌, branch, in_place_of_syntax, with_words, at_token, at_word, at_sign, refuse_any, refuse, stop, word, sign, name, listed, passed, bracketed, any_word}
use Rattle.qc_sql.specs.Grammar as rule
use Rattle.qc_sql.proofs.Untouched.{bytes_eq_self}
use Rattle.qc_laws.specs.history.Few.{AreApartTables, TablesAreApart, TablesAreFew}
use Rattle.qc_laws.proofs.history.Stays.{same_is}
use Rattle.qc_sql.specs.Grammar.{at_further, with_source, unsupported_at, other_show}

-- ---- what a reader gives

abbrev Gave : {A : Type 0} → (A → Bool) → Result (A × Unread) Stop → Type 0
Gave t (Ok x) = t x.0 ≡ true
Gave t (Err why) = Unit {0}

-- whatever it gives passes
record Yields {A : Type 0} (t : A → Bool) (p : Reader A) : Type 0 where
  pub at : (u : Unread) → Gave t (p u)

module _ {A : Type 0} where
  one : (t : A → Bool) (b : Bool) (x y : Result (A × Unread) Stop) → Gave t x → Gave t y → Gave t (cond b x y)
  one t true x y p q = p
  one t false x y p q = q

  gives : {t : A → Bool} {x : A} → t x ≡ true → Yields t (pure x)
  gives h = record { at = λ u. h }

  either : {t : A → Bool} {p q : Reader A} (test : Unread → Bool) → Yields t p → Yields t q → Yields t (branch test p q)
  either {t = t} {p = p} {q = q} test a b = record { at = λ u. one t (test u) (p u) (q u) (a.at u) (b.at u) }

  refuses : {t : A → Bool} (w : List ℕ) → Yields t (refuse_any w)
  refuses {t = t} w = record { at = λ u. one t (at_token u) (refuse w u) (stop u) tt tt }

  placed : (t : A → Bool) (f : Unread → Option (List ℕ)) (r : Result (A × Unread) Stop) → Gave t r → Gave t (with_words f r)
  placed t f (Ok x) h = h
  placed t f (Err (Before u)) h = tt
  placed t f (Err (Refused fault)) h = tt

  in_place : {t : A → Bool} {p : Reader A} (f : Unread → Option (List ℕ)) → Yields t p → Yields t (in_place_of_syntax f p)
  in_place {t = t} {p = p} f a = record { at = λ u. placed t f (p u) (a.at u) }

module _ {A B : Type 0} where
  then_gave : {t : B → Bool} (s : A → Bool) (r : Result (A × Unread) Stop) (f : A → Reader B) → Gave s r → ((x : A) → s x ≡ true → Yields t (f x)) → Gave t (then_read r f)
  then_gave s (Ok x) f h k = (k x.0 h).at x.1
  then_gave s (Err why) f h k = tt

  after : {s : A → Bool} {t : B → Bool} {p : Reader A} {f : A → Reader B} → Yields s p → ((x : A) → s x ≡ true → Yields t (f x)) → Yields t (p >>= f)
  after {s = s} {p = p} {f = f} a k = record { at = λ u. then_gave s (p u) f (a.at u) k }

  any_gave : {t : B → Bool} (r : Result (A × Unread) Stop) (f : A → Reader B) → ((x : A) → Yields t (f x)) → Gave t (then_read r f)
  any_gave (Ok x) f k = (k x.0).at x.1
  any_gave (Err why) f k = tt

  -- behind anything
  behind : {t : B → Bool} {f : A → Reader B} (p : Reader A) → ((x : A) → Yields t (f x)) → Yields t (p >>= f)
  behind {f = f} p k = record { at = λ u. any_gave (p u) f k }

-- ---- sources

abbrev few_joined : rule.Joined → Bool
few_joined j = nat_le (length j.sources) 8

abbrev few_behind : rule.Behind → Bool
few_behind b = nat_le (length b.sources) 8

abbrev few_statement : Statement → Bool
few_statement (statement.Select s) = nat_le (length s.from) 8
few_statement _ = true

none_more : Yields few_joined rule.one_too_many
unfolding rule.one_too_many
none_more = behind rule.table (λ _. behind rule.look (λ _. record { at = λ u. tt }))

too_many_none : Yields few_joined rule.too_many
unfolding rule.too_many
too_many_none = behind (branch (at_sign (codes ",")) (sign (codes ",")) rule.join_words) (λ _. none_more)

joined_few : (n : ℕ) (j : rule.Joined) → length j.sources + n ≤ 8 → Yields few_joined (rule.joined n j)
unfolding rule.joined
joined_few zero j h = either at_further too_many_none (gives (le-leb (length j.sources) 8 (omega (arith, h))))
joined_few (suc n) j h = either at_further (behind rule.further_source (λ f. joined_few n (with_source j f) (let more = length-append j.sources (f.0 ∷ []) in omega (arith, h, more)))) (gives (le-leb (length j.sources) 8 (omega (arith, h))))

from_few : Yields few_behind rule.from
unfolding rule.from
from_few = behind (word (codes "FROM")) (λ _. behind rule.source (λ s. after (joined_few 7 (record { sources = s ∷ []; conds = [] }) (omega arith)) (λ j h. behind rule.where_part (λ c. behind rule.order_part (λ os. gives h)))))

from_part_few : Yields few_behind rule.from_part
unfolding rule.from_part
from_part_few = either (at_word (codes "FROM")) from_few (gives refl)

select_few : Yields few_statement rule.select
unfolding rule.select
select_few = behind (word (codes "SELECT")) (λ _. behind rule.cache_word (λ c. behind rule.items (λ i. after from_part_few (λ f h. behind rule.limit_part (λ l. behind rule.lock_part (λ k. gives h))))))

-- ---- the other statements

insert_other : Yields few_statement rule.insert
unfolding rule.insert
insert_other = behind (word (codes "INSERT")) (λ _. behind (word (codes "INTO")) (λ _. behind rule.table (λ t. behind rule.names_part (λ names. behind (word (codes "VALUES")) (λ _. behind (listed rule.tuple) (λ rows. gives refl))))))

update_other : Yields few_statement rule.update
unfolding rule.update
update_other = behind (word (codes "UPDATE")) (λ _. behind rule.table (λ t. behind (word (codes "SET")) (λ _. behind (listed rule.assignment) (λ sets. behind rule.where_part (λ c. gives refl)))))

delete_other : Yields few_statement rule.delete
unfolding rule.delete
delete_other = behind (word (codes "DELETE")) (λ _. behind (word (codes "FROM")) (λ _. behind rule.table (λ t. behind rule.where_part (λ c. gives refl))))

truncate_other : Yields few_statement rule.truncate
unfolding rule.truncate
truncate_other = behind (word (codes "TRUNCATE")) (λ _. behind (passed (codes "TABLE")) (λ _. behind rule.table (λ t. gives refl)))

create_table_other : Yields few_statement rule.create_table
unfolding rule.create_table
create_table_other = behind (word (codes "TABLE")) (λ _. behind rule.table (λ t. behind (bracketed (listed rule.part)) (λ parts. behind rule.no_option (λ _. gives refl))))

create_other : Yields few_statement rule.create
unfolding rule.create
create_other = behind (word (codes "CREATE")) (λ _. either (at_word (codes "DATABASE")) (behind (word (codes "DATABASE")) (λ _. behind name (λ n. gives refl))) (either (at_word (codes "TABLE")) create_table_other (refuses (codes "CREATE"))))

dropped_other : Yields few_statement rule.dropped
unfolding rule.dropped
dropped_other = behind (word (codes "DROP")) (λ _. either (at_word (codes "DATABASE")) (behind (word (codes "DATABASE")) (λ _. behind name (λ n. gives refl))) (either (at_word (codes "TABLE")) (behind (word (codes "TABLE")) (λ _. behind rule.table (λ t. gives refl))) (refuses (codes "DROP"))))

use_other : Yields few_statement rule.use_database
unfolding rule.use_database
use_other = behind (word (codes "USE")) (λ _. behind name (λ n. gives refl))

start_other : Yields few_statement rule.start_transaction
unfolding rule.start_transaction
start_other = behind (word (codes "START")) (λ _. behind (word (codes "TRANSACTION")) (λ _. gives refl))

flush_other : Yields few_statement rule.flush
unfolding rule.flush
flush_other = behind (word (codes "FLUSH")) (λ _. either (at_word (codes "TABLES")) (behind (word (codes "TABLES")) (λ _. gives refl)) (behind (word (codes "QUERY")) (λ _. behind (word (codes "CACHE")) (λ _. gives refl))))

reset_other : Yields few_statement rule.reset
unfolding rule.reset
reset_other = behind (word (codes "RESET")) (λ _. behind (word (codes "QUERY")) (λ _. behind (word (codes "CACHE")) (λ _. gives refl)))

show_status_other : Yields few_statement rule.show_status
unfolding rule.show_status
show_status_other = behind (word (codes "SHOW")) (λ _. behind (passed (codes "GLOBAL")) (λ _. behind (word (codes "STATUS")) (λ _. behind (word (codes "LIKE")) (λ _. behind rule.pattern (λ _. gives refl)))))

show_other : Yields few_statement rule.show
unfolding rule.show
show_other = in_place other_show show_status_other

set_other : Yields few_statement rule.set
unfolding rule.set
set_other = behind (word (codes "SET")) (λ _. behind (any_word >>= rule.setting_of) (λ s. behind rule.no_second (λ _. gives refl)))

simple_other : {otherwise : Reader Statement} (w : Name) (s : Statement) → few_statement s ≡ true → Yields few_statement otherwise → Yields few_statement (rule.simple w s otherwise)
simple_other w s h a = either (at_word w) (behind (word w) (λ _. gives h)) a

one_word_other : Yields few_statement rule.one_word
unfolding rule.one_word
one_word_other = simple_other (codes "BEGIN") statement.Begin refl (simple_other (codes "COMMIT") statement.Commit refl (simple_other (codes "ROLLBACK") statement.Rollback refl (record { at = λ u. tt })))

other_statement_other : Yields few_statement rule.other_statement
unfolding rule.other_statement
other_statement_other =
    either (at_word (codes "USE")) use_other
    (either (at_word (codes "START")) start_other
    (either (at_word (codes "FLUSH")) flush_other
    (either (at_word (codes "RESET")) reset_other
    (either (at_word (codes "SHOW")) show_other
    (either (at_word (codes "SET")) set_other one_word_other)))))

any_statement_few : Yields few_statement rule.any_statement
unfolding rule.any_statement
any_statement_few =
    either (at_word (codes "SELECT")) select_few
    (either (at_word (codes "INSERT")) insert_other
    (either (at_word (codes "UPDATE")) update_other
    (either (at_word (codes "DELETE")) delete_other
    (either (at_word (codes "TRUNCATE")) truncate_other
    (either (at_word (codes "CREATE")) create_other
    (either (at_word (codes "DROP")) dropped_other other_statement_other))))))

whole_few : Yields few_statement rule.whole
unfolding rule.whole
whole_few = after any_statement_few (λ s h. behind rule.at_end (λ _. gives h))

text_gave : (u : Unread) → Gave few_statement (rule.any_text u)
unfolding rule.any_text
text_gave u = (in_place (unsupported_at (at_word (codes "SELECT") u)) whole_few).at u

given_few : (bytes : ℕ) (x : Result (Statement × Unread) Stop) (s : Statement) → Gave few_statement x → rule.statement_of bytes x ≡ Ok s → few_statement s ≡ true
given_few bytes (Ok x) s h e = let same : x.0 ≡ s = cc in subst (λ (t : Statement). few_statement t ≡ true) same h
given_few bytes (Err why) s h e = absurd cc

parsed_few : (text : List ℕ) (ansi : Bool) (s : Statement) → rule.meaning text ansi ≡ Ok s → few_statement s ≡ true
unfolding rule.meaning
parsed_few text ansi s e = given_few (length text) (rule.any_text (rule.from_front text (lexed text ansi))) s (text_gave _) e

-- ---- each once

same_self : (t : TableName) → same_table t t ≡ true
same_self t = and_from (bytes_eq t.db t.db) (bytes_eq t.name t.name) (bytes_eq_self t.db) (bytes_eq_self t.name)

-- one that was seen doesn't come again
not_again : (u : TableName) (seen ts : List TableName) → list_any (same_table u) seen ≡ true → list_any (same_table u) (each_once seen ts) ≡ false
not_again u seen [] h = refl
not_again u seen (t ∷ ts) h = elim (list_any (same_table t) seen) as (λ b. list_any (same_table t) seen ≡ b → list_any (same_table u) (cond b (each_once seen ts) (t ∷ each_once (t ∷ seen) ts)) ≡ false) [
  | true ↦ λ e. not_again u seen ts h
  | false ↦ λ e. elim (same_table u t) as (λ b. same_table u t ≡ b → (b || list_any (same_table u) (each_once (t ∷ seen) ts)) ≡ false) [
    | true ↦ λ f. absurd (true≢false (sym h ∙ ap (λ (x : TableName). list_any (same_table x) seen) (same_is u t f) ∙ e))
    | false ↦ λ f. not_again u (t ∷ seen) ts (ap (λ b. b || list_any (same_table u) seen) f ∙ h)
  ] refl
] refl

once_apart : (seen ts : List TableName) → AreApartTables (each_once seen ts)
once_apart seen [] = tt
once_apart seen (t ∷ ts) = elim (list_any (same_table t) seen) as (λ b. AreApartTables (cond b (each_once seen ts) (t ∷ each_once (t ∷ seen) ts))) [
  | true ↦ once_apart seen ts
  | false ↦ (not_again t (t ∷ seen) ts (ap (λ b. b || list_any (same_table t) seen) (same_self t)), once_apart (t ∷ seen) ts)
]

pub tables_are_apart : TablesAreApart
tables_are_apart select db = once_apart [] (map (λ source. full_name db source.table) select.from)

no_longer : (seen ts : List TableName) → length (each_once seen ts) ≤ length ts
no_longer seen [] = omega arith
no_longer seen (t ∷ ts) = elim (list_any (same_table t) seen) as (λ b. length (cond b (each_once seen ts) (t ∷ each_once (t ∷ seen) ts)) ≤ length (t ∷ ts)) [
  | true ↦ let h = no_longer seen ts in omega (arith, h)
  | false ↦ let h = no_longer (t ∷ seen) ts in omega (arith, h)
]

length_mapped : (db : Name) (ss : List Source) → length (map (λ source. full_name db source.table) ss) ≡ length ss
length_mapped db [] = refl
length_mapped db (s ∷ ss) = ap suc (length_mapped db ss)

pub tables_are_few : TablesAreFew
tables_are_few text ansi select db means =
    let few : nat_le (length select.from) 8 ≡ true = parsed_few text ansi (statement.Select select) means in
    let within : length select.from ≤ 8 = grind (arith, nat_tests) in
    let no_more = no_longer [] (map (λ source. full_name db source.table) select.from) in
    let long = length_mapped db select.from in
    omega (arith, within, no_more, long)
