-- No commit touched the tables of an entry that is in the cache, so its answer is that of its start.
use Rattle.std.proofs.Common.{◌≡◌, ℕ, Bool, true, false, cond, List, [], ◌∷◌, ◌++◌, refl, sym, ap, subst, ◌∙◌, append_assoc, append-nil, map, Result, Ok, Err, true≢false, eq-eqb, eqb-true}
use Rattle.std.specs.Prelude.{Option, Some, None, not, ◌||◌, ◌&&◌, is_some, option_map, bytes_eq, IsSomeAnd}
use Rattle.std.specs.List.{list_any, AllByRecursion, concat}
use Rattle.std.proofs.lemmas.Slice.Eq.{bytes_eq-Decides}
use Rattle.qc_types.specs.declared.names.TableName.{TableName}
use Rattle.qc_types.specs.declared.names.Why.{Why}
use Rattle.qc_types.specs.declared.options.Options.{Options}
use Rattle.qc_sql.specs.declared.statements.Source.{Source}
use Rattle.qc_sql.specs.declared.statements.Statement.{Statement}
use Rattle.qc_sql.specs.declared.statements.Statement.TheVariants as statement
use Rattle.qc_types.specs.declared.sql_error.SqlError.{SqlError}
use Rattle.qc_sql.specs.declared.tables.RowOp.{RowOp}
use Rattle.qc_sql.specs.Database.{Name, Database, table_of, apply, touches, same_table}
use Rattle.qc_sql.specs.Grammar.{meaning, ParseFault}
use Rattle.qc_sql.specs.Rules.{full_name, each_once, why_not}
use Rattle.qc_sql.specs.Rows.{Rows, rows}
use Rattle.qc_sql.specs.Laws.{SameTables}
use Rattle.qc_sql.proofs.Depends.{depends_on_tables}
use Rattle.qc_sql.proofs.Untouched.{keeps_untouched}
use Rattle.qc_model.specs.declared.events.Who.{Who}
use Rattle.qc_model.specs.declared.events.Event.{Event}
use Rattle.qc_model.specs.declared.events.Event.TheVariants as event
use Rattle.qc_model.specs.declared.events.How.{How}
use Rattle.qc_model.specs.declared.events.How.TheVariants as how
use Rattle.qc_model.specs.Journal.{Journal, operations, touches_table, present}
use Rattle.qc_model.specs.Cache.{Entry, cache, entry_of, is_entry, without, completed, moved, uses_touched, after_run, after_event}
use Rattle.qc_model.specs.Session.{is_key_of, KeyParts, parts_of, packets_unless, kept_packets, answer_packets, answer}
use Rattle.qc_model.specs.Licence.{IsLicensed, IsLawful, IsLawfulAfter, tables_of_statement, tables_of_key}
use Rattle.qc_laws.specs.history.Runs.{IsKept, completes, is_completed, AnswersStay, HitsAreWhole}
use Rattle.qc_laws.proofs.history.Events.{present_push, cache_push, lawful_prefix, lawful_back, any_append, any_here, all_append, all_on, all_filter, found_all}

-- ---- a select's tables

abbrev SameAt : Database → Database → TableName → Type 0
SameAt d e t = table_of t d ≡ table_of t e

pub same_is : (t u : TableName) → same_table t u ≡ true → t ≡ u
same_is t u h =
    let parts = both (bytes_eq t.db u.db) (bytes_eq t.name u.name) h in
    let a = (bytes_eq-Decides t.db u.db).0 parts.0 in
    let b = (bytes_eq-Decides t.name u.name).0 parts.1 in
    λ i. record { db = a i; name = b i }
  where
    both : (a b : Bool) → (a && b) ≡ true → (a ≡ true) × (b ≡ true)
    both true b h = (refl, h)
    both false b h = absurd (true≢false (sym h))

any_all : (P : TableName → Type 0) (t : TableName) (us : List TableName) → list_any (same_table t) us ≡ true → AllByRecursion P us → P t
any_all P t [] h k = absurd (true≢false (sym h))
any_all P t (u ∷ us) h k = elim (same_table t u) as (λ b. same_table t u ≡ b → (b || list_any (same_table t) us) ≡ true → P t) [
  | true ↦ λ e f. subst P (sym (same_is t u e)) k.0
  | false ↦ λ e f. any_all P t us f k.1
] refl h

pub once_all : (P : TableName → Type 0) (seen ts : List TableName) → AllByRecursion P seen → AllByRecursion P (each_once seen ts) → AllByRecursion P ts
once_all P seen [] s h = tt
once_all P seen (t ∷ ts) s h = elim (list_any (same_table t) seen) as (λ b. list_any (same_table t) seen ≡ b → AllByRecursion P (cond b (each_once seen ts) (t ∷ each_once (t ∷ seen) ts)) → P t × AllByRecursion P ts) [
  | true ↦ λ e k. (any_all P t seen e s, once_all P seen ts s k)
  | false ↦ λ e k. (k.0, once_all P (t ∷ seen) ts (k.0, s) k.1)
] refl h

pub same_tables : (d e : Database) (db : Name) (ss : List Source) → AllByRecursion (SameAt d e) (map (λ source. full_name db source.table) ss) → SameTables d e db ss
same_tables d e db [] h = tt
same_tables d e db (s ∷ ss) h = (h.0, same_tables d e db ss h.1)

packets_same : (parts : KeyParts) (w : Option Why) (r q : Result Rows SqlError) (a : List ℕ) → ((x : Rows) → r ≡ Ok x → q ≡ Ok x)
    → option_map concat (packets_unless parts w r) ≡ Some a → option_map concat (packets_unless parts w q) ≡ Some a
packets_same parts None (Ok x) q a same h = subst (λ z. option_map concat (packets_unless parts None z) ≡ Some a) (sym (same x refl)) h
packets_same parts None (Err x) q a same h = absurd cc
packets_same parts (Some y) r q a same h = absurd cc

kept_same : (parts : KeyParts) (m : Result Statement ParseFault) (d e : Database) (a : List ℕ) → AllByRecursion (SameAt d e) (tables_of_statement parts.db m)
    → option_map concat (kept_packets parts d m) ≡ Some a → option_map concat (kept_packets parts e m) ≡ Some a
kept_same parts (Ok (statement.Select s)) d e a same h =
    packets_same parts (why_not parts.db s) (rows s d parts.db parts.flags 0) (rows s e parts.db parts.flags 0) a
    (λ x k. depends_on_tables s d e parts.db parts.flags 0 x (same_tables d e parts.db s.from (once_all (SameAt d e) [] (map (λ source. full_name parts.db source.table) s.from) tt same)) k) h
kept_same parts m d e a same h = absurd cc

unless_key : (b : Bool) (x y : Option (List (List ℕ))) (a : List ℕ) → (option_map concat x ≡ Some a → option_map concat y ≡ Some a) → option_map concat (cond b x None) ≡ Some a → option_map concat (cond b y None) ≡ Some a
unless_key true x y a f h = f h
unless_key false x y a f h = absurd cc

pub answer_same : (key : List ℕ) (d e : Database) (a : List ℕ) → AllByRecursion (SameAt d e) (tables_of_key key) → answer key d ≡ Some a → answer key e ≡ Some a
unfolding answer_packets
answer_same key d e a same h =
    let m = meaning (parts_of key).text (parts_of key).flags.ansi in
    unless_key (is_key_of (parts_of key) key) (kept_packets (parts_of key) d m) (kept_packets (parts_of key) e m) a (kept_same (parts_of key) m d e a same) h

-- ---- one event

untouched_same : (ops : List RowOp) (d : Database) (e : Event) (ts : List TableName) → operations e ≡ ops → list_any (λ t. touches_table t e) ts ≡ false → AllByRecursion (SameAt d (apply ops d)) ts
untouched_same ops d e [] is h = tt
untouched_same ops d e (t ∷ ts) is h =
    let parts = neither (touches_table t e) (list_any (λ t. touches_table t e) ts) h in
    (sym (keeps_untouched t ops d (subst (λ z. list_any (touches t) z ≡ false) is parts.0)), untouched_same ops d e ts is parts.1)
  where
    neither : (a b : Bool) → (a || b) ≡ false → (a ≡ false) × (b ≡ false)
    neither false b h = (refl, h)
    neither true b h = absurd (true≢false h)

-- it stays as it is, or is completed
kept_on : (j : Journal) (e : Event) (x : Entry) (k : IsKept j x) → (answer x.key (present (j ++ e ∷ [])) ≡ Some k.bytes) → IsKept (j ++ e ∷ []) x
kept_on j e x k now = record {
  start = record {
    who = k.start.who;
    key = k.start.key;
    tables = k.start.tables;
    earlier = k.start.earlier;
    later = k.start.later ++ e ∷ [];
    split = ap (λ l. l ++ e ∷ []) k.start.split ∙ append_assoc k.start.earlier (event.Run k.start.who (how.Start x.serial k.start.key k.start.tables) ∷ k.start.later) (e ∷ []);
  };
  key = k.key;
  named = k.named;
  tables = k.tables;
  bytes = k.bytes;
  at_start = k.at_start;
  now = now;
  ended = λ c. any_append (completes x.serial) j (e ∷ []) (k.ended c);
}

-- an event that isn't a commit
kept_quiet : (j : Journal) (e : Event) (x : Entry) → operations e ≡ [] → IsKept j x → IsKept (j ++ e ∷ []) x
kept_quiet j e x quiet k = kept_on j e x k (ap (answer x.key) (present_push j e ∙ ap (λ l. apply l (present j)) quiet) ∙ k.now)

-- an untouched entry answers as before
pub commit_answer : (j : Journal) (e : Event) (x : Entry) → not (uses_touched e x) ≡ true → IsKept j x → answer x.key (present (j ++ e ∷ [])) ≡ answer x.key (present j)
commit_answer j e x free k =
    let same : AllByRecursion (SameAt (present j) (apply (operations e) (present j))) x.tables = untouched_same (operations e) (present j) e x.tables refl (opposite (uses_touched e x) free) in
    ap (answer x.key) (present_push j e)
    ∙ (answer_same x.key (present j) (apply (operations e) (present j)) k.bytes (subst (λ z. AllByRecursion (SameAt (present j) (apply (operations e) (present j))) z) k.tables same) k.now ∙ sym k.now)
  where
    opposite : (b : Bool) → not b ≡ true → b ≡ false
    opposite false h = refl
    opposite true h = absurd (true≢false (sym h))

kept_commit : (j : Journal) (e : Event) (x : Entry) → not (uses_touched e x) ≡ true → IsKept j x → IsKept (j ++ e ∷ []) x
kept_commit j e x free k = kept_on j e x k (commit_answer j e x free k ∙ k.now)

kept_completed : (j : Journal) (n : ℕ) (x : Entry) → x.serial ≡ n → IsKept j x → IsKept (j ++ event.Done n ∷ []) (completed x)
kept_completed j n x is k =
    let stays = kept_quiet j (event.Done n) x refl k in
    record {
      start = stays.start;
      key = stays.key;
      named = stays.named;
      tables = stays.tables;
      bytes = stays.bytes;
      at_start = stays.at_start;
      now = stays.now;
      ended = λ c. any_here (completes x.serial) j (event.Done n) [] (eq-eqb n x.serial (sym is));
    }

pub is_serial : (n : ℕ) (x : Entry) → is_entry n x ≡ true → x.serial ≡ n
is_serial n x h = eqb-true x.serial n h

moved_kept : (j : Journal) (e : Event) (n : ℕ) (f : Entry → Entry) (o : Option Entry) (es : List Entry) → entry_of n es ≡ o → AllByRecursion (IsKept j) es
    → ((x : Entry) → IsKept j x → IsKept (j ++ e ∷ []) x) → ((x : Entry) → x.serial ≡ n → IsKept j x → IsKept (j ++ e ∷ []) (f x))
    → AllByRecursion (IsKept (j ++ e ∷ [])) (moved f o es)
moved_kept j e n f None es is h on to = all_on (IsKept j) (IsKept (j ++ e ∷ [])) es on h
moved_kept j e n f (Some x) es is h on to =
    let found = found_all (IsKept j) (is_entry n) es x h is in
    all_append (IsKept (j ++ e ∷ [])) (without x.serial es) (f x ∷ []) (all_filter (IsKept j) (IsKept (j ++ e ∷ [])) _ es (λ y _. on y) h) (to x (is_serial n x found.1) found.0, tt)

pub from_some : (o : Option (List ℕ)) → is_some o ≡ true → (a : List ℕ) × (o ≡ Some a)
from_some None h = absurd (true≢false (sym h))
from_some (Some a) h = (a, refl)

run_keeps : (o : Options) (j : Journal) (who : Who) (h : How) → AllByRecursion (IsKept j) (cache j) → IsLicensed o j (event.Run who h) → AllByRecursion (IsKept (j ++ event.Run who h ∷ [])) (after_run h (cache j))
run_keeps o j who (how.Start n key tables) all l =
    let some = from_some (answer key (present j)) l.1.has_answer in
    let e = event.Run who (how.Start n key tables) in
    all_append (IsKept (j ++ e ∷ [])) (cache j) _ (all_on (IsKept j) (IsKept (j ++ e ∷ [])) (cache j) (λ x. kept_quiet j e x refl) all) (
      record {
        start = record { who = who; key = key; tables = tables; earlier = j; later = []; split = refl };
        key = refl;
        named = refl;
        tables = l.1.of_select;
        bytes = some.0;
        at_start = some.1;
        now = ap (answer key) (present_push j e) ∙ some.1;
        ended = λ c. absurd (true≢false (sym c));
      },
      tt,
    )
run_keeps o j who (how.Hit n) all l =
    let e = event.Run who (how.Hit n) in
    moved_kept j e n (λ x. x) (entry_of n (cache j)) (cache j) refl all (λ x. kept_quiet j e x refl) (λ x _. kept_quiet j e x refl)
run_keeps o j who (how.Plain why) all l = all_on (IsKept j) _ (cache j) (λ x. kept_quiet j (event.Run who (how.Plain why)) x refl) all
run_keeps o j who how.Other all l = all_on (IsKept j) _ (cache j) (λ x. kept_quiet j (event.Run who how.Other) x refl) all
run_keeps o j who (how.Status t) all l = all_on (IsKept j) _ (cache j) (λ x. kept_quiet j (event.Run who (how.Status t)) x refl) all
run_keeps o j who (how.Conflict t key by) all l = all_on (IsKept j) _ (cache j) (λ x. kept_quiet j (event.Run who (how.Conflict t key by)) x refl) all

event_keeps : (o : Options) (j : Journal) (e : Event) → AllByRecursion (IsKept j) (cache j) → IsLicensed o j e → AllByRecursion (IsKept (j ++ e ∷ [])) (after_event e (cache j))
event_keeps o j (event.Run who h) all l = run_keeps o j who h all l
event_keeps o j (event.Commit who ops) all l = all_filter (IsKept j) _ _ (cache j) (λ x free. kept_commit j (event.Commit who ops) x free) all
event_keeps o j (event.Reset who) all l = tt
event_keeps o j (event.Flush who) all l = all_on (IsKept j) _ (cache j) (λ x. kept_quiet j (event.Flush who) x refl) all
event_keeps o j (event.Done n) all l =
    moved_kept j (event.Done n) n completed (entry_of n (cache j)) (cache j) refl all (λ x. kept_quiet j (event.Done n) x refl) (λ x is. kept_completed j n x is)
event_keeps o j (event.Gone n why) all l = all_filter (IsKept j) _ _ (cache j) (λ x _. kept_quiet j (event.Gone n why) x refl) all
event_keeps o j (event.Prune n need largest) all l = all_filter (IsKept j) _ _ (cache j) (λ x _. kept_quiet j (event.Prune n need largest) x refl) all

after_keeps : (o : Options) (a j : Journal) → AllByRecursion (IsKept a) (cache a) → IsLawfulAfter o a j → AllByRecursion (IsKept (a ++ j)) (cache (a ++ j))
after_keeps o a [] all h = subst (λ z. AllByRecursion (IsKept z) (cache z)) (sym (append-nil a)) all
after_keeps o a (e ∷ j) all h =
    let one : AllByRecursion (IsKept (a ++ e ∷ [])) (cache (a ++ e ∷ [])) = subst (λ z. AllByRecursion (IsKept (a ++ e ∷ [])) z) (sym (cache_push a e)) (event_keeps o a e all h.0) in
    subst (λ z. AllByRecursion (IsKept z) (cache z)) (append_assoc a (e ∷ []) j) (after_keeps o (a ++ e ∷ []) j one h.1)

pub answers_stay : AnswersStay
answers_stay o j h = after_keeps o [] j tt h

-- ---- hits

hit_done : (earlier : Journal) (n : ℕ) (o : Option Entry) → entry_of n (cache earlier) ≡ o → IsSomeAnd o (λ x. x.complete ≡ true) → AllByRecursion (IsKept earlier) (cache earlier) → is_completed n earlier ≡ true
hit_done earlier n None is h all = absurd h
hit_done earlier n (Some x) is h all =
    let found = found_all (IsKept earlier) (is_entry n) (cache earlier) x all is in
    subst (λ z. is_completed z earlier ≡ true) (is_serial n x found.1) (found.0.ended h)

pub hits_are_whole : HitsAreWhole
hits_are_whole o j who n earlier later h split =
    let lawful = subst (IsLawful o) split h in
    let back : IsLawfulAfter o earlier (event.Run who (how.Hit n) ∷ later) = lawful_back o [] earlier _ lawful in
    let prefix : IsLawful o earlier = lawful_prefix o [] earlier _ lawful in
    hit_done earlier n (entry_of n (cache earlier)) refl back.0.1 (answers_stay o earlier prefix)
