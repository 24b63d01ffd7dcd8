-- An entry that is in the cache has the packets that it had at its start.
use Rattle.std.proofs.Common.{◌≡◌, ℕ, ◌+◌, ◌<◌, ◌≤◌, arith, length, length-append, Bool, true, false, cond, List, [], ◌∷◌, ◌++◌, refl, sym, ap, subst, ◌∙◌, append_assoc, append-nil, map, Result, Ok, Err, true≢false}
use Rattle.std.specs.Prelude.{Option, Some, None, not, ◌||◌, is_some, option_map, nat_lt, unwrap_or, IfSome, IsSomeAnd}
use Rattle.std.specs.List.{list_any, AllByRecursion, concat}
use Rattle.std.proofs.lemmas.Bool.Decides.{nat_tests}
use Rattle.qc_types.specs.declared.names.TableName.{TableName}
use Rattle.qc_types.specs.declared.names.Why.{Why}
use Rattle.qc_types.specs.declared.options.Options.{Options}
use Rattle.qc_types.specs.declared.sql_error.SqlError.{SqlError}
use Rattle.qc_sql.specs.declared.statements.Statement.{Statement}
use Rattle.qc_sql.specs.declared.statements.Statement.TheVariants as statement
use Rattle.qc_sql.specs.Database.{Database, table_of, apply, touches}
use Rattle.qc_sql.specs.Grammar.{meaning, ParseFault}
use Rattle.qc_sql.specs.Rules.{full_name, why_not}
use Rattle.qc_sql.specs.Rows.{Rows, rows}
use Rattle.qc_sql.proofs.Depends.{depends_on_tables}
use Rattle.qc_sql.proofs.Untouched.{keeps_untouched}
use Rattle.qc_model.specs.declared.events.Who.{Who}
use Rattle.qc_model.specs.declared.events.Event.{Event}
use Rattle.qc_model.specs.declared.events.Event.TheVariants as event
use Rattle.qc_model.specs.declared.events.How.{How}
use Rattle.qc_model.specs.declared.events.How.TheVariants as how
use Rattle.qc_model.specs.Journal.{Journal, operations, touches_table, present}
use Rattle.qc_model.specs.Cache.{Entry, cache, entry_of, is_entry, without, completed, moved, uses_touched, after_run, after_event}
use Rattle.qc_model.specs.Session.{is_key_of, KeyParts, parts_of, packets_unless, kept_packets, answer_packets, answer}
use Rattle.qc_model.specs.Licence.{IsLicensed, IsLawful, IsLawfulAfter, prefix_above, tables_of_statement, tables_of_key}
use Rattle.qc_laws.specs.history.Runs.{IsStarted, IsKept}
use Rattle.qc_laws.proofs.history.Events.{present_push, cache_push, all_append, all_on, all_filter, found_all}
use Rattle.qc_laws.proofs.history.Stays.{once_all, same_tables, is_serial, answers_stay}
use Rattle.qc_laws.proofs.history.Serials.{neither}
use Rattle.qc_laws.proofs.history.Starts.{starts_once}
use Rattle.qc_turn.specs.Words.{StartsWith}
use Rattle.qc_sound.specs.Sound.{FitsFill}

-- ---- packets depend on the select's tables

abbrev Same : Database → Database → TableName → Type 0
Same d e t = table_of t d ≡ table_of t e

unless_same : (parts : KeyParts) (w : Option Why) (r q : Result Rows SqlError) (ps : List (List ℕ)) → ((x : Rows) → r ≡ Ok x → q ≡ Ok x) → packets_unless parts w r ≡ Some ps → packets_unless parts w q ≡ Some ps
unless_same parts None (Ok x) q ps same h = subst (λ z. packets_unless parts None z ≡ Some ps) (sym (same x refl)) h
unless_same parts None (Err x) q ps same h = absurd cc
unless_same parts (Some y) r q ps same h = absurd cc

kept_same : (parts : KeyParts) (m : Result Statement ParseFault) (d e : Database) (ps : List (List ℕ)) → AllByRecursion (Same d e) (tables_of_statement parts.db m) → kept_packets parts d m ≡ Some ps → kept_packets parts e m ≡ Some ps
kept_same parts (Ok (statement.Select s)) d e ps same h =
    unless_same parts (why_not parts.db s) (rows s d parts.db parts.flags 0) (rows s e parts.db parts.flags 0) ps
    (λ x k. depends_on_tables s d e parts.db parts.flags 0 x (same_tables d e parts.db s.from (once_all (Same d e) [] (map (λ source. full_name parts.db source.table) s.from) tt same)) k) h
kept_same parts m d e ps same h = absurd cc

unless_key : (b : Bool) (x y : Option (List (List ℕ))) (ps : List (List ℕ)) → (x ≡ Some ps → y ≡ Some ps) → cond b x None ≡ Some ps → cond b y None ≡ Some ps
unless_key true x y ps f h = f h
unless_key false x y ps f h = absurd cc

packets_same : (key : List ℕ) (d e : Database) (ps : List (List ℕ)) → AllByRecursion (Same d e) (tables_of_key key) → answer_packets key d ≡ Some ps → answer_packets key e ≡ Some ps
unfolding answer_packets
packets_same key d e ps same h =
    let m = meaning (parts_of key).text (parts_of key).flags.ansi in
    unless_key (is_key_of (parts_of key) key) (kept_packets (parts_of key) d m) (kept_packets (parts_of key) e m) ps (kept_same (parts_of key) m d e ps same) h

-- ---- one event

untouched_same : (d : Database) (e : Event) (ts : List TableName) → list_any (λ t. touches_table t e) ts ≡ false → AllByRecursion (Same d (apply (operations e) d)) ts
untouched_same d e [] h = tt
untouched_same d e (t ∷ ts) h = let parts = neither (touches_table t e) (list_any (λ t. touches_table t e) ts) h in (sym (keeps_untouched t (operations e) d parts.0), untouched_same d e ts parts.1)

-- an event without operations touches no table
quiet_free : (e : Event) (ts : List TableName) → operations e ≡ [] → list_any (λ t. touches_table t e) ts ≡ false
quiet_free e [] h = refl
quiet_free e (t ∷ ts) h = ap (λ b. b || list_any (λ t. touches_table t e) ts) (ap (list_any (touches t)) h) ∙ quiet_free e ts h

-- the entry has the packets that it had at its start
pub record HasPackets (j : Journal) (x : Entry) : Type 0 where
  pub start : IsStarted j x.serial
  pub key : start.key ≡ x.key
  pub tables : x.tables ≡ tables_of_key x.key
  pub packets : List (List ℕ)
  pub at_start : answer_packets x.key (present start.earlier) ≡ Some packets
  pub now : answer_packets x.key (present j) ≡ Some packets

abbrev pub started_on : (j : Journal) (e : Event) (n : ℕ) → (s : IsStarted j n) → (t : IsStarted (j ++ e ∷ []) n) × (t.earlier ≡ s.earlier) × (t.key ≡ s.key)
started_on j e n s = (
  record {
    who = s.who;
    key = s.key;
    tables = s.tables;
    earlier = s.earlier;
    later = s.later ++ e ∷ [];
    split = ap (λ l. l ++ e ∷ []) s.split ∙ append_assoc s.earlier (event.Run s.who (how.Start n s.key s.tables) ∷ s.later) (e ∷ []);
  },
  refl,
  refl,
)

packets_on : (j : Journal) (e : Event) (x : Entry) → uses_touched e x ≡ false → HasPackets j x → HasPackets (j ++ e ∷ []) x
packets_on j e x free k =
    let same = subst (λ ts. AllByRecursion (Same (present j) (apply (operations e) (present j))) ts) k.tables (untouched_same (present j) e x.tables free) in
    let t = started_on j e x.serial k.start in
    record {
      start = t.0;
      key = k.key;
      tables = k.tables;
      packets = k.packets;
      at_start = k.at_start;
      now = ap (answer_packets x.key) (present_push j e) ∙ packets_same x.key (present j) (apply (operations e) (present j)) k.packets same k.now;
    }

packets_quiet : (j : Journal) (e : Event) (x : Entry) → operations e ≡ [] → HasPackets j x → HasPackets (j ++ e ∷ []) x
packets_quiet j e x quiet k = packets_on j e x (quiet_free e x.tables quiet) k

packets_completed : (j : Journal) (x : Entry) → HasPackets j x → HasPackets j (completed x)
packets_completed j x k = record { start = k.start; key = k.key; tables = k.tables; packets = k.packets; at_start = k.at_start; now = k.now }

moved_on : (j : Journal) (e : Event) (n : ℕ) (f : Entry → Entry) (o : Option Entry) (es : List Entry) → entry_of n es ≡ o → AllByRecursion (HasPackets j) es
    → ((x : Entry) → HasPackets j x → HasPackets (j ++ e ∷ []) x) → ((x : Entry) → HasPackets j x → HasPackets (j ++ e ∷ []) (f x)) → AllByRecursion (HasPackets (j ++ e ∷ [])) (moved f o es)
moved_on j e n f None es is h on to = all_on (HasPackets j) (HasPackets (j ++ e ∷ [])) es on h
moved_on j e n f (Some x) es is h on to =
    let found = found_all (HasPackets j) (is_entry n) es x h is in
    all_append (HasPackets (j ++ e ∷ [])) (without x.serial es) (f x ∷ []) (all_filter (HasPackets j) (HasPackets (j ++ e ∷ [])) _ es (λ y _. on y) h) (to x found.0, tt)

some_packets : (o : Option (List (List ℕ))) → is_some (option_map concat o) ≡ true → (ps : List (List ℕ)) × (o ≡ Some ps)
some_packets None h = absurd (true≢false (sym h))
some_packets (Some ps) h = (ps, refl)

run_on : (o : Options) (j : Journal) (who : Who) (h : How) → AllByRecursion (HasPackets j) (cache j) → IsLicensed o j (event.Run who h) → AllByRecursion (HasPackets (j ++ event.Run who h ∷ [])) (after_run h (cache j))
run_on o j who (how.Start n key tables) all l =
    let e = event.Run who (how.Start n key tables) in
    let some = some_packets (answer_packets key (present j)) l.1.has_answer in
    all_append (HasPackets (j ++ e ∷ [])) (cache j) _ (all_on (HasPackets j) (HasPackets (j ++ e ∷ [])) (cache j) (λ x. packets_quiet j e x refl) all) (
      record {
        start = record { who = who; key = key; tables = tables; earlier = j; later = []; split = refl };
        key = refl;
        tables = l.1.of_select;
        packets = some.0;
        at_start = some.1;
        now = ap (answer_packets key) (present_push j e) ∙ some.1;
      },
      tt,
    )
run_on o j who (how.Hit n) all l = let e = event.Run who (how.Hit n) in moved_on j e n (λ x. x) (entry_of n (cache j)) (cache j) refl all (λ x. packets_quiet j e x refl) (λ x. packets_quiet j e x refl)
run_on o j who (how.Plain why) all l = all_on (HasPackets j) _ (cache j) (λ x. packets_quiet j (event.Run who (how.Plain why)) x refl) all
run_on o j who how.Other all l = all_on (HasPackets j) _ (cache j) (λ x. packets_quiet j (event.Run who how.Other) x refl) all
run_on o j who (how.Status t) all l = all_on (HasPackets j) _ (cache j) (λ x. packets_quiet j (event.Run who (how.Status t)) x refl) all
run_on o j who (how.Conflict t key by) all l = all_on (HasPackets j) _ (cache j) (λ x. packets_quiet j (event.Run who (how.Conflict t key by)) x refl) all

event_on : (o : Options) (j : Journal) (e : Event) → AllByRecursion (HasPackets j) (cache j) → IsLicensed o j e → AllByRecursion (HasPackets (j ++ e ∷ [])) (after_event e (cache j))
event_on o j (event.Run who h) all l = run_on o j who h all l
event_on o j (event.Commit who ops) all l = all_filter (HasPackets j) _ _ (cache j) (λ x free. packets_on j (event.Commit who ops) x (opposite (uses_touched (event.Commit who ops) x) free)) all
  where
    opposite : (b : Bool) → not b ≡ true → b ≡ false
    opposite false h = refl
    opposite true h = absurd (true≢false (sym h))
event_on o j (event.Reset who) all l = tt
event_on o j (event.Flush who) all l = all_on (HasPackets j) _ (cache j) (λ x. packets_quiet j (event.Flush who) x refl) all
event_on o j (event.Done n) all l =
    let e = event.Done n in
    moved_on j e n completed (entry_of n (cache j)) (cache j) refl all (λ x. packets_quiet j e x refl) (λ x k. packets_completed (j ++ e ∷ []) x (packets_quiet j e x refl k))
event_on o j (event.Gone n why) all l = all_filter (HasPackets j) _ _ (cache j) (λ x _. packets_quiet j (event.Gone n why) x refl) all
event_on o j (event.Prune n need largest) all l = all_filter (HasPackets j) _ _ (cache j) (λ x _. packets_quiet j (event.Prune n need largest) x refl) all

after_on : (o : Options) (a j : Journal) → AllByRecursion (HasPackets a) (cache a) → IsLawfulAfter o a j → AllByRecursion (HasPackets (a ++ j)) (cache (a ++ j))
after_on o a [] all h = subst (λ z. AllByRecursion (HasPackets z) (cache z)) (sym (append-nil a)) all
after_on o a (e ∷ j) all h =
    let one : AllByRecursion (HasPackets (a ++ e ∷ [])) (cache (a ++ e ∷ [])) = subst (λ z. AllByRecursion (HasPackets (a ++ e ∷ [])) z) (sym (cache_push a e)) (event_on o a e all h.0) in
    subst (λ z. AllByRecursion (HasPackets z) (cache z)) (append_assoc a (e ∷ []) j) (after_on o (a ++ e ∷ []) j one h.1)

pub packets_stay : (o : Options) (j : Journal) → IsLawful o j → AllByRecursion (HasPackets j) (cache j)
packets_stay o j h = after_on o [] j tt h

-- ---- what fits a fill, and the limit

-- the packets that the key of an entry has now, where it is there
pub packets_now : (o : Options) (j : Journal) (n : ℕ) (s : IsStarted j n) (ps : List (List ℕ)) (x : Entry) → IsLawful o j → answer_packets s.key (present s.earlier) ≡ Some ps → entry_of n (cache j) ≡ Some x → answer_packets x.key (present j) ≡ Some ps
packets_now o j n s ps x h is found =
    let t = found_all (HasPackets j) (is_entry n) (cache j) x (packets_stay o j h) found in
    let k = t.0 in
    let serial = is_serial n x t.1 in
    let mine : IsStarted j n = record { who = k.start.who; key = k.start.key; tables = k.start.tables; earlier = k.start.earlier; later = k.start.later; split = k.start.split ∙ (λ i. k.start.earlier ++ event.Run k.start.who (how.Start (serial i) k.start.key k.start.tables) ∷ k.start.later) } in
    let once = starts_once o j n mine s h in
    k.now ∙ (sym k.at_start ∙ ((λ i. answer_packets ((sym k.key ∙ once.2) i) (present (once.0 i))) ∙ is))

prefix_is : (limit sum : ℕ) (ps : List (List ℕ)) (p : List ℕ) (qs : List (List ℕ)) → sum + length (concat ps) ≤ limit → limit < sum + length (concat ps) + length p → prefix_above limit sum (ps ++ p ∷ qs) ≡ sum + length (concat ps) + length p
prefix_is limit sum [] p qs low high =
    let none : nat_lt limit sum ≡ false = grind (arith, nat_tests, low) in
    let over : nat_lt limit (sum + length p) ≡ true = grind (arith, nat_tests, high) in
    let e : sum + length p ≡ sum + length (concat []) + length p = omega arith in
    ap (λ b. cond b sum (prefix_above limit (sum + length p) qs)) none ∙ (stops qs over ∙ e)
  where
    stops : (qs : List (List ℕ)) → nat_lt limit (sum + length p) ≡ true → prefix_above limit (sum + length p) qs ≡ sum + length p
    stops [] h = refl
    stops (q ∷ qs) h = ap (λ b. cond b (sum + length p) (prefix_above limit (sum + length p + length q) qs)) h
prefix_is limit sum (r ∷ ps) p qs low high =
    let long = length-append r (concat ps) in
    let none : nat_lt limit sum ≡ false = grind (arith, nat_tests, low) in
    let e : sum + length r + length (concat ps) + length p ≡ sum + length (concat (r ∷ ps)) + length p = omega (arith, long) in
    ap (λ b. cond b sum (prefix_above limit (sum + length r) (ps ++ p ∷ qs))) none
    ∙ (prefix_is limit (sum + length r) ps p qs (omega (arith, long, low)) (omega (arith, long, high)) ∙ e)

-- the first packets that are longer than the limit
pub first_above : (limit : ℕ) (ps : List (List ℕ)) (p : List ℕ) (qs : List (List ℕ)) → length (concat ps) ≤ limit → limit < length (concat ps) + length p → prefix_above limit 0 (ps ++ p ∷ qs) ≡ length (concat ps) + length p
first_above limit ps p qs low high =
    let e : 0 + length (concat ps) + length p ≡ length (concat ps) + length p = omega arith in
    prefix_is limit 0 ps p qs (omega (arith, low)) (omega (arith, high)) ∙ e

-- the answer that the key of an entry has now, where it is there
pub answer_now : (o : Options) (j : Journal) (n : ℕ) (s : IsStarted j n) (all : List ℕ) (x : Entry) → IsLawful o j → answer s.key (present s.earlier) ≡ Some all → entry_of n (cache j) ≡ Some x → answer x.key (present j) ≡ Some all
answer_now o j n s all x h is found =
    let t = found_all (IsKept j) (is_entry n) (cache j) x (answers_stay o j h) found in
    let k = t.0 in
    let serial = is_serial n x t.1 in
    let mine : IsStarted j n = record { who = k.start.who; key = k.start.key; tables = k.start.tables; earlier = k.start.earlier; later = k.start.later; split = k.start.split ∙ (λ i. k.start.earlier ++ event.Run k.start.who (how.Start (serial i) k.start.key k.start.tables) ∷ k.start.later) } in
    let once = starts_once o j n mine s h in
    k.now ∙ (sym k.at_start ∙ ((λ i. answer ((sym k.key ∙ once.2) i) (present (once.0 i))) ∙ is))

-- a beginning of the answer fits
pub front_fits : (o : Options) (j : Journal) (n : ℕ) (s : IsStarted j n) (all bytes : List ℕ) → IsLawful o j → answer s.key (present s.earlier) ≡ Some all → StartsWith all bytes → FitsFill j n bytes
front_fits o j n s all bytes h is begins = record {
  start = s;
  front = subst (λ (x : Option (List ℕ)). StartsWith (unwrap_or x []) bytes) (sym is) begins;
  now = by (entry_of n (cache j)) refl;
}
  where
    by : (x : Option Entry) → entry_of n (cache j) ≡ x → IfSome x (λ entry. IsSomeAnd (answer entry.key (present j)) (λ all. StartsWith all bytes))
    by None e = tt
    by (Some x) e = subst (λ (y : Option (List ℕ)). IsSomeAnd y (λ a. StartsWith a bytes)) (sym (answer_now o j n s all x h is e)) begins
