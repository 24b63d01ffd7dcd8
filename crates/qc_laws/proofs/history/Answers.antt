-- Entries that a session may see answer its selects.
use Rattle.std.proofs.Common.{◌≡◌, ℕ, Bool, true, List, [], ◌∷◌, refl, sym, ap, subst, ◌∙◌, map}
use Rattle.std.specs.Prelude.{Option, Some, None, Result, Ok, Err, option_map, if◌then◌else◌}
use Rattle.std.specs.List.{list_all, AllByRecursion, concat}
use Rattle.std.proofs.lemmas.Bool.{and_parts}
use Rattle.qc_types.specs.declared.names.TableName.{TableName}
use Rattle.qc_types.specs.declared.names.Why.{Why}
use Rattle.qc_types.specs.declared.sql_error.SqlError.{SqlError}
use Rattle.qc_sql.specs.declared.statements.Select.{Select}
use Rattle.qc_sql.specs.declared.statements.Statement.{Statement}
use Rattle.qc_sql.specs.declared.statements.Statement.TheVariants as statement
use Rattle.qc_sql.specs.Database.{Database, table_of}
use Rattle.qc_sql.specs.Grammar.{meaning, trimmed, ParseFault}
use Rattle.qc_sql.specs.Laws.{SameTables}
use Rattle.qc_sql.specs.Packets.{packets, packet_list}
use Rattle.qc_sql.specs.Rows.{Rows, rows}
use Rattle.qc_sql.specs.Rules.{full_name, select_tables, why_not}
use Rattle.qc_sql.proofs.Depends.{depends_on_tables}
use Rattle.qc_sql.proofs.Sessions.{ignores_session}
use Rattle.qc_model.specs.Journal.{Journal, present}
use Rattle.qc_model.specs.Cache.{Entry, cache}
use Rattle.qc_model.specs.Session.{State, KeyParts, answer_packets, base, flags_of, kept_packets, key_of_text, packets_unless, parts_of, rows_reply, select_reply, snapshot_of}
use Rattle.qc_model.specs.Choice.{is_visible}
use Rattle.qc_model.specs.Licence.{tables_of_key, tables_of_statement}
use Rattle.qc_laws.specs.history.Runs.{IsKept}
use Rattle.qc_laws.specs.history.Seen.{is_current, IsPlace}
use Rattle.qc_laws.specs.history.Answers.{CanBeKeyed, AnswersText, HitsAnswer, StartsAnswer}
use Rattle.qc_laws.proofs.history.Events.{found_all}
use Rattle.qc_laws.proofs.history.Keys.{parts_is, is_key}
use Rattle.qc_laws.proofs.history.Seen.{sees_present}
use Rattle.qc_laws.proofs.history.Stays.{answers_stay, once_all, same_tables}

-- ---- tables that may be seen

seen_all : (state : State) (journal : Journal) (ts : List TableName) → IsPlace journal (snapshot_of state) → list_all (is_current state journal) ts ≡ true
    → AllByRecursion (λ t. table_of t (present journal) ≡ table_of t (base state journal)) ts
seen_all state journal [] place h = tt
seen_all state journal (t ∷ ts) place h =
    let parts = and_parts (is_current state journal t) (list_all (is_current state journal) ts) h in
    (sym (sees_present state journal t place parts.0), seen_all state journal ts place parts.1)

seen_sources : (state : State) (journal : Journal) (s : Select) → IsPlace journal (snapshot_of state) → list_all (is_current state journal) (select_tables state.db s) ≡ true
    → AllByRecursion (λ t. table_of t (present journal) ≡ table_of t (base state journal)) (map (λ source. full_name state.db source.table) s.from)
seen_sources state journal s place h =
    once_all (λ t. table_of t (present journal) ≡ table_of t (base state journal)) [] (map (λ source. full_name state.db source.table) s.from) tt (seen_all state journal (select_tables state.db s) place h)

turned : (d e : Database) (ts : List TableName) → AllByRecursion (λ t. table_of t d ≡ table_of t e) ts → AllByRecursion (λ t. table_of t e ≡ table_of t d) ts
turned d e [] h = tt
turned d e (t ∷ ts) h = (sym h.0, turned d e ts h.1)

-- ---- the statement of a key

kept_of : (state : State) (text : List ℕ) (d : Database) → CanBeKeyed state
    → answer_packets (key_of_text state text) d ≡ kept_packets (record { flags = flags_of state; db = state.db; text = trimmed text }) d (meaning (trimmed text) state.ansi)
unfolding answer_packets
kept_of state text d k =
    let key = key_of_text state text in
    let own : KeyParts = record { flags = flags_of state; db = state.db; text = trimmed text } in
    ap (λ (b : Bool). if b then kept_packets (parts_of key) d (meaning (parts_of key).text (parts_of key).flags.ansi) else None) (is_key state text k)
    ∙ ap (λ (p : KeyParts). kept_packets p d (meaning p.text p.flags.ansi)) (parts_is state text k)

named_by : (state : State) (text : List ℕ) → CanBeKeyed state → tables_of_key (key_of_text state text) ≡ tables_of_statement state.db (meaning (trimmed text) state.ansi)
named_by state text k = ap (λ (p : KeyParts). tables_of_statement p.db (meaning p.text p.flags.ansi)) (parts_is state text k)

-- what is known where there are packets
record HasPackets (parts : KeyParts) (d : Database) (m : Result Statement ParseFault) (bytes : List ℕ) : Type 0 where
  pub select : Select
  pub means : m ≡ Ok (statement.Select select)
  pub kept : why_not parts.db select ≡ None
  pub r : Rows
  pub gives : rows select d parts.db parts.flags 0 ≡ Ok r
  pub bytes_are : bytes ≡ packets (rows_reply parts.flags r)

unless_why : (parts : KeyParts) (d : Database) (s : Select) (w : Option Why) (r : Result Rows SqlError) (bytes : List ℕ) → why_not parts.db s ≡ w → rows s d parts.db parts.flags 0 ≡ r
    → option_map concat (packets_unless parts w r) ≡ Some bytes → HasPackets parts d (Ok (statement.Select s)) bytes
unless_why parts d s None (Ok r) bytes w g h = record { select = s; means = refl; kept = w; r = r; gives = g; bytes_are = cc }
unless_why parts d s None (Err e) bytes w g h = absurd cc
unless_why parts d s (Some y) r bytes w g h = absurd cc

has_packets : (parts : KeyParts) (d : Database) (m : Result Statement ParseFault) (bytes : List ℕ) → option_map concat (kept_packets parts d m) ≡ Some bytes → HasPackets parts d m bytes
has_packets parts d (Ok (statement.Select s)) bytes h = unless_why parts d s (why_not parts.db s) (rows s d parts.db parts.flags 0) bytes refl refl h
has_packets parts d m bytes h = absurd cc

-- ---- hits

visible_tables : (state : State) (journal : Journal) (entry : Entry) (ts : List TableName) → entry.tables ≡ ts → is_visible state journal entry ≡ true → list_all (is_current state journal) ts ≡ true
visible_tables state journal entry ts is h = subst (λ (l : List TableName). list_all (is_current state journal) l ≡ true) is h

hit_answers : (journal : Journal) (state : State) (text : List ℕ) (entry : Entry) → CanBeKeyed state → IsPlace journal (snapshot_of state) → IsKept journal entry
    → entry.key ≡ key_of_text state text → is_visible state journal entry ≡ true → AnswersText state journal text entry
hit_answers journal state text entry can place k is seen =
    let d = present journal in
    let flags = flags_of state in
    let parts : KeyParts = record { flags = flags; db = state.db; text = trimmed text } in
    let m = meaning (trimmed text) state.ansi in
    let there : option_map concat (answer_packets entry.key d) ≡ Some k.bytes = k.now in
    let its : option_map concat (kept_packets parts d m) ≡ Some k.bytes = ap (option_map concat) (sym (kept_of state text d can)) ∙ ap (λ (key : List ℕ). option_map concat (answer_packets key d)) (sym is) ∙ there in
    let has = has_packets parts d m k.bytes its in
    let s = has.select in
    let named : entry.tables ≡ select_tables state.db s = k.tables ∙ ap tables_of_key is ∙ named_by state text can ∙ ap (tables_of_statement state.db) has.means in
    let sources = seen_sources state journal s place (visible_tables state journal entry (select_tables state.db s) named seen) in
    let same : SameTables d (base state journal) state.db s.from = same_tables d (base state journal) state.db s.from sources in
    let gives : rows s (base state journal) state.db flags state.session ≡ Ok has.r = ignores_session s (base state journal) state.db flags state.session 0 has.kept ∙ depends_on_tables s d (base state journal) state.db flags 0 has.r same has.gives in
    record {
      select = s;
      means = has.means;
      kept = has.kept;
      tables = named;
      answers = there ∙ ap (λ (b : List ℕ). Some b) (has.bytes_are ∙ ap (λ (r : Result Rows SqlError). packets (select_reply flags r)) (sym gives));
    }

pub hits_answer : HitsAnswer
hits_answer o journal state text entry test lawful can place found is seen =
    hit_answers journal state text entry can place (found_all (IsKept journal) test (cache journal) entry (answers_stay o journal lawful) found).0 is seen

-- ---- starts

pub starts_answer : StartsAnswer
starts_answer state journal text s r can place means kept seen gives =
    let d = present journal in
    let flags = flags_of state in
    let parts : KeyParts = record { flags = flags; db = state.db; text = trimmed text } in
    let sources = turned d (base state journal) (map (λ source. full_name state.db source.table) s.from) (seen_sources state journal s place seen) in
    let same : SameTables (base state journal) d state.db s.from = same_tables (base state journal) d state.db s.from sources in
    let here : rows s (base state journal) state.db flags 0 ≡ Ok r = ignores_session s (base state journal) state.db flags 0 state.session kept ∙ gives in
    let now : rows s d state.db flags 0 ≡ Ok r = depends_on_tables s (base state journal) d state.db flags 0 r same here in
    let own : kept_packets parts d (Ok (statement.Select s)) ≡ Some (packet_list (rows_reply flags r)) = ap (λ (w : Option Why). packets_unless parts w (rows s d state.db flags 0)) kept ∙ ap (λ (x : Result Rows SqlError). packets_unless parts None x) now in
    record {
      packets = kept_of state text d can ∙ ap (kept_packets parts d) means ∙ own;
      tables = named_by state text can ∙ ap (tables_of_statement state.db) means;
    }
