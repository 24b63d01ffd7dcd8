-- What the key of a select's text stands for, in the state in which the select is validated.
use Rattle.std.specs.Prelude.{◌≡◌, ℕ, ◌<◌, ◌^◌, Bool, true, List, Some, None, Ok, find}
use Rattle.std.specs.List.{list_all}
use Rattle.qc_types.specs.declared.options.Options.{Options}
use Rattle.qc_sql.specs.declared.statements.Select.{Select}
use Rattle.qc_sql.specs.declared.statements.Statement.TheVariants as statement
use Rattle.qc_sql.specs.Grammar.{meaning, trimmed}
use Rattle.qc_sql.specs.Keys.{can_be_keyed}
use Rattle.qc_sql.specs.Packets.{packets, packet_list}
use Rattle.qc_sql.specs.Rows.{Rows, rows}
use Rattle.qc_sql.specs.Rules.{select_tables, why_not}
use Rattle.qc_model.specs.Journal.{Journal, present}
use Rattle.qc_model.specs.Cache.{Entry, cache}
use Rattle.qc_model.specs.Session.{State, answer, answer_packets, base, flags_of, key_of_text, rows_reply, select_reply, snapshot_of}
use Rattle.qc_model.specs.Choice.{is_visible}
use Rattle.qc_model.specs.Licence.{IsLawful, tables_of_key}
use Rattle.qc_laws.specs.history.Seen.{is_current, IsPlace}

-- the values of a session can stand in a key, and its row limit has 64 bits
pub record CanBeKeyed (state : State) : Type 0 where
  pub values : can_be_keyed (flags_of state) state.db ≡ true
  pub limit : state.row_limit < 2 ^ 64

-- the packets of a select
abbrev pub packets_of : State → Journal → Select → List ℕ
packets_of state journal s = packets (select_reply (flags_of state) (rows s (base state journal) state.db (flags_of state) state.session))

-- a text means a select that the cache may keep, whose packets an entry holds
pub record AnswersText (state : State) (journal : Journal) (text : List ℕ) (entry : Entry) : Type 0 where
  pub select : Select
  pub means : meaning (trimmed text) state.ansi ≡ Ok (statement.Select select)
  pub kept : why_not state.db select ≡ None
  pub tables : entry.tables ≡ select_tables state.db select
  pub answers : answer entry.key (present journal) ≡ Some (packets_of state journal select)

-- an entry of a text's key that a session may see holds what the text's select gives there
abbrev pub HitsAnswer : Type 0
HitsAnswer = (options : Options) (journal : Journal) (state : State) (text : List ℕ) (entry : Entry) (test : Entry → Bool)
    → IsLawful options journal → CanBeKeyed state → IsPlace journal (snapshot_of state) → find test (cache journal) ≡ Some entry
    → entry.key ≡ key_of_text state text → is_visible state journal entry ≡ true → AnswersText state journal text entry

-- the key of a select's text has the rows that the select gives where it may be kept and its tables may be seen
pub record IsKeyOfRows (state : State) (journal : Journal) (text : List ℕ) (select : Select) (r : Rows) : Type 0 where
  pub packets : answer_packets (key_of_text state text) (present journal) ≡ Some (packet_list (rows_reply (flags_of state) r))
  pub tables : tables_of_key (key_of_text state text) ≡ select_tables state.db select

abbrev pub StartsAnswer : Type 0
StartsAnswer = (state : State) (journal : Journal) (text : List ℕ) (select : Select) (r : Rows)
    → CanBeKeyed state → IsPlace journal (snapshot_of state) → meaning (trimmed text) state.ansi ≡ Ok (statement.Select select) → why_not state.db select ≡ None
    → list_all (is_current state journal) (select_tables state.db select) ≡ true → rows select (base state journal) state.db (flags_of state) state.session ≡ Ok r
    → IsKeyOfRows state journal text select r
