-- Laws on sizes, which functions of this crate promise.
use Rattle.std.specs.Prelude.{◌≡◌, ℕ, ◌≤◌, Bool, true, List, length, map, Ok, Err, MatchResult}
use Rattle.std.specs.List.{list_all, AllByRecursion}
use Rattle.qc_types.specs.declared.sql_error.SqlError.{SqlError}
use Rattle.qc_sql.specs.declared.replies.Reply.TheVariants as reply
use Rattle.qc_sql.specs.declared.session.Flags.{Flags}
use Rattle.qc_sql.specs.declared.tables.RowOp.{RowOp}
use Rattle.qc_sql.specs.declared.statements.Select.{Select}
use Rattle.qc_sql.specs.declared.statements.Statement.{Statement}
use Rattle.qc_sql.specs.declared.statements.Statement.TheVariants as statement
use Rattle.qc_sql.specs.Database.{Name, Database, apply}
use Rattle.qc_sql.specs.Effects.{Effect, effect}
use Rattle.qc_sql.specs.Tokens.{lexed}
use Rattle.qc_sql.specs.Grammar.{meaning}
use Rattle.qc_sql.specs.Rows.{Rows, rows, text_of}
use Rattle.qc_sql.specs.Packets.{most_payload, payloads, column_payload, row_payload, err_payload}
use Rattle.qc_laws.specs.sizes.Names.{is_short, are_short_tokens, is_short_select, is_short_statement}
use Rattle.qc_laws.specs.sizes.Replies.{is_bounded_database, is_bounded_operation, FitsError, FitsRows}

abbrev pub TokensAreShort : Type 0
TokensAreShort = (text : List ℕ) (ansi : Bool) → are_short_tokens (lexed text ansi).0 ≡ true

abbrev pub ParsedNamesAreShort : Type 0
ParsedNamesAreShort = (text : List ℕ) (ansi : Bool) (s : Statement) → meaning text ansi ≡ Ok s → is_short_statement s ≡ true

-- ---- what a select gives, where its names, the database and the name of the current one are short

abbrev pub SelectErrorsFit : Type 0
SelectErrorsFit = (s : Select) (d : Database) (db : Name) (flags : Flags) (session : ℕ) (e : SqlError)
    → is_short_select s ≡ true → is_bounded_database d ≡ true → is_short db ≡ true → rows s d db flags session ≡ Err e → FitsError e

abbrev pub SelectRowsFit : Type 0
SelectRowsFit = (s : Select) (d : Database) (db : Name) (flags : Flags) (session : ℕ) (r : Rows)
    → is_short_select s ≡ true → is_bounded_database d ≡ true → is_short db ≡ true → rows s d db flags session ≡ Ok r → FitsRows flags r

-- ---- the database stays bounded

-- what a statement of short names stores in a bounded database is bounded
abbrev pub ChangesAreBounded : Type 0
ChangesAreBounded = (s : Statement) (d : Database) (db : Name) (session : ℕ) (x : Effect)
    → is_short_statement s ≡ true → is_bounded_database d ≡ true → is_short db ≡ true → effect s d db session ≡ Ok x → list_all is_bounded_operation x.operations ≡ true

abbrev pub ChangeErrorsFit : Type 0
ChangeErrorsFit = (s : Statement) (d : Database) (db : Name) (session : ℕ) (e : SqlError)
    → is_short_statement s ≡ true → is_bounded_database d ≡ true → is_short db ≡ true → effect s d db session ≡ Err e → FitsError e

abbrev pub DatabasesStayBounded : Type 0
DatabasesStayBounded = (ops : List RowOp) (d : Database) → list_all is_bounded_operation ops ≡ true → is_bounded_database d ≡ true → is_bounded_database (apply ops d) ≡ true

-- ---- payloads

abbrev pub ErrorPayloadsFit : Type 0
ErrorPayloadsFit = (e : SqlError) → FitsError e → length (err_payload e) ≤ most_payload

abbrev pub RowPayloadsFit : Type 0
RowPayloadsFit = (flags : Flags) (r : Rows) → FitsRows flags r
    → AllByRecursion (λ c. length (column_payload c) ≤ most_payload) r.columns × AllByRecursion (λ row. length (row_payload (map text_of row)) ≤ most_payload) r.rows

-- the whole reply: the column count, the columns and the rows, with what stands between them
abbrev pub ReplyPayloadsFit : Type 0
ReplyPayloadsFit = (flags : Flags) (r : Rows) (status : ℕ) → FitsRows flags r
    → AllByRecursion (λ payload. length payload ≤ most_payload) (payloads (reply.Rows r.columns (map (map text_of) r.rows) status))

-- ---- from a text to its answer

-- each payload of what a text of a select gives fits, of the rows or of the error
abbrev pub SelectTextsFit : Type 0
SelectTextsFit = (text : List ℕ) (ansi : Bool) (s : Select) (d : Database) (db : Name) (flags : Flags) (session status : ℕ)
    → meaning text ansi ≡ Ok (statement.Select s) → is_bounded_database d ≡ true → is_short db ≡ true
    → MatchResult (rows s d db flags session) (λ r. AllByRecursion (λ payload. length payload ≤ most_payload) (payloads (reply.Rows r.columns (map (map text_of) r.rows) status)))
    (λ e. AllByRecursion (λ payload. length payload ≤ most_payload) (payloads (reply.Err e)))
