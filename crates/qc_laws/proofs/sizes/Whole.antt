-- From a text to the payloads of its answer.
use Rattle.std.proofs.Common.{ℕ, ◌≤◌, length, map, Result, Ok, Err}
use Rattle.std.specs.Prelude.{MatchResult}
use Rattle.std.specs.List.{AllByRecursion}
use Rattle.qc_types.specs.declared.sql_error.SqlError.{SqlError}
use Rattle.qc_sql.specs.declared.replies.Reply.TheVariants as reply
use Rattle.qc_sql.specs.declared.session.Flags.{Flags}
use Rattle.qc_sql.specs.declared.statements.Statement.TheVariants as statement
use Rattle.qc_sql.specs.Rows.{Rows, rows, text_of}
use Rattle.qc_sql.specs.Packets.{most_payload, payloads}
use Rattle.qc_laws.specs.sizes.Replies.{FitsRows}
use Rattle.qc_laws.specs.sizes.Laws.{SelectTextsFit}
use Rattle.qc_laws.proofs.sizes.Answered.{Answers}
use Rattle.qc_laws.proofs.sizes.Parsed.{parsed_names_are_short}
use Rattle.qc_laws.proofs.sizes.Payloads.{error_payloads_fit, reply_payloads_fit}
use Rattle.qc_laws.proofs.sizes.Selects.{rows_answer}

answer_fits : (flags : Flags) (status : ℕ) (x : Result Rows SqlError) → Answers (FitsRows flags) x
    → MatchResult x (λ r. AllByRecursion (λ payload. length payload ≤ most_payload) (payloads (reply.Rows r.columns (map (map text_of) r.rows) status)))
    (λ e. AllByRecursion (λ payload. length payload ≤ most_payload) (payloads (reply.Err e)))
answer_fits flags status (Ok r) h = reply_payloads_fit flags r status h
answer_fits flags status (Err e) h = (error_payloads_fit e h, tt)

pub select_texts_fit : SelectTextsFit
select_texts_fit text ansi s d db flags session status e h g =
    answer_fits flags status (rows s d db flags session) (rows_answer s d db flags session (parsed_names_are_short text ansi (statement.Select s) e) h g).is
