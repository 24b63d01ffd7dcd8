-- What statements on the cache itself give, what has no event, and how a transaction is left.
use Rattle.std.proofs.Common.{◌≡◌, ℕ, List, [], ◌∷◌, refl, true, false, Ok, Err}
use Rattle.std.specs.Prelude.{codes, Some, None, Option, pos}
use Rattle.std.specs.Fmt.{digits}
use Rattle.qc_types.specs.declared.names.TableName.{TableName}
use Rattle.qc_types.specs.declared.options.Options.{Options}
use Rattle.qc_types.specs.declared.totals.Totals.{Totals}
use Rattle.qc_sql.specs.declared.commands.Command.TheVariants as command
use Rattle.qc_sql.specs.declared.replies.ColumnDef.{ColumnDef}
use Rattle.qc_sql.specs.declared.replies.Reply.{Reply}
use Rattle.qc_sql.specs.declared.replies.Reply.TheVariants as reply
use Rattle.qc_sql.specs.declared.tables.RowOp.TheVariants as op
use Rattle.qc_sql.specs.declared.statements.Statement.TheVariants as statement
use Rattle.qc_sql.specs.declared.statements.Setting.TheVariants as setting
use Rattle.qc_sql.specs.declared.statements.SetValue.TheVariants as set
use Rattle.qc_sql.specs.Reading.{Syntax, Unsupported, TooManyTables}
use Rattle.qc_sql.specs.Errors.{error_of, unknown_command, unknown_variable}
use Rattle.qc_model.specs.declared.events.Who.{Who}
use Rattle.qc_model.specs.declared.events.Event.TheVariants as event
use Rattle.qc_model.specs.declared.events.How.TheVariants as how
use Rattle.qc_model.specs.Session.{State, Transaction}
use Rattle.qc_model.specs.Machine.{ExecutesStatement, status_row, fault_error, local_text, local}

abbrev options : Options
options = record { size = 0; limit = 0; unit = 512; kind = 1 }

abbrev who : ℕ → Who
who n = record { session = 3; number = n }

abbrev state_with : ℕ → Option Transaction → State
state_with limit t = record { session = 3; db = codes "d"; autocommit = true; charset = 45; ansi = false; row_limit = limit; kind = 1; transaction = t }

abbrev table : TableName
table = record { db = codes "d"; name = codes "t" }

abbrev dirty : Option Transaction
dirty = Some (record { snapshot = Some 1; operations = op.Del table (pos 4) ∷ [] })

-- ---- SHOW STATUS

abbrev totals : Totals
totals = record { blocks = 12; free_blocks = 3; free_words = 640 }

free_row : status_row (codes "Qcache_free_memory") 5120 ≡ Some (codes "Qcache_free_memory") ∷ Some (codes "5120") ∷ []
unfolding digits
free_row = refl

abbrev column : List ℕ → ℕ → ColumnDef
column name length = record { schema = []; table = []; org_table = []; name = name; org_name = []; charset = 45; length = length; kind = 253; flags = 0; decimals = 0 }

-- 640 words are 5120 bytes; the status tells the open transaction
abbrev shown : Reply
shown = reply.Rows (column (codes "Variable_name") 64 ∷ column (codes "Value") 20 ∷ [])
    ((Some (codes "Qcache_free_blocks") ∷ Some (codes "3") ∷ [])
    ∷ (Some (codes "Qcache_free_memory") ∷ Some (codes "5120") ∷ [])
    ∷ (Some (codes "Qcache_hits") ∷ Some (codes "0") ∷ [])
    ∷ (Some (codes "Qcache_inserts") ∷ Some (codes "1") ∷ [])
    ∷ (Some (codes "Qcache_lowmem_prunes") ∷ Some (codes "0") ∷ [])
    ∷ (Some (codes "Qcache_not_cached") ∷ Some (codes "0") ∷ [])
    ∷ (Some (codes "Qcache_queries_in_cache") ∷ Some (codes "1") ∷ [])
    ∷ (Some (codes "Qcache_total_blocks") ∷ Some (codes "12") ∷ []) ∷ []) 3

-- after a start of session 1, whose entry is still being filled
show_is : ExecutesStatement options (who 1) (state_with 9 dirty) [] (event.Run (record { session = 1; number = 1 }) (how.Start 1 [] (table ∷ [])) ∷ []) statement.ShowStatus (event.Run (who 1) (how.Status totals)) shown (state_with 9 dirty)
unfolding digits
show_is = (totals, refl, refl, refl)

-- SHOW STATUS is no plain command
no_other : ExecutesStatement options (who 1) (state_with 9 None) [] [] statement.ShowStatus (event.Run (who 1) how.Other) shown (state_with 9 None) → ⊥
no_other h = absurd (cc h.1)

-- ---- the cache is flushed and reset

-- an open transaction stays open, as the status 3 tells
flush_is : ExecutesStatement options (who 1) (state_with 9 dirty) [] [] statement.FlushCache (event.Flush (who 1)) (reply.Ok 0 3) (state_with 9 dirty)
flush_is = (refl, refl, refl)

reset_is : ExecutesStatement options (who 1) (state_with 9 None) [] [] statement.ResetCache (event.Reset (who 1)) (reply.Ok 0 2) (state_with 9 None)
reset_is = (refl, refl, refl)

-- FLUSH TABLES resets the cache, and doesn't flush it
flush_tables_is : ExecutesStatement options (who 1) (state_with 9 None) [] [] statement.FlushTables (event.Reset (who 1)) (reply.Ok 0 2) (state_with 9 None)
flush_tables_is = (refl, refl, refl)

flush_tables_is_no_flush : ExecutesStatement options (who 1) (state_with 9 None) [] [] statement.FlushTables (event.Flush (who 1)) (reply.Ok 0 2) (state_with 9 None) → ⊥
flush_tables_is_no_flush h = absurd (cc h.0)

-- ---- ROLLBACK

-- nothing is committed, and the transaction is gone
rolled_back : ExecutesStatement options (who 1) (state_with 9 dirty) [] [] statement.Rollback (event.Run (who 1) how.Other) (reply.Ok 0 2) (state_with 9 None)
rolled_back = (refl, refl, refl)

not_committed : ExecutesStatement options (who 1) (state_with 9 dirty) [] [] statement.Rollback (event.Commit (who 1) (op.Del table (pos 4) ∷ [])) (reply.Ok 0 2) (state_with 9 None) → ⊥
not_committed h = absurd (cc h.0)

-- ---- what has no event

syntax : fault_error (Syntax 15) ≡ error_of 1064 (codes "42000") (codes "Syntax error at byte 15")
unfolding digits
syntax = refl

unsupported : fault_error (Unsupported (codes "UNION")) ≡ error_of 1235 (codes "42000") (codes "Not supported: UNION")
unsupported = refl

many_tables : fault_error TooManyTables ≡ error_of 1116 (codes "HY000") (codes "Too many tables")
many_tables = refl

-- the state stays, also an open transaction
refused_text : local_text (state_with 9 dirty) (Err TooManyTables) ≡ Some (reply.Err (error_of 1116 (codes "HY000") (codes "Too many tables")), state_with 9 dirty)
refused_text = refl

limit_is_set : local_text (state_with 9 None) (Ok (statement.Set (setting.Variable (codes "SQL_SELECT_LIMIT") (set.Number 5)))) ≡ Some (reply.Ok 0 2, state_with 5 None)
limit_is_set = refl

no_variable : local_text (state_with 9 None) (Ok (statement.Set (setting.Variable (codes "Limit") (set.Number 5)))) ≡ Some (reply.Err (unknown_variable (codes "Limit")), state_with 9 None)
no_variable = refl

-- SET of autocommit has an event, and so have all other statements
autocommit_has_one : local_text (state_with 9 None) (Ok (statement.Set (setting.Variable (codes "AutoCommit") (set.Number 7)))) ≡ None
autocommit_has_one = refl

commit_has_one : local_text (state_with 9 None) (Ok statement.Commit) ≡ None
commit_has_one = refl

empty_is_unknown : local (state_with 9 None) command.Empty ≡ Some (reply.Err unknown_command, state_with 9 None)
empty_is_unknown = refl

init_has_one : local (state_with 9 None) (command.InitDb (codes "d")) ≡ None
init_has_one = refl
