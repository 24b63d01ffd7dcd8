-- The first run's session, command by command, is one that the definitions allow.
use Rattle.std.proofs.Common.{◌≡◌, List, [], ◌∷◌, refl, true, false, inl, arith, ap, sym, subst}
use Rattle.std.specs.Prelude.{codes, Some, None, pos}
use Rattle.std.specs.List.{flat_map}
use Rattle.std.specs.Fmt.{digits}
use Rattle.qc_types.specs.declared.options.Options.{Options}
use Rattle.qc_sql.specs.declared.commands.Command.{Command}
use Rattle.qc_sql.specs.declared.commands.Command.TheVariants as command
use Rattle.qc_types.specs.declared.names.Value.TheVariants as value
use Rattle.qc_sql.specs.declared.replies.Reply.{Reply}
use Rattle.qc_sql.specs.declared.replies.Reply.TheVariants as reply
use Rattle.qc_model.specs.declared.reports.Word.TheVariants as word
use Rattle.qc_model.specs.declared.reports.Ending.{Ending}
use Rattle.qc_model.specs.declared.reports.Ending.TheVariants as ending
use Rattle.qc_model.specs.declared.reports.Script.{Script}
use Rattle.qc_model.specs.declared.reports.Report.{Report}
use Rattle.qc_model.specs.declared.events.Event.TheVariants as event
use Rattle.qc_model.specs.declared.events.How.TheVariants as how
use Rattle.qc_sql.specs.declared.tables.RowOp.TheVariants as op
use Rattle.qc_sql.specs.Packets.{packet, encoded_integer, encoded_string}
use Rattle.qc_sql.specs.Commands.{command_payload}
use Rattle.qc_model.specs.Journal.{before}
use Rattle.qc_model.specs.Session.{State, starting, answer_packets}
use Rattle.qc_model.specs.Machine.{Executes}
use Rattle.qc_model.specs.Agrees.{commands_of, AreLines, line, numbered_events, IsSessionOf, Agrees, whole_machine}
use Rattle.qc_model.specs.Cache.{counters}
use Rattle.qc_model.specs.Licence.{IsLawful}
use Rattle.qc_sql.specs.Tokens.{lexed, trimmed}
use Rattle.qc_sql.specs.Reading.{is_reserved, opened}
use Rattle.qc_sql.specs.Grammar.{meaning, head_of, alias, any_statement, any_text, at_end, cache_word, call_word, column, condition, create, create_table, dotted, ends_value, from, from_part, insert, item, items, joined, key_part, limit_part, literal, lock_part, look, member_at, names_part, no_option, null_part, one_too_many, order_part, part, part_kind, primary_key, select, signed, source, table, tuple, where_part, whole, call_at, bare_literal, column_part, key_of_table, other_statement, one_word, is_unsupported, is_aggregate_word, is_plain_call, is_uncached_call}
use Rattle.qc_sql.specs.Rows.{rows, rows_over}
use Rattle.qc_sql.specs.Effects.{effect}
use Rattle.qc_model.proofs.FirstRun.{t, id, who, key, journal, id_def}

commands : List Command
commands = command.Query (codes "CREATE DATABASE d") ∷ command.InitDb (codes "d") ∷ command.Query (codes "CREATE TABLE t (id BIGINT PRIMARY KEY)")
    ∷ command.Query (codes "INSERT INTO t VALUES (7)") ∷ command.Query (codes "SELECT id FROM t") ∷ []

-- the commands of a stream of their packets
cut : commands_of (flat_map (λ c. packet 0 (command_payload c)) commands) ≡ (commands, ending.Input)
unfolding commands packet
cut = refl

options : Options
options = record { size = 1048576; limit = 1048576; unit = 4096; kind = 1 }

in_d : State
in_d = record { session = 1; db = codes "d"; autocommit = true; charset = 33; ansi = false; row_limit = 18446744073709551615; kind = 1; transaction = None }

first : Executes options (who 1) (starting 1 1) (command.Query (codes "CREATE DATABASE d")) (before 1 journal) (event.Commit (who 1) (op.CreateDb (codes "d") ∷ [])) (reply.Ok 1 2) (starting 1 1)
unfolding options who journal meaning lexed any_text whole any_statement other_statement one_word is_unsupported create at_end look trimmed effect is_reserved opened
first = (refl, refl, refl)

second : Executes options (who 2) (starting 1 1) (command.InitDb (codes "d")) (before 2 journal) (event.Run (who 2) how.Other) (reply.Ok 0 2) in_d
unfolding options who journal in_d
second = (refl, refl, refl)

fifth : Executes options (who 5) in_d (command.Query (codes "SELECT id FROM t")) (before 5 journal) (event.Run (who 5) (how.Start 1 key (t ∷ []))) (reply.Rows (id_def ∷ []) ((Some (codes "7") ∷ []) ∷ []) 2) in_d
unfolding options who journal in_d t id id_def key meaning lexed any_text whole any_statement other_statement one_word is_unsupported select cache_word items item call_at call_word is_aggregate_word is_plain_call is_uncached_call column dotted ends_value alias from_part from source table joined where_part condition member_at order_part limit_part lock_part at_end look literal bare_literal signed one_too_many trimmed head_of rows rows_over digits is_reserved opened
fifth = record { chosen = (how.Start 1 key (t ∷ []), refl, inl refl); answered = refl; same = refl }

third : Executes options (who 3) in_d (command.Query (codes "CREATE TABLE t (id BIGINT PRIMARY KEY)")) (before 3 journal) (event.Commit (who 3) (op.CreateTable t (id ∷ []) ∷ [])) (reply.Ok 0 2) in_d
unfolding options who journal in_d t id meaning lexed any_text whole any_statement other_statement one_word is_unsupported create create_table table dotted part part_kind column_part key_of_table null_part key_part primary_key no_option at_end look trimmed effect is_reserved opened
third = (refl, refl, refl)

fourth : Executes options (who 4) in_d (command.Query (codes "INSERT INTO t VALUES (7)")) (before 4 journal) (event.Commit (who 4) (op.Put t (value.Int (pos 7) ∷ []) ∷ [])) (reply.Ok 1 2) in_d
unfolding options who journal in_d t id meaning lexed any_text whole any_statement other_statement one_word is_unsupported insert table dotted names_part tuple literal bare_literal signed ends_value at_end look trimmed effect is_reserved opened
fourth = (refl, refl, refl)

-- ---- the lines, from the last one

rows_reply : Reply
rows_reply = reply.Rows (id_def ∷ []) ((Some (codes "7") ∷ []) ∷ []) 2

last_lines : AreLines whole_machine options journal (command.Query (codes "SELECT id FROM t") ∷ []) (line 5 word.Start rows_reply ∷ []) in_d 4 4 ((5, event.Run (who 5) (how.Start 1 key (t ∷ []))) ∷ [])
unfolding who meaning lexed any_text whole any_statement other_statement one_word is_unsupported select cache_word items item call_at call_word is_aggregate_word is_plain_call is_uncached_call column dotted ends_value alias from_part from source table joined where_part condition member_at order_part limit_part lock_part at_end look literal bare_literal signed one_too_many trimmed rows_reply in_d is_reserved opened
last_lines = (rows_reply, in_d, fifth, refl, tt, refl)

fourth_lines : AreLines whole_machine options journal (command.Query (codes "INSERT INTO t VALUES (7)") ∷ command.Query (codes "SELECT id FROM t") ∷ []) (line 4 word.Other (reply.Ok 1 2) ∷ line 5 word.Start rows_reply ∷ []) in_d 3 3
    ((4, event.Commit (who 4) (op.Put t (value.Int (pos 7) ∷ []) ∷ [])) ∷ (5, event.Run (who 5) (how.Start 1 key (t ∷ []))) ∷ [])
unfolding who meaning lexed any_text whole any_statement other_statement one_word is_unsupported insert table dotted names_part tuple literal bare_literal signed ends_value at_end look trimmed in_d is_reserved opened
fourth_lines = (reply.Ok 1 2, in_d, fourth, refl, tt, last_lines)

third_lines : AreLines whole_machine options journal (command.Query (codes "CREATE TABLE t (id BIGINT PRIMARY KEY)") ∷ command.Query (codes "INSERT INTO t VALUES (7)") ∷ command.Query (codes "SELECT id FROM t") ∷ [])
    (line 3 word.Other (reply.Ok 0 2) ∷ line 4 word.Other (reply.Ok 1 2) ∷ line 5 word.Start rows_reply ∷ []) in_d 2 2
    ((3, event.Commit (who 3) (op.CreateTable t (id ∷ []) ∷ [])) ∷ (4, event.Commit (who 4) (op.Put t (value.Int (pos 7) ∷ []) ∷ [])) ∷ (5, event.Run (who 5) (how.Start 1 key (t ∷ []))) ∷ [])
unfolding who meaning lexed any_text whole any_statement other_statement one_word is_unsupported create create_table table dotted part part_kind column_part key_of_table null_part key_part primary_key no_option at_end look trimmed in_d is_reserved opened
third_lines = (reply.Ok 0 2, in_d, third, refl, tt, fourth_lines)

all_lines : AreLines whole_machine options journal commands
    (line 1 word.Other (reply.Ok 1 2) ∷ line 2 word.Other (reply.Ok 0 2) ∷ line 3 word.Other (reply.Ok 0 2) ∷ line 4 word.Other (reply.Ok 1 2) ∷ line 5 word.Start rows_reply ∷ [])
    (starting 1 1) 0 0 (numbered_events 1 1 journal)
unfolding who meaning lexed any_text whole any_statement other_statement one_word is_unsupported create at_end look trimmed commands journal is_reserved opened
all_lines = (reply.Ok 1 2, starting 1 1, first, refl, tt, (reply.Ok 0 2, in_d, second, refl, tt, third_lines))

-- ---- the journal

lawful : IsLawful options journal
unfolding options journal who t id key meaning lexed any_text whole any_statement other_statement one_word is_unsupported select cache_word items item call_at call_word is_aggregate_word is_plain_call is_uncached_call column dotted ends_value alias from_part from source table joined where_part condition member_at order_part limit_part lock_part at_end look literal bare_literal signed one_too_many head_of trimmed rows rows_over answer_packets packet encoded_integer encoded_string digits is_reserved opened
lawful = ((record { next = refl; not_filling = refl }, record { some = omega arith; fit = refl; not_full = refl }, refl), ((record { next = refl; not_filling = refl }, tt), ((record { next = refl; not_filling = refl }, record { some = omega arith; fit = refl; not_full = refl }, refl), ((record { next = refl; not_filling = refl }, record { some = omega arith; fit = refl; not_full = refl }, refl), ((record { next = refl; not_filling = refl }, record { next = refl; has_answer = refl; of_select = refl; no_other = refl; has_region = omega arith }), ((refl, omega arith), tt))))))

-- ---- the whole: the report of the first run agrees with its script

script : Script
script = record { setup = None; sessions = flat_map (λ c. packet 0 (command_payload c)) commands ∷ [] }

agreed_report : Report
agreed_report = record {
  options = options;
  sessions = record { session = 1; lines = line 1 word.Other (reply.Ok 1 2) ∷ line 2 word.Other (reply.Ok 0 2) ∷ line 3 word.Other (reply.Ok 0 2) ∷ line 4 word.Other (reply.Ok 1 2) ∷ line 5 word.Start rows_reply ∷ []; ending = ending.Input } ∷ [];
  journal = journal;
  counters = counters journal;
}

session_agrees : IsSessionOf whole_machine options journal (flat_map (λ c. packet 0 (command_payload c)) commands)
    (record { session = 1; lines = line 1 word.Other (reply.Ok 1 2) ∷ line 2 word.Other (reply.Ok 0 2) ∷ line 3 word.Other (reply.Ok 0 2) ∷ line 4 word.Other (reply.Ok 1 2) ∷ line 5 word.Start rows_reply ∷ []; ending = ending.Input })
unfolding options
session_agrees = record {
  lines = subst (λ (cs : List Command × Ending). AreLines whole_machine options journal cs.0 (line 1 word.Other (reply.Ok 1 2) ∷ line 2 word.Other (reply.Ok 0 2) ∷ line 3 word.Other (reply.Ok 0 2) ∷ line 4 word.Other (reply.Ok 1 2) ∷ line 5 word.Start rows_reply ∷ []) (starting 1 1) 0 0 (numbered_events 1 1 journal)) (sym cut) all_lines;
  ending = sym (ap (λ (cs : List Command × Ending). cs.1) cut);
}

agrees : Agrees whole_machine script options agreed_report
unfolding script agreed_report journal who t id key
agrees = record {
  same_options = refl;
  sessions = (refl, session_agrees, tt);
  lawful = lawful;
  no_other = refl;
  setup_before = refl;
  same_counters = refl;
  fills_end = refl;
  needs = tt;
}
