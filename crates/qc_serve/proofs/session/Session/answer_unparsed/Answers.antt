use Rattle.std.proofs.Common.{arith, refl}
use Rattle.qc_sql.specs.declared.commands.Command.TheVariants as sent
use Rattle.qc_laws.proofs.sizes.Parsed.{parsed_names_are_short}
use Rattle.qc_parse.specs.Refusals.{as_meant}
use Rattle.qc_statements.proofs.Told.{is_told}
use Rattle.qc_serve.proofs.Parsing.{ends_same, trimmed_below}
use Rattle.qc_serve.proofs.session.Session.answer_unparsed.Goals as goal

pub parse-requires : goal.parse-requires
parse-requires g c = rw c.trimmed.ensures (omega (arith, trimmed_below c.args.text.now, c.requires.within))

pub answer_statement-requires-clause-short : goal.answer_statement-requires-clause-short
answer_statement-requires-clause-short g c = parsed_names_are_short c.trimmed.result.now c.flags.result.ansi c.in-Ok.statement c.in-Ok.ensures

pub answer_fault-requires-clause-told : goal.answer_fault-requires-clause-told
answer_fault-requires-clause-told g c = is_told c.trimmed.result.now c.flags.result.ansi (as_meant c.in-Err-Other.refusal) (rw c.in-Err-Other.field-0-is at c.in-Err-Other.ensures)

pub returns-in-Err-Memory-clause-ends : goal.returns-in-Err-Memory-clause-ends
returns-in-Err-Memory-clause-ends g c = ends_same c.args.turn.now (sent.Query c.args.text.now) c.args.self.now c.args.self.now (g.K.ReplySink.held c.args.sink.now) c.requires.rest.rest refl
