use Rattle.qc_sql.specs.declared.statements.Statement.TheVariants as statement
use Rattle.qc_sql.specs.Grammar as grammar
use Rattle.qc_laws.proofs.sizes.Parsed.{parsed_names_are_short}
use Rattle.qc_serve.proofs.session.Session.answer_parsed.Goals as goal

pub answer_select-replied-requires-clause-short : goal.answer_select-replied-requires-clause-short
answer_select-replied-requires-clause-short g c =
    rw c.select.ensures (parsed_names_are_short (grammar.trimmed c.args.text.now) c.args.self.now.state.state.ansi (statement.Select c.args.select) c.requires.means)
