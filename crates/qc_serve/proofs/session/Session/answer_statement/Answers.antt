use Rattle.qc_serve.proofs.Parsing.{not_select}
use Rattle.qc_serve.proofs.session.Session.answer_statement.Goals as goal

pub execute_and_reply-requires-clause-other : goal.execute_and_reply-requires-clause-other
execute_and_reply-requires-clause-other g c = not_select c.args.statement c.in_default.not-Select

pub returns-in_default-clause-hits_read_no_row : goal.returns-in_default-clause-hits_read_no_row
returns-in_default-clause-hits_read_no_row g c = λ l lines how_is. absurd (c.execute_and_reply.ensures.no_hit c.args.text.now l c.requires.means lines how_is)
