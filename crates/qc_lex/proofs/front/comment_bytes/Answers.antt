use Rattle.qc_sql.specs.Tokens.{comment_bytes}
use Rattle.qc_lex.proofs.Comments.{no_end}
use Rattle.qc_lex.proofs.front.comment_bytes.Goals as goal

pub returns-clause-meant : goal.returns-clause-meant
returns-clause-meant c = no_end c.loop-rest.bytes c.loop-rest.rest.now (comment_bytes c.args.text.now) c.in_default.len_below c.loop-rest.invariant.so_far
