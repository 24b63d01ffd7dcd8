use Rattle.std.proofs.Common.{ap, subst, ◌∙◌, arith}
use Rattle.qc_types.specs.Answers.{Gives}
use Rattle.qc_wire.specs.Replies.{reply_of}
use Rattle.qc_wire.proofs.ReplyLaws.{found, text_is_reread}
use Rattle.qc_wire.proofs.reading.reply.read_reply.Goals as goal

pub returns-clause-found : goal.returns-clause-found
returns-clause-found c = found c.args.bytes.now c.reply_of.result (λ i. omega (arith, c.type_inv.bytes i)) c.reply_of.ensures

pub returns-clause-only : goal.returns-clause-only
returns-clause-only c = λ r fits e. subst (λ meant. Gives (λ x. x) (λ x. x) c.reply_of.result meant) (ap reply_of e ∙ text_is_reread r fits) c.reply_of.ensures
