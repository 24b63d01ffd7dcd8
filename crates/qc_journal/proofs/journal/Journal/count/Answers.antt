use Rattle.std.proofs.Common.{◌≡◌, ◌<◌, arith, ◌∙◌, length}
use Rattle.std.proofs.lemmas.List.{get_or_read}
use Rattle.std.proofs.lemmas.List.Sums.{count_by-le-length}
use Rattle.qc_model.specs.Journal.{event_count, is_by}
use Rattle.qc_journal.proofs.journal.Journal.count.Goals as goal

pub returns-clause-within : goal.returns-clause-within
returns-clause-within c = omega (arith, c.self.invariant.by_session.each c.args.session (omega arith), count_by-le-length (is_by c.args.session) c.self.inside.events.items)
