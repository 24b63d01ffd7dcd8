-- Ends don't fall.
use Rattle.std.proofs.Common.{◌≡◌, ◌∙◌, get_or, length}
use Rattle.std.proofs.lemmas.List.{get_or_default}
use Rattle.qc_table.proofs.TextSteps.{climbs_at}
use Rattle.qc_table.proofs.texts.Texts.span.Goals as goal

pub returns-clause-order : goal.returns-clause-order
returns-clause-order c =
    let at = climbs_at 0 c.args.row c.args.self.now.ends.items (length c.args.self.now.bytes.items) c.requires.ready.climbs c.requires.row in
    let end : c.index.result.now ≡ get_or c.args.self.now.ends.items c.args.row 0 = c.index.ensures ∙ get_or_default c.args.self.now.ends.items c.args.row c.index.result.now 0 c.requires.row in
    rw (c.start.ensures, end) at.0

pub returns-clause-within : goal.returns-clause-within
returns-clause-within c =
    let at = climbs_at 0 c.args.row c.args.self.now.ends.items (length c.args.self.now.bytes.items) c.requires.ready.climbs c.requires.row in
    let end : c.index.result.now ≡ get_or c.args.self.now.ends.items c.args.row 0 = c.index.ensures ∙ get_or_default c.args.self.now.ends.items c.args.row c.index.result.now 0 c.requires.row in
    rw end at.1
