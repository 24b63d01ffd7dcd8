use Rattle.std.proofs.Common.{sym, ◌∙◌}
use Rattle.qc_core.proofs.Keeping.{leave_one, may_keep, keep_spare, prunes_keeping}
use Rattle.qc_core.proofs.server_state.ServerState.prune_one.Goals as goal

pub drop_entry-requires-clause-may : goal.drop_entry-requires-clause-may
drop_entry-requires-clause-may c = leave_one c.args.need c.args.hand.now c.args.self.now c.requires.may c.in-Some.serial (sym c.oldest_idle.ensures.serial ∙ c.in-Some.is)

pub drop_entry-requires-clause-keeps : goal.drop_entry-requires-clause-keeps
drop_entry-requires-clause-keeps c = may_keep c.args.need c.args.hand.now c.args.self.now c.requires.may c.in-Some.serial

pub push-requires : goal.push-requires
push-requires c = keep_spare c.args.need c.args.hand.now c.args.self.now c.requires.may c.drop_entry.new.self c.drop_entry.new.hand c.in-Some.serial (sym c.oldest_idle.ensures.serial ∙ c.in-Some.is) c.drop_entry.ensures.left

pub returns-clause-pruned : goal.returns-clause-pruned
returns-clause-pruned c = λ _ u.
    prunes_keeping c.args.need c.args.hand.now c.args.self.now u c.requires.small c.drop_entry.new.self c.push.new.self c.drop_entry.new.hand c.in-Some.serial c.largest-largest.result (sym c.oldest_idle.ensures.serial ∙ c.in-Some.is) c.largest-largest.ensures c.drop_entry.ensures.left c.drop_entry.ensures.valid c.push.ensures.pushed
