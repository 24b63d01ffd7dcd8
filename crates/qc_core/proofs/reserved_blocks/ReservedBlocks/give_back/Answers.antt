use Rattle.std.proofs.Common.{sym, ap, subst, ◌∙◌}
use Rattle.qc_chain.specs.Chains.{AreHandedOut, after_release}
use Rattle.qc_core.specs.EntryRemoval.{blocks_in}
use Rattle.qc_core.proofs.Leaving.{places_blocks}
use Rattle.qc_core.proofs.reserved_blocks.ReservedBlocks.give_back.Goals as goal

pub give_back_tables-requires-clause-out : goal.give_back_tables-requires-clause-out
give_back_tables-requires-clause-out c = subst (AreHandedOut c.args.tiles.now) (sym (ap blocks_in c.items.ensures ∙ places_blocks c.args.self.now.fresh)) c.requires.out

pub returns : goal.returns
returns c = c.give_back_tables.ensures.tiles ∙ ap (λ l. after_release l c.args.tiles.now) (ap blocks_in c.items.ensures ∙ places_blocks c.args.self.now.fresh)
