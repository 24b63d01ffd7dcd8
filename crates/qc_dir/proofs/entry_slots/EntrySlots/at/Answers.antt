use Rattle.std.proofs.Common.{◌∙◌, ap, length, None, arith}
use Rattle.std.proofs.lemmas.List.{get_or_read}
use Rattle.qc_chain.specs.Filed.{in_slot}
use Rattle.qc_dir.proofs.entry_slots.EntrySlots.at.Goals as goal

pub index-requires : goal.index-requires
index-requires c = omega (arith, c.requires, ap length c.self.view_is, c.self.inside.slots.ok.0)

pub returns : goal.returns
returns c =
    let i = c.self.inside in
    get_or_read i.slots.items c.args.slot c.index.result.now (omega (arith, c.requires, ap length c.self.view_is)) c.index.ensures None ∙ ap (in_slot c.args.slot) c.self.view_is
