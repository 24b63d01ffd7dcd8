use Rattle.std.proofs.Common.{rules, tests, sym, ◌∙◌}
use Rattle.std.specs.Prelude.{Ok}
use Rattle.qc_types.specs.declared.memory.NoMemory.{NoMemory}
use Rattle.std.proofs.lemmas.Iterator.Consumers.{map_from_collect}
use Rattle.std.proofs.lemmas.Iterator.Splits.{YieldsList-from_slice_split}
use Rattle.qc_script.proofs.Rereads.{members_are}
use Rattle.qc_script.proofs.reading.fields.parts_of.Goals as goal

pub returns : goal.returns
returns c =
    map_from_collect {E = NoMemory} (Ok c.in_ok-collect.field-0) c.in_ok-collect.ensures.ran
    (YieldsList-from_slice_split _ _ c.args.list.now c.split.ensures.rest c.split.ensures.done c.split.ensures.closure (λ x r q k. search (rules, tests)))
    ∙ sym (members_are c.args.list.now c.requires)
