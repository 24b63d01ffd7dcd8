use Rattle.std.proofs.Common.{◌∙◌}
use Rattle.qc_key.specs.Hash.{hash}
use Rattle.qc_sound.specs.Moment.{at_rest}
use Rattle.qc_core.proofs.Reserving.{entries_are}
use Rattle.qc_core.proofs.server_state.ServerState.counters.Goals as goal

pub counters-requires : goal.counters-requires
counters-requires c =
    let s = c.requires.sound in
    c.from.ensures ∙ (c.len-entries.ensures.len ∙ (entries_are (at_rest hash) s.1.0 s.0 c.args.self.now s.1.1))
