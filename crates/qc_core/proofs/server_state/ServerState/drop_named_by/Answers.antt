use Rattle.std.proofs.Common.{sym, ap, ◌∙◌}
use Rattle.std.specs.Option.{option_copied}
use Rattle.qc_core.proofs.Committing.{takes_none}
use Rattle.qc_core.proofs.server_state.ServerState.drop_named_by.Goals as goal

pub returns-in_default-clause-out : goal.returns-in_default-clause-out
returns-in_default-clause-out c = takes_none c.args.op.now c.args.self.now (sym c.named_table.ensures ∙ ap option_copied c.in_default.is)
