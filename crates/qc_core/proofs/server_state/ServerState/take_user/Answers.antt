use Rattle.std.proofs.Common.{sym, ap, ◌∙◌}
use Rattle.std.specs.Option.{option_copied}
use Rattle.qc_dir.specs.Directory.{with_entries}
use Rattle.qc_core.proofs.Resting.{leave_none}
use Rattle.qc_core.proofs.server_state.ServerState.take_user.Goals as goal

pub returns-in_default-clause-dir : goal.returns-in_default-clause-dir
returns-in_default-clause-dir c =
    let s = c.args.self.now in
    let stays = leave_none c.args.serial s.dir.entries (sym c.entry.ensures.entry ∙ ap option_copied c.in_default.is) in
    λ i. record s { dir = with_entries (sym stays i) s.dir }
