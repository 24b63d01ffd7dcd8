use Rattle.std.proofs.Common.{sym, ap, subst, ◌∙◌, Option, refl}
use Rattle.std.specs.Option.{IsSome}
use Rattle.qc_dir.specs.declared.entries.Entry.{Entry}
use Rattle.qc_dir.specs.Directory.{Directory, entry_at}
use Rattle.qc_core.proofs.Uses.{entered_at}
use Rattle.qc_core.proofs.server_state.ServerState.use_entry.Goals as goal

pub touch-requires : goal.touch-requires
touch-requires c =
    subst (λ (o : Option Entry). IsSome o) (sym (ap (λ (d : Directory). entry_at c.args.serial d.entries) c.enter.ensures.entries ∙ entered_at c.args.serial c.args.self.now.dir.entries c.requires.entry c.requires.there)) refl
