use Rattle.std.proofs.Common.{◌≡◌, sym, subst, true, false}
use Rattle.std.specs.List.{list_any}
use Rattle.std.specs.Option.{IsSomeAnd, MatchOption}
use Rattle.qc_dir.specs.Directory.{Directory, IsDirectory, entry_at, names_table}
use Rattle.qc_dir.proofs.DirSteps.{directory}
use Rattle.qc_dir.proofs.DirCalls.{not_named, on_table}
use Rattle.qc_dir.proofs.dir.Dir.next_on_table.Goals as goal

pub returns-in_default-clause-serial : goal.returns-in_default-clause-serial
returns-in_default-clause-serial c =
    subst (λ (d : Directory). list_any (names_table c.args.table.now) d.entries ≡ false) c.self.view_is
    (not_named c.args.table.now _ _ _ _ c.self.invariant (c.in_default.ensures {u = tt}).number)

pub find-requires : goal.find-requires
find-requires c = c.self.invariant.once c.args.table.now

pub returns-clause-serial : goal.returns-clause-serial
returns-clause-serial c =
    subst (λ (d : Directory). MatchOption c.any_under.result (list_any (names_table c.args.table.now) d.entries ≡ false) (λ n. IsSomeAnd (entry_at n d.entries) (λ e. names_table c.args.table.now e ≡ true))) c.self.view_is
    (on_table c.args.table.now c.in-Some.number _ _ _ _ c.any_under.result c.self.invariant c.find.ensures.rising (sym (c.in-Some.ensures {u = tt}).number) (rw c.from.ensures at c.any_under.ensures))

pub returns-in_default-clause-valid : goal.returns-in_default-clause-valid
returns-in_default-clause-valid c = subst (λ (d : Directory). IsDirectory d) c.self.view_is (directory _ _ _ _ _ c.self.invariant)

pub returns-clause-valid : goal.returns-clause-valid
returns-clause-valid c = subst (λ (d : Directory). IsDirectory d) c.self.view_is (directory _ _ _ _ _ c.self.invariant)
