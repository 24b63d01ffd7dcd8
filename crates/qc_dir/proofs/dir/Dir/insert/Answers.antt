use Rattle.std.proofs.Common.{◌≡◌, ◌∷◌, [], ◌++◌, ◌<◌, ap, ◌∙◌, sym, subst, None}
use Rattle.std.specs.List.{AllByRecursion}
use Rattle.std.specs.List.Sorted.{IsPermutation}
use Rattle.qc_types.specs.declared.names.TableName.{TableName}
use Rattle.qc_dir.specs.Directory.{Directory, AreFresh, entry_at}
use Rattle.qc_dir.specs.Uses.{entries_of}
use Rattle.qc_dir.specs.Indexed.{IsDir, holding}
use Rattle.qc_dir.proofs.DirSteps.{tables_in, directory}
use Rattle.qc_dir.proofs.Insertions.{once_after, each_held, dir-inserted, tables_after}
use Rattle.qc_dir.proofs.dir.Dir.insert.Goals as goal

pub name_tables-requires-clause-once : goal.name_tables-requires-clause-once
name_tables-requires-clause-once c = λ t.
    let fresh = subst (λ (d : Directory). AreFresh c.args.entry d.tables c.args.fresh) (sym c.self.view_is) c.requires.fresh in
    once_after t c.args.entry c.args.fresh c.self.inside.tables c.put_tables.new.tables fresh c.put_tables.ensures (c.self.invariant.once t)

pub name_tables-requires-clause-held : goal.name_tables-requires-clause-held
name_tables-requires-clause-held c =
    let fresh = subst (λ (d : Directory). AreFresh c.args.entry d.tables c.args.fresh) (sym c.self.view_is) c.requires.fresh in
    subst (λ names. AllByRecursion (λ (t : TableName). 0 < holding t c.put_tables.new.tables.held) names) (sym c.items.ensures) (each_held c.args.entry c.args.fresh c.self.inside.tables c.put_tables.new.tables fresh c.put_tables.ensures)

pub invariant_of-self : goal.invariant_of-self
invariant_of-self c =
    let i = c.self.inside in
    let fresh = subst (λ (d : Directory). AreFresh c.args.entry d.tables c.args.fresh) (sym c.self.view_is) c.requires.fresh in
    let none = subst (λ (d : Directory). entry_at c.args.entry.serial d.entries ≡ None) (sym c.self.view_is) c.requires.serial in
    let names = c.name_tables.ensures in
    subst (λ es. IsDir es c.insert.new.self.room c.put_tables.new.tables.held c.name_tables.new.named) (sym c.insert.ensures.entries)
    (dir-inserted c.args.entry c.args.fresh (entries_of i.entries) i.entries.room c.insert.new.self.room i.tables c.put_tables.new.tables i.named c.name_tables.new.named c.self.invariant none c.requires.few fresh c.put_tables.ensures c.insert.ensures.room
    (rw c.items.ensures at names.keys) (rw c.items.ensures at names.room))

pub returns-clause-added : goal.returns-clause-added
returns-clause-added c = record {
  entries = c.insert.ensures.entries ∙ ap (λ (d : Directory). d.entries ++ c.args.entry ∷ []) c.self.view_is;
  tables = subst (λ (d : Directory). IsPermutation (tables_in c.put_tables.new.tables.held) (c.args.fresh ++ d.tables)) c.self.view_is (tables_after c.args.fresh c.self.inside.tables c.put_tables.new.tables c.put_tables.ensures);
  room = c.insert.ensures.room ∙ ap (λ (d : Directory). d.room) c.self.view_is;
  table_room = c.put_tables.ensures.room ∙ ap (λ (d : Directory). d.table_room) c.self.view_is;
}

pub returns-clause-valid : goal.returns-clause-valid
returns-clause-valid c = directory _ _ _ _ _ (invariant_of-self c)
