use Rattle.std.specs.List.{AllByRecursion, list_any}
use Rattle.std.specs.List.Sorted.{IsPermutation}
use Rattle.std.specs.Option.{option_to_list}
use Rattle.std.proofs.lemmas.List.{append-nil}
use Rattle.qc_types.specs.declared.names.TableName.{TableName}
use Rattle.qc_dir.specs.declared.tables.TableBlock.{TableBlock}
use Rattle.std.proofs.Common.{List, [], ◌++◌, true, false, ◌≡◌, ◌+◌, ◌-◌, ◌*◌, refl, sym, ap, ◌∙◌, subst, drop, length, arith}
use Rattle.qc_dir.specs.declared.entries.Entry.{Entry}
use Rattle.qc_dir.specs.Directory.{Directory, names_table, without}
use Rattle.qc_dir.specs.Keys.{total}
use Rattle.qc_dir.specs.Uses.{Used, entries_of}
use Rattle.qc_dir.proofs.Removals.{IsRemoving, removing_none, name_stands, dir-removed, removing_next, each_named}
use Rattle.qc_dir.proofs.Insertions.{drop_step, drop_all}
use Rattle.qc_dir.proofs.DirSteps.{tables_in, directory}
use Rattle.qc_dir.proofs.dir.Dir.remove.Goals as goal
use Rattle.qc_dir.proofs.dir.Dir.remove.Goals.{in-Some, in_default}

pub loop-table-init : goal.loop-table-init
loop-table-init c =
    let i = c.self.inside in
    let e = c.remove-entry.ensures in
    record {
      entries = refl;
      removing = rw (e.entries, e.room, c.items-table-items.ensures, c.new-freed.ensures) (removing_none c.args.serial (entries_of i.entries) c.remove-entry.result i.entries.room i.tables i.named c.self.invariant e.entry);
    }

pub free_table-requires-clause-once : goal.free_table-requires-clause-once
free_table-requires-clause-once c =
    let l = c.loop-table in
    let items = c.items-table-items.result.now in
    let es = entries_of c.remove-entry.new.self in
    let all = 8 * c.remove-entry.new.self.room + total (λ (e : Entry). 8 - length e.tables) es in
    let next = drop_step items l.table-index c.table-item.result c.loop-table-test.true c.table-item.is in
    let r = subst (λ (ts : List TableName). IsRemoving es c.args.serial ts c.self.inside.tables l.self-inside.tables l.self-inside.named all l.freed) next l.invariant.removing in
    r.once c.table-item.result

pub free_table-requires-clause-stands : goal.free_table-requires-clause-stands
free_table-requires-clause-stands c =
    let l = c.loop-table in
    let items = c.items-table-items.result.now in
    let es = entries_of c.remove-entry.new.self in
    let all = 8 * c.remove-entry.new.self.room + total (λ (e : Entry). 8 - length e.tables) es in
    let next = drop_step items l.table-index c.table-item.result c.loop-table-test.true c.table-item.is in
    let r = subst (λ (ts : List TableName). IsRemoving es c.args.serial ts c.self.inside.tables l.self-inside.tables l.self-inside.named all l.freed) next l.invariant.removing in
    let stands = name_stands es c.args.serial c.table-item.result _ c.self.inside.tables l.self-inside.tables l.self-inside.named all l.freed r in
    rw stands.1 stands.2

pub push-requires : goal.push-requires
push-requires c =
    let l = c.loop-table in
    let items = c.items-table-items.result.now in
    let es = entries_of c.remove-entry.new.self in
    let all = 8 * c.remove-entry.new.self.room + total (λ (e : Entry). 8 - length e.tables) es in
    let next = drop_step items l.table-index c.table-item.result c.loop-table-test.true c.table-item.is in
    let r = subst (λ (ts : List TableName). IsRemoving es c.args.serial ts c.self.inside.tables l.self-inside.tables l.self-inside.named all l.freed) next l.invariant.removing in
    omega (arith, r.few)

-- what the join says of the list
freed : (c : goal.Joined-free_table) → c.match-free_table.freed ≡ c.loop-table.freed ++ option_to_list c.free_table.result
freed c = elim c.match-free_table.branch [
  | in-Some w ↦ w.freed-is ∙ (w.push.ensures ∙ ap (λ o. c.loop-table.freed ++ option_to_list o) (sym w.in-Some.is))
  | in_default w ↦ w.freed-is ∙ sym (ap (λ o. c.loop-table.freed ++ option_to_list o) w.in_default.is ∙ append-nil c.loop-table.freed)
]

pub loop-table-preserved : goal.loop-table-preserved
loop-table-preserved c =
    let l = c.loop-table in
    let items = c.items-table-items.result.now in
    let es = entries_of c.remove-entry.new.self in
    let all = 8 * c.remove-entry.new.self.room + total (λ (e : Entry). 8 - length e.tables) es in
    let next = drop_step items l.table-index c.table-item.result c.loop-table-test.true c.table-item.is in
    let r = subst (λ (ts : List TableName). IsRemoving es c.args.serial ts c.self.inside.tables l.self-inside.tables l.self-inside.named all l.freed) next l.invariant.removing in
    let stands = name_stands es c.args.serial c.table-item.result _ c.self.inside.tables l.self-inside.tables l.self-inside.named all l.freed r in
    let frees = c.free_table.ensures stands.0 stands.1 in
    let rest = drop (l.table-index + 1) items in
    record {
      entries = l.invariant.entries;
      removing = removing_next es c.args.serial stands.0 c.table-item.result rest c.free_table.result c.self.inside.tables l.self-inside.tables c.free_table.new.tables l.self-inside.named c.free_table.new.named all l.freed c.match-free_table.freed r stands.1 frees (freed c);
    }

pub invariant_of-self : goal.invariant_of-self
invariant_of-self c =
    let i = c.self.inside in
    let l = c.loop-table in
    let items = c.items-table-items.result.now in
    let e = c.remove-entry.ensures in
    let f = λ (x : Entry). 8 - length x.tables in
    let room = c.remove-entry.new.self.room in
    let last = subst (λ (ts : List TableName). IsRemoving (entries_of c.remove-entry.new.self) c.args.serial ts i.tables l.self-inside.tables l.self-inside.named (8 * room + total f (entries_of c.remove-entry.new.self)) l.freed) (drop_all items l.table-index c.loop-table-test.false) l.invariant.removing in
    let r = subst (λ (es : List Entry). IsRemoving es c.args.serial [] i.tables l.self-inside.tables l.self-inside.named (8 * room + total f es) l.freed) e.entries last in
    rw (l.invariant.entries, e.entries) (dir-removed c.args.serial (entries_of i.entries) c.remove-entry.result i.entries.room room i.tables l.self-inside.tables i.named l.self-inside.named _ l.freed c.self.invariant e.entry r refl)

pub returns-clause-removed : goal.returns-clause-removed
returns-clause-removed c =
    let i = c.self.inside in
    let l = c.loop-table in
    let items = c.items-table-items.result.now in
    let e = c.remove-entry.ensures in
    let f = λ (x : Entry). 8 - length x.tables in
    let room = c.remove-entry.new.self.room in
    let last = subst (λ (ts : List TableName). IsRemoving (entries_of c.remove-entry.new.self) c.args.serial ts i.tables l.self-inside.tables l.self-inside.named (8 * room + total f (entries_of c.remove-entry.new.self)) l.freed) (drop_all items l.table-index c.loop-table-test.false) l.invariant.removing in
    let r = subst (λ (es : List Entry). IsRemoving es c.args.serial [] i.tables l.self-inside.tables l.self-inside.named (8 * room + total f es) l.freed) e.entries last in
    let entries : entries_of l.self-inside.entries ≡ without c.args.serial (entries_of i.entries) = ap (λ (u : Used). entries_of u) l.invariant.entries ∙ e.entries in
    record {
      entries = entries ∙ ap (λ (d : Directory). without c.args.serial d.entries) c.self.view_is;
      tables = subst (λ (d : Directory). IsPermutation d.tables (l.freed ++ tables_in l.self-inside.tables.held)) c.self.view_is r.freed;
      kept = subst (λ (es : List Entry). AllByRecursion (λ (b : TableBlock). list_any (names_table b.table) es ≡ true) (tables_in l.self-inside.tables.held)) (sym entries)
          (each_named _ _ _ _ _ _ _ r);
      unnamed = subst (λ (es : List Entry). AllByRecursion (λ (b : TableBlock). list_any (names_table b.table) es ≡ false) l.freed) (sym entries) r.unnamed;
      room = ap (λ (u : Used). u.room) l.invariant.entries ∙ (e.room ∙ ap (λ (d : Directory). d.room + 1) c.self.view_is);
      table_room = r.room ∙ ap (λ (d : Directory). d.table_room + length l.freed) c.self.view_is;
    }

pub returns-clause-valid : goal.returns-clause-valid
returns-clause-valid c = directory _ _ _ _ _ (invariant_of-self c)
