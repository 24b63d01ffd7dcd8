use Rattle.std.proofs.Common.{map, ap, ◌∙◌, subst}
use Rattle.qc_dir.specs.Directory.{Directory, IsDirectory, moved_entry, moved_table}
use Rattle.qc_dir.proofs.DirSteps.{directory}
use Rattle.qc_dir.proofs.DirCalls.{moved_dir, moved_tables, shift_none, shifted}
use Rattle.qc_dir.proofs.dir.Dir.shift.Goals as goal

pub invariant_of-self : goal.invariant_of-self
invariant_of-self c = moved_dir c.args.change _ _ _ _ _ c.self.invariant c.shift.ensures.held

pub loop-change-init : goal.loop-change-init
loop-change-init c = record {
  entries = ap (λ (d : Directory). map (moved_entry c.args.change) d.entries) c.self.view_is;
  tables = moved_tables c.args.change c.self.inside.tables.held c.shift.new.self.held c.shift.ensures.held ∙ ap (λ (d : Directory). map (moved_table c.args.change) d.tables) c.self.view_is;
  room = ap (λ (d : Directory). d.room) c.self.view_is;
  table_room = c.shift.ensures.room ∙ ap (λ (d : Directory). d.table_room) c.self.view_is;
}

pub returns-after-loop-change-clause-shifted : goal.returns-after-loop-change-clause-shifted
returns-after-loop-change-clause-shifted c =
    let last = c.shift_text.ensures in
    let loop = c.loop-change.invariant in
    shifted c.args.change c.args.self.now c.shift_text.new.self (last.none c.loop-change-test.false) (last.entries ∙ loop.entries)
    (ap (λ (d : Directory). d.tables) last.others ∙ loop.tables) (ap (λ (d : Directory). d.room) last.others ∙ loop.room) (ap (λ (d : Directory). d.table_room) last.others ∙ loop.table_room)

pub returns-else-change-clause-shifted : goal.returns-else-change-clause-shifted
returns-else-change-clause-shifted c = shift_none c.args.change c.args.self.now c.if-change.false

pub returns-else-change-clause-valid : goal.returns-else-change-clause-valid
returns-else-change-clause-valid c = subst (λ (d : Directory). IsDirectory d) c.self.view_is (directory _ _ _ _ _ c.self.invariant)
