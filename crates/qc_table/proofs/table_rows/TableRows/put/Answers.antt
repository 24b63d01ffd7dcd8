-- Rows that can't be put so leave the table as it was.
use Rattle.std.proofs.Common.{◌≡◌, ◌≤◌, ◌∙◌, ap, length, subst, sym, true}
use Rattle.std.specs.Prelude.{Ok, Result, Bool}
use Rattle.std.specs.List.{list_all}
use Rattle.qc_types.specs.declared.memory.NoMemory.{NoMemory}
use Rattle.qc_sql.specs.Database.{Table, most_rows}
use Rattle.qc_model.specs.Licence.{row_fits}
use Rattle.qc_table.specs.Fitting.{IsChanged}
use Rattle.qc_table.specs.Puts.{with_rows}
use Rattle.qc_table.proofs.Appending.{unchanged}
use Rattle.qc_table.proofs.Replacing.{left}
use Rattle.qc_table.proofs.table_rows.TableRows.put.Goals as goal

pub replace-requires-clause-fits : goal.replace-requires-clause-fits
replace-requires-clause-fits c =
    let t = c.args.self.now in
    let rows = c.args.puts.now.rows in
    let same = left (with_rows rows t) t c.append.new.self c.append.result (c.in_ok-append.was ∙ ap Ok c.if-branch.false) c.append.ensures in
    subst (λ (u : Table). list_all (row_fits u.columns) rows ≡ true) (sym same) c.requires.fits

pub replace-requires-clause-within : goal.replace-requires-clause-within
replace-requires-clause-within c =
    let t = c.args.self.now in
    let rows = c.args.puts.now.rows in
    let same = left (with_rows rows t) t c.append.new.self c.append.result (c.in_ok-append.was ∙ ap Ok c.if-branch.false) c.append.ensures in
    subst (λ (u : Table). length u.rows ≤ most_rows) (sym same) c.requires.within

pub returns-in_err-replace : goal.returns-in_err-replace
returns-in_err-replace c =
    let t = c.args.self.now in
    let rows = c.args.puts.now.rows in
    let same = left (with_rows rows t) t c.append.new.self c.append.result (c.in_ok-append.was ∙ ap Ok c.if-branch.false) c.append.ensures in
    let back : c.replace.new.self ≡ c.append.new.self = c.in_err-replace.ensures in
    unchanged (with_rows rows t) t c.replace.new.self c.from_residual-in_err-replace.result _ c.from_residual-in_err-replace.ensures.1 (back ∙ same)

pub returns-then-branch-2 : goal.returns-then-branch-2
returns-then-branch-2 c =
    let t = c.args.self.now in
    let rows = c.args.puts.now.rows in
    let same = left (with_rows rows t) t c.append.new.self c.append.result (c.in_ok-append.was ∙ ap Ok c.if-branch.false) c.append.ensures in
    let moved = subst (λ (u : Table). IsChanged (with_rows rows u) u c.replace.result c.replace.new.self) same c.replace.ensures in
    subst (λ (r : Result Bool NoMemory). IsChanged (with_rows rows t) t r c.replace.new.self) (c.in_ok-replace.was ∙ ap Ok c.if-branch-2.true) moved

pub place-requires-clause-fits : goal.place-requires-clause-fits
place-requires-clause-fits c =
    let t = c.args.self.now in
    let rows = c.args.puts.now.rows in
    let same = left (with_rows rows t) t c.append.new.self c.append.result (c.in_ok-append.was ∙ ap Ok c.if-branch.false) c.append.ensures in
    let still = left (with_rows rows c.append.new.self) c.append.new.self c.replace.new.self c.replace.result (c.in_ok-replace.was ∙ ap Ok c.if-branch-2.false) c.replace.ensures in
    subst (λ (u : Table). list_all (row_fits u.columns) rows ≡ true) (sym (still ∙ same)) c.requires.fits

pub place-requires-clause-within : goal.place-requires-clause-within
place-requires-clause-within c =
    let t = c.args.self.now in
    let rows = c.args.puts.now.rows in
    let same = left (with_rows rows t) t c.append.new.self c.append.result (c.in_ok-append.was ∙ ap Ok c.if-branch.false) c.append.ensures in
    let still = left (with_rows rows c.append.new.self) c.append.new.self c.replace.new.self c.replace.result (c.in_ok-replace.was ∙ ap Ok c.if-branch-2.false) c.replace.ensures in
    subst (λ (u : Table). length u.rows ≤ most_rows) (sym (still ∙ same)) c.requires.within

pub returns : goal.returns
returns c =
    let t = c.args.self.now in
    let rows = c.args.puts.now.rows in
    let same = left (with_rows rows t) t c.append.new.self c.append.result (c.in_ok-append.was ∙ ap Ok c.if-branch.false) c.append.ensures in
    let still = left (with_rows rows c.append.new.self) c.append.new.self c.replace.new.self c.replace.result (c.in_ok-replace.was ∙ ap Ok c.if-branch-2.false) c.replace.ensures in
    subst (λ (u : Table). IsChanged (with_rows rows u) u c.place.result c.place.new.self) (still ∙ same) c.place.ensures
