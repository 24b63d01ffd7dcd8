use Rattle.qc_laws.proofs.fits.RowChanges.{changes_are_rows, changes_are_of_table, forms_change}
use Rattle.qc_laws.proofs.laws.fits.changes_by_kind.Goals as goal

pub returns-clause-rows : goal.returns-clause-rows
returns-clause-rows c = changes_are_rows

pub returns-clause-table : goal.returns-clause-table
returns-clause-table c = changes_are_of_table

pub returns-clause-forms : goal.returns-clause-forms
returns-clause-forms c = forms_change
