-- The keys of the rows.
use Rattle.std.proofs.Common.{sym, length}
use Rattle.qc_table.proofs.Stores.{keys_read}
use Rattle.qc_table.proofs.table_rows.TableRows.keys.Goals as goal

pub returns : goal.returns
returns c = rw (c.deref.ensures.value, ← c.self.view_is) (sym (keys_read (length c.self.inside.columns) c.self.inside.keys.items c.self.inside.cells.items))
