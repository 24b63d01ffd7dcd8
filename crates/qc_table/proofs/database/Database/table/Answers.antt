-- A table is looked up in the tables of its database.
use Rattle.std.proofs.Common.{ap}
use Rattle.std.specs.Prelude.{option_and_then}
use Rattle.qc_sql.specs.Database.{at_name}
use Rattle.qc_table.proofs.database.Database.table.Goals as goal

pub returns-in_err-tables : goal.returns-in_err-tables
returns-in_err-tables c =
    let none = rw (c.bytes.ensures, c.deref.ensures, c.self.view_is) at c.in_err-tables.ensures in
    rw c.from_residual.ensures (ap (option_and_then (at_name c.args.name.now.name)) none)

pub returns : goal.returns
returns c =
    let tables = rw (c.bytes.ensures, c.deref.ensures, c.self.view_is) at c.in_ok-tables.ensures in
    rw (c.get-2.ensures, c.bytes-2.ensures) (ap (option_and_then (at_name c.args.name.now.name)) tables)
