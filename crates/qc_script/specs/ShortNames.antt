-- Which reports have column names whose lengths are bytes.
use Rattle.std.specs.Prelude.{◌≤◌, length}
use Rattle.std.specs.List.{All}
use Rattle.qc_sql.specs.declared.tables.Column.{Column}
use Rattle.qc_sql.specs.declared.tables.RowOp.{RowOp}
use Rattle.qc_sql.specs.declared.tables.RowOp.TheVariants as op
use Rattle.qc_model.specs.declared.events.Event.{Event}
use Rattle.qc_model.specs.declared.events.Event.TheVariants as event
use Rattle.qc_model.specs.declared.reports.Report.{Report}

abbrev pub HasShortName : Column → Type 0
HasShortName c = length c.name ≤ 255

-- an operation that makes a table makes columns with short names
abbrev pub MakesShortColumns : RowOp → Type 0
MakesShortColumns (op.CreateTable t columns) = All HasShortName columns
MakesShortColumns (op.Put t row) = Unit {0}
MakesShortColumns (op.Del t key) = Unit {0}
MakesShortColumns (op.DropTable t) = Unit {0}
MakesShortColumns (op.CreateDb name) = Unit {0}
MakesShortColumns (op.DropDb name) = Unit {0}

abbrev pub HasShortColumns : Event → Type 0
HasShortColumns (event.Commit who ops) = All MakesShortColumns ops
HasShortColumns (event.Run who h) = Unit {0}
HasShortColumns (event.Done serial) = Unit {0}
HasShortColumns (event.Gone serial why) = Unit {0}
HasShortColumns (event.Prune serial need largest) = Unit {0}
HasShortColumns (event.Reset who) = Unit {0}
HasShortColumns (event.Flush who) = Unit {0}

-- Each column that the journal's operations make has a name of at most 255 bytes.
abbrev pub HasShortNames : Report → Type 0
HasShortNames r = All HasShortColumns r.journal
