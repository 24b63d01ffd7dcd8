-- A column of the store.
use Rattle.std.proofs.Common.{◌<◌, length, refl, arith}
use Rattle.std.proofs.lemmas.Option.{slice_get_read}
use Rattle.qc_table.specs.Views.{kind_at}
use Rattle.qc_table.proofs.Stores.{column_ready, column_kind, column_shown}
use Rattle.qc_table.proofs.table_rows.TableRows.cells.Goals as goal

pub returns-clause-ready : goal.returns-clause-ready
returns-clause-ready c =
    let t = c.self.inside in
    let within : c.args.column < length t.columns = rw (← c.self.view_is) at c.requires in
    let there : c.args.column < length t.cells.items = omega (arith, c.self.invariant.0.0) in
    let at = slice_get_read t.cells.items (length t.cells.items) c.args.column c.index.result.now refl there c.index.ensures in
    column_ready (kind_at t.columns c.args.column) (length t.keys.items) c.index.result.now (c.self.invariant.0.1 c.args.column c.index.result.now at)

pub returns-clause-values : goal.returns-clause-values
returns-clause-values c =
    let t = c.self.inside in
    let within : c.args.column < length t.columns = rw (← c.self.view_is) at c.requires in
    let there : c.args.column < length t.cells.items = omega (arith, c.self.invariant.0.0) in
    let at = slice_get_read t.cells.items (length t.cells.items) c.args.column c.index.result.now refl there c.index.ensures in
    rw (← c.self.view_is) (column_shown t.columns t.keys.items t.cells.items c.args.column c.index.result.now c.self.invariant.0 within at)

pub returns-clause-kind : goal.returns-clause-kind
returns-clause-kind c =
    let t = c.self.inside in
    let within : c.args.column < length t.columns = rw (← c.self.view_is) at c.requires in
    let there : c.args.column < length t.cells.items = omega (arith, c.self.invariant.0.0) in
    let at = slice_get_read t.cells.items (length t.cells.items) c.args.column c.index.result.now refl there c.index.ensures in
    rw (← c.self.view_is) (column_kind (kind_at t.columns c.args.column) (length t.keys.items) c.index.result.now (c.self.invariant.0.1 c.args.column c.index.result.now at))
