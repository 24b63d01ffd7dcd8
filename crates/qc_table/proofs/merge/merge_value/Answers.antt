-- Values are passed, and what a change leaves has its value.
use Rattle.std.proofs.Common.{◌-◌, w64, ℤ, List}
use Rattle.std.proofs.lemmas.Int.{to_z-of_z}
use Rattle.qc_types.specs.declared.names.Value.{Value}
use Rattle.qc_table.specs.Stored.{is_ints, values_of}
use Rattle.qc_table.specs.Views.{kind_at, value_at}
use Rattle.qc_table.proofs.Rows.{row_length, value_of_kind, kind_is_there}
use Rattle.qc_table.proofs.Merges.{passed_none, passed_some, put_row, kind_taken}
use Rattle.qc_table.proofs.merge.merge_value.Goals as goal

pub value_of_row-requires : goal.value_of_row-requires
value_of_row-requires c =
    let cs = c.args.base.now.columns in
    let fits = put_row cs c.args.key c.args.change.now c.in-Some.row c.requires.fits c.in-Some.is in
    rw (row_length cs c.in-Some.row fits) c.requires.column

pub push-requires-clause-takes : goal.push-requires-clause-takes
push-requires-clause-takes c =
    let cs = c.args.base.now.columns in
    let fits = put_row cs c.args.key c.args.change.now c.in-Some.row c.requires.fits c.in-Some.is in
    let there = kind_is_there cs c.args.column c.requires.column in
    rw (c.in_ok-append_to.ensures.kind, c.value_of_row.ensures) (kind_taken (kind_at cs c.args.column) _ (is_ints c.args.cells.now) (value_at c.in-Some.row c.args.column) there c.requires.kind (value_of_kind cs c.in-Some.row c.args.column fits))

pub returns-in_ok-push-clause-values : goal.returns-in_ok-push-clause-values
returns-in_ok-push-clause-values c =
    let low = rw (to_z-of_z w64 c.args.key c.ranges.key) at c.cut-cut.ensures.below in
    let put = rw c.value_of_row.ensures at c.in_ok-push.ensures.values in
    passed_some (λ (e : ℤ × List Value). value_at e.1 c.args.column) (values_of c.args.cells.now) (values_of c.append_to.new.cells) (values_of c.push.new.self) c.args.base.now.rows c.args.from (c.cut-cut.result.end - c.args.from) c.args.key c.args.change.now c.in-Some.row c.in_ok-append_to.ensures.values low c.in-Some.is put

pub returns-in_default-clause-values : goal.returns-in_default-clause-values
returns-in_default-clause-values c =
    let low = rw (to_z-of_z w64 c.args.key c.ranges.key) at c.cut-cut.ensures.below in
    passed_none (λ (e : ℤ × List Value). value_at e.1 c.args.column) (values_of c.args.cells.now) (values_of c.append_to.new.cells) c.args.base.now.rows c.args.from (c.cut-cut.result.end - c.args.from) c.args.key c.args.change.now c.in_ok-append_to.ensures.values low c.in_default.is
